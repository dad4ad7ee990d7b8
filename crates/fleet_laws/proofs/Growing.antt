-- The growth of a history keeps the invariant.
use Rattle.std.proofs.Common.{◌≡◌, ℕ, zero, suc, ◌-◌, ◌<◌, ◌≤◌, List, ◌++◌, length, get_or, refl, sym, ◌∙◌, subst, arith, inl, inr, length-append}
use Rattle.std.specs.Prelude.{All}
use Rattle.std.proofs.lemmas.Bool.{cases_lt}
use Rattle.std.proofs.lemmas.List.{get_or-append_right}
use Rattle.fleet_laws.specs.Logs.{Entry, Record, Agree, epoch_at, content_at, no_entry}
use Rattle.fleet_laws.specs.Logs.Record.{EpochStart, Barrier}
use Rattle.fleet_laws.specs.Choice.{IsChosen}
use Rattle.fleet_laws.specs.Fleets.{Value, Fleet, IsAppointed, IsValueOf}
use Rattle.fleet_laws.specs.Invariant.{IsSurveyed, Appointments, Invariant}
use Rattle.fleet_laws.specs.Moves.{Grows, grown}
use Rattle.fleet_laws.specs.Growth.{ComesAfter}
use Rattle.fleet_laws.proofs.Agreement.{agree_none, agree_self, agree_sym, agree_trans, agree_epoch, agree_append}
use Rattle.fleet_laws.proofs.Tree.{agrees_with_history}
use Rattle.fleet_laws.proofs.After.{sound_after, branch_after, barriers_after, key_after, copied_after, history_after}
use Rattle.fleet_laws.proofs.Use.{chosen_within}
use Rattle.fleet_laws.proofs.Puts.{put_both}

-- an entry that was added is one of those that were to be
added : {R : Type 0} (a b : List (Entry R)) (P : Entry R → Type 0) (n : ℕ) → All P b → length a ≤ n → n < length (a ++ b) → P (get_or (a ++ b) n no_entry)
added a b P n all past w = subst P (sym (get_or-append_right a b (length a) n no_entry refl past)) (all (n - length a) no_entry (omega (arith, length-append a b)))

pub content_behind : {R : Type 0} (a b : List (Entry R)) (P : Record R → Type 0) (n : ℕ) → All (λ x. P x.content) b → length a < n → n ≤ length (a ++ b) → P (content_at (a ++ b) n)
unfolding content_at
content_behind a b P zero all past w = absurd (omega arith)
content_behind a b P (suc n) all past w = added a b (λ x. P x.content) n all (omega arith) w

pub epoch_behind : {R : Type 0} (a b : List (Entry R)) (e n : ℕ) → All (λ x. x.epoch ≡ e) b → length a < n → n ≤ length (a ++ b) → epoch_at (a ++ b) n ≡ e
unfolding epoch_at
epoch_behind a b e zero own past w = absurd (omega arith)
epoch_behind a b e (suc n) own past w = added a b (λ x. x.epoch ≡ e) n own (omega arith) w

module _ {R : Type 0} (f : Fleet R) (r e : ℕ) (entries : List (Entry R)) where
  longer : (d : ℕ) → Agree (length (f.history d)) (f.history d) ((grown f e entries).history d)
  longer d = put_both (λ x. Agree (length (f.history d)) (f.history d) x) e (f.history e ++ entries) f.history d
      (λ is. subst (λ y. Agree (length (f.history y)) (f.history y) (f.history e ++ entries)) (sym is) (agree_append (length (f.history e)) (f.history e) entries (omega arith)))
      (λ ne. agree_self (length (f.history d)) (f.history d) (omega arith))

  pub grow_after : ComesAfter f (grown f e entries)
  grow_after = record {
    appointed = λ d a. a;
    latest = omega arith;
    start = λ d a. refl;
    history = λ d a. longer d;
    acknowledged = λ q d. omega arith;
    chosen = λ d l a c. record { from = c.from; by = c.by };
    may = λ d l a lt m. record { from = m.from; by = m.by };
  }

  module _ (i : Invariant f) (a : Grows f r e entries) where
    own : (d n : ℕ) → length (f.history d) < n → n ≤ length ((grown f e entries).history d) → epoch_at ((grown f e entries).history d) n ≡ d
    own d n past = put_both (λ x. n ≤ length x → epoch_at x n ≡ d) e (f.history e ++ entries) f.history d
        (λ is w. epoch_behind (f.history e) entries e n a.own (subst (λ y. length (f.history y) < n) is past) w ∙ sym is)
        (λ ne w. absurd (omega (arith, past, w)))

    own_content : (P : ℕ → Record R → Type 0) → All (λ x. P e x.content) entries → (d n : ℕ) → length (f.history d) < n → n ≤ length ((grown f e entries).history d)
        → P d (content_at ((grown f e entries).history d) n)
    own_content P all d n past = put_both (λ x. n ≤ length x → P d (content_at x n)) e (f.history e ++ entries) f.history d
        (λ is w. subst (λ y. P y (content_at (f.history e ++ entries) n)) (sym is) (content_behind (f.history e) entries (P e) n all (subst (λ y. length (f.history y) < n) is past) w))
        (λ ne w. absurd (omega (arith, past, w)))

    old_shared : (d n : ℕ) (w : Value R) (q : ℕ) → IsValueOf f q w → IsAppointed f d → Agree n w.log ((grown f e entries).history d) → Agree n w.log (f.history d)
    old_shared d zero w q c ad g = agree_none w.log (f.history d)
    old_shared d (suc n) w q c ad g = elim (cases_lt (length (f.history d)) (suc n)) [
      | inl more ↦ agrees_with_history f.histories i.branches w.log (i.values q w c).canonical d (suc n) (omega arith) g.left
          (agree_epoch (suc n) (suc n) w.log ((grown f e entries).history d) (omega arith) g ∙ own d (suc n) more g.right)
      | inr old ↦ agree_trans g (agree_sym (history_after f (grown f e entries) grow_after d (suc n) (f.history d) ad (agree_self (suc n) (f.history d) old)))
    ]

    appointments : Appointments (grown f e entries).histories f.configurations f.acknowledged
    appointments = record {
      latest = i.appointments.latest;
      is_latest = i.appointments.is_latest;
      activated = i.appointments.activated;
      active = i.appointments.active;
      is_active = i.appointments.is_active;
      founder = i.appointments.founder;
      is_founder = i.appointments.is_founder;
      before = i.appointments.before;
      chosen = λ d h. elim (i.appointments.chosen d h) [
        | inl x ↦ inl x
        | inr x ↦ inr (record { from = x.from; by = x.by })
      ];
      known = i.appointments.known;
    }

    pub grow_keeps : Invariant (grown f e entries)
    grow_keeps = record {
      appointments = appointments;
      branches = λ d ad. branch_after f (grown f e entries) grow_after d ad (i.branches d ad)
          (λ n past w. (own d n past w, own_content (λ y x. x ≡ EpochStart → ⊥) a.unmarked d n past w));
      barriers = λ d ad. barriers_after f (grown f e entries) grow_after d ad (i.barriers d ad)
          (λ n s past w is.
          let c : IsChosen f d s = own_content (λ y x. x ≡ Barrier s → IsChosen f y s) (λ k x lt. a.barriers k x lt s) d n past w is in
          (omega (arith, chosen_within f i d s ad c, past), c));
      some_value = i.some_value;
      values = λ q w c. sound_after f (grown f e entries) grow_after i.appointments q w (i.values q w c) (λ d l live le. (live.appointed, le));
      key = λ d c l ad ac lt m. key_after f (grown f e entries) grow_after i.key d c l ad ac lt (i.appointments.latest c ac) m;
      surveys = λ d q h. let s : IsSurveyed f q d = i.surveys d q h in record { role = s.role; fence = s.fence; epoch = s.epoch; length = s.length };
      copies = λ q one.
          let k = i.copies q one in
          (k.0, λ w c. copied_after f (grown f e entries) grow_after (f.copying q) (f.copy_at q) w k.0 (k.1 w c) (λ n h. old_shared (f.copying q) n w q c k.0 h));
      primaries = i.primaries;
    }
