-- The begin of a full copy keeps the invariant.
use Rattle.std.proofs.Common.{◌≡◌, ℕ, ◌<◌, ◌≤◌, List, length, take, refl, sym, subst, arith, inl, inr}
use Rattle.std.proofs.lemmas.Bool.{cases_lt, cases_eq}
use Rattle.fleet_laws.specs.Logs.{Entry, Agree}
use Rattle.fleet_laws.specs.Fleets.{Value, Fleet, IsAppointed, IsValueOf}
use Rattle.fleet_laws.specs.Choice.{IsSafe}
use Rattle.fleet_laws.specs.Invariant.{IsSurveyed, IsCopied, IsSound, Invariant}
use Rattle.fleet_laws.specs.Moves.{Copies, copied}
use Rattle.fleet_laws.specs.Growth.{ComesAfter}
use Rattle.fleet_laws.proofs.Agreement.{agree_sym, agree_trans, agree_less, agree_take}
use Rattle.fleet_laws.proofs.After.{after_self, sound_after, key_after, copied_after}
use Rattle.fleet_laws.proofs.Puts.{put_same, put_other}
use Rattle.fleet_laws.proofs.Use.{safe_in_later}

-- where a log is safe to its stable number
pub safe_length : {R : Type 0} (f : Fleet R) (fence s : ℕ) (log : List (Entry R)) → IsSafe f.histories f.configurations f.acknowledged fence log s → s ≤ length log
safe_length f fence s log h = elim h [ inl z ↦ omega (arith, z) | inr x ↦ x.2.agree.right ]

-- what is stable stands in whatever a later primary sends, to the place to which that goes
pub stable_agrees : {R : Type 0} (f : Fleet R) → Invariant f → (r e n : ℕ) (v : Value R) → IsValueOf f r v → IsAppointed f e → v.fence ≤ e → n ≤ length (f.history e) → v.stable ≤ n
    → Agree v.stable v.log (take n (f.history e))
stable_agrees f i r e n v c a le w s =
    let sound : IsSound f r v = i.values r v c in
    let g : Agree v.stable v.log (f.history e) = safe_in_later f i v.fence v.log v.stable e sound.safe (safe_length f v.fence v.stable v.log sound.safe) le a in
    agree_trans g (agree_sym (agree_take v.stable n (f.history e) s w))

module _ {R : Type 0} (f : Fleet R) (r e n head p : ℕ) where
  pub copy_after : ComesAfter f (copied f r e p)
  copy_after = record {
    appointed = λ d a. a;
    latest = omega arith;
    start = λ d a. refl;
    history = (after_self f).history;
    acknowledged = λ q d. omega arith;
    chosen = λ d l a c. c;
    may = λ d l a lt m. record { from = m.from; by = m.by };
  }

  module _ (i : Invariant f) (a : Copies f r e n head p) where
    -- the two logs part below the head of the one that is sent
    pub part_below : (v : Value R) → IsValueOf f r v → v.stable < head
    part_below v c =
        let sound : IsSound f r v = i.values r v c in
        elim (a.full v c v.stable (stable_agrees f i r e n v c a.appointed (a.fence v c) a.within (a.stable v c))) [
          | inl x ↦ x
          | inr x ↦ absurd (omega (arith, x, sound.head, sound.base))
        ]

    pub shared : (v : Value R) → IsValueOf f r v → (m : ℕ) → Agree m v.log (f.history e) → m ≤ p
    shared v c m g =
        let sound : IsSound f r v = i.values r v c in
        elim (cases_lt n m) [
          | inl past ↦ elim (a.full v c n (agree_trans (agree_less n m v.log (f.history e) (omega arith) g) (agree_sym (agree_take n n (f.history e) (omega arith) a.within)))) [
            | inl x ↦ absurd (omega (arith, x, a.behind, a.position))
            | inr x ↦ absurd (omega (arith, x, sound.head, sound.base, part_below v c, a.behind, a.position))
          ]
          | inr within ↦ elim (a.full v c m (agree_trans g (agree_sym (agree_take m n (f.history e) within a.within)))) [
            | inl x ↦ omega (arith, x, a.behind)
            | inr x ↦ omega (arith, x, sound.head, sound.base, part_below v c, a.behind)
          ]
        ]

    newly : (v : Value R) → IsValueOf f r v → IsCopied f e p v
    newly v c = record {
      fence = a.fence v c;
      safe = a.safe;
      stable = omega (arith, part_below v c, a.behind);
      shared = shared v c;
    }

    at_copy : (d c : ℕ) (q : ℕ) (w : Value R) → IsAppointed f d → IsCopied f d c w → IsCopied (copied f r e p) d c w
    at_copy d c q w ad k = copied_after f (copied f r e p) copy_after d c w ad k (λ m h. h)

    copies : (q : ℕ) → 1 ≤ (copied f r e p).copying q
        → IsAppointed f ((copied f r e p).copying q) × ((w : Value R) → IsValueOf f q w → IsCopied (copied f r e p) ((copied f r e p).copying q) ((copied f r e p).copy_at q) w)
    copies q one = elim (cases_eq q r) [
      | inl is ↦ (
          let d : (copied f r e p).copying q ≡ e = put_same r e f.copying q is in
          let at : (copied f r e p).copy_at q ≡ p = put_same r p f.copy_at q is in (
            subst (λ x. IsAppointed f x) (sym d) a.appointed,
            λ w c.
                let k : IsCopied (copied f r e p) e p w = at_copy e p q w a.appointed (newly w (subst (λ x. IsValueOf f x w) is c)) in
                subst (λ x. IsCopied (copied f r e p) x ((copied f r e p).copy_at q) w) (sym d) (subst (λ y. IsCopied (copied f r e p) e y w) (sym at) k),
          ))
      | inr ne ↦ (
          let d : (copied f r e p).copying q ≡ f.copying q = put_other r e f.copying q ne in
          let at : (copied f r e p).copy_at q ≡ f.copy_at q = put_other r p f.copy_at q ne in
          let old = i.copies q (omega (arith, one, d)) in (
            subst (λ x. IsAppointed f x) (sym d) old.0,
            λ w c.
                let k : IsCopied (copied f r e p) (f.copying q) (f.copy_at q) w = at_copy (f.copying q) (f.copy_at q) q w old.0 (old.1 w c) in
                subst (λ x. IsCopied (copied f r e p) x ((copied f r e p).copy_at q) w) (sym d) (subst (λ y. IsCopied (copied f r e p) (f.copying q) y w) (sym at) k),
          ))
    ]

    pub copy_keeps : Invariant (copied f r e p)
    copy_keeps = record {
      appointments = i.appointments;
      branches = i.branches;
      barriers = λ d ad n s from w is. let b = i.barriers d ad n s from w is in (b.0, copy_after.chosen d s ad b.1);
      some_value = i.some_value;
      values = λ q w c. sound_after f (copied f r e p) copy_after i.appointments q w (i.values q w c) (λ d l live le. (live.appointed, le));
      key = λ d c l ad ac lt m. key_after f (copied f r e p) copy_after i.key d c l ad ac lt (i.appointments.latest c ac) m;
      surveys = λ d q h. let s : IsSurveyed f q d = i.surveys d q h in record { role = s.role; fence = s.fence; epoch = s.epoch; length = s.length };
      copies = copies;
      primaries = i.primaries;
    }
