-- The first appointment keeps the invariant.
use Rattle.std.proofs.Common.{◌≡◌, ℕ, ◌≤◌, true, false, ◌⊎◌, List, [], ◌∷◌, length, refl, ap, sym, ◌∙◌, subst, arith, inl, inr}
use Rattle.std.proofs.lemmas.Bool.{cases_lt, both_ways}
use Rattle.fleet_laws.specs.Logs.{epoch_at, content_at}
use Rattle.fleet_laws.specs.Logs.Record.{EpochStart}
use Rattle.fleet_laws.specs.Fleets.{Fleet, IsAppointed}
use Rattle.fleet_laws.specs.Invariant.{HasTrueBarriers, IsBranch, IsSurveyed, Appointments, Invariant}
use Rattle.fleet_laws.specs.Moves.{Boots, booted}
use Rattle.fleet_laws.specs.Growth.{ComesAfter}
use Rattle.fleet_laws.proofs.Growing.{epoch_behind, content_behind}
use Rattle.fleet_laws.proofs.Appointing.{start_is_no_barrier}
use Rattle.fleet_laws.proofs.After.{sound_after}
use Rattle.fleet_laws.proofs.Puts.{all_one, put_same, put_split, put_both}

module _ {R : Type 0} (f : Fleet R) (e p : ℕ) (members : List ℕ) (i : Invariant f) (a : Boots f e p) where
  abbrev g : Fleet R
  g = booted f e p members

  nothing : {A : Type 0} (d : ℕ) → IsAppointed f d → A
  nothing d ad = absurd (both_ways (f.appointed d) (a.first d) ad)

  no_latest : f.latest ≡ 0
  no_latest = elim (i.appointments.is_latest) [ inl z ↦ z | inr x ↦ nothing f.latest x ]

  pub boot_after : ComesAfter f g
  boot_after = record {
    appointed = λ d ad. nothing d ad;
    latest = omega (arith, no_latest);
    start = λ d ad. nothing d ad;
    history = λ d ad. nothing d ad;
    acknowledged = λ q d. omega arith;
    chosen = λ d l ad c. nothing d ad;
    may = λ d l ad lt m. nothing d ad;
  }

  only : (d : ℕ) → IsAppointed g d → d ≡ e
  only d h = elim (put_split (λ t. t ≡ true) e true f.appointed d h) [ inl x ↦ x.0 | inr x ↦ nothing d x.1 ]

  only_activated : (d : ℕ) → g.activated d ≡ true → d ≡ e
  only_activated d h = elim (put_split (λ t. t ≡ true) e true f.activated d h) [ inl x ↦ x.0 | inr x ↦ nothing d (i.appointments.activated d x.1) ]

  first_content : (n : ℕ) → 1 ≤ n → n ≤ 1 → content_at {R = R} (record { epoch = e; content = EpochStart } ∷ []) n ≡ EpochStart
  first_content n from w = content_behind [] (record { epoch = e; content = EpochStart } ∷ []) (λ x. x ≡ EpochStart) n (all_one (λ x. x.content ≡ EpochStart) (record { epoch = e; content = EpochStart }) refl) from w

  barriers : (d : ℕ) → IsAppointed g d → HasTrueBarriers g d
  barriers d hd n s from w is =
      let t : g.history d ≡ record { epoch = e; content = EpochStart } ∷ [] = put_same e (record { epoch = e; content = EpochStart } ∷ []) f.history d (only d hd) in
      absurd (start_is_no_barrier s (sym (first_content n (omega (arith, from, put_same e 1 f.start d (only d hd))) (omega (arith, w, ap length t))) ∙ (ap (λ x. content_at x n) (sym t) ∙ is)))

  branch : IsBranch g.histories e
  branch =
      let s : g.start e ≡ 1 = put_same e 1 f.start e refl in
      let h : g.history e ≡ record { epoch = e; content = EpochStart } ∷ [] = put_same e (record { epoch = e; content = EpochStart } ∷ []) f.history e refl in
      record {
        positive = a.positive;
        starts = omega (arith, s);
        within = omega (arith, s, ap length h);
        own = λ n from w. ap (λ x. epoch_at x n) h ∙ epoch_behind [] (record { epoch = e; content = EpochStart } ∷ []) e n (all_one (λ x. x.epoch ≡ e) (record { epoch = e; content = EpochStart }) refl) (omega (arith, from, s)) (omega (arith, w, ap length h));
        marked = ap (content_at (g.history e)) s ∙ (ap (λ x. content_at x 1) h ∙ first_content 1 (omega arith) (omega arith));
        unmarked = λ n from w is. omega (arith, from, s, w, ap length h);
        root = inl s;
      }

  appointments : Appointments g.histories g.configurations f.acknowledged
  appointments = record {
    latest = λ d h. omega (arith, only d h);
    is_latest = inr (put_same e true f.appointed e refl);
    activated = λ d t. put_same e true f.appointed d (only_activated d t);
    active = λ d t. omega (arith, only_activated d t);
    is_active = λ d h. put_same e true f.activated e refl;
    founder = λ d h. omega (arith, only d h);
    is_founder = λ d h. put_same e true f.activated e refl;
    before = λ d h. inl (only d h);
    chosen = λ d t. inl (only_activated d t);
    known = λ q d one. nothing d (i.appointments.known q d one);
  }

  surveys : (d q : ℕ) → f.answered d q ≡ true → IsSurveyed g q d
  surveys d q h =
      let s : IsSurveyed f q d = i.surveys d q h in
      record {
        role = put_both (λ x. (x ≡ 0) ⊎ (d ≤ x)) p e f.role q
            (λ is. elim (cases_lt e d) [
              | inl above ↦ absurd (both_ways (f.answered d q) (subst (λ y. f.answered d y ≡ false) (sym is) (a.latest_answer d above)) h)
              | inr low ↦ inr low
            ])
            (λ ne. s.role);
        fence = s.fence;
        epoch = λ lt. s.epoch (omega (arith, lt, no_latest));
        length = λ lt. s.length (omega (arith, lt, no_latest));
      }

  pub boot_keeps : Invariant g
  boot_keeps = record {
    appointments = appointments;
    barriers = barriers;
    branches = λ d h. subst (λ x. IsBranch g.histories x) (sym (only d h)) branch;
    some_value = i.some_value;
    values = λ q w c. sound_after f g boot_after i.appointments q w (i.values q w c)
        (λ d l live le. nothing d (i.appointments.known q d (omega (arith, le, live.from, put_same e 1 f.start d (only d live.appointed)))));
    key = λ d c l hd hc lt m. absurd (omega (arith, only d hd, only c hc, lt));
    surveys = surveys;
    copies = λ q one. nothing (f.copying q) (i.copies q one).0;
    primaries = λ q one. put_both (λ x. 1 ≤ x → IsAppointed g x) p e f.role q
        (λ is le. put_same e true f.appointed e refl)
        (λ ne le. nothing (f.role q) (i.primaries q le))
        one;
  }
