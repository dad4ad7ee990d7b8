-- Changes of the values of a replica keep the invariant.
use Rattle.std.proofs.Common.{◌≡◌, ℕ, ◌≤◌, true, ◌⊎◌, List, length, refl, ap, sym, ◌∙◌, subst, arith, inl, inr}
use Rattle.std.specs.Prelude.{Contains}
use Rattle.std.proofs.lemmas.Bool.{cases_eq}
use Rattle.fleet_laws.specs.Logs.{Agree, last_epoch}
use Rattle.fleet_laws.specs.Fleets.{Value, Fleet, IsAppointed, IsValueOf}
use Rattle.fleet_laws.specs.Choice.{frozen, may_reach, configurations_of}
use Rattle.fleet_laws.specs.Invariant.{IsSurveyed, IsCopied, IsSound, Invariant}
use Rattle.fleet_laws.specs.Moves.{Changes, changed, Turn}
use Rattle.fleet_laws.specs.Growth.{ComesAfter}
use Rattle.fleet_laws.proofs.Counts.{quorums_more}
use Rattle.fleet_laws.proofs.After.{after_self, sound_after, key_after, copied_after}
use Rattle.fleet_laws.proofs.Puts.{put_same, put_other, put_split, some_member, all_member, frozen_role, frozen_above, is_frozen, may_before}
use Rattle.fleet_laws.proofs.Turning.{turn_sound, turn_fence, turn_surveyed}

module _ {R : Type 0} (f : Fleet R) (r : ℕ) (values : List (Value R)) (role copying : ℕ) (i : Invariant f) (a : Changes f r values role copying) where
  abbrev g : Fleet R
  g = changed f r values role copying

  -- each value of now comes from one of before
  origin : (w : Value R) → Contains values w → (v : Value R) × IsValueOf f r v × Turn f r v w
  origin w c = all_member (λ x. (v : Value R) × IsValueOf f r v × Turn f r v x) values w a.turns c

  value_cases : (q : ℕ) (w : Value R) → IsValueOf g q w → ((q ≡ r) × Contains values w) ⊎ ((q ≡ r → ⊥) × IsValueOf f q w)
  value_cases q w c = put_split (λ vs. Contains vs w) r values f.values q c

  pub role_cases : (q : ℕ) → (g.role q ≡ 0) ⊎ (g.role q ≡ f.role q)
  role_cases q = elim (cases_eq q r) [
    | inl is ↦ elim (a.keeps_role) [
      | inl none ↦ inl (put_same r role f.role q is ∙ none)
      | inr same ↦ inr (put_same r role f.role q is ∙ (same ∙ ap f.role (sym is)))
    ]
    | inr ne ↦ inr (put_other r role f.role q ne)
  ]

  stays_frozen : (e q : ℕ) → IsAppointed f e → frozen f e q ≡ true → frozen g e q ≡ true
  stays_frozen e q ae h = is_frozen g e q
      (λ is. elim (role_cases q) [
        | inl none ↦ omega (arith, none, is, (i.branches e ae).positive)
        | inr same ↦ frozen_role f e q h (sym same ∙ is)
      ])
      (λ w c. elim (value_cases q w c) [
        | inl x ↦ (
            let o = origin w x.1 in
            omega (arith, turn_fence f i r o.0 w o.1 o.2, frozen_above f e r o.0 (subst (λ y. frozen f e y ≡ true) x.0 h) o.1))
        | inr x ↦ frozen_above f e q w h x.1
      ])

  pub change_after : ComesAfter f g
  change_after = record {
    appointed = λ d h. h;
    latest = omega arith;
    start = λ d h. refl;
    history = (after_self f).history;
    acknowledged = λ q d. omega arith;
    chosen = λ d l h c. c;
    may = λ d l h lt m. record {
      from = m.from;
      by = quorums_more (may_reach g d l) (may_reach f d l) (λ q. may_before f g d l q (λ x. inl x) (stays_frozen d q h)) (configurations_of f.configurations d) m.by;
    };
  }

  sound : (q : ℕ) (w : Value R) → IsValueOf g q w → IsSound f q w
  sound q w c = elim (value_cases q w c) [
    | inl x ↦ (let o = origin w x.1 in subst (λ y. IsSound f y w) (sym x.0) (turn_sound f i r o.0 w o.1 (i.values r o.0 o.1) o.2))
    | inr x ↦ i.values q w x.1
  ]

  some_value : (q : ℕ) → (v : Value R) × IsValueOf g q v
  some_value q = elim (cases_eq q r) [
    | inl is ↦ (let m = some_member values a.some_value in (m.0, subst (λ vs. Contains vs m.0) (sym (put_same r values f.values q is)) m.1))
    | inr ne ↦ (let m = i.some_value q in (m.0, subst (λ vs. Contains vs m.0) (sym (put_other r values f.values q ne)) m.1))
  ]

  surveys : (e q : ℕ) → f.answered e q ≡ true → IsSurveyed g q e
  surveys e q h =
      let s : IsSurveyed f q e = i.surveys e q h in
      let at : q ≡ r → IsSurveyed f r e = λ is. subst (λ y. IsSurveyed f y e) is s in
      record {
        role = elim (role_cases q) [
          | inl none ↦ inl none
          | inr same ↦ elim (s.role) [ inl x ↦ inl (same ∙ x) | inr x ↦ inr (omega (arith, x, same)) ]
        ];
        fence = λ w c. elim (value_cases q w c) [
          | inl x ↦ (let o = origin w x.1 in omega (arith, (at x.0).fence o.0 o.1, turn_fence f i r o.0 w o.1 o.2))
          | inr x ↦ s.fence w x.1
        ];
        epoch = λ lt w c. elim (value_cases q w c) [
          | inl x ↦ (
              let o = origin w x.1 in
              ap last_epoch (turn_surveyed f i r e o.0 w lt o.1 (at x.0) o.2) ∙ ((at x.0).epoch lt o.0 o.1 ∙ ap (f.told_epoch e) (sym x.0)))
          | inr x ↦ s.epoch lt w x.1
        ];
        length = λ lt w c. elim (value_cases q w c) [
          | inl x ↦ (
              let o = origin w x.1 in
              ap length (turn_surveyed f i r e o.0 w lt o.1 (at x.0) o.2) ∙ ((at x.0).length lt o.0 o.1 ∙ ap (f.told_length e) (sym x.0)))
          | inr x ↦ s.length lt w x.1
        ];
      }

  -- a full copy that goes on was in progress before, over the same logs
  copy_before : (q : ℕ) → 1 ≤ g.copying q → (g.copying q ≡ f.copying q) × ((w : Value R) → IsValueOf g q w → (v : Value R) × record {
    before : IsValueOf f q v;
    log : w.log ≡ v.log;
    fence : w.fence ≡ v.fence;
    stable : w.stable ≡ v.stable;
  })
  copy_before q one = elim (cases_eq q r) [
    | inl is ↦ elim (a.keeps_copy) [
      | inl none ↦ absurd (omega (arith, one, none, put_same r copying f.copying q is))
      | inr same ↦ (
        put_same r copying f.copying q is ∙ (same.0 ∙ ap f.copying (sym is)),
        λ w c.
            let k = all_member (λ x. (v : Value R) × record { before : IsValueOf f r v; log : x.log ≡ v.log; fence : x.fence ≡ v.fence; stable : x.stable ≡ v.stable }) values w same.1
            (subst (λ vs. Contains vs w) (put_same r values f.values q is) c) in
            (k.0, record { before = subst (λ y. IsValueOf f y k.0) (sym is) k.1.before; log = k.1.log; fence = k.1.fence; stable = k.1.stable }),
      )
    ]
    | inr ne ↦ (
      put_other r copying f.copying q ne,
      λ w c. (w, record { before = subst (λ vs. Contains vs w) (put_other r values f.values q ne) c; log = refl; fence = refl; stable = refl }),
    )
  ]

  copied_like : (e c : ℕ) (v w : Value R) → w.log ≡ v.log → w.fence ≡ v.fence → w.stable ≡ v.stable → IsCopied f e c v → IsCopied f e c w
  copied_like e c v w log fence stable k = record {
    fence = omega (arith, fence, k.fence);
    safe = k.safe;
    stable = omega (arith, stable, k.stable);
    shared = λ n h. k.shared n (subst (λ x. Agree n x (f.history e)) log h);
  }

  copies : (q : ℕ) → 1 ≤ g.copying q → IsAppointed g (g.copying q) × ((w : Value R) → IsValueOf g q w → IsCopied g (g.copying q) (g.copy_at q) w)
  copies q one =
      let b = copy_before q one in
      let old = i.copies q (omega (arith, one, b.0)) in (
        subst (λ x. IsAppointed f x) (sym b.0) old.0,
        λ w c.
            let o = b.1 w c in
            let k : IsCopied f (f.copying q) (f.copy_at q) w = copied_like (f.copying q) (f.copy_at q) o.0 w o.1.log o.1.fence o.1.stable (old.1 o.0 o.1.before) in
            subst (λ x. IsCopied g x (f.copy_at q) w) (sym b.0) (copied_after f g change_after (f.copying q) (f.copy_at q) w old.0 k (λ n h. h)),
      )

  pub change_keeps : Invariant g
  change_keeps = record {
    appointments = i.appointments;
    branches = i.branches;
    barriers = λ d ad n s from w is. let b = i.barriers d ad n s from w is in (b.0, change_after.chosen d s ad b.1);
    some_value = some_value;
    values = λ q w c. sound_after f g change_after i.appointments q w (sound q w c) (λ d l live le. (live.appointed, le));
    key = λ d c l ad ac lt m. key_after f g change_after i.key d c l ad ac lt (i.appointments.latest c ac) m;
    surveys = surveys;
    copies = copies;
    primaries = λ q one. elim (role_cases q) [
      | inl none ↦ absurd (omega (arith, none, one))
      | inr same ↦ subst (λ x. IsAppointed f x) (sym same) (i.primaries q (omega (arith, one, same)))
    ];
  }
