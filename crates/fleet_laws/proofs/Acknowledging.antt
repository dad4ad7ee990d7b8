-- An acknowledgement keeps the invariant.
use Rattle.std.proofs.Common.{◌≡◌, ℕ, ◌≤◌, max, false, ◌⊎◌, [], refl, ap, sym, subst, arith, inl, inr}
use Rattle.std.specs.Prelude.{Contains}
use Rattle.std.proofs.lemmas.Bool.{cases_lt, cases_Bool, le-leb, leb-true}
use Rattle.fleet_laws.specs.Logs.{Agree}
use Rattle.fleet_laws.specs.Fleets.{Value, Fleet, IsAppointed, IsValueOf}
use Rattle.fleet_laws.specs.Choice.{Live, reaches, frozen, may_reach, configurations_of}
use Rattle.fleet_laws.specs.Invariant.{IsSurveyed, Appointments, Invariant}
use Rattle.fleet_laws.specs.Moves.{Acknowledges, acknowledged}
use Rattle.fleet_laws.specs.Growth.{ComesAfter}
use Rattle.fleet_laws.proofs.Counts.{quorums_more}
use Rattle.fleet_laws.proofs.Agreement.{agree_sym, agree_less}
use Rattle.fleet_laws.proofs.Tree.{same_epoch_agree, history_canonical}
use Rattle.fleet_laws.proofs.After.{after_self, sound_from, live_before, key_after, copied_after}
use Rattle.fleet_laws.proofs.Puts.{put_at, only_member, first_member, frozen_role, frozen_above, may_before}

module _ {R : Type 0} (f : Fleet R) (r e l : ℕ) (v : Value R) (i : Invariant f) (a : Acknowledges f r e l v) where
  pub new_number : (q d : ℕ) → ((q ≡ r) × (d ≡ e) × ((acknowledged f r e l).acknowledged q d ≡ max (f.acknowledged r e) l)) ⊎ ((q ≡ r → d ≡ e → ⊥) × ((acknowledged f r e l).acknowledged q d ≡ f.acknowledged q d))
  new_number q d = put_at r e (max (f.acknowledged r e) l) f.acknowledged q d

  rises : (q d : ℕ) → f.acknowledged q d ≤ (acknowledged f r e l).acknowledged q d
  rises q d = elim (new_number q d) [
    | inl x ↦ omega (arith, x.2, ap (λ y. f.acknowledged y d) x.0, ap (λ y. f.acknowledged r y) x.1)
    | inr x ↦ omega (arith, x.1)
  ]

  has_value : IsValueOf f r v
  has_value = subst (λ vs. Contains vs v) (sym a.is_open) (first_member v [])

  not_frozen : frozen f e r ≡ false
  not_frozen = elim (cases_Bool (frozen f e r)) [
    | inl t ↦ absurd (elim (a.may) [
      | inl le ↦ omega (arith, le, frozen_above f e r v t has_value)
      | inr is ↦ frozen_role f e r t is
    ])
    | inr no_ ↦ no_
  ]

  acks : (d m q : ℕ) → m ≤ (acknowledged f r e l).acknowledged q d → (m ≤ f.acknowledged q d) ⊎ (frozen f d q ≡ false)
  acks d m q h = elim (new_number q d) [
    | inl x ↦ inr (subst (λ y. frozen f y q ≡ false) (sym x.1) (subst (λ y. frozen f e y ≡ false) (sym x.0) not_frozen))
    | inr x ↦ inl (omega (arith, x.1, h))
  ]

  pub acknowledge_after : ComesAfter f (acknowledged f r e l)
  acknowledge_after = record {
    appointed = λ d h. h;
    latest = omega arith;
    start = λ d h. refl;
    history = (after_self f).history;
    acknowledged = rises;
    chosen = λ d m h c. record {
      from = c.from;
      by = quorums_more (reaches f.acknowledged d m) (reaches (acknowledged f r e l).acknowledged d m)
          (λ q t. le-leb m ((acknowledged f r e l).acknowledged q d) (omega (arith, rises q d, leb-true m (f.acknowledged q d) t))) (configurations_of f.configurations d) c.by;
    };
    may = λ d m h lt c. record {
      from = c.from;
      by = quorums_more (may_reach (acknowledged f r e l) d m) (may_reach f d m) (λ q. may_before f (acknowledged f r e l) d m q (acks d m q) (λ t. t)) (configurations_of f.configurations d) c.by;
    };
  }

  has : Agree l (f.history e) v.log
  has = agree_sym (same_epoch_agree f.histories i.branches v.log (f.history e) (i.values r v has_value).canonical (history_canonical f.histories i.branches e a.appointed) l a.has a.within a.same)

  holds : (q : ℕ) (w : Value R) → IsValueOf f q w → (d m : ℕ) → m ≤ (acknowledged f r e l).acknowledged q d → Live (acknowledged f r e l) d m → IsAppointed f d × Agree m (f.history d) w.log
  holds q w c d m le live =
      let was : Live f d m = live_before f (acknowledged f r e l) acknowledge_after i.appointments d m live.appointed live in (
        live.appointed,
        elim (cases_lt (f.acknowledged q d) m) [
          | inr old ↦ (i.values q w c).holds d m old was
          | inl more ↦ elim (new_number q d) [
            | inl x ↦ (
                let only : w ≡ v = only_member v w (subst (λ vs. Contains vs w) a.is_open (subst (λ y. IsValueOf f y w) x.0 c)) in
                let to : m ≤ l = omega (arith, le, x.2, more, ap (λ y. f.acknowledged y d) x.0, ap (λ y. f.acknowledged r y) x.1) in
                let g : Agree m (f.history e) v.log = agree_less m l (f.history e) v.log to has in
                subst (λ y. Agree m (f.history y) w.log) (sym x.1) (subst (λ y. Agree m (f.history e) y.log) (sym only) g))
            | inr x ↦ absurd (omega (arith, x.1, le, more))
          ]
        ],
      )

  appointments : Appointments f.histories f.configurations (acknowledged f r e l).acknowledged
  appointments = record {
    latest = i.appointments.latest;
    is_latest = i.appointments.is_latest;
    activated = i.appointments.activated;
    active = i.appointments.active;
    is_active = i.appointments.is_active;
    founder = i.appointments.founder;
    is_founder = i.appointments.is_founder;
    before = i.appointments.before;
    chosen = λ d h. elim (i.appointments.chosen d h) [
      | inl x ↦ inl x
      | inr x ↦ inr (acknowledge_after.chosen d (f.start d) (i.appointments.activated d h) x)
    ];
    known = λ q d h. elim (new_number q d) [
      | inl x ↦ subst (λ y. IsAppointed f y) (sym x.1) a.appointed
      | inr x ↦ i.appointments.known q d (omega (arith, h, x.1))
    ];
  }

  pub acknowledge_keeps : Invariant (acknowledged f r e l)
  acknowledge_keeps = record {
    appointments = appointments;
    branches = i.branches;
    barriers = λ d ad n s from w is. let b = i.barriers d ad n s from w is in (b.0, acknowledge_after.chosen d s ad b.1);
    some_value = i.some_value;
    values = λ q w c. sound_from f (acknowledged f r e l) acknowledge_after q w (i.values q w c) (holds q w c);
    key = λ d c m ad ac lt x. key_after f (acknowledged f r e l) acknowledge_after i.key d c m ad ac lt (i.appointments.latest c ac) x;
    surveys = λ d q h. let s : IsSurveyed f q d = i.surveys d q h in record { role = s.role; fence = s.fence; epoch = s.epoch; length = s.length };
    copies = λ q one.
        let k = i.copies q one in
        (k.0, λ w c. copied_after f (acknowledged f r e l) acknowledge_after (f.copying q) (f.copy_at q) w k.0 (k.1 w c) (λ n h. h));
    primaries = i.primaries;
  }
