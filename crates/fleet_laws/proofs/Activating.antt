-- An activation keeps the invariant.
use Rattle.std.proofs.Common.{◌≡◌, ℕ, Bool, true, cond, [], ◌∷◌, refl, ap, sym, subst, arith, inl, inr}
use Rattle.fleet_laws.specs.Counting.{IsWriteQuorumOfEach}
use Rattle.fleet_laws.specs.Fleets.{Fleet, IsAppointed}
use Rattle.fleet_laws.specs.Choice.{Chosen, reaches, configurations_of, may_reach}
use Rattle.fleet_laws.specs.Invariant.{IsSurveyed, IsBefore, Appointments, Invariant}
use Rattle.fleet_laws.specs.Moves.{Activates, activated}
use Rattle.fleet_laws.specs.Growth.{ComesAfter}
use Rattle.fleet_laws.proofs.Use.{own_quorum}
use Rattle.fleet_laws.proofs.After.{after_self, sound_after, key_after, copied_after}
use Rattle.fleet_laws.proofs.Puts.{put_same, put_other, put_split, put_both}

module _ {R : Type 0} (f : Fleet R) where
  abbrev g : Fleet R
  g = activated f

  -- the other epochs have the configurations that they had
  others : (p : ℕ → Bool) (e : ℕ) → (e ≡ f.latest → ⊥) → (cond (g.activated e) (f.current e ∷ []) (f.previous e ∷ f.current e ∷ [])) ≡ configurations_of f.configurations e
  others p e ne = ap (λ b. cond b (f.current e ∷ []) (f.previous e ∷ f.current e ∷ [])) (put_other f.latest true f.activated e ne)

  stays_chosen : (e l : ℕ) → Chosen f.histories f.configurations f.acknowledged e l → Chosen g.histories g.configurations g.acknowledged e l
  stays_chosen e l c = record {
    from = c.from;
    by = put_both (λ b. IsWriteQuorumOfEach (reaches f.acknowledged e l) (cond b (f.current e ∷ []) (f.previous e ∷ f.current e ∷ []))) f.latest true f.activated e
        (λ is. (own_quorum (reaches f.acknowledged e l) f.configurations e c.by, tt))
        (λ ne. c.by);
  }

  pub activate_after : ComesAfter f g
  activate_after = record {
    appointed = λ d h. h;
    latest = omega arith;
    start = λ d h. refl;
    history = (after_self f).history;
    acknowledged = λ q d. omega arith;
    chosen = λ d l h c. stays_chosen d l c;
    may = λ d l h lt m. record {
      from = m.from;
      by = subst (λ cs. IsWriteQuorumOfEach (may_reach f d l) cs) (others (may_reach f d l) d (λ is. omega (arith, is, lt))) m.by;
    };
  }

  module _ (i : Invariant f) (a : Activates f) where
    before : (e : ℕ) → IsAppointed f e → (x : ℕ) → IsBefore f.configurations x e → IsBefore g.configurations x e
    before e ae x b = record {
      below = b.below;
      activated = put_both (λ t. t ≡ true) f.latest true f.activated x (λ is. refl) (λ ne. b.activated);
      last = λ y low high t. elim (put_split (λ s. s ≡ true) f.latest true f.activated y t) [
        | inl is ↦ omega (arith, is.0, high, i.appointments.latest e ae)
        | inr old ↦ b.last y low high old.1
      ];
      members = b.members;
    }

    appointments : Appointments f.histories g.configurations f.acknowledged
    appointments = record {
      latest = i.appointments.latest;
      is_latest = i.appointments.is_latest;
      activated = λ e t. elim (put_split (λ s. s ≡ true) f.latest true f.activated e t) [
        | inl is ↦ subst (λ x. IsAppointed f x) (sym is.0) a.appointed
        | inr old ↦ i.appointments.activated e old.1
      ];
      active = λ e t. elim (put_split (λ s. s ≡ true) f.latest true f.activated e t) [
        | inl is ↦ omega (arith, is.0)
        | inr old ↦ i.appointments.latest e (i.appointments.activated e old.1)
      ];
      is_active = λ e ae. put_same f.latest true f.activated f.latest refl;
      founder = i.appointments.founder;
      is_founder = λ e ae. put_both (λ t. t ≡ true) f.latest true f.activated f.founder (λ is. refl) (λ ne. i.appointments.is_founder e ae);
      before = λ e ae. elim (i.appointments.before e ae) [
        | inl is ↦ inl is
        | inr x ↦ inr (x.0, before e ae x.0 x.1)
      ];
      chosen = λ e t. elim (put_split (λ s. s ≡ true) f.latest true f.activated e t) [
        | inl is ↦ inr (subst (λ x. Chosen f.histories g.configurations f.acknowledged x (f.start x)) (sym is.0) (stays_chosen f.latest (f.start f.latest) a.chosen))
        | inr old ↦ elim (i.appointments.chosen e old.1) [
          | inl x ↦ inl x
          | inr x ↦ inr (stays_chosen e (f.start e) x)
        ]
      ];
      known = i.appointments.known;
    }

    pub activate_keeps : Invariant g
    activate_keeps = record {
      appointments = appointments;
      branches = i.branches;
      barriers = λ d ad n s from w is. let b = i.barriers d ad n s from w is in (b.0, activate_after.chosen d s ad b.1);
      some_value = i.some_value;
      values = λ q w c. sound_after f g activate_after i.appointments q w (i.values q w c) (λ d l live le. (live.appointed, le));
      key = λ d c l ad ac lt m. key_after f g activate_after i.key d c l ad ac lt (i.appointments.latest c ac) m;
      surveys = λ d q h. let s : IsSurveyed f q d = i.surveys d q h in record { role = s.role; fence = s.fence; epoch = s.epoch; length = s.length };
      copies = λ q one.
          let k = i.copies q one in
          (k.0, λ w c. copied_after f g activate_after (f.copying q) (f.copy_at q) w k.0 (k.1 w c) (λ n h. h));
      primaries = i.primaries;
    }
