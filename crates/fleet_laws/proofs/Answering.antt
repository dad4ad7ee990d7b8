-- The answer of a survey keeps the invariant.
use Rattle.std.proofs.Common.{◌≡◌, ℕ, true, length, refl, ap, sym, ◌∙◌, subst, arith, inl, inr}
use Rattle.std.specs.Prelude.{Contains}
use Rattle.fleet_laws.specs.Logs.{last_epoch}
use Rattle.fleet_laws.specs.Fleets.{Value, Fleet, IsValueOf}
use Rattle.fleet_laws.specs.Invariant.{IsSurveyed, Invariant}
use Rattle.fleet_laws.specs.Moves.{Answers, told}
use Rattle.fleet_laws.specs.Growth.{ComesAfter}
use Rattle.fleet_laws.proofs.After.{after_self, sound_after, key_after, copied_after}
use Rattle.fleet_laws.proofs.Puts.{put_at, only_member}

module _ {R : Type 0} (f : Fleet R) (e r : ℕ) (v : Value R) where
  pub answer_after : ComesAfter f (told f e r v)
  answer_after = record {
    appointed = λ d a. a;
    latest = omega arith;
    start = λ d a. refl;
    history = (after_self f).history;
    acknowledged = λ q d. omega arith;
    chosen = λ d l a c. c;
    may = λ d l a lt m. record { from = m.from; by = m.by };
  }

  module _ (i : Invariant f) (a : Answers f e r v) where
    only : (w : Value R) → IsValueOf f r w → w ≡ v
    only w c = only_member v w (subst (λ vs. Contains vs w) a.is_open c)

    newly : (d q : ℕ) → d ≡ e → q ≡ r → IsSurveyed (told f e r v) q d
    newly d q is at = record {
      role = inl (ap f.role at ∙ a.role);
      fence = λ w c. let same : w ≡ v = only w (subst (λ x. IsValueOf f x w) at c) in omega (arith, ap (λ x. x.fence) same, a.fence, is);
      epoch = λ lt w c. elim (put_at e r (last_epoch v.log) f.told_epoch d q) [
        | inl x ↦ ap (λ x. last_epoch x.log) (only w (subst (λ x. IsValueOf f x w) at c)) ∙ sym x.2
        | inr x ↦ absurd (x.0 is at)
      ];
      length = λ lt w c. elim (put_at e r (length v.log) f.told_length d q) [
        | inl x ↦ ap (λ x. length x.log) (only w (subst (λ x. IsValueOf f x w) at c)) ∙ sym x.2
        | inr x ↦ absurd (x.0 is at)
      ];
    }

    surveyed : (d q : ℕ) → (told f e r v).answered d q ≡ true → IsSurveyed (told f e r v) q d
    surveyed d q h = elim (put_at e r true f.answered d q) [
      | inl x ↦ newly d q x.0 x.1
      | inr x ↦ (
          let s : IsSurveyed f q d = i.surveys d q (sym x.1 ∙ h) in
          record {
            role = s.role;
            fence = s.fence;
            epoch = λ lt w c. elim (put_at e r (last_epoch v.log) f.told_epoch d q) [
              | inl y ↦ absurd (x.0 y.0 y.1)
              | inr y ↦ s.epoch lt w c ∙ sym y.1
            ];
            length = λ lt w c. elim (put_at e r (length v.log) f.told_length d q) [
              | inl y ↦ absurd (x.0 y.0 y.1)
              | inr y ↦ s.length lt w c ∙ sym y.1
            ];
          })
    ]

    pub answer_keeps : Invariant (told f e r v)
    answer_keeps = record {
      appointments = i.appointments;
      branches = i.branches;
      barriers = λ d ad n s from w is. let b = i.barriers d ad n s from w is in (b.0, answer_after.chosen d s ad b.1);
      some_value = i.some_value;
      values = λ q w c. sound_after f (told f e r v) answer_after i.appointments q w (i.values q w c) (λ d l live le. (live.appointed, le));
      key = λ d c l ad ac lt m. key_after f (told f e r v) answer_after i.key d c l ad ac lt (i.appointments.latest c ac) m;
      surveys = surveyed;
      copies = λ q one.
          let k = i.copies q one in
          (k.0, λ w c. copied_after f (told f e r v) answer_after (f.copying q) (f.copy_at q) w k.0 (k.1 w c) (λ n h. h));
      primaries = i.primaries;
    }
