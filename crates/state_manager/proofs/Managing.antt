-- What a manager keeps over each step.
use Rattle.std.proofs.Common.{◌≡◌, ◌∙◌, ◌≢◌, ◌⊎◌, inl, inr, ℕ, ◌+◌, ◌≤◌, ◌<◌, ◌-◌, suc, zero, min, nat_eq, Bool, true, false, ◌&&◌, ◌||◌, List, [], ◌∷◌, Option, refl, sym, ap, subst, arith}
use Rattle.std.specs.Prelude.{All}
use Rattle.std.specs.Cmp.Lexicographic.{pointwise, same_text, nat_list_eq_equiv}
use Rattle.std.proofs.Math.Nat.{min-eq_left, min-eq_right, sub-add_cancel}
use Rattle.std.proofs.lemmas.Bool.{cases_lt, cases_eq, false≢true, false_from_ne_true}
use Rattle.std.proofs.lemmas.Bool.Decides.{eqb_tells}
use Rattle.std.proofs.lemmas.List.Elements.{All-head, All-tail, All-weaker}
use Rattle.rc_base.specs.declared.ids.Lsn.{Lsn}
use Rattle.coll_model.specs.declared.contents.Contents.{Contents}
use Rattle.state_manager.specs.declared.change.Change.{Change}
use Rattle.state_manager.specs.declared.slot.Slot.{Slot}
use Rattle.state_manager.specs.Chains.{AreChanged, seen, IsCut, IsTurned}
use Rattle.state_manager.specs.Managed.{is_changed, IsNoted}

-- ---- what is noted

-- a change of another version or of another name
pub unchanged_later : (name : List ℕ) (n : ℕ) (changes : List Change) → All (λ change. change.at.0 < n) changes → is_changed name n changes ≡ false
unchanged_later name n [] all = refl
unchanged_later name n (change ∷ changes) all = by (eqb_tells change.at.0 n) (unchanged_later name n changes (All-tail (λ c. c.at.0 < n) change changes all))
  where
    less : change.at.0 < n
    less = All-head (λ c. c.at.0 < n) change changes all

    by : ((nat_eq change.at.0 n ≡ true) × (change.at.0 ≡ n)) ⊎ ((nat_eq change.at.0 n ≡ false) × (change.at.0 ≢ n)) → is_changed name n changes ≡ false → is_changed name n (change ∷ changes) ≡ false
    by (inl same) later = let e : change.at.0 ≡ n = same.1 in absurd (omega (arith, less, e))
    by (inr apart) later = rw apart.0 later

pub or_none : (a b : Bool) → (a || b) ≡ false → (a ≡ false) × (b ≡ false)
or_none true b e = absurd (false≢true (sym e))
or_none false b e = (refl, e)

-- of another name
pub changed_other : (name : List ℕ) (n : ℕ) (change : Change) (changes : List Change) → name ≢ change.name → is_changed name n (change ∷ changes) ≡ is_changed name n changes
changed_other name n change changes apart = ap (λ (b : Bool). b || is_changed name n changes) (by (nat_eq change.at.0 n))
  where
    by : (b : Bool) → (b && pointwise nat_eq name change.name) ≡ false
    by true = false_from_ne_true (pointwise nat_eq name change.name) (λ e. apart (same_text name change.name (sym e)))
    by false = refl

-- of another version
pub changed_apart : (name : List ℕ) (n : ℕ) (change : Change) (changes : List Change) → n < change.at.0 → is_changed name n (change ∷ changes) ≡ is_changed name n changes
changed_apart name n change changes less = by (eqb_tells change.at.0 n)
  where
    by : ((nat_eq change.at.0 n ≡ true) × (change.at.0 ≡ n)) ⊎ ((nat_eq change.at.0 n ≡ false) × (change.at.0 ≢ n)) → is_changed name n (change ∷ changes) ≡ is_changed name n changes
    by (inl same) = let e : change.at.0 ≡ n = same.1 in absurd (omega (arith, less, e))
    by (inr apart) = rw apart.0 refl

-- of this name and version
changed_here : (name : List ℕ) (at : Lsn) (changes : List Change) → is_changed name at.0 (record { at = at; name = name } ∷ changes) ≡ true
changed_here name at changes = by (eqb_tells at.0 at.0)
  where
    by : ((nat_eq at.0 at.0 ≡ true) × (at.0 ≡ at.0)) ⊎ ((nat_eq at.0 at.0 ≡ false) × (at.0 ≢ at.0)) → is_changed name at.0 (record { at = at; name = name } ∷ changes) ≡ true
    by (inl same) = rw (same.0, nat_list_eq_equiv.refl name) refl
    by (inr apart) = absurd (apart.1 refl)

below_suc : (v n : ℕ) → v ≤ n + 1 → v ≢ n + 1 → v ≤ n
below_suc v n le apart = by (cases_lt n v)
  where
    by : (n < v) ⊎ (v ≤ n) → v ≤ n
    by (inl less) = absurd (apart (omega (arith, le, less)))
    by (inr under) = under

above : (v w : ℕ) → v ≤ w → (k : ℕ) × (w ≡ k + v)
above v w le = (w - v, sym (sub-add_cancel le))

module _ {P : Type 0} (least : P → ℕ) (view : P → ℕ → Contents) where
  -- above all changes it rests
  pub rests_above : (floor : ℕ) (changes : List Change) (name : List ℕ) (chain : List (Slot P)) → IsNoted least view floor changes name chain → (v : ℕ) → floor ≤ v → All (λ change. change.at.0 ≤ v) changes
      → (k : ℕ) → seen view (k + v) chain ≡ seen view v chain
  rests_above floor changes name chain noted v from all zero = let e : zero + v ≡ v = omega arith in ap (λ (n : ℕ). seen view n chain) e
  rests_above floor changes name chain noted v from all (suc k) =
      let e : suc k + v ≡ k + v + 1 = omega arith in
      ap (λ (n : ℕ). seen view n chain) e
      ∙ noted.rests (k + v) (omega (arith, from))
      (unchanged_later name (k + v + 1) changes (All-weaker (λ c. c.at.0 ≤ v) (λ c. c.at.0 < k + v + 1) (λ c le. omega (arith, le)) changes all))
      ∙ rests_above floor changes name chain noted v from all k

  pub resting : (floor : ℕ) (changes : List Change) (name : List ℕ) (chain : List (Slot P)) → IsNoted least view floor changes name chain → (v : ℕ) → floor ≤ v → All (λ change. change.at.0 ≤ v) changes
      → (w : ℕ) → v ≤ w → seen view w chain ≡ seen view v chain
  resting floor changes name chain noted v from all w le =
      let k = above v w le in
      ap (λ (n : ℕ). seen view n chain) k.1 ∙ rests_above floor changes name chain noted v from all k.0

  -- what was cut is noted still, and that whatever changes are noted above the version
  pub noted_cut : (floor v : ℕ) (old_changes changes : List Change) (name : List ℕ) (old new : List (Slot P)) → IsNoted least view floor old_changes name old → floor ≤ v → IsCut least view v old new
      → ((n : ℕ) → n < v → is_changed name (n + 1) changes ≡ false → is_changed name (n + 1) old_changes ≡ false) → IsNoted least view floor changes name new
  noted_cut floor v old_changes changes name old new noted under cut same = record {
    kept = cut.kept floor noted.kept;
    rests = λ n from e. by n from e (cases_lt n v);
  }
    where
      looks : (w : ℕ) → floor ≤ w → seen view w new ≡ seen view (min w v) old
      looks w from = cut.views floor noted.kept under w from

      by : (n : ℕ) → floor ≤ n → is_changed name (n + 1) changes ≡ false → (n < v) ⊎ (v ≤ n) → seen view (n + 1) new ≡ seen view n new
      by n from e (inl less) =
          looks (n + 1) (omega (arith, from)) ∙ ap (λ (k : ℕ). seen view k old) (min-eq_left (omega (arith, less))) ∙ noted.rests n from (same n less e)
          ∙ sym (looks n from ∙ ap (λ (k : ℕ). seen view k old) (min-eq_left (omega (arith, less))))
      by n from e (inr le) =
          looks (n + 1) (omega (arith, from)) ∙ ap (λ (k : ℕ). seen view k old) (min-eq_right (omega (arith, le)))
          ∙ sym (looks n from ∙ ap (λ (k : ℕ). seen view k old) (min-eq_right le))

  pub noted_turned : (floor : ℕ) (v : Lsn) (changes : List Change) (name : List ℕ) (old new : List (Slot P)) (now : Option Contents) → IsNoted least view floor changes name old → floor ≤ v.0
      → IsTurned least view v.0 old new now → IsNoted least view floor (record { at = v; name = name } ∷ changes) name new
  noted_turned floor v changes name old new now noted under turned = record {
    kept = turned.kept floor noted.kept;
    rests = λ n from e. by n from e (cases_lt (n + 1) v.0) (cases_eq v.0 (n + 1));
  }
    where
      looks : AreChanged v.0 floor (λ w. seen view w old) (λ w. seen view w new) now
      looks = turned.views floor noted.kept under

      by : (n : ℕ) → floor ≤ n → is_changed name (n + 1) (record { at = v; name = name } ∷ changes) ≡ false → (n + 1 < v.0) ⊎ (v.0 ≤ n + 1) → (v.0 ≡ n + 1) ⊎ (v.0 ≢ n + 1) → seen view (n + 1) new ≡ seen view n new
      by n from e (inl less) b =
          looks.below (n + 1) (omega (arith, from)) less ∙ noted.rests n from (or_none (nat_eq v.0 (n + 1) && pointwise nat_eq name name) (is_changed name (n + 1) changes) e).1
          ∙ sym (looks.below n from (omega (arith, less)))
      by n from e (inr le) (inl same) =
          absurd (false≢true (sym e ∙ subst (λ (k : ℕ). is_changed name k (record { at = v; name = name } ∷ changes) ≡ true) same (changed_here name v changes)))
      by n from e (inr le) (inr apart) =
          let under_n : v.0 ≤ n = below_suc v.0 n le apart in looks.from (n + 1) le ∙ sym (looks.from n under_n)
