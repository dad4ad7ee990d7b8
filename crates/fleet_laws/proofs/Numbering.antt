-- Quorum numbers, and the codes of epochs.
use Rattle.std.proofs.Common.{◌≡◌, ℕ, zero, suc, ◌^◌, ◌<◌, ◌≤◌, min, max, leb, Bool, true, false, ◌⊎◌, ◌↔◌, List, [], ◌∷◌, length, refl, ap, ◌∙◌, subst, arith, inl, inr}
use Rattle.std.proofs.lemmas.Bool.{cases_order, cases_lt, cases_eq, leb-true, leb-false, le-leb, lt-leb}
use Rattle.rc_base.specs.Quorum.{write_quorum}
use Rattle.fleet_laws.specs.Counting.{count, IsWriteQuorum, IsWriteQuorumOfEach, has_reached, IsQuorumNumber}
use Rattle.fleet_laws.specs.Epochs.{epoch_code, IsEpochBelow}
use Rattle.fleet_laws.specs.Fleets.{Fleet}
use Rattle.fleet_laws.specs.Choice.{IsChosen, reaches, configurations_of}
use Rattle.fleet_laws.proofs.Use.{both_enough}
use Rattle.fleet_laws.proofs.Counts.{count_yes, count_no, quorums_more}

top : (ℕ → ℕ) → List ℕ → ℕ
top reached [] = 0
top reached (m ∷ ms) = max (reached m) (top reached ms)

none_above : (reached : ℕ → ℕ) (l : ℕ) (c : List ℕ) → top reached c < l → count (has_reached reached l) c ≡ 0
unfolding top
none_above reached l [] h = refl
none_above reached l (m ∷ ms) h = count_no (has_reached reached l) m ms (lt-leb l (reached m) (omega arith)) ∙ none_above reached l ms (omega arith)

all_pass : (p : ℕ → Bool) → ((m : ℕ) → p m ≡ true) → (c : List ℕ) → count p c ≡ length c
all_pass p h [] = refl
all_pass p h (m ∷ ms) = count_yes p m ms (h m) ∙ ap suc (all_pass p h ms)

module _ (reached : ℕ → ℕ) (c : List ℕ) (some : 1 ≤ length c) where
  search_step : (b : ℕ) (t : Bool) → leb (write_quorum (length c)) (count (has_reached reached (suc b)) c) ≡ t
      → ((l : ℕ) → IsWriteQuorum (has_reached reached l) c → l ≤ suc b)
      → (((l : ℕ) → IsWriteQuorum (has_reached reached l) c → l ≤ b) → (n : ℕ) × IsQuorumNumber reached (c ∷ []) n)
      → (n : ℕ) × IsQuorumNumber reached (c ∷ []) n
  search_step b true is bound rest = (
    suc b,
    record {
      by = (leb-true (write_quorum (length c)) (count (has_reached reached (suc b)) c) is, tt);
      greatest = λ l h. bound l h.0;
    },
  )
  search_step b false is bound rest = rest (λ l h. elim (cases_eq l (suc b)) [
    | inl e ↦ absurd (
        let at : IsWriteQuorum (has_reached reached (suc b)) c = subst (λ x. IsWriteQuorum (has_reached reached x) c) e h in
        omega (arith, at, leb-false (write_quorum (length c)) (count (has_reached reached (suc b)) c) is))
    | inr ne ↦ (let w : l ≤ suc b = bound l h in omega (arith, w, λ (e : l ≡ suc b). ne e))
  ])

  search_down : (b : ℕ) → ((l : ℕ) → IsWriteQuorum (has_reached reached l) c → l ≤ b) → (n : ℕ) × IsQuorumNumber reached (c ∷ []) n
  search_down zero bound = (
    0,
    record {
      by = (omega (arith, all_pass (has_reached reached 0) (λ m. le-leb 0 (reached m) (omega arith)) c, some), tt);
      greatest = λ l h. bound l h.0;
    },
  )
  search_down (suc b) bound = search_step b (leb (write_quorum (length c)) (count (has_reached reached (suc b)) c)) refl bound (search_down b)

  pub quorum_number : (n : ℕ) × IsQuorumNumber reached (c ∷ []) n
  quorum_number = search_down (top reached c) (λ l h. elim (cases_lt (top reached c) l) [
    | inl past ↦ absurd (omega (arith, h, none_above reached l c past))
    | inr w ↦ w
  ])

below_passes : (reached : ℕ → ℕ) (l n m : ℕ) → l ≤ n → has_reached reached n m ≡ true → has_reached reached l m ≡ true
below_passes reached l n m le h = le-leb l (reached m) (omega (arith, leb-true n (reached m) h, le))

pub number_of_two : (reached : ℕ → ℕ) (c d : List ℕ) (m n : ℕ) → IsQuorumNumber reached (c ∷ []) m → IsQuorumNumber reached (d ∷ []) n → IsQuorumNumber reached (c ∷ d ∷ []) (min m n)
number_of_two reached c d m n a b = record {
  by =
      let x : IsWriteQuorumOfEach (has_reached reached (min m n)) (c ∷ []) = quorums_more (has_reached reached m) (has_reached reached (min m n)) (λ k. below_passes reached (min m n) m k (omega arith)) (c ∷ []) a.by in
      let y : IsWriteQuorumOfEach (has_reached reached (min m n)) (d ∷ []) = quorums_more (has_reached reached n) (has_reached reached (min m n)) (λ k. below_passes reached (min m n) n k (omega arith)) (d ∷ []) b.by in
      (x.0, (y.0, tt));
  greatest = λ l h. omega (arith, a.greatest l (h.0, tt), b.greatest l (h.1.0, tt));
}

-- also where both configurations are still counted
pub number_is_chosen : {R : Type 0} (f : Fleet R) (e : ℕ) (reached : ℕ → ℕ) (n l : ℕ) → ((m : ℕ) → reached m ≤ f.acknowledged m e)
    → IsQuorumNumber reached (configurations_of f.configurations e) n ⊎ IsQuorumNumber reached (f.previous e ∷ f.current e ∷ []) n
    → f.start e ≤ l → l ≤ n → IsChosen f e l
number_is_chosen f e reached n l acks number from le =
    let passes : (m : ℕ) → has_reached reached n m ≡ true → reaches f.acknowledged e l m ≡ true = λ m h. le-leb l (f.acknowledged m e) (omega (arith, leb-true n (reached m) h, acks m, le)) in
    record {
      from = from;
      by = elim number [
        | inl x ↦ quorums_more (has_reached reached n) (reaches f.acknowledged e l) passes (configurations_of f.configurations e) x.by
        | inr x ↦ both_enough (reaches f.acknowledged e l) f.configurations e (quorums_more (has_reached reached n) (reaches f.acknowledged e l) passes (f.previous e ∷ f.current e ∷ []) x.by)
      ];
    }

code_below : (loss number later_loss later_number : ℕ) → number < 2 ^ 32 → later_number < 2 ^ 32 → epoch_code loss number < epoch_code later_loss later_number
    → IsEpochBelow loss number later_loss later_number
code_below loss number later_loss later_number a b h = elim (cases_order loss later_loss) [
  | inl e ↦ inr (e, omega (arith, e, h))
  | inr (inl lt) ↦ inl lt
  | inr (inr gt) ↦ absurd (omega (arith, gt, a, b, h))
]

below_code : (loss number later_loss later_number : ℕ) → number < 2 ^ 32 → later_number < 2 ^ 32 → IsEpochBelow loss number later_loss later_number
    → epoch_code loss number < epoch_code later_loss later_number
below_code loss number later_loss later_number a b h = elim h [ inl lt ↦ omega (arith, lt, a, b) | inr s ↦ omega (arith, s.0, s.1) ]

pub codes_keep_order : (loss number later_loss later_number : ℕ) → number < 2 ^ 32 → later_number < 2 ^ 32
    → (epoch_code loss number < epoch_code later_loss later_number) ↔ IsEpochBelow loss number later_loss later_number
codes_keep_order loss number later_loss later_number a b = (code_below loss number later_loss later_number a b, below_code loss number later_loss later_number a b)
