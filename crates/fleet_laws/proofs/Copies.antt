-- The mode of a copy.
use Rattle.std.proofs.Common.{ℕ, List, length, refl, arith, inl, inr}
use Rattle.std.proofs.lemmas.Bool.{cases_lt}
use Rattle.fleet_laws.specs.Logs.{Entry, Agree, LastAgreed}
use Rattle.fleet_laws.specs.Fleets.{Fleet}
use Rattle.fleet_laws.specs.Choice.{IsCanonical}
use Rattle.fleet_laws.specs.Invariant.{Invariant}
use Rattle.fleet_laws.specs.Modes.{IsFork, Mode, IsMode, IsRightMode}
use Rattle.fleet_laws.specs.Modes.IsMode.{nothing, partial, undo, full}
use Rattle.fleet_laws.proofs.Agreement.{agree_epoch}
use Rattle.fleet_laws.proofs.Tree.{same_epoch_agree}

module _ {R : Type 0} (f : Fleet R) (i : Invariant f) (low : ℕ) (source target : List (Entry R)) (s : IsCanonical f.histories source) (t : IsCanonical f.histories target) where
  -- one epoch at a place is one log up to it
  fork_agrees : (n : ℕ) → IsFork low source target n → Agree n source target
  fork_agrees n k = same_epoch_agree f.histories i.branches source target s t n k.in_source k.in_target k.same

  -- and the greatest such place is the last common one
  fork_is_last : (n : ℕ) → IsFork low source target n → LastAgreed n source target
  fork_is_last n k = record {
    agreed = fork_agrees n k;
    last = λ m g. elim (cases_lt n m) [
      | inl past ↦ absurd (k.greatest m past g.left g.right (agree_epoch m m source target (omega arith) g))
      | inr low_ ↦ low_
    ];
  }

  pub mode_right : (m : Mode) → IsMode low source target m → IsRightMode low source target m
  mode_right m (nothing k) = fork_agrees (length source) k
  mode_right m (partial k lt) = (fork_agrees (length target) k, refl, lt)
  mode_right m (undo n k a b) = (fork_is_last n k, a, b)
  mode_right m (full none) = λ n g. elim (cases_lt n low) [
    | inl below ↦ below
    | inr from ↦ absurd (none n from g.left g.right (agree_epoch n n source target (omega arith) g))
  ]
