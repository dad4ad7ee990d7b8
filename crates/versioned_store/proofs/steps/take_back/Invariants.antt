use Rattle.std.proofs.Common.{ℕ, ◌≤◌, length}
use Rattle.std.specs.Ordering.{nat_cmp}
use Rattle.std.specs.Cmp.Lexicographic.{slice_cmp}
use Rattle.std.specs.BTreeMap.{IsOrdered}
use Rattle.versioned_store.specs.Loops.{AgreesAt}
use Rattle.versioned_store.proofs.steps.take_back.Given as goal

abbrev pub invariant-loop-v : goal.invariant-loop-v
invariant-loop-v l = record {
  agrees : (count : ℕ) → AgreesAt (λ w. w ≤ l.v.0) count l.fn.chains.entries l.fn.journal.items count l.chains.entries l.journal.items;
  ordered : IsOrdered (slice_cmp nat_cmp) l.chains;
}

abbrev pub decreases-loop-v : goal.decreases-loop-v
decreases-loop-v l = length l.journal.items
