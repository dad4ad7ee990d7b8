use Rattle.std.proofs.Common.{◌≡◌, ℕ, ◌+◌, ◌-◌, ◌<◌, List, length, get_or}
use Rattle.std.specs.declared.cmp.Ordering.TheVariants.{Less}
use Rattle.std.specs.Ordering.{nat_cmp}
use Rattle.std.specs.Cmp.Lexicographic.{slice_cmp}
use Rattle.std.specs.Map.{keys_of}
use Rattle.reliable_dict.proofs.rising.keys_rise.Given as goal

-- each key so far is below the next
abbrev pub invariant-loop-place : goal.invariant-loop-place
invariant-loop-place l = record {
  from : 0 < l.place;
  rising : (k : ℕ) (d : List ℕ) → k + 1 < l.place → k + 1 < length l.pairs → slice_cmp nat_cmp (get_or (keys_of l.pairs) k d) (get_or (keys_of l.pairs) (k + 1) d) ≡ Less;
}

abbrev pub decreases-loop-place : goal.decreases-loop-place
decreases-loop-place l = length l.pairs - l.place
