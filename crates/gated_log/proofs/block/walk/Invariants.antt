use Rattle.std.proofs.Common.{◌≡◌, ◌+◌, ◌-◌, ◌≤◌, ◌++◌, length, drop}
use Rattle.gated_log.specs.Blocks.{open_blocks, spelling}
use Rattle.gated_log.specs.Log.{placed_from}
use Rattle.gated_log.proofs.block.walk.Given as goal

abbrev pub invariant-loop-count : goal.invariant-loop-count
invariant-loop-count l = record {
  so_far : l.blocks.items ++ placed_from l.at (open_blocks (drop l.at l.bytes)) ≡ placed_from 0 (open_blocks l.bytes);
  place : l.at + length (spelling (open_blocks (drop l.at l.bytes))) ≡ length (spelling (open_blocks l.bytes));
  within : l.at ≤ length l.bytes;
}

abbrev pub decreases-loop-count : goal.decreases-loop-count
decreases-loop-count l = length l.bytes - l.at
