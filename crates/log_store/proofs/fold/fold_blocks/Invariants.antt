use Rattle.std.proofs.Common.{◌≡◌, drop, None}
use Rattle.log_store.specs.Fold.{behind_blocks}
use Rattle.log_store.proofs.fold.fold_blocks.Given as goal

abbrev pub invariant-loop-block : goal.invariant-loop-block
invariant-loop-block l = behind_blocks l.area l.standing (drop l.block-index l.blocks) ≡ behind_blocks l.area None l.blocks
