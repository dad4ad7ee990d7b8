use Rattle.std.proofs.Common.{◌≡◌, take}
use Rattle.gated_log.specs.Blocks.{spelling}
use Rattle.gated_log.proofs.block.spell_all.Given as goal

abbrev pub invariant-loop-payload : goal.invariant-loop-payload
invariant-loop-payload l = l.out.items ≡ spelling (take l.payload-index l.payloads)
