use Rattle.std.proofs.Common.{◌≡◌, ◌++◌, ◌∷◌, flat_map, drop}
use Rattle.std.specs.Io.{StartsWith}
use Rattle.transcript_text.specs.Words.{op_text}
use Rattle.transcript_text.proofs.printing.write_ops.Given as goal

-- what is written, and the operations that are left, are all
abbrev pub invariant-loop-op : goal.invariant-loop-op
invariant-loop-op l = record {
  written : l.out.items ++ flat_map (λ op. 32 ∷ op_text op) (drop l.op-index l.ops) ≡ l.fn.out.items ++ flat_map (λ op. 32 ∷ op_text op) l.ops;
  kept : StartsWith l.out.items l.fn.out.items;
}
