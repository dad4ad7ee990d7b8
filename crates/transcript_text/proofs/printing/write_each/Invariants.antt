use Rattle.std.proofs.Common.{◌≡◌, ◌++◌, ◌∷◌, flat_map, drop}
use Rattle.std.specs.Io.{StartsWith}
use Rattle.transcript_text.proofs.printing.write_each.Given as goal

-- what is written, and the words that are left, are all
abbrev pub invariant-loop-word : goal.invariant-loop-word
invariant-loop-word l = record {
  written : l.out.items ++ flat_map (λ word. 32 ∷ word) (drop l.word-index l.words) ≡ l.fn.out.items ++ flat_map (λ word. 32 ∷ word) l.words;
  kept : StartsWith l.out.items l.fn.out.items;
}
