use Rattle.std.proofs.Common.{◌≡◌, ◌++◌, drop}
use Rattle.coll_model.specs.Rows.{pair_words}
use Rattle.coll_model.proofs.rows.pair_words.Given as goal

-- the words so far, and those of the pairs that are left, are all
abbrev pub invariant-loop-key : goal.invariant-loop-key
invariant-loop-key l = l.words ++ pair_words (drop l.key-index l.pairs) ≡ pair_words l.pairs
