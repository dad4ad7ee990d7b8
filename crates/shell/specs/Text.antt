-- The texts of a run that belong to no event.
use Rattle.std.specs.Prelude.{ℕ, List, [], ◌∷◌, ◌++◌, codes, decimal}
use Rattle.rc_base.specs.declared.limit_name.LimitName.{LimitName}
use Rattle.rc_base.specs.Limits.{limit_word}

-- 10 is an LF
abbrev pub usage : List ℕ
usage = codes "usage world | store FOLDER [PARTITION] | drill SEED COUNT" ++ 10 ∷ []

-- the last line of a run that a bad line ends, and of one that a limit ends
abbrev pub bad_line_text : ℕ → List ℕ
bad_line_text number = decimal number ++ codes " stop 3" ++ 10 ∷ []

abbrev pub limit_line_text : ℕ → LimitName → List ℕ
limit_line_text number which = decimal number ++ codes " stop 9 " ++ limit_word which ++ 10 ∷ []
