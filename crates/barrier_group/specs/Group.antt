-- A group of physical records that go into a log as one block.
use Rattle.std.specs.Prelude.{ℕ, List, [], ◌∷◌, ◌++◌}
use Rattle.log_records.specs.declared.record.Physical.{Physical}
use Rattle.log_records.specs.Spelling.{physical, joined, IsPhysical}

-- their spellings, one after another
abbrev pub spelled : List Physical → List ℕ
spelled [] = []
spelled (item ∷ items) = joined (physical item) ++ spelled items

-- each of them has a spelling
abbrev pub AllPhysical : List Physical → Type 0
AllPhysical [] = Unit {0}
AllPhysical (item ∷ items) = IsPhysical item × AllPhysical items
