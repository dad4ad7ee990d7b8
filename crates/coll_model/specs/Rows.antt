-- Collections as they are seen at some moment, and how a transcript tells them.
use Rattle.std.specs.Prelude.{ℕ, List, ◌∷◌, ◌++◌, map, codes}
use Rattle.coll_model.specs.declared.op.Kind.{Kind}
use Rattle.coll_model.specs.declared.op.Kind.TheVariants as kinds
use Rattle.coll_model.specs.declared.contents.Contents.{Contents}
use Rattle.coll_model.specs.declared.contents.Contents.TheVariants.{Dict, Queue}
use Rattle.coll_model.specs.declared.rows.Collection.{Collection}
use Rattle.coll_model.specs.declared.rows.Rows.{Rows}
use Rattle.coll_model.specs.declared.rows.Rows.TheVariants.{Pairs, Values}
use Rattle.coll_model.specs.Effect.{State, kind_of}

-- what a kind is called
abbrev pub kind_word : Kind → List ℕ
kind_word kinds.Dict = codes "dict"
kind_word kinds.Queue = codes "queue"

-- a dictionary's pairs by rising key, a queue's values from head to tail
abbrev pub rows_of : Contents → Rows
rows_of (Dict pairs) = Pairs pairs
rows_of (Queue values) = Values values

abbrev pub kind_of_rows : Rows → Kind
kind_of_rows (Pairs pairs) = kinds.Dict
kind_of_rows (Values values) = kinds.Queue

-- a collection by its name and what is in it
abbrev pub collection_of : List ℕ × Contents → Collection
collection_of entry = record { name = entry.0; kind = kind_of entry.1; rows = rows_of entry.1 }

-- each collection, by rising name
abbrev pub image : State → List Collection
image state = map collection_of state

-- each pair as KEY=VALUE, where 61 is the equals sign
abbrev pub pair_words : List (List ℕ × List ℕ) → List (List ℕ)
pair_words pairs = map (λ pair. pair.0 ++ 61 ∷ pair.1) pairs

-- the items of a collection as words
abbrev pub row_words : Rows → List (List ℕ)
row_words (Pairs pairs) = pair_words pairs
row_words (Values values) = values
