-- What an inspection prints of a state: a line for each collection.
use Rattle.std.specs.Prelude.{ℕ, List, ◌∷◌, map}
use Rattle.coll_model.specs.declared.rows.Collection.{Collection}
use Rattle.coll_model.specs.Effect.{State}
use Rattle.coll_model.specs.Rows.{kind_word, row_words, collection_of}

-- the words after `rows`: the name, the kind, and the items
abbrev pub collection_words : Collection → List (List ℕ)
collection_words c = c.name ∷ kind_word c.kind ∷ row_words c.rows

-- those of each collection, by rising name
abbrev pub rows_of : State → List (List (List ℕ))
rows_of state = map (λ entry. collection_words (collection_of entry)) state
