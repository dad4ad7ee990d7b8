-- The collections of a store as one value, and what each operation does to them.
use Rattle.std.specs.Prelude.{ℕ, List, [], ◌∷◌, ◌++◌, drop, fold, Option, is_some, if◌then◌else◌}
use Rattle.std.specs.Option.{option_map_or}
use Rattle.std.specs.Ordering.{nat_cmp}
use Rattle.std.specs.Cmp.Lexicographic.{slice_cmp}
use Rattle.std.specs.Map.{lookup, remove_entry, set_value}
use Rattle.std.specs.BTreeMap.{insert_entry, is_at}
use Rattle.coll_model.specs.declared.op.Kind.{Kind}
use Rattle.coll_model.specs.declared.op.Kind.TheVariants as kinds
use Rattle.coll_model.specs.declared.op.Op.{Op}
use Rattle.coll_model.specs.declared.op.Op.TheVariants.{Make, Unmake, Put, Del, Push, Pop}
use Rattle.coll_model.specs.declared.contents.Contents.{Contents}
use Rattle.coll_model.specs.declared.contents.Contents.TheVariants.{Dict, Queue}

-- ---- entries by rising name or key, compared byte by byte as words are

-- what stands at the key, if it is there
abbrev pub at_key : {X : Type 0} → List ℕ → List (List ℕ × X) → Option X
at_key key entries = lookup (is_at (slice_cmp nat_cmp key)) entries

-- with this value at the key, which takes its place in the order where it is new
abbrev pub with_key : {X : Type 0} → List ℕ → X → List (List ℕ × X) → List (List ℕ × X)
with_key key value entries = insert_entry (slice_cmp nat_cmp) entries key value

-- without the key
abbrev pub without_key : {X : Type 0} → List ℕ → List (List ℕ × X) → List (List ℕ × X)
without_key key entries = remove_entry (is_at (slice_cmp nat_cmp key)) entries

-- with what stands at the key changed, where it is there
abbrev pub changed_at : {X : Type 0} → List ℕ → (X → X) → List (List ℕ × X) → List (List ℕ × X)
changed_at key change entries =
    option_map_or (λ value. set_value (is_at (slice_cmp nat_cmp key)) entries (change value)) (at_key key entries) entries

-- ---- one collection: a dictionary's pairs by rising key, or a queue's values from head to tail

abbrev pub kind_of : Contents → Kind
kind_of (Dict pairs) = kinds.Dict
kind_of (Queue values) = kinds.Queue

-- a new collection of the kind, with nothing in it
abbrev pub fresh : Kind → Contents
fresh kinds.Dict = Dict []
fresh kinds.Queue = Queue []

abbrev pub put : List ℕ → List ℕ → Contents → Contents
put key value (Dict pairs) = Dict (with_key key value pairs)
put key value (Queue values) = Queue values

abbrev pub del : List ℕ → Contents → Contents
del key (Dict pairs) = Dict (without_key key pairs)
del key (Queue values) = Queue values

abbrev pub push : List ℕ → Contents → Contents
push value (Dict pairs) = Dict pairs
push value (Queue values) = Queue (values ++ value ∷ [])

abbrev pub pop : Contents → Contents
pop (Dict pairs) = Dict pairs
pop (Queue values) = Queue (drop 1 values)

-- ---- all collections

-- the collections by rising name
abbrev pub State : Type 0
State = List (List ℕ × Contents)

-- A name that is there is not made again. An operation on a name that is absent, or of the other kind, changes nothing.
abbrev pub effect : State → Op → State
effect state (Make name kind) = if is_some (at_key name state) then state else with_key name (fresh kind) state
effect state (Unmake name) = without_key name state
effect state (Put name key value) = changed_at name (put key value) state
effect state (Del name key) = changed_at name (del key) state
effect state (Push name value) = changed_at name (push value) state
effect state (Pop name) = changed_at name pop state

-- the state after the operations, in order
abbrev pub folded : State → List Op → State
folded state ops = fold effect state ops
