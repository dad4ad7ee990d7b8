-- The words that tell operations and the items of collections.
use Rattle.std.specs.Prelude.{◌==◌, ◌&&◌, ℕ, Bool, false, List, [], ◌∷◌, codes, IsTrue}
use Rattle.std.specs.List.{join_with_byte, slice_split}
use Rattle.rc_base.specs.Names.{is_name}
use Rattle.coll_model.specs.declared.op.Op.{Op}
use Rattle.coll_model.specs.declared.op.Op.TheVariants.{Make, Unmake, Put, Del, Push, Pop}
use Rattle.coll_model.specs.Rows.{kind_word}
use Rattle.script_text.specs.Letters.{is_key_word, is_value_word}

-- ---- operations

-- the parts of an operation's word, which colons join
abbrev pub op_parts : Op → List (List ℕ)
op_parts (Make name kind) = codes "make" ∷ name ∷ kind_word kind ∷ []
op_parts (Unmake name) = codes "drop" ∷ name ∷ []
op_parts (Put name key value) = codes "put" ∷ name ∷ key ∷ value ∷ []
op_parts (Del name key) = codes "del" ∷ name ∷ key ∷ []
op_parts (Push name value) = codes "push" ∷ name ∷ value ∷ []
op_parts (Pop name) = codes "pop" ∷ name ∷ []

-- 58 is a colon
abbrev pub op_text : Op → List ℕ
op_text op = join_with_byte 58 (op_parts op)

-- its words are a script's names, keys and values
abbrev pub IsSaidOp : Op → Type 0
IsSaidOp (Make name kind) = IsTrue (is_name name)
IsSaidOp (Unmake name) = IsTrue (is_name name)
IsSaidOp (Put name key value) = IsTrue (is_name name) × IsTrue (is_key_word key) × IsTrue (is_value_word value)
IsSaidOp (Del name key) = IsTrue (is_name name) × IsTrue (is_key_word key)
IsSaidOp (Push name value) = IsTrue (is_name name) × IsTrue (is_value_word value)
IsSaidOp (Pop name) = IsTrue (is_name name)

-- ---- the items of a collection

-- A row's word is a value, or a key and its value with `=` between, which is 61. Names and kinds have the letters of values.
abbrev pub is_row : List (List ℕ) → Bool
is_row [] = false
is_row (value ∷ []) = is_value_word value
is_row (key ∷ value ∷ []) = is_key_word key && is_value_word value
is_row (key ∷ value ∷ more ∷ parts) = false

abbrev pub is_row_word : List ℕ → Bool
is_row_word word = is_row (slice_split (λ b. b == 61) word)

abbrev pub IsRowWord : List ℕ → Type 0
IsRowWord word = IsTrue (is_row_word word)
