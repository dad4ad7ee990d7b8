-- An operation is read back from its word: its parts stand between the colons, and the first tells what it does.
use Rattle.std.proofs.Common.{◌≡◌, ◌∙◌, ℕ, ◌<◌, Bool, true, false, ◌&&◌, cond, eqb, length, List, [], ◌∷◌, map, get_or, codes, refl, ap, ap₂, lit<, rules}
use Rattle.std.specs.Prelude.{IsTrue}
use Rattle.std.specs.List.{AllByRecursion, slice_split}
use Rattle.rc_base.specs.Names.{is_name}
use Rattle.coll_model.specs.declared.op.Kind.{Kind}
use Rattle.coll_model.specs.declared.op.Kind.TheVariants as kinds
use Rattle.coll_model.specs.declared.op.Op.{Op}
use Rattle.coll_model.specs.declared.op.Op.TheVariants.{Make, Unmake, Put, Del, Push, Pop}
use Rattle.script_text.specs.Letters.{is_key_word, is_value_word}
use Rattle.script_text.proofs.Numbers.{Lacks}
use Rattle.script_text.proofs.Parts.{AllLack, Lacks-joined, parts_from_joined}
use Rattle.script_text.proofs.EventWords.{Lacks-name, Lacks-key, Lacks-value}
use Rattle.transcript_text.specs.Words.{op_parts, op_text, IsSaidOp}

-- ---- parts

-- whether two words are one
unfoldable is_word : List ℕ → List ℕ → Bool
is_word [] [] = true
is_word [] (y ∷ ys) = false
is_word (x ∷ xs) [] = false
is_word (x ∷ xs) (y ∷ ys) = eqb x y && is_word xs ys

kind_from : List ℕ → Kind
kind_from word = cond (is_word word (codes "dict")) kinds.Dict kinds.Queue

op_from : List (List ℕ) → Op
op_from parts =
    let verb = get_or parts 0 [] in
    let name = get_or parts 1 [] in
    let third = get_or parts 2 [] in
    cond (is_word verb (codes "make")) (Make name (kind_from third))
    (cond (is_word verb (codes "drop")) (Unmake name)
    (cond (is_word verb (codes "put")) (Put name third (get_or parts 3 []))
    (cond (is_word verb (codes "del")) (Del name third) (cond (is_word verb (codes "push")) (Push name third) (Pop name)))))

op_from-op_parts : (op : Op) → op_from (op_parts op) ≡ op
unfolding op_from kind_from is_word
op_from-op_parts (Make name kinds.Dict) = refl
op_from-op_parts (Make name kinds.Queue) = refl
op_from-op_parts (Unmake name) = refl
op_from-op_parts (Put name key value) = refl
op_from-op_parts (Del name key) = refl
op_from-op_parts (Push name value) = refl
op_from-op_parts (Pop name) = refl

-- names, keys and values hold no space and no colon
lacks_both_name : (name : List ℕ) → IsTrue (is_name name) → Lacks 32 name × Lacks 58 name
lacks_both_name name is = (Lacks-name 32 name refl is, Lacks-name 58 name refl is)

lacks_both_key : (key : List ℕ) → IsTrue (is_key_word key) → Lacks 32 key × Lacks 58 key
lacks_both_key key is = (Lacks-key 32 key refl is, Lacks-key 58 key refl is)

lacks_both_value : (value : List ℕ) → IsTrue (is_value_word value) → Lacks 32 value × Lacks 58 value
lacks_both_value value is = (Lacks-value 32 value refl is, Lacks-value 58 value refl is)

-- no part has a colon, and none a space
pub AllLack-op_parts : (op : Op) → IsSaidOp op → AllLack 32 (op_parts op) × AllLack 58 (op_parts op)
AllLack-op_parts (Make name kinds.Dict) h = let n = lacks_both_name name h in ((search rules, (n.0, (search rules, tt))), (search rules, (n.1, (search rules, tt))))
AllLack-op_parts (Make name kinds.Queue) h = let n = lacks_both_name name h in ((search rules, (n.0, (search rules, tt))), (search rules, (n.1, (search rules, tt))))
AllLack-op_parts (Unmake name) h = let n = lacks_both_name name h in ((search rules, (n.0, tt)), (search rules, (n.1, tt)))
AllLack-op_parts (Put name key value) h =
    let n = lacks_both_name name h.0 in
    let k = lacks_both_key key h.1 in
    let v = lacks_both_value value h.2 in
    ((search rules, (n.0, (k.0, (v.0, tt)))), (search rules, (n.1, (k.1, (v.1, tt)))))
AllLack-op_parts (Del name key) h =
    let n = lacks_both_name name h.0 in
    let k = lacks_both_key key h.1 in
    ((search rules, (n.0, (k.0, tt))), (search rules, (n.1, (k.1, tt))))
AllLack-op_parts (Push name value) h =
    let n = lacks_both_name name h.0 in
    let v = lacks_both_value value h.1 in
    ((search rules, (n.0, (v.0, tt))), (search rules, (n.1, (v.1, tt))))
AllLack-op_parts (Pop name) h = let n = lacks_both_name name h in ((search rules, (n.0, tt)), (search rules, (n.1, tt)))

pub some_parts : (op : Op) → 0 < length (op_parts op)
some_parts (Make name kind) = lit< tt
some_parts (Unmake name) = lit< tt
some_parts (Put name key value) = lit< tt
some_parts (Del name key) = lit< tt
some_parts (Push name value) = lit< tt
some_parts (Pop name) = lit< tt

pub operation : List ℕ → Op
operation word = op_from (slice_split (λ x. eqb x 58) word)

operation-op_text : (op : Op) → IsSaidOp op → operation (op_text op) ≡ op
unfolding operation
operation-op_text op h = ap op_from (parts_from_joined 58 (op_text op) (op_parts op) (some_parts op) (AllLack-op_parts op h).1 refl) ∙ op_from-op_parts op

pub operations-op_text : (ops : List Op) → AllByRecursion IsSaidOp ops → map operation (map op_text ops) ≡ ops
operations-op_text [] h = refl
operations-op_text (op ∷ ops) h = ap₂ (λ (x : Op) (xs : List Op). x ∷ xs) (operation-op_text op h.0) (operations-op_text ops h.1)

pub AllLack-op_texts : (ops : List Op) → AllByRecursion IsSaidOp ops → AllLack 32 (map op_text ops)
AllLack-op_texts [] h = tt
AllLack-op_texts (op ∷ ops) h = (Lacks-joined 32 58 (op_parts op) refl (AllLack-op_parts op h.0).0, AllLack-op_texts ops h.1)
