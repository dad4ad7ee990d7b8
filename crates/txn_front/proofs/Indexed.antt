-- The index of operations, where one more comes.
use Rattle.std.proofs.Common.{◌≡◌, ◌∙◌, ◌⊎◌, inl, inr, ℕ, ◌+◌, ◌<◌, ◌≤◌, max, length, List, [], ◌∷◌, ◌++◌, Bool, true, false, ◌||◌, cond, Option, Some, None, refl, sym, ap, ap₂, subst, arith}
use Rattle.std.specs.Prelude.{option_and_then, slice_get}
use Rattle.std.specs.Map.{lookup}
use Rattle.std.proofs.lemmas.Bool.{cases_lt}
use Rattle.std.proofs.Math.Nat.{max-eq_left, max-eq_right}
use Rattle.std.proofs.lemmas.List.{length-append}
use Rattle.std.proofs.lemmas.Option.{slice_get-get_or}
use Rattle.std.proofs.Math.ListN.{get_or-append}
use Rattle.std.proofs.Math.Seq.{get_or-append_seam}
use Rattle.coll_model.specs.declared.op.Op.{Op}
use Rattle.key_locks.specs.declared.lock_name.LockName.{LockName}
use Rattle.key_locks.specs.Names.{is_name}
use Rattle.key_locks.specs.Equal.{is_name_equivalence}
use Rattle.lock_laws.specs.OwnOperations.{item_of, name_in, decides, newest, or_earlier}
use Rattle.txn_front.specs.Index.{later_place, place_of, IsIndex}

abbrev Places : Type 0
Places = List (LockName × ℕ)

-- ---- the newest operation that decides an item

later_some : (b : Bool) (o : Option Op) (op last : Op) → o ≡ Some last → cond b (or_earlier o op) o ≡ Some last
later_some true o op last e = rw e refl
later_some false o op last e = e

pub newest-last : (item : LockName) (ops : List Op) (op : Op) → newest item (ops ++ op ∷ []) ≡ cond (decides item op) (Some op) (newest item ops)
newest-last item [] op = by (decides item op) refl
  where
    by : (b : Bool) → decides item op ≡ b → newest item (op ∷ []) ≡ cond (decides item op) (Some op) None
    by true e = rw e refl
    by false e = rw e refl
newest-last item (first ∷ ops) op = by (newest-last item ops op) (decides item op) refl
  where
    by : newest item (ops ++ op ∷ []) ≡ cond (decides item op) (Some op) (newest item ops) → (b : Bool) → decides item op ≡ b
        → newest item (first ∷ (ops ++ op ∷ [])) ≡ cond (decides item op) (Some op) (newest item (first ∷ ops))
    by rest true e = rw e (later_some (decides item first) (newest item (ops ++ op ∷ [])) first op (rw e at rest))
    by rest false e = rw e (ap (λ (o : Option Op). cond (decides item first) (or_earlier o first) o) (rw e at rest))

-- ---- the places

place_kept : (ops : List Op) (op : Op) (i : ℕ) → i < length ops → slice_get (ops ++ op ∷ []) i ≡ slice_get ops i
place_kept ops op i within =
    let more : i < length (ops ++ op ∷ []) = rw (length-append ops (op ∷ [])) (omega arith) in
    slice_get-get_or (ops ++ op ∷ []) i op more ∙ ap (λ (x : Op). Some x) (get_or-append ops (op ∷ []) op i within) ∙ sym (slice_get-get_or ops i op within)

place_last : (ops : List Op) (op : Op) → slice_get (ops ++ op ∷ []) (length ops) ≡ Some op
place_last ops op =
    let more : length ops < length (ops ++ op ∷ []) = rw (length-append ops (op ∷ [])) (omega arith) in
    slice_get-get_or (ops ++ op ∷ []) (length ops) op more ∙ ap (λ (x : Op). Some x) (get_or-append_seam ops op [] op)

-- places that are none or before this one
abbrev Before : ℕ → Option ℕ → Type 0
Before n None = Unit {0}
Before n (Some place) = place < n

last_left : (n : ℕ) (b : Option ℕ) → Before (n + 1) b → later_place (Some n) b ≡ Some n
last_left n None before = refl
last_left n (Some place) before = ap (λ (m : ℕ). Some m) (max-eq_left (omega (arith, before)))

last_right : (n : ℕ) (a : Option ℕ) → Before (n + 1) a → later_place a (Some n) ≡ Some n
last_right n None before = refl
last_right n (Some place) before = ap (λ (m : ℕ). Some m) (max-eq_right (omega (arith, before)))

later_before : (n : ℕ) (a b : Option ℕ) → Before n a → Before n b → Before n (later_place a b)
later_before n None b h k = k
later_before n (Some a) None h k = h
later_before n (Some a) (Some b) h k = by (cases_lt a b)
  where
    by : (a < b) ⊎ (b ≤ a) → max a b < n
    by (inl less) = let most : a ≤ b = omega (arith, less) in subst (λ (m : ℕ). m < n) (sym (max-eq_right most)) k
    by (inr most) = subst (λ (m : ℕ). m < n) (sym (max-eq_left most)) h

-- one more operation, whose item has its place
pub index_more : (ops : List Op) (places new : Places) (op : Op) → IsIndex ops places
    → ((q : LockName) → lookup (is_name q) new ≡ cond (is_name (item_of op) q) (Some (length ops)) (lookup (is_name q) places)) → IsIndex (ops ++ op ∷ []) new
index_more ops places new op index changes = record {
  newest = λ item. looked item (is_name (item_of op) item) refl (is_name (item_of op) (name_in item)) refl;
  within = λ item place at. subst (Before (length (ops ++ op ∷ []))) at (rw length_more (before_new item));
}
  where
    length_more : length (ops ++ op ∷ []) ≡ length ops + 1
    length_more = length-append ops (op ∷ [])

    before_old : (item : LockName) → Before (length ops) (lookup (is_name item) places)
    before_old item = by (lookup (is_name item) places) refl
      where
        by : (o : Option ℕ) → lookup (is_name item) places ≡ o → Before (length ops) o
        by None at = tt
        by (Some place) at = index.within item place at

    weaker : (o : Option ℕ) → Before (length ops) o → Before (length ops + 1) o
    weaker None h = tt
    weaker (Some place) h = omega (arith, h)

    at_new : (item : LockName) → is_name (item_of op) item ≡ true → lookup (is_name item) new ≡ Some (length ops)
    at_new item e = changes item ∙ rw e refl

    at_old : (item : LockName) → is_name (item_of op) item ≡ false → lookup (is_name item) new ≡ lookup (is_name item) places
    at_old item e = changes item ∙ rw e refl

    before_new : (item : LockName) → Before (length ops + 1) (lookup (is_name item) new)
    before_new item = by (is_name (item_of op) item) refl
      where
        by : (b : Bool) → is_name (item_of op) item ≡ b → Before (length ops + 1) (lookup (is_name item) new)
        by true e = let last : length ops < length ops + 1 = omega arith in subst (Before (length ops + 1)) (sym (at_new item e)) last
        by false e = subst (Before (length ops + 1)) (sym (at_old item e)) (weaker (lookup (is_name item) places) (before_old item))

    kept : (o : Option ℕ) → Before (length ops) o → option_and_then (slice_get (ops ++ op ∷ [])) o ≡ option_and_then (slice_get ops) o
    kept None h = refl
    kept (Some i) h = place_kept ops op i h

    decided : (item : LockName) → decides item op ≡ true → place_of new item ≡ Some (length ops) → option_and_then (slice_get (ops ++ op ∷ [])) (place_of new item) ≡ newest item (ops ++ op ∷ [])
    decided item e at = ap (option_and_then (slice_get (ops ++ op ∷ []))) at ∙ place_last ops op ∙ sym (newest-last item ops op ∙ rw e refl)

    looked : (item : LockName) (b : Bool) → is_name (item_of op) item ≡ b → (c : Bool) → is_name (item_of op) (name_in item) ≡ c
        → option_and_then (slice_get (ops ++ op ∷ [])) (place_of new item) ≡ newest item (ops ++ op ∷ [])
    looked item true e c f =
        decided item (ap (λ (x : Bool). x || is_name (name_in item) (item_of op)) (is_name_equivalence.symm item (item_of op) ∙ e))
        (ap (λ (o : Option ℕ). later_place o (lookup (is_name (name_in item)) new)) (at_new item e) ∙ last_left (length ops) (lookup (is_name (name_in item)) new) (before_new (name_in item)))
    looked item false e true f =
        decided item
        (ap₂ (λ (x y : Bool). x || y) (is_name_equivalence.symm item (item_of op) ∙ e) (is_name_equivalence.symm (name_in item) (item_of op) ∙ f))
        (ap (later_place (lookup (is_name item) new)) (at_new (name_in item) f) ∙ last_right (length ops) (lookup (is_name item) new) (before_new item))
    looked item false e false f =
        let passed : decides item op ≡ false =
        ap₂ (λ (x y : Bool). x || y) (is_name_equivalence.symm item (item_of op) ∙ e) (is_name_equivalence.symm (name_in item) (item_of op) ∙ f) in
        ap (option_and_then (slice_get (ops ++ op ∷ []))) (ap₂ later_place (at_old item e) (at_old (name_in item) f))
        ∙ kept (place_of places item) (later_before (length ops) (lookup (is_name item) places) (lookup (is_name (name_in item)) places) (before_old item) (before_old (name_in item)))
        ∙ index.newest item ∙ sym (newest-last item ops op ∙ rw passed refl)

-- the same, in the steps of the code
pub indexed_more : (ops more : List Op) (places reserved new : Places) (op : Op) (item : LockName) (place : ℕ) → IsIndex ops places → more ≡ ops ++ op ∷ []
    → reserved ≡ places → item ≡ item_of op → place ≡ length ops
    → ((q : LockName) → lookup (is_name q) new ≡ cond (is_name item q) (Some place) (lookup (is_name q) reserved)) → IsIndex more new
indexed_more ops more places reserved new op item place index e f g h changes =
    subst (λ (all : List Op). IsIndex all new) (sym e) (index_more ops places new op index (λ q. changes q ∙ rw (f, g, h) refl))
