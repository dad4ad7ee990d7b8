-- On the place of a transaction among rising ones.
use Rattle.std.proofs.Common.{◌≡◌, ℕ, zero, suc, ◌<◌, ◌≤◌, Bool, true, false, cond, List, [], ◌∷◌, length, map, set, get_or, filter, Option, Some, None, refl, sym, ap, subst, ◌∙◌, arith}
use Rattle.std.specs.List.{AllByRecursion, AllWithin, slice_get, insert}
use Rattle.std.specs.List.Sorted.{IsPartitionedBy}
use Rattle.std.proofs.lemmas.Bool.Decides.{nat_tests}
use Rattle.rc_base.specs.declared.ids.TxnId.{TxnId}
use Rattle.txn_table.specs.declared.known.Known.{Known}
use Rattle.rc_base.specs.Ids.{is_txn}
use Rattle.rc_base.proofs.SameIds.{is_txn_flip}
use Rattle.txn_table.specs.Commits.{txn_lt, put, with_txn}
use Rattle.txn_table.specs.Tables.{Rise, place}
use Rattle.txn_table.proofs.Order.{lt_not_txn, lt_not_same, lt_not_back, lt_back, lt_trans}

-- ---- from a binary search

pub place_from : (txn : TxnId) (ks : List Known) (i : ℕ) → i ≤ length ks → AllWithin (λ k. txn_lt k.txn txn ≡ true) ks 0 i → AllWithin (λ k. txn_lt k.txn txn ≡ false) ks i (length ks) → i ≡ place txn ks
place_from txn [] i le a b = omega arith
place_from txn (k ∷ ks) zero le a b = let e : txn_lt k.txn txn ≡ false = b 0 k (omega arith) (omega arith) in rw e refl
place_from txn (k ∷ ks) (suc j) le a b =
    let e : txn_lt k.txn txn ≡ true = a 0 k (omega arith) (omega arith) in
    let h : j ≡ place txn ks = place_from txn ks j (omega arith) (λ m d l u. a (suc m) d (omega arith) (omega arith)) (λ m d l u. b (suc m) d (omega arith) (omega arith)) in
    rw e (ap suc h)

all_at : (P : Known → Type 0) (ks : List Known) (j : ℕ) (d : Known) → AllByRecursion P ks → j < length ks → P (get_or ks j d)
all_at P [] j d h lt = absurd (omega arith)
all_at P (k ∷ ks) zero d h lt = h.0
all_at P (k ∷ ks) (suc j) d h lt = all_at P ks j d h.1 (omega arith)

pub partitioned : (txn : TxnId) (ks : List Known) → Rise ks → IsPartitionedBy (λ k. txn_lt k.txn txn) ks
partitioned txn [] h i j d le lt e = absurd (omega arith)
partitioned txn (k ∷ ks) h zero zero d le lt e = e
partitioned txn (k ∷ ks) h zero (suc j) d le lt e = lt_trans k.txn (get_or ks j d).txn txn (all_at (λ other. txn_lt k.txn other.txn ≡ true) ks j d h.0 (omega arith)) e
partitioned txn (k ∷ ks) h (suc i) zero d le lt e = absurd (omega arith)
partitioned txn (k ∷ ks) h (suc i) (suc j) d le lt e = partitioned txn ks h.1 i j d (omega arith) (omega arith) e

-- ---- what stands at the place

-- a transaction, if it is this one
abbrev pub if_same : TxnId → Option Known → Option Known
if_same txn None = None
if_same txn (Some k) = cond (is_txn k.txn txn) (Some k) None

none_above : (txn : TxnId) (ks : List Known) → AllByRecursion (λ k. txn_lt txn k.txn ≡ true) ks → with_txn txn ks ≡ None
none_above txn [] h = refl
none_above txn (k ∷ ks) h = let e : is_txn k.txn txn ≡ false = lt_not_same txn k.txn h.0 in rw e (none_above txn ks h.1)

all_above : (a b : TxnId) (ks : List Known) → txn_lt a b ≡ true → AllByRecursion (λ k. txn_lt b k.txn ≡ true) ks → AllByRecursion (λ k. txn_lt a k.txn ≡ true) ks
all_above a b [] e h = tt
all_above a b (k ∷ ks) e h = (lt_trans a b k.txn e h.0, all_above a b ks e h.1)

found_step : (txn : TxnId) (k : Known) (ks : List Known) → Rise (k ∷ ks) → with_txn txn ks ≡ if_same txn (slice_get ks (place txn ks)) → (b : Bool) → txn_lt k.txn txn ≡ b → (s : Bool) → is_txn k.txn txn ≡ s → cond (is_txn k.txn txn) (Some k) (with_txn txn ks) ≡ if_same txn (slice_get (k ∷ ks) (cond b (suc (place txn ks)) 0))
found_step txn k ks h ih true e s t = let n : is_txn k.txn txn ≡ false = lt_not_txn k.txn txn e in rw n ih
found_step txn k ks h ih false e true t = rw t refl
found_step txn k ks h ih false e false t = rw t (none_above txn ks (all_above txn k.txn ks (lt_back k.txn txn e t) h.0))

pub found : (txn : TxnId) (ks : List Known) → Rise ks → with_txn txn ks ≡ if_same txn (slice_get ks (place txn ks))
found txn [] h = refl
found txn (k ∷ ks) h = found_step txn k ks h (found txn ks h.1) (txn_lt k.txn txn) refl (is_txn k.txn txn) refl

-- ---- a change of the one at its place

same_above : (f : Known → Known) (txn : TxnId) → ((k : Known) → is_txn txn k.txn ≡ false → f k ≡ k) → (ks : List Known) → AllByRecursion (λ k. txn_lt txn k.txn ≡ true) ks → map f ks ≡ ks
same_above f txn g [] h = refl
same_above f txn g (k ∷ ks) h = rw (g k (lt_not_txn txn k.txn h.0), same_above f txn g ks h.1) refl

lt_from_same : (a b c : TxnId) → is_txn a b ≡ true → txn_lt a c ≡ true → txn_lt b c ≡ true
lt_from_same a b c e h = grind (arith, nat_tests)

above_same : (a b : TxnId) → is_txn a b ≡ true → (ks : List Known) → AllByRecursion (λ k. txn_lt a k.txn ≡ true) ks → AllByRecursion (λ k. txn_lt b k.txn ≡ true) ks
above_same a b e [] h = tt
above_same a b e (k ∷ ks) h = (lt_from_same a b k.txn e h.0, above_same a b e ks h.1)

some_is : (a b : Known) → Some a ≡ Some b → a ≡ b
some_is a b e = cc

changed_step : (f : Known → Known) (txn : TxnId) (g : (o : Known) → is_txn txn o.txn ≡ false → f o ≡ o) (k o : Known) (ks : List Known) → Rise (o ∷ ks) → is_txn k.txn txn ≡ true → (slice_get ks (place txn ks) ≡ Some k → map f ks ≡ set ks (place txn ks) (f k)) → (b : Bool) → txn_lt o.txn txn ≡ b → slice_get (o ∷ ks) (cond b (suc (place txn ks)) 0) ≡ Some k → f o ∷ map f ks ≡ set (o ∷ ks) (cond b (suc (place txn ks)) 0) (f k)
changed_step f txn g k o ks h s ih true e at =
    let n : f o ≡ o = g o (lt_not_same o.txn txn e) in
    rw (n, ih at) refl
changed_step f txn g k o ks h s ih false e at =
    let n : o ≡ k = some_is o k at in
    let sk : is_txn o.txn txn ≡ true = subst (λ (x : Known). is_txn x.txn txn ≡ true) (sym n) s in
    let rest : map f ks ≡ ks = same_above f txn g ks (above_same o.txn txn sk ks h.0) in
    subst (λ (x : Known). f o ∷ map f ks ≡ f x ∷ ks) n (rw rest refl)

-- a change of one transaction alone is a write at its place
pub changed : (f : Known → Known) (txn : TxnId) → ((o : Known) → is_txn txn o.txn ≡ false → f o ≡ o) → (k : Known) (ks : List Known) → Rise ks → is_txn k.txn txn ≡ true → slice_get ks (place txn ks) ≡ Some k → map f ks ≡ set ks (place txn ks) (f k)
changed f txn g k [] h s at = absurd (cc)
changed f txn g k (o ∷ ks) h s at = changed_step f txn g k o ks h s (changed f txn g k ks h.1 s) (txn_lt o.txn txn) refl at

-- ---- one more at its place

not_first : (txn : TxnId) (k : Known) (ks : List Known) → with_txn txn (k ∷ ks) ≡ None → (b : Bool) → is_txn k.txn txn ≡ b → (b ≡ false) × (with_txn txn ks ≡ None)
not_first txn k ks h true e = let n : with_txn txn (k ∷ ks) ≡ Some k = rw e refl in absurd (cc)
not_first txn k ks h false e = (refl, rw e at h)

put_step : (k o : Known) (ks : List Known) → is_txn o.txn k.txn ≡ false → put k ks ≡ insert ks (place k.txn ks) k → (b : Bool) → txn_lt o.txn k.txn ≡ b → cond (txn_lt k.txn o.txn) (k ∷ o ∷ ks) (o ∷ put k ks) ≡ insert (o ∷ ks) (cond b (suc (place k.txn ks)) 0) k
put_step k o ks n ih true e = let b : txn_lt k.txn o.txn ≡ false = lt_not_back o.txn k.txn e in rw (b, ih) refl
put_step k o ks n ih false e = let b : txn_lt k.txn o.txn ≡ true = lt_back o.txn k.txn e n in rw b refl

pub put_is : (k : Known) (ks : List Known) → with_txn k.txn ks ≡ None → put k ks ≡ insert ks (place k.txn ks) k
put_is k [] h = refl
put_is k (o ∷ ks) h = let n = not_first k.txn o ks h (is_txn o.txn k.txn) refl in put_step k o ks n.0 (put_is k ks n.1) (txn_lt o.txn k.txn) refl

pub all_put : (P : Known → Type 0) (k : Known) (ks : List Known) → P k → AllByRecursion P ks → AllByRecursion P (put k ks)
all_put P k [] p h = (p, tt)
all_put P k (o ∷ ks) p h =
    elim (txn_lt k.txn o.txn) as (λ b. AllByRecursion P (cond b (k ∷ o ∷ ks) (o ∷ put k ks))) [
      | true ↦ (p, h)
      | false ↦ (h.0, all_put P k ks p h.1)
    ]

rise_step : (k o : Known) (ks : List Known) → Rise (o ∷ ks) → is_txn o.txn k.txn ≡ false → Rise (put k ks) → (b : Bool) → txn_lt k.txn o.txn ≡ b → Rise (cond b (k ∷ o ∷ ks) (o ∷ put k ks))
rise_step k o ks h n ih true e = ((e, all_above k.txn o.txn ks e h.0), h)
rise_step k o ks h n ih false e = (all_put (λ other. txn_lt o.txn other.txn ≡ true) k ks (lt_back k.txn o.txn e (is_txn_flip k.txn o.txn ∙ n)) h.0, ih)

pub rise_put : (k : Known) (ks : List Known) → Rise ks → with_txn k.txn ks ≡ None → Rise (put k ks)
rise_put k [] h n = (tt, tt)
rise_put k (o ∷ ks) h none = let n = not_first k.txn o ks none (is_txn o.txn k.txn) refl in rise_step k o ks h n.0 (rise_put k ks h.1 n.1) (txn_lt k.txn o.txn) refl

all_map : (f : Known → Known) → ((k : Known) → (f k).txn ≡ k.txn) → (txn : TxnId) (ks : List Known) → AllByRecursion (λ k. txn_lt txn k.txn ≡ true) ks → AllByRecursion (λ k. txn_lt txn k.txn ≡ true) (map f ks)
all_map f e txn [] h = tt
all_map f e txn (k ∷ ks) h = (subst (λ (t : TxnId). txn_lt txn t ≡ true) (sym (e k)) h.0, all_map f e txn ks h.1)

-- what changes no transaction's number keeps their order
pub rise_map : (f : Known → Known) → ((k : Known) → (f k).txn ≡ k.txn) → (ks : List Known) → Rise ks → Rise (map f ks)
rise_map f e [] h = tt
rise_map f e (k ∷ ks) h = (subst (λ (t : TxnId). AllByRecursion (λ (o : Known). txn_lt t o.txn ≡ true) (map f ks)) (sym (e k)) (all_map f e k.txn ks h.0), rise_map f e ks h.1)

pub all_filter : (P : Known → Type 0) (p : Known → Bool) (ks : List Known) → AllByRecursion P ks → AllByRecursion P (filter p ks)
all_filter P p [] h = tt
all_filter P p (k ∷ ks) h = elim (p k) as (λ b. AllByRecursion P (cond b (k ∷ filter p ks) (filter p ks))) [ true ↦ (h.0, all_filter P p ks h.1) | false ↦ all_filter P p ks h.1 ]

pub rise_filter : (p : Known → Bool) (ks : List Known) → Rise ks → Rise (filter p ks)
rise_filter p [] h = tt
rise_filter p (k ∷ ks) h = elim (p k) as (λ b. Rise (cond b (k ∷ filter p ks) (filter p ks))) [ true ↦ (all_filter (λ o. txn_lt k.txn o.txn ≡ true) p ks h.0, rise_filter p ks h.1) | false ↦ rise_filter p ks h.1 ]

pub known_here : (txn : TxnId) (ks : List Known) (at : ℕ) (k : Known) → Rise ks → at ≡ place txn ks → slice_get ks at ≡ Some k → is_txn k.txn txn ≡ true → with_txn txn ks ≡ Some k
known_here txn ks at k h e g s =
    found txn ks h
    ∙ ap (λ (n : ℕ). if_same txn (slice_get ks n)) (sym e)
    ∙ ap (if_same txn) g
    ∙ ap (λ b. cond b (Some k) None) s

pub other_here : (txn : TxnId) (ks : List Known) (at : ℕ) (k : Known) → Rise ks → at ≡ place txn ks → slice_get ks at ≡ Some k → is_txn k.txn txn ≡ false → with_txn txn ks ≡ None
other_here txn ks at k h e g s =
    found txn ks h
    ∙ ap (λ (n : ℕ). if_same txn (slice_get ks n)) (sym e)
    ∙ ap (if_same txn) g
    ∙ ap (λ b. cond b (Some k) None) s

pub none_here : (txn : TxnId) (ks : List Known) (at : ℕ) → Rise ks → at ≡ place txn ks → slice_get ks at ≡ None → with_txn txn ks ≡ None
none_here txn ks at h e g =
    found txn ks h
    ∙ ap (λ (n : ℕ). if_same txn (slice_get ks n)) (sym e)
    ∙ ap (if_same txn) g

pub place_within : (txn : TxnId) (ks : List Known) → place txn ks ≤ length ks
place_within txn [] = omega arith
place_within txn (k ∷ ks) = elim (txn_lt k.txn txn) as (λ b. cond b (suc (place txn ks)) 0 ≤ suc (length ks)) [ true ↦ omega (arith, place_within txn ks) | false ↦ omega arith ]
