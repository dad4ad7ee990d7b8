-- On lists that are put in order.
use Rattle.std.proofs.Common.{◌≡◌, Bool, true, false, cond, List, [], ◌∷◌, ◌++◌, map, filter, refl, sym, ap, subst, ◌∙◌, append_assoc}
use Rattle.std.proofs.lemmas.List.{append-nil}
use Rattle.std.specs.List.{AllByRecursion}
use Rattle.rc_base.specs.declared.ids.TxnId.{TxnId}
use Rattle.txn_table.specs.declared.known.Known.{Known}
use Rattle.txn_table.specs.Commits.{txn_lt, put, put_all}
use Rattle.txn_table.specs.Tables.{Rise}
use Rattle.txn_table.proofs.Order.{lt_not_back, lt_weak}
use Rattle.txn_table.proofs.Places.{all_put, all_filter}

-- no later one is below an earlier one
abbrev pub InOrder : List Known → Type 0
InOrder [] = Unit {0}
InOrder (k ∷ ks) = AllByRecursion (λ other. txn_lt other.txn k.txn ≡ false) ks × InOrder ks

weaker : (txn : TxnId) (ks : List Known) → AllByRecursion (λ k. txn_lt txn k.txn ≡ true) ks → AllByRecursion (λ k. txn_lt k.txn txn ≡ false) ks
weaker txn [] h = tt
weaker txn (k ∷ ks) h = (lt_not_back txn k.txn h.0, weaker txn ks h.1)

pub order_from_rise : (ks : List Known) → Rise ks → InOrder ks
order_from_rise [] h = tt
order_from_rise (k ∷ ks) h = (weaker k.txn ks h.0, order_from_rise ks h.1)

above_all : (a b : TxnId) (ks : List Known) → txn_lt a b ≡ true → AllByRecursion (λ k. txn_lt k.txn b ≡ false) ks → AllByRecursion (λ k. txn_lt a k.txn ≡ true) ks
above_all a b [] e h = tt
above_all a b (k ∷ ks) e h = (lt_weak a b k.txn e h.0, above_all a b ks e h.1)

order_step : (k o : Known) (ks : List Known) → InOrder (o ∷ ks) → InOrder (put k ks) → (b : Bool) → txn_lt k.txn o.txn ≡ b → InOrder (cond b (k ∷ o ∷ ks) (o ∷ put k ks))
order_step k o ks h ih true e = (weaker k.txn (o ∷ ks) (e, above_all k.txn o.txn ks e h.0), h)
order_step k o ks h ih false e = (all_put (λ other. txn_lt other.txn o.txn ≡ false) k ks e h.0, ih)

pub order_put : (k : Known) (ks : List Known) → InOrder ks → InOrder (put k ks)
order_put k [] h = (tt, tt)
order_put k (o ∷ ks) h = order_step k o ks h (order_put k ks h.1) (txn_lt k.txn o.txn) refl

pub order_put_all : (acc ks : List Known) → InOrder acc → InOrder (put_all acc ks)
order_put_all acc [] h = h
order_put_all acc (k ∷ ks) h = order_put_all (put k acc) ks (order_put k acc h)

pub order_filter : (p : Known → Bool) (ks : List Known) → InOrder ks → InOrder (filter p ks)
order_filter p [] h = tt
order_filter p (k ∷ ks) h = elim (p k) as (λ b. InOrder (cond b (k ∷ filter p ks) (filter p ks))) [ true ↦ (all_filter (λ o. txn_lt o.txn k.txn ≡ false) p ks h.0, order_filter p ks h.1) | false ↦ order_filter p ks h.1 ]

not_below_map : (f : Known → Known) → ((k : Known) → (f k).txn ≡ k.txn) → (txn : TxnId) (ks : List Known) → AllByRecursion (λ k. txn_lt k.txn txn ≡ false) ks → AllByRecursion (λ k. txn_lt k.txn txn ≡ false) (map f ks)
not_below_map f e txn [] h = tt
not_below_map f e txn (k ∷ ks) h = (subst (λ (t : TxnId). txn_lt t txn ≡ false) (sym (e k)) h.0, not_below_map f e txn ks h.1)

pub order_map : (f : Known → Known) → ((k : Known) → (f k).txn ≡ k.txn) → (ks : List Known) → InOrder ks → InOrder (map f ks)
order_map f e [] h = tt
order_map f e (k ∷ ks) h = (subst (λ (t : TxnId). AllByRecursion (λ (o : Known). txn_lt o.txn t ≡ false) (map f ks)) (sym (e k)) (not_below_map f e k.txn ks h.0), order_map f e ks h.1)

-- ---- a filter of what is put in order

put_front : (k : Known) (ks : List Known) → AllByRecursion (λ o. txn_lt k.txn o.txn ≡ true) ks → put k ks ≡ k ∷ ks
put_front k [] h = refl
put_front k (o ∷ ks) h = rw h.0 refl

filter_step : (p : Known → Bool) (k o : Known) (ks : List Known) → InOrder (o ∷ ks) → filter p (put k ks) ≡ cond (p k) (put k (filter p ks)) (filter p ks) → (b : Bool) → txn_lt k.txn o.txn ≡ b → (c : Bool) → p k ≡ c → (d : Bool) → p o ≡ d → filter p (cond b (k ∷ o ∷ ks) (o ∷ put k ks)) ≡ cond (p k) (put k (filter p (o ∷ ks))) (filter p (o ∷ ks))
filter_step p k o ks h ih true e true u d v =
    let f = put_front k (filter p (o ∷ ks)) (all_filter (λ x. txn_lt k.txn x.txn ≡ true) p (o ∷ ks) (e, above_all k.txn o.txn ks e h.0)) in
    rw u (sym f)
filter_step p k o ks h ih true e false u d v = rw u refl
filter_step p k o ks h ih false e true u true v = rw (u, v, e) (ap (λ xs. o ∷ xs) (rw u at ih))
filter_step p k o ks h ih false e true u false v = rw (u, v) (rw u at ih)
filter_step p k o ks h ih false e false u true v = rw (u, v) (ap (λ xs. o ∷ xs) (rw u at ih))
filter_step p k o ks h ih false e false u false v = rw (u, v) (rw u at ih)

one_left : (p : Known → Bool) (k : Known) (b : Bool) → p k ≡ b → filter p (k ∷ []) ≡ cond (p k) (k ∷ []) []
one_left p k true e = rw e refl
one_left p k false e = rw e refl

pub filter_put : (p : Known → Bool) (k : Known) (ks : List Known) → InOrder ks → filter p (put k ks) ≡ cond (p k) (put k (filter p ks)) (filter p ks)
filter_put p k [] h = one_left p k (p k) refl
filter_put p k (o ∷ ks) h = filter_step p k o ks h (filter_put p k ks h.1) (txn_lt k.txn o.txn) refl (p k) refl (p o) refl

filter_all_step : (p : Known → Bool) (k : Known) (acc ks : List Known) (b : Bool) → p k ≡ b → put_all (cond (p k) (put k (filter p acc)) (filter p acc)) (filter p ks) ≡ put_all (filter p acc) (filter p (k ∷ ks))
filter_all_step p k acc ks true e = rw e refl
filter_all_step p k acc ks false e = rw e refl

pub filter_put_all : (p : Known → Bool) (acc ks : List Known) → InOrder acc → filter p (put_all acc ks) ≡ put_all (filter p acc) (filter p ks)
filter_put_all p acc [] h = refl
filter_put_all p acc (k ∷ ks) h =
    filter_put_all p (put k acc) ks (order_put k acc h)
    ∙ ap (λ (xs : List Known). put_all xs (filter p ks)) (filter_put p k acc h)
    ∙ filter_all_step p k acc ks (p k) refl

-- ---- a change of what is put in order

map_step : (f : Known → Known) → ((k : Known) → (f k).txn ≡ k.txn) → (k o : Known) (ks : List Known) → map f (put k ks) ≡ put (f k) (map f ks) → (b : Bool) → txn_lt k.txn o.txn ≡ b → map f (cond b (k ∷ o ∷ ks) (o ∷ put k ks)) ≡ cond b (f k ∷ f o ∷ map f ks) (f o ∷ put (f k) (map f ks))
map_step f e k o ks ih true h = refl
map_step f e k o ks ih false h = ap (λ xs. f o ∷ xs) ih

pub map_put : (f : Known → Known) → ((k : Known) → (f k).txn ≡ k.txn) → (k : Known) (ks : List Known) → map f (put k ks) ≡ put (f k) (map f ks)
map_put f e k [] = refl
map_put f e k (o ∷ ks) =
    let same : txn_lt (f k).txn (f o).txn ≡ txn_lt k.txn o.txn = ap (λ (t : TxnId). txn_lt t (f o).txn) (e k) ∙ ap (λ (t : TxnId). txn_lt k.txn t) (e o) in
    map_step f e k o ks (map_put f e k ks) (txn_lt k.txn o.txn) refl
    ∙ ap (λ b. cond b (f k ∷ f o ∷ map f ks) (f o ∷ put (f k) (map f ks))) (sym same)

pub map_put_all : (f : Known → Known) → ((k : Known) → (f k).txn ≡ k.txn) → (acc ks : List Known) → map f (put_all acc ks) ≡ put_all (map f acc) (map f ks)
map_put_all f e acc [] = refl
map_put_all f e acc (k ∷ ks) = map_put_all f e (put k acc) ks ∙ ap (λ (xs : List Known). put_all xs (map f ks)) (map_put f e k acc)

pub put_all_append : (acc xs ys : List Known) → put_all acc (xs ++ ys) ≡ put_all (put_all acc xs) ys
put_all_append acc [] ys = refl
put_all_append acc (k ∷ xs) ys = put_all_append (put k acc) xs ys

-- ---- what is in order already

put_last : (k : Known) (ks : List Known) → AllByRecursion (λ o. txn_lt k.txn o.txn ≡ false) ks → put k ks ≡ ks ++ k ∷ []
put_last k [] h = refl
put_last k (o ∷ ks) h = rw h.0 (ap (λ xs. o ∷ xs) (put_last k ks h.1))

at_middle : (P : Known → Type 0) (xs : List Known) (k : Known) (ys : List Known) → AllByRecursion P (xs ++ k ∷ ys) → P k
at_middle P [] k ys h = h.0
at_middle P (x ∷ xs) k ys h = at_middle P xs k ys h.1

before_middle : (xs : List Known) (k : Known) (ys : List Known) → InOrder (xs ++ k ∷ ys) → AllByRecursion (λ o. txn_lt k.txn o.txn ≡ false) xs
before_middle [] k ys h = tt
before_middle (x ∷ xs) k ys h = (at_middle (λ o. txn_lt o.txn x.txn ≡ false) xs k ys h.0, before_middle xs k ys h.1)

put_all_behind : (xs ys : List Known) → InOrder (xs ++ ys) → put_all xs ys ≡ xs ++ ys
put_all_behind xs [] h = sym (append-nil xs)
put_all_behind xs (k ∷ ys) h =
    let again : (xs ++ k ∷ []) ++ ys ≡ xs ++ k ∷ ys = append_assoc xs (k ∷ []) ys in
    ap (λ (zs : List Known). put_all zs ys) (put_last k xs (before_middle xs k ys h))
    ∙ put_all_behind (xs ++ k ∷ []) ys (subst InOrder (sym again) h)
    ∙ again

pub put_all_same : (ks : List Known) → InOrder ks → put_all [] ks ≡ ks
put_all_same ks h = put_all_behind [] ks h
