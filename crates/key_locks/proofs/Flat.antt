-- What a table of rows says of the list of its grants.
use Rattle.std.proofs.Common.{◌≡◌, ◌∙◌, ℕ, ◌+◌, ◌<◌, length, take, get_or, List, [], ◌∷◌, ◌++◌, Bool, true, false, cond, ◌||◌, Option, Some, None, refl, sym, ap, subst, ◌⊎◌, inl, inr, find, is_some}
use Rattle.std.specs.List.{list_any, IsDistinct, AllByRecursion}
use Rattle.std.specs.Map.{keys_of}
use Rattle.std.specs.Option.{option_map}
use Rattle.std.proofs.lemmas.Bool.{false_from_ne_true}
use Rattle.std.proofs.lemmas.List.{append-nil, take_more}
use Rattle.std.proofs.lemmas.List.Folds.{list_any-append}
use Rattle.rc_base.specs.declared.ids.TxnId.{TxnId}
use Rattle.key_locks.specs.declared.lock_name.LockName.{LockName}
use Rattle.key_locks.specs.declared.lock_mode.LockMode.{LockMode}
use Rattle.key_locks.specs.declared.holders.Holder.{Holder}
use Rattle.rc_base.specs.Ids.{is_txn}
use Rattle.key_locks.specs.Names.{is_name}
use Rattle.rc_base.proofs.SameIds.{is_txn-true, is_txn_same}
use Rattle.key_locks.specs.Equal.{is_name-true, is_name_same, is_name_equivalence}
use Rattle.key_locks.specs.Grants.{Grant, is_holder, stands_against, holders, conflict, mode_in, granted, released, Alike}
use Rattle.key_locks.specs.Laws.{AlikeAnswerAlike, AlikeAfterGrant, AlikeAfterRelease}
use Rattle.key_locks.specs.Table.{granted_in, others, row, RowChanges, RowsLeft, grants_of, all_grants, noted, NotedChanges, AllNoted, IsTable}
use Rattle.key_locks.proofs.OneRow.{in_granted, in_others, left_out, others_all, none_in}

abbrev Rows : Type 0
Rows = List (LockName × List Holder)

abbrev Held : Type 0
Held = List (TxnId × List LockName)

-- ---- the holders of a name are its row

holders-append : (name : LockName) (a b : List Grant) → holders name (a ++ b) ≡ holders name a ++ holders name b
holders-append name [] b = refl
holders-append name (g ∷ a) b = by (holders-append name a b) (is_name name g.name) refl
  where
    by : holders name (a ++ b) ≡ holders name a ++ holders name b → (q : Bool) → is_name name g.name ≡ q → holders name (g ∷ (a ++ b)) ≡ holders name (g ∷ a) ++ holders name b
    by ih true e = rw e (ap (λ (hs : List Holder). record { txn = g.txn; mode = g.mode } ∷ hs) ih)
    by ih false e = rw e ih

of_one : (name other : LockName) (hs : List Holder) → is_name name other ≡ true → holders name (grants_of other hs) ≡ hs
of_one name other [] e = refl
of_one name other (h ∷ hs) e = rw e (ap (λ rest. h ∷ rest) (of_one name other hs e))

of_another : (name other : LockName) (hs : List Holder) → is_name name other ≡ false → holders name (grants_of other hs) ≡ []
of_another name other [] e = refl
of_another name other (h ∷ hs) e = rw e (of_another name other hs e)

of_absent : (name : LockName) (rows : Rows) → AllByRecursion (λ key. is_name name key ≡ false) (keys_of rows) → holders name (all_grants rows) ≡ []
of_absent name [] h = refl
of_absent name (r ∷ rows) h = holders-append name (grants_of r.0 r.1) (all_grants rows) ∙ rw (of_another name r.0 r.1 h.0) (of_absent name rows h.1)

pub holders_row : (name : LockName) (rows : Rows) → IsDistinct is_name (keys_of rows) → holders name (all_grants rows) ≡ row rows name
unfolding IsDistinct
holders_row name [] d = refl
holders_row name (r ∷ rows) d = holders-append name (grants_of r.0 r.1) (all_grants rows) ∙ by d.0 (holders_row name rows d.1) (is_name name r.0) refl
  where
    by : AllByRecursion (λ key. is_name r.0 key ≡ false) (keys_of rows) → holders name (all_grants rows) ≡ row rows name → (q : Bool) → is_name name r.0 ≡ q → holders name (grants_of r.0 r.1) ++ holders name (all_grants rows) ≡ row (r ∷ rows) name
    by apart ih true e =
        let same : name ≡ r.0 = is_name-true name r.0 e in
        let P : LockName → Type 0 = λ n. AllByRecursion (λ key. is_name n key ≡ false) (keys_of rows) in
        rw (of_one name r.0 r.1 e, of_absent name rows (subst P (sym same) apart), e) (append-nil r.1)
    by apart ih false e = rw (of_another name r.0 r.1 e, e) ih

-- ---- grants, row by row

pub granted_here : (name : LockName) (grants : List Grant) (txn : TxnId) (mode : LockMode) → holders name (granted grants txn name mode) ≡ granted_in (holders name grants) txn mode
granted_here name [] txn mode = rw (is_name_same name) refl
granted_here name (g ∷ gs) txn mode = by (granted_here name gs txn mode) (is_txn txn g.txn) (is_name name g.name) refl refl
  where
    by : holders name (granted gs txn name mode) ≡ granted_in (holders name gs) txn mode → (p q : Bool) → is_txn txn g.txn ≡ p → is_name name g.name ≡ q → holders name (granted (g ∷ gs) txn name mode) ≡ granted_in (holders name (g ∷ gs)) txn mode
    by ih true true e f = rw (e, f, f, e) refl
    by ih true false e f = rw (e, f, f) ih
    by ih false true e f = rw (e, f, e) (ap (λ (hs : List Holder). record { txn = g.txn; mode = g.mode } ∷ hs) ih)
    by ih false false e f = rw (e, f) ih

pub granted_elsewhere : (other name : LockName) (grants : List Grant) (txn : TxnId) (mode : LockMode) → is_name other name ≡ false → holders other (granted grants txn name mode) ≡ holders other grants
granted_elsewhere other name [] txn mode apart = rw apart refl
granted_elsewhere other name (g ∷ gs) txn mode apart = by (granted_elsewhere other name gs txn mode apart) (is_txn txn g.txn) (is_name name g.name) refl refl
  where
    kept : holders other (granted gs txn name mode) ≡ holders other gs → (b : Bool) → is_name other g.name ≡ b → holders other (g ∷ granted gs txn name mode) ≡ holders other (g ∷ gs)
    kept ih true e = rw e (ap (λ (hs : List Holder). record { txn = g.txn; mode = g.mode } ∷ hs) ih)
    kept ih false e = rw e ih

    by : holders other (granted gs txn name mode) ≡ holders other gs → (p q : Bool) → is_txn txn g.txn ≡ p → is_name name g.name ≡ q → holders other (granted (g ∷ gs) txn name mode) ≡ holders other (g ∷ gs)
    by ih true true e f =
        let same : name ≡ g.name = is_name-true name g.name f in
        let off : is_name other g.name ≡ false = subst (λ (n : LockName). is_name other n ≡ false) same apart in
        rw (e, f, off) refl
    by ih true false e f = rw (e, f) (kept ih (is_name other g.name) refl)
    by ih false q e f = rw e (kept ih (is_name other g.name) refl)

pub released_holders : (name : LockName) (grants : List Grant) (txn : TxnId) → holders name (released grants txn) ≡ others txn (holders name grants)
released_holders name [] txn = refl
released_holders name (g ∷ gs) txn = by (released_holders name gs txn) (is_txn txn g.txn) (is_name name g.name) refl refl
  where
    by : holders name (released gs txn) ≡ others txn (holders name gs) → (p q : Bool) → is_txn txn g.txn ≡ p → is_name name g.name ≡ q → holders name (released (g ∷ gs) txn) ≡ others txn (holders name (g ∷ gs))
    by ih true true e f = rw (e, f, e) ih
    by ih true false e f = rw (e, f) ih
    by ih false true e f = rw (e, f, e) (ap (λ (hs : List Holder). record { txn = g.txn; mode = g.mode } ∷ hs) ih)
    by ih false false e f = rw (e, f) ih

-- ---- what the table's calls give

pub conflict_row : (rows : Rows) (txn : TxnId) (name : LockName) (mode : LockMode) → IsDistinct is_name (keys_of rows)
    → conflict (all_grants rows) txn name mode ≡ option_map (λ h. h.txn) (find (stands_against txn mode) (row rows name))
conflict_row rows txn name mode d = ap (λ (hs : List Holder). option_map (λ h. h.txn) (find (stands_against txn mode) hs)) (holders_row name rows d)

pub mode_row : (rows : Rows) (txn : TxnId) (name : LockName) → IsDistinct is_name (keys_of rows)
    → mode_in (all_grants rows) txn name ≡ option_map (λ h. h.mode) (find (is_holder txn) (row rows name))
mode_row rows txn name d = ap (λ (hs : List Holder). option_map (λ h. h.mode) (find (is_holder txn) hs)) (holders_row name rows d)

pub granted_alike : (rows new : Rows) (txn : TxnId) (name : LockName) (mode : LockMode) → IsDistinct is_name (keys_of rows) → IsDistinct is_name (keys_of new)
    → RowChanges rows new name (granted_in (row rows name) txn mode) → Alike (all_grants new) (granted (all_grants rows) txn name mode)
granted_alike rows new txn name mode d e changes = λ other. holders_row other new e ∙ changes other ∙ by other (is_name name other) refl
  where
    by : (other : LockName) (b : Bool) → is_name name other ≡ b → cond (is_name name other) (granted_in (row rows name) txn mode) (row rows other) ≡ holders other (granted (all_grants rows) txn name mode)
    by other true at =
        let same : name ≡ other = is_name-true name other at in
        let P : LockName → Type 0 = λ n. granted_in (row rows name) txn mode ≡ holders n (granted (all_grants rows) txn name mode) in
        rw at (subst P same (sym (granted_here name (all_grants rows) txn mode ∙ ap (λ (hs : List Holder). granted_in hs txn mode) (holders_row name rows d))))
    by other false at =
        rw at (sym (granted_elsewhere other name (all_grants rows) txn mode (is_name_equivalence.symm other name ∙ at) ∙ holders_row other rows d))

-- a transaction is in none of the rows that are not noted for it
false_true : {A : Type 0} → false ≡ true → A
false_true e = absurd (cc)

pub released_alike : (rows new : Rows) (held : Held) (txn : TxnId) → IsTable rows held → IsDistinct is_name (keys_of new) → RowsLeft rows new txn (noted held txn)
    → Alike (all_grants new) (released (all_grants rows) txn)
released_alike rows new held txn t e left = λ name. holders_row name new e ∙ left name ∙ by name (list_any (is_name name) (noted held txn)) refl ∙ sym (released_holders name (all_grants rows) txn ∙ ap (others txn) (holders_row name rows t.unique))
  where
    by : (name : LockName) (b : Bool) → list_any (is_name name) (noted held txn) ≡ b → cond (list_any (is_name name) (noted held txn)) (others txn (row rows name)) (row rows name) ≡ others txn (row rows name)
    by name true at = rw at refl
    by name false at =
        let absent : list_any (is_holder txn) (row rows name) ≡ false = false_from_ne_true (list_any (is_holder txn) (row rows name)) (λ there. false_true (sym at ∙ t.noted txn name there)) in
        rw at (sym (others_all txn (row rows name) absent))

pub released_table : (rows new : Rows) (held left_held : Held) (txn : TxnId) → IsTable rows held → IsDistinct is_name (keys_of new) → RowsLeft rows new txn (noted held txn)
    → NotedChanges held left_held txn [] → IsTable new left_held
released_table rows new held left_held txn t e left forgot = record {
  unique = e;
  noted = λ other name there. by other name there (is_txn txn other) refl;
}
  where
    kept : (other : TxnId) (name : LockName) (b : Bool) → list_any (is_name name) (noted held txn) ≡ b → list_any (is_holder other) (cond b (others txn (row rows name)) (row rows name)) ≡ true → list_any (is_holder other) (row rows name) ≡ true
    kept other name true at there = in_others other txn (row rows name) there
    kept other name false at there = there

    gone : (name : LockName) (b : Bool) → list_any (is_name name) (noted held txn) ≡ b → list_any (is_holder txn) (cond b (others txn (row rows name)) (row rows name)) ≡ true → ⊥
    gone name true at there = false_true (sym (left_out txn (row rows name)) ∙ there)
    gone name false at there = false_true (sym at ∙ t.noted txn name there)

    in_old : (other : TxnId) (name : LockName) → list_any (is_holder other) (row new name) ≡ true → list_any (is_holder other) (cond (list_any (is_name name) (noted held txn)) (others txn (row rows name)) (row rows name)) ≡ true
    in_old other name there = ap (list_any (is_holder other)) (sym (left name)) ∙ there

    by : (other : TxnId) (name : LockName) → list_any (is_holder other) (row new name) ≡ true → (b : Bool) → is_txn txn other ≡ b → list_any (is_name name) (noted left_held other) ≡ true
    by other name there true at =
        let P : TxnId → Type 0 = λ u. list_any (is_holder u) (row new name) ≡ true in
        absurd (gone name (list_any (is_name name) (noted held txn)) refl (in_old txn name (subst P (sym (is_txn-true txn other at)) there)))
    by other name there false at =
        let same : noted left_held other ≡ noted held other = forgot other ∙ rw at refl in
        ap (list_any (is_name name)) same ∙ t.noted other name (kept other name (list_any (is_name name) (noted held txn)) refl (in_old other name there))

-- a grant to a transaction for which the name is noted
pub granted_table : (rows new : Rows) (held : Held) (txn : TxnId) (name : LockName) (mode : LockMode) → AllNoted rows held → list_any (is_name name) (noted held txn) ≡ true
    → IsDistinct is_name (keys_of new) → RowChanges rows new name (granted_in (row rows name) txn mode) → IsTable new held
granted_table rows new held txn name mode all here e changes = record {
  unique = e;
  noted = λ t other there. by t other (is_name name other) refl (ap (list_any (is_holder t)) (sym (changes other)) ∙ there);
}
  where
    asked : (t : TxnId) → (is_txn t txn ≡ true) ⊎ (list_any (is_holder t) (row rows name) ≡ true) → list_any (is_name name) (noted held t) ≡ true
    asked t (inl same) = let P : TxnId → Type 0 = λ u. list_any (is_name name) (noted held u) ≡ true in subst P (sym (is_txn-true t txn same)) here
    asked t (inr there) = all t name there

    by : (t : TxnId) (other : LockName) (b : Bool) → is_name name other ≡ b → list_any (is_holder t) (cond (is_name name other) (granted_in (row rows name) txn mode) (row rows other)) ≡ true → list_any (is_name other) (noted held t) ≡ true
    by t other true at there =
        let P : LockName → Type 0 = λ n. list_any (is_name n) (noted held t) ≡ true in
        subst P (is_name-true name other at) (asked t (in_granted t txn mode (row rows name) (rw at at there)))
    by t other false at there = all t other (rw at at there)

any-behind : (name : LockName) (names : List LockName) (last : LockName) → list_any (is_name name) names ≡ true → list_any (is_name name) (names ++ last ∷ []) ≡ true
any-behind name [] last h = false_true h
any-behind name (x ∷ xs) last h = by (any-behind name xs last) (is_name name x) refl
  where
    by : (list_any (is_name name) xs ≡ true → list_any (is_name name) (xs ++ last ∷ []) ≡ true) → (b : Bool) → is_name name x ≡ b → (is_name name x || list_any (is_name name) (xs ++ last ∷ [])) ≡ true
    by ih true e = rw e refl
    by ih false e = rw e (ih (rw e at h))

any_last : (name : LockName) (names : List LockName) → list_any (is_name name) (names ++ name ∷ []) ≡ true
any_last name [] = rw (is_name_same name) refl
any_last name (x ∷ xs) = by (any_last name xs) (is_name name x) refl
  where
    by : list_any (is_name name) (xs ++ name ∷ []) ≡ true → (b : Bool) → is_name name x ≡ b → (is_name name x || list_any (is_name name) (xs ++ name ∷ [])) ≡ true
    by ih true e = rw e refl
    by ih false e = rw e ih

-- one more name noted
pub noted_more : (rows : Rows) (held now : Held) (txn : TxnId) (name : LockName) → AllNoted rows held → NotedChanges held now txn (noted held txn ++ name ∷ []) → AllNoted rows now × (list_any (is_name name) (noted now txn) ≡ true)
noted_more rows held now txn name all changes =
    (λ t other there. by t other there (is_txn txn t) refl, ap (list_any (is_name name)) (changes txn ∙ rw (same txn) refl) ∙ any_last name (noted held txn))
  where
    same : (t : TxnId) → is_txn t t ≡ true
    same t = is_txn_same t

    by : (t : TxnId) (other : LockName) → list_any (is_holder t) (row rows other) ≡ true → (b : Bool) → is_txn txn t ≡ b → list_any (is_name other) (noted now t) ≡ true
    by t other there true at =
        let P : TxnId → Type 0 = λ u. list_any (is_name other) (noted held u) ≡ true in
        ap (list_any (is_name other)) (changes t ∙ rw at refl) ∙ any-behind other (noted held txn) name (subst P (sym (is_txn-true txn t at)) (all t other there))
    by t other there false at = ap (list_any (is_name other)) (changes t ∙ rw at refl) ∙ all t other there

or_false : (b : Bool) → (b || false) ≡ b
or_false true = refl
or_false false = refl

-- one more name left
pub left_more : (rows now next : Rows) (txn : TxnId) (names : List LockName) (i : ℕ) (name : LockName) → i < length names → name ≡ get_or names i name
    → RowsLeft rows now txn (take i names) → RowChanges now next name (others txn (row now name)) → RowsLeft rows next txn (take (i + 1) names)
left_more rows now next txn names i name lt is left changes = λ other.
    changes other ∙ by other (is_name name other) (list_any (is_name other) (take i names)) refl refl (left other)
    ∙ ap (λ (b : Bool). cond b (others txn (row rows other)) (row rows other)) (sym (longer other))
  where
    longer : (other : LockName) → list_any (is_name other) (take (i + 1) names) ≡ (list_any (is_name other) (take i names) || is_name name other)
    longer other =
        ap (list_any (is_name other)) (take_more names i name lt ∙ ap (λ (n : LockName). take i names ++ n ∷ []) (sym is))
        ∙ list_any-append (is_name other) (take i names) (name ∷ []) ∙ ap (λ (b : Bool). list_any (is_name other) (take i names) || b) (or_false (is_name other name) ∙ is_name_equivalence.symm other name)

    twice : (hs : List Holder) → others txn (others txn hs) ≡ others txn hs
    twice hs = others_all txn (others txn hs) (left_out txn hs)

    by : (other : LockName) (p q : Bool) → is_name name other ≡ p → list_any (is_name other) (take i names) ≡ q
        → row now other ≡ cond (list_any (is_name other) (take i names)) (others txn (row rows other)) (row rows other)
        → cond (is_name name other) (others txn (row now name)) (row now other) ≡ cond (list_any (is_name other) (take i names) || is_name name other) (others txn (row rows other)) (row rows other)
    by other true true e f h =
        let same : name ≡ other = is_name-true name other e in
        let at : row now name ≡ others txn (row rows other) = ap (row now) same ∙ h ∙ rw f refl in
        rw (e, f) (ap (others txn) at ∙ twice (row rows other))
    by other true false e f h =
        let same : name ≡ other = is_name-true name other e in
        let at : row now name ≡ row rows other = ap (row now) same ∙ h ∙ rw f refl in
        rw (e, f) (ap (others txn) at)
    by other false true e f h = rw (e, f) (h ∙ rw f refl)
    by other false false e f h = rw (e, f) (h ∙ rw f refl)

-- ---- lists that are alike

pub alike_answers : AlikeAnswerAlike
alike_answers a b h txn name mode = (
  ap (λ (hs : List Holder). option_map (λ h. h.txn) (find (stands_against txn mode) hs)) (h name),
  ap (λ (hs : List Holder). option_map (λ h. h.mode) (find (is_holder txn) hs)) (h name),
)

pub alike_granted : AlikeAfterGrant
alike_granted a b h txn name mode = λ other. by other (is_name other name) refl
  where
    by : (other : LockName) (p : Bool) → is_name other name ≡ p → holders other (granted a txn name mode) ≡ holders other (granted b txn name mode)
    by other true e =
        let P : LockName → Type 0 = λ n. holders n (granted a txn name mode) ≡ holders n (granted b txn name mode) in
        subst P (sym (is_name-true other name e))
        (granted_here name a txn mode ∙ ap (λ (hs : List Holder). granted_in hs txn mode) (h name) ∙ sym (granted_here name b txn mode))
    by other false e = granted_elsewhere other name a txn mode e ∙ h other ∙ sym (granted_elsewhere other name b txn mode e)

pub alike_released : AlikeAfterRelease
alike_released a b h txn = λ name. released_holders name a txn ∙ ap (others txn) (h name) ∙ sym (released_holders name b txn)

-- ---- a grant to a transaction that holds the name already, or for which it was noted just now

-- what the table is between the note and the grant
pub record IsReady (rows : Rows) (txn : TxnId) (name : LockName) (mid : Rows) (held : Held) : Type 0 where
  pub same : rows ≡ mid
  pub known : AllNoted rows held
  pub here : list_any (is_name name) (noted held txn) ≡ true

pub ready_noted : (rows : Rows) (held now : Held) (txn : TxnId) (name : LockName) → IsTable rows held → NotedChanges held now txn (noted held txn ++ name ∷ []) → IsReady rows txn name rows now
ready_noted rows held now txn name t changes = let more = noted_more rows held now txn name t.noted changes in record { same = refl; known = more.0; here = more.1 }

pub ready_held : (rows : Rows) (held : Held) (txn : TxnId) (name : LockName) (found : Option LockMode) → IsTable rows held
    → found ≡ option_map (λ h. h.mode) (find (is_holder txn) (row rows name)) → is_some found ≡ true → IsReady rows txn name rows held
ready_held rows held txn name None t is some = false_true some
ready_held rows held txn name (Some mode) t is some =
    record { same = refl; known = t.noted; here = t.noted txn name (none_in txn (row rows name) (λ none. some_none mode (is ∙ none))) }
  where
    some_none : (mode : LockMode) → Some mode ≡ None → ⊥
    some_none mode e = cc

pub ready_table : (rows mid new : Rows) (held : Held) (txn : TxnId) (name : LockName) (mode : LockMode) → IsReady rows txn name mid held → IsDistinct is_name (keys_of new)
    → RowChanges mid new name (granted_in (row mid name) txn mode) → IsTable new held
ready_table rows mid new held txn name mode r e changes =
    let P : Rows → Type 0 = λ m. AllNoted m held in
    granted_table mid new held txn name mode (subst P r.same r.known) r.here e changes

pub ready_alike : (rows mid new : Rows) (held : Held) (txn : TxnId) (name : LockName) (mode : LockMode) → IsReady rows txn name mid held → IsDistinct is_name (keys_of rows) → IsDistinct is_name (keys_of new)
    → RowChanges mid new name (granted_in (row mid name) txn mode) → Alike (all_grants new) (granted (all_grants rows) txn name mode)
ready_alike rows mid new held txn name mode r d e changes =
    let P : Rows → Type 0 = λ m. RowChanges m new name (granted_in (row m name) txn mode) in
    granted_alike rows new txn name mode d e (subst P (sym r.same) changes)
