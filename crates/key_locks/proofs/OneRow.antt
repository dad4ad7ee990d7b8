-- On the holders of one name.
use Rattle.std.proofs.Common.{◌≡◌, ◌≢◌, ◌∙◌, ◌||◌, ◌⊎◌, inl, inr, find, ◌<◌, ◌≤◌, ltb, ℕ, zero, suc, List, [], ◌∷◌, ◌++◌, Bool, true, false, cond, Some, None, refl, ap, arith, length, get_or, set}
use Rattle.std.specs.List.{position, position_or_len, list_any}
use Rattle.std.specs.Option.{option_map}
use Rattle.std.proofs.lemmas.List.Quantifiers.{position-Some}
use Rattle.std.proofs.lemmas.List.Sums.{fails_before_first}
use Rattle.std.proofs.lemmas.Bool.{ltb-false, or_cases, or_parts, or_right}
use Rattle.rc_base.specs.declared.ids.TxnId.{TxnId}
use Rattle.key_locks.specs.declared.lock_mode.LockMode.{LockMode}
use Rattle.key_locks.specs.declared.holders.Holder.{Holder}
use Rattle.rc_base.specs.Ids.{is_txn}
use Rattle.key_locks.specs.Grants.{is_holder, stronger}
use Rattle.key_locks.specs.Table.{granted_in, others}

abbrev raised : Holder → LockMode → Holder
raised h mode = record { txn = h.txn; mode = stronger h.mode mode }

-- the first of a transaction takes the stronger mode in its place
pub granted_at : (txn : TxnId) (mode : LockMode) (hs : List Holder) (i : ℕ) (d : Holder) → i < length hs → is_holder txn (get_or hs i d) ≡ true
    → ((k : ℕ) → k < i → is_holder txn (get_or hs k d) ≡ false) → set hs i (raised (get_or hs i d) mode) ≡ granted_in hs txn mode
granted_at txn mode [] i d lt at before = absurd (omega arith)
granted_at txn mode (h ∷ hs) zero d lt at before = rw at refl
granted_at txn mode (h ∷ hs) (suc i) d lt at before =
    let first : is_holder txn h ≡ false = before 0 (omega arith) in
    rw first (ap (λ ys. h ∷ ys) (granted_at txn mode hs i d (omega arith) at (λ k below. before (suc k) (omega arith))))

-- a transaction that isn't there stands last
pub granted_last : (txn : TxnId) (mode : LockMode) (hs : List Holder) (d : Holder) → ((k : ℕ) → k < length hs → is_holder txn (get_or hs k d) ≡ false)
    → granted_in hs txn mode ≡ hs ++ record { txn = txn; mode = mode } ∷ []
granted_last txn mode [] d none = refl
granted_last txn mode (h ∷ hs) d none =
    let first : is_holder txn h ≡ false = none 0 (omega arith) in
    rw first (ap (λ ys. h ∷ ys) (granted_last txn mode hs d (λ k below. none (suc k) (omega arith))))

none_found : {A : Type 0} (b : Bool) (x : A) → cond b (Some x) None ≡ None → b ≡ false
none_found true x e = absurd (cc)
none_found false x e = refl

pub granted_where : (txn : TxnId) (mode : LockMode) (hs : List Holder) (i : ℕ) (h : Holder) (now : LockMode) → position (is_holder txn) hs ≡ Some i → h ≡ get_or hs i h
    → now ≡ stronger h.mode mode → set hs i (record { txn = h.txn; mode = now }) ≡ granted_in hs txn mode
granted_where txn mode hs i h now at is stronger-is =
    let p = position-Some (is_holder txn) hs i h at in
    ap (λ (m : LockMode). set hs i (record { txn = h.txn; mode = m })) stronger-is ∙ ap (λ (x : Holder). set hs i (raised x mode)) is ∙ granted_at txn mode hs i h p.0 p.1 p.2

pub granted_behind : (txn : TxnId) (mode : LockMode) (hs : List Holder) → position (is_holder txn) hs ≡ None → granted_in hs txn mode ≡ hs ++ record { txn = txn; mode = mode } ∷ []
granted_behind txn mode hs none =
    let past : length hs ≤ position_or_len (is_holder txn) hs = ltb-false _ _ (none_found (ltb (position_or_len (is_holder txn) hs) (length hs)) (position_or_len (is_holder txn) hs) none) in
    granted_last txn mode hs (record { txn = txn; mode = mode }) (λ k lt. fails_before_first (is_holder txn) hs k (record { txn = txn; mode = mode }) (omega arith))

-- ---- who is in a row

-- who holds after a grant held before, or is the one that asked
pub in_granted : (t txn : TxnId) (mode : LockMode) (hs : List Holder) → list_any (is_holder t) (granted_in hs txn mode) ≡ true
    → (is_txn t txn ≡ true) ⊎ (list_any (is_holder t) hs ≡ true)
in_granted t txn mode [] e = or_cases (is_txn t txn) false e
in_granted t txn mode (h ∷ hs) e = by (in_granted t txn mode hs) (is_holder txn h) refl
  where
    there : (is_txn t txn ≡ true) ⊎ (list_any (is_holder t) hs ≡ true) → (is_txn t txn ≡ true) ⊎ ((is_holder t h || list_any (is_holder t) hs) ≡ true)
    there (inl a) = inl a
    there (inr b) = inr (or_right (is_holder t h) (list_any (is_holder t) hs) b)

    more : (list_any (is_holder t) (granted_in hs txn mode) ≡ true → (is_txn t txn ≡ true) ⊎ (list_any (is_holder t) hs ≡ true)) → (is_holder t h ≡ true) ⊎ (list_any (is_holder t) (granted_in hs txn mode) ≡ true) → (is_txn t txn ≡ true) ⊎ ((is_holder t h || list_any (is_holder t) hs) ≡ true)
    more ih (inl a) = inr (rw a refl)
    more ih (inr b) = there (ih b)

    by : (list_any (is_holder t) (granted_in hs txn mode) ≡ true → (is_txn t txn ≡ true) ⊎ (list_any (is_holder t) hs ≡ true)) → (b : Bool) → is_holder txn h ≡ b → (is_txn t txn ≡ true) ⊎ ((is_holder t h || list_any (is_holder t) hs) ≡ true)
    by ih true at = inr (rw at at e)
    by ih false at = more ih (or_cases (is_holder t h) (list_any (is_holder t) (granted_in hs txn mode)) (rw at at e))

-- who holds after another left held before
pub in_others : (t txn : TxnId) (hs : List Holder) → list_any (is_holder t) (others txn hs) ≡ true → list_any (is_holder t) hs ≡ true
in_others t txn [] e = e
in_others t txn (h ∷ hs) e = by (in_others t txn hs) (is_holder txn h) refl
  where
    more : (list_any (is_holder t) (others txn hs) ≡ true → list_any (is_holder t) hs ≡ true) → (is_holder t h ≡ true) ⊎ (list_any (is_holder t) (others txn hs) ≡ true) → (is_holder t h || list_any (is_holder t) hs) ≡ true
    more ih (inl a) = rw a refl
    more ih (inr b) = or_right (is_holder t h) (list_any (is_holder t) hs) (ih b)

    by : (list_any (is_holder t) (others txn hs) ≡ true → list_any (is_holder t) hs ≡ true) → (b : Bool) → is_holder txn h ≡ b → (is_holder t h || list_any (is_holder t) hs) ≡ true
    by ih true at = or_right (is_holder t h) (list_any (is_holder t) hs) (ih (rw at at e))
    by ih false at = more ih (or_cases (is_holder t h) (list_any (is_holder t) (others txn hs)) (rw at at e))

-- a transaction that left doesn't hold
pub left_out : (txn : TxnId) (hs : List Holder) → list_any (is_holder txn) (others txn hs) ≡ false
left_out txn [] = refl
left_out txn (h ∷ hs) = by (left_out txn hs) (is_holder txn h) refl
  where
    by : list_any (is_holder txn) (others txn hs) ≡ false → (b : Bool) → is_holder txn h ≡ b → list_any (is_holder txn) (others txn (h ∷ hs)) ≡ false
    by ih true at = rw at ih
    by ih false at = rw (at, at) ih

-- without one that doesn't hold a row is as before
pub others_all : (txn : TxnId) (hs : List Holder) → list_any (is_holder txn) hs ≡ false → others txn hs ≡ hs
others_all txn [] e = refl
others_all txn (h ∷ hs) e =
    let n = or_parts (is_holder txn h) (list_any (is_holder txn) hs) e in
    rw n.0 (ap (λ ys. h ∷ ys) (others_all txn hs n.1))

-- whom a search finds is in the row
pub none_in : (txn : TxnId) (hs : List Holder) → option_map (λ h. h.mode) (find (is_holder txn) hs) ≢ None → list_any (is_holder txn) hs ≡ true
none_in txn [] e = absurd (e refl)
none_in txn (h ∷ hs) e = by (none_in txn hs) (is_holder txn h) refl
  where
    by : (option_map (λ h. h.mode) (find (is_holder txn) hs) ≢ None → list_any (is_holder txn) hs ≡ true) → (b : Bool) → is_holder txn h ≡ b → (is_holder txn h || list_any (is_holder txn) hs) ≡ true
    by ih true at = rw at refl
    by ih false at = rw at (ih (rw at at e))
