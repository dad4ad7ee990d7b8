-- The tests of names and of transactions are those of equality.
use Rattle.std.proofs.Common.{◌≡◌, ◌∙◌, ℕ, List, true, IsTrue, Decides, eqb, refl, ap, ap₂, sym}
use Rattle.std.proofs.lemmas.Bool.{and_parts, and_from}
use Rattle.std.proofs.lemmas.Bool.Decides.{Decides-eqb}
use Rattle.std.proofs.lemmas.Slice.Eq.{slice_eq-Decides}
use Rattle.std.specs.Cmp.{IsEquivalence, decided}
use Rattle.std.specs.Cmp.Lexicographic.{pointwise}
use Rattle.rc_base.specs.declared.ids.TxnId.{TxnId}
use Rattle.rc_base.specs.Ids.{is_txn}
use Rattle.rc_base.proofs.SameIds.{is_txn-true}
use Rattle.key_locks.specs.declared.lock_name.LockName.{LockName}
use Rattle.key_locks.specs.declared.lock_name.LockName.TheVariants.{Name, Key, Head, Tail}
use Rattle.key_locks.specs.Names.{is_name, hashed}

bytes_decide : (a b : List ℕ) → Decides (pointwise eqb a b) (a ≡ b)
bytes_decide a b = slice_eq-Decides Decides-eqb a b (pointwise eqb a b) refl

bytes_same : (a b : List ℕ) → pointwise eqb a b ≡ true → a ≡ b
bytes_same a b h = (bytes_decide a b).0 h

bytes_itself : (a : List ℕ) → pointwise eqb a a ≡ true
bytes_itself a = (bytes_decide a a).1 refl

pub is_name-true : (a b : LockName) → is_name a b ≡ true → a ≡ b
is_name-true (Name a) (Name b) h = ap Name (bytes_same a b h)
is_name-true (Key a k) (Key b l) h =
    let parts = and_parts (pointwise eqb a b) (pointwise eqb k l) h in
    ap₂ (λ (n : List ℕ) (m : List ℕ). Key n m) (bytes_same a b parts.0) (bytes_same k l parts.1)
is_name-true (Head a) (Head b) h = ap Head (bytes_same a b h)
is_name-true (Tail a) (Tail b) h = ap Tail (bytes_same a b h)
is_name-true (Name a) (Key b l) h = absurd (cc)
is_name-true (Name a) (Head b) h = absurd (cc)
is_name-true (Name a) (Tail b) h = absurd (cc)
is_name-true (Key a k) (Name b) h = absurd (cc)
is_name-true (Key a k) (Head b) h = absurd (cc)
is_name-true (Key a k) (Tail b) h = absurd (cc)
is_name-true (Head a) (Name b) h = absurd (cc)
is_name-true (Head a) (Key b l) h = absurd (cc)
is_name-true (Head a) (Tail b) h = absurd (cc)
is_name-true (Tail a) (Name b) h = absurd (cc)
is_name-true (Tail a) (Key b l) h = absurd (cc)
is_name-true (Tail a) (Head b) h = absurd (cc)

pub is_name_same : (a : LockName) → is_name a a ≡ true
is_name_same (Name a) = bytes_itself a
is_name_same (Key a k) = and_from (pointwise eqb a a) (pointwise eqb k k) (bytes_itself a) (bytes_itself k)
is_name_same (Head a) = bytes_itself a
is_name_same (Tail a) = bytes_itself a

pub same_names_hash_alike : (a b : LockName) → IsTrue (is_name a b) → hashed a ≡ hashed b
same_names_hash_alike a b h = ap hashed (is_name-true a b h)

pub names_decide : (a b : LockName) → Decides (is_name a b) (a ≡ b)
names_decide a b = (is_name-true a b, λ e. ap (is_name a) (sym e) ∙ is_name_same a)

pub is_name_equivalence : IsEquivalence is_name
is_name_equivalence = decided is_name names_decide

-- what is made of one transaction is the same for those that are one
pub same_txns_alike : {X : Type 0} (f : TxnId → X) (a b : TxnId) → IsTrue (is_txn a b) → f a ≡ f b
same_txns_alike f a b h = ap f (is_txn-true a b h)
