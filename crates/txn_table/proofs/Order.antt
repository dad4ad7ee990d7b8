-- The order of transactions.
use Rattle.std.proofs.Common.{◌≡◌, true, false, arith}
use Rattle.std.proofs.lemmas.Bool.Decides.{nat_tests}
use Rattle.rc_base.specs.declared.ids.TxnId.{TxnId}
use Rattle.rc_base.specs.Ids.{is_txn}
use Rattle.txn_table.specs.Commits.{txn_lt}

pub lt_not_txn : (a b : TxnId) → txn_lt a b ≡ true → is_txn a b ≡ false
lt_not_txn a b h = grind (arith, nat_tests)

pub lt_not_back : (a b : TxnId) → txn_lt a b ≡ true → txn_lt b a ≡ false
lt_not_back a b h = grind (arith, nat_tests)

pub lt_back : (a b : TxnId) → txn_lt a b ≡ false → is_txn a b ≡ false → txn_lt b a ≡ true
lt_back a b h k = grind (arith, nat_tests)

pub lt_trans : (a b c : TxnId) → txn_lt a b ≡ true → txn_lt b c ≡ true → txn_lt a c ≡ true
lt_trans a b c h k = grind (arith, nat_tests)

-- below what isn't above
pub lt_weak : (a b c : TxnId) → txn_lt a b ≡ true → txn_lt c b ≡ false → txn_lt a c ≡ true
lt_weak a b c h k = grind (arith, nat_tests)

pub le_trans : (a b c : TxnId) → txn_lt b a ≡ false → txn_lt c b ≡ false → txn_lt c a ≡ false
le_trans a b c h k = grind (arith, nat_tests)

pub same_txn : (a b : TxnId) → is_txn a b ≡ true → (a.epoch.loss ≡ b.epoch.loss) × (a.epoch.number ≡ b.epoch.number) × (a.n ≡ b.n)
same_txn a b h = (grind (arith, nat_tests), grind (arith, nat_tests), grind (arith, nat_tests))

pub lt_not_same : (a b : TxnId) → txn_lt a b ≡ true → is_txn b a ≡ false
lt_not_same a b h = grind (arith, nat_tests)
