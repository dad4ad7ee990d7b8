-- Tests on epochs and transactions.
use Rattle.std.specs.Prelude.{Bool, ◌==◌, ◌&&◌, ◌||◌, not, nat_lt}
use Rattle.rc_base.specs.declared.ids.Epoch.{Epoch}
use Rattle.rc_base.specs.declared.ids.TxnId.{TxnId}

-- 0.0, the epoch before the first
abbrev pub no_epoch : Epoch
no_epoch = record { loss = 0; number = 0 }

-- whether two epochs are one
abbrev pub is_epoch : Epoch → Epoch → Bool
is_epoch a b = (a.loss == b.loss) && (a.number == b.number)

-- whether a is before b: by loss, and then by number
abbrev pub epoch_lt : Epoch → Epoch → Bool
epoch_lt a b = nat_lt a.loss b.loss || ((a.loss == b.loss) && nat_lt a.number b.number)

abbrev pub epoch_le : Epoch → Epoch → Bool
epoch_le a b = not (epoch_lt b a)

-- whether two transactions are one
abbrev pub is_txn : TxnId → TxnId → Bool
is_txn a b = is_epoch a.epoch b.epoch && (a.n == b.n)
