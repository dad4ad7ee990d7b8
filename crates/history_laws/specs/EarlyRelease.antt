-- Why locks last until their commit is shown: a run of one replica in which they are let go as the commit is logged.
use Rattle.std.specs.Prelude.{◌≡◌, true, false, List, [], ◌∷◌, replicate, Some}
use Rattle.rc_base.specs.declared.ids.TxnId.{TxnId}
use Rattle.coll_model.specs.declared.op.Kind.TheVariants as kinds
use Rattle.coll_model.specs.declared.op.Op.TheVariants as ops
use Rattle.key_locks.specs.declared.lock_name.LockName.TheVariants.{Name}
use Rattle.key_locks.specs.declared.lock_mode.LockMode.TheVariants.{Exclusive}
use Rattle.key_locks.specs.Grants.{Grant}
use Rattle.events.specs.declared.call.Call.{Call}
use Rattle.events.specs.declared.call.Call.TheVariants.{Make, OnKey}
use Rattle.events.specs.declared.call.KeyCall.TheVariants.{Get}
use Rattle.events.specs.declared.answer.Answer.TheVariants as answers
use Rattle.events.specs.Calls.{CallRecord}
use Rattle.events.specs.Answers.{plain}
use Rattle.txn_table.specs.declared.committed.Committed.{Committed}
use Rattle.order_machine.specs.Order.{empty_order}
use Rattle.order_machine.specs.Machine.{Machine, Replica, never_opened}
use Rattle.order_machine.specs.Clients.{answer}
use Rattle.order_machine.specs.Transitions.{first_epoch, asking_commit}
use Rattle.history_laws.specs.Texts.{IsText}
use Rattle.history_laws.specs.LockGuards.{ReplicaGuard}
use Rattle.history_laws.specs.Laws.{after_call}

abbrev pub maker : TxnId
maker = record { epoch = first_epoch; n = 1 }

abbrev pub reader : TxnId
reader = record { epoch = first_epoch; n = 2 }

-- the maker's call: it makes the dictionary d
abbrev pub make_call : CallRecord
make_call = record { call = Make maker (100 ∷ []) kinds.Dict; answer = answers.True; op = Some (ops.Make (100 ∷ []) kinds.Dict) }

-- the reader's: it asks for a key of d
abbrev pub read_call : Call
read_call = OnKey reader (100 ∷ []) (107 ∷ []) Get

abbrev pub maker_commit : Committed
maker_commit = record { txn = maker; ops = ops.Make (100 ∷ []) kinds.Dict ∷ [] }

abbrev pub reader_commit : Committed
reader_commit = record { txn = reader; ops = [] }

-- replica 0, the active primary of the first epoch, shows nothing, and these locks are granted there
abbrev pub primary_with : List Grant → Replica
primary_with grants = record { up = true; show = 0; loss = 0; role = Some (record { epoch = first_epoch; active = true; begins = 2; idle = [] }); grants = grants; surveys = [] }

-- The maker's commit was requested and logged, and isn't shown. The reader is live.
abbrev pub logged_with : List Grant → Machine
logged_with grants = record {
  orders = empty_order ∷ [];
  acknowledged = [];
  replicas = primary_with grants ∷ replicate 8 never_opened;
  txns =
      (maker, record { home = 0; shown_at_begin = 0; calls = make_call ∷ []; live = false; asked = true })
      ∷ (reader, record { home = 0; shown_at_begin = 0; calls = []; live = true; asked = false })
      ∷ [];
  appointments = record { epoch = first_epoch; primary = 0; previous = 0 ∷ []; current = 0 ∷ []; dropped = false; was_active = true } ∷ [];
  config = 0 ∷ [];
  answers = [];
}

-- with the maker's lock on the name, and without it
abbrev pub with_lock : Machine
with_lock = logged_with (record { txn = maker; name = Name (100 ∷ []); mode = Exclusive } ∷ [])

abbrev pub without_lock : Machine
without_lock = logged_with []

-- Under the lock the guard holds, and the reader is refused. Without it the guard doesn't hold: the reader is told that there is no d; and once its own commit is requested,
-- the two commits are no text, since after the maker's a replay would find d.
pub record EarlyReleaseIsRefused : Type 0 where
  pub guarded : ReplicaGuard with_lock 0 (maker_commit ∷ [])
  pub locked : answer with_lock 0 read_call ≡ Some (plain (answers.Locked maker))
  pub unguarded : ReplicaGuard without_lock 0 (maker_commit ∷ []) → ⊥
  pub absent : answer without_lock 0 read_call ≡ Some (plain answers.Absent)
  pub no_text : IsText (asking_commit (after_call without_lock 0 read_call (plain answers.Absent)) 0 reader).txns [] (maker_commit ∷ reader_commit ∷ []) → ⊥
