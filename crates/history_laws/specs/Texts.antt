-- Texts: what a log commits, one transaction after another, such that a replay answers each call as its client was answered.
use Rattle.std.specs.Prelude.{◌≡◌, Bool, true, false, List, [], ◌∷◌, map, flat_map, Some}
use Rattle.std.specs.List.{list_any, IsDistinct}
use Rattle.std.specs.Map.{lookup}
use Rattle.rc_base.specs.declared.ids.TxnId.{TxnId}
use Rattle.rc_base.specs.Ids.{is_txn}
use Rattle.coll_model.specs.declared.op.Op.{Op}
use Rattle.coll_model.specs.Effect.{State, folded}
use Rattle.events.specs.Replay.{Replays}
use Rattle.txn_table.specs.declared.committed.Committed.{Committed}
use Rattle.order_machine.specs.Machine.{Txn, ops_of}

-- ---- commits

-- the operations of commits, in order
abbrev pub operations_of : List Committed → List Op
operations_of commits = flat_map (λ c. c.ops) commits

-- the state after commits that begin at this one
abbrev pub state_after : State → List Committed → State
state_after state commits = folded state (operations_of commits)

-- whether one of the commits is of the transaction
abbrev pub has_commit : List Committed → TxnId → Bool
has_commit commits t = list_any (λ c. is_txn t c.txn) commits

-- no two of the commits are of one transaction
abbrev pub AreOnce : List Committed → Type 0
AreOnce commits = IsDistinct is_txn (map (λ c. c.txn) commits)

-- ---- texts

-- A commit that may stand at the state: its transaction is known, its commit was requested, and it has ended; the operations
-- are all that its calls logged; and a replay of the calls there gives each answer that was given.
pub record SerialCommit (txns : List (TxnId × Txn)) (state : State) (commit : Committed) : Type 0 where
  pub txn : Txn
  pub known : lookup (is_txn commit.txn) txns ≡ Some txn
  pub requested : txn.asked ≡ true
  pub ended : txn.live ≡ false
  pub whole : commit.ops ≡ ops_of txn
  pub replays : Replays state txn.calls

-- each of the commits may stand at the state after those before it
abbrev pub SerialCommits : List (TxnId × Txn) → State → List Committed → Type 0
SerialCommits txns state [] = Unit {0}
SerialCommits txns state (commit ∷ commits) = SerialCommit txns state commit × SerialCommits txns (folded state commit.ops) commits

-- The commits are a text from the state on: each may stand where it stands, and no transaction is in it twice.
pub record IsText (txns : List (TxnId × Txn)) (start : State) (commits : List Committed) : Type 0 where
  pub serial : SerialCommits txns start commits
  pub once : AreOnce commits
