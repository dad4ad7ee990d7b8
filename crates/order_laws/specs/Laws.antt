-- Laws of the machine alone: what its events keep, and what holds at the end of every legal run of it.
use Rattle.std.specs.Prelude.{◌≡◌, ℕ, ◌≤◌, true, List, [], ◌∷◌, ◌++◌, map, get_or, All, Some}
use Rattle.std.specs.List.{IsDistinct}
use Rattle.rc_base.specs.declared.ids.Epoch.{Epoch}
use Rattle.rc_base.specs.declared.ids.TxnId.{TxnId}
use Rattle.coll_model.specs.declared.op.Kind.TheVariants as kinds
use Rattle.events.specs.declared.event.Event.{Event}
use Rattle.events.specs.declared.event.Event.TheVariants.{Boot, Client, Survey, Appoint, Activate}
use Rattle.events.specs.declared.call.Call.TheVariants.{Begin, Make, OnKey, Commit, Abort}
use Rattle.events.specs.declared.call.KeyCall.TheVariants.{Get, Set}
use Rattle.order_machine.specs.declared.observation.Observation.{Observation}
use Rattle.order_machine.specs.declared.observation.Observation.TheVariants as says
use Rattle.rc_base.specs.Ids.{is_txn, epoch_le}
use Rattle.order_machine.specs.Order.{Entry, empty_order, length_of, holds}
use Rattle.order_machine.specs.Machine.{Machine, Role, Txn, empty_machine, replica, order_of, txn_of, role_of, grants_of, is_shown, is_acknowledged, ops_of}
use Rattle.lock_laws.specs.Protected.{AreExclusive}
use Rattle.order_machine.specs.Transitions.{first_epoch, HoldsBehind}
use Rattle.order_machine.specs.Legal.{Filter, Step, IsBegun, moved, AreWhole, IsLegal, moved_all}

-- ---- from any machine

-- the entries of the order of a loss number
abbrev pub entries_of : Machine → ℕ → List Entry
entries_of m loss = (get_or m.orders loss empty_order).entries

-- each order has the entries that it had, and perhaps more behind them
abbrev pub OrdersGrow : Machine → Machine → Type 0
OrdersGrow old new = (loss : ℕ) → (more : List Entry) × (entries_of new loss ≡ entries_of old loss ++ more)

-- so it is over the lines of an event, all of them or the first few
abbrev pub EventsGrowOrders : Type 0
EventsGrowOrders = (m : Machine) (event : Event) (lines : List Observation) → IsBegun m event lines → OrdersGrow m (moved m event lines)

-- and over a run
abbrev pub RunsGrowOrders : Type 0
RunsGrowOrders = (filters : List Filter) (m : Machine) (steps : List Step) → IsLegal filters m steps → OrdersGrow m (moved_all m steps)

-- a run whose events are all whole is legal
abbrev pub WholeRunsAreLegal : Type 0
WholeRunsAreLegal = (filters : List Filter) (m : Machine) (steps : List Step) → AreWhole filters m steps → IsLegal filters m steps

-- ---- from the start of a world

-- it holds where a legal run from there ends, also one that is cut off
abbrev pub InEachRun : (Machine → Type 0) → Type 0
InEachRun P = (filters : List Filter) (steps : List Step) → IsLegal filters empty_machine steps → P (moved_all empty_machine steps)

-- each acknowledged transaction is in the one order, that of loss number 0
abbrev pub HoldsAcknowledged : Machine → Type 0
HoldsAcknowledged m = (t : TxnId) → is_acknowledged m t ≡ true → holds (entries_of m 0) t ≡ true

-- no transaction is twice in an order
abbrev pub OrdersEachOnce : Machine → Type 0
OrdersEachOnce m = (loss : ℕ) → IsDistinct is_txn (map (λ e. e.txn) (entries_of m loss))

-- a replica shows a beginning of the one order
pub record ShowsBeginning (m : Machine) (r : ℕ) : Type 0 where
  pub loss : (replica m r).loss ≡ 0
  pub within : (replica m r).show ≤ length_of (order_of m r)

abbrev pub AllShowBeginnings : Machine → Type 0
AllShowBeginnings m = (r : ℕ) → ShowsBeginning m r

-- the commit of the entry's transaction was asked, and the entry's operations are those of its calls
pub record IsAsked (m : Machine) (e : Entry) : Type 0 where
  pub txn : Txn
  pub known : txn_of m e.txn ≡ Some txn
  pub asked : txn.asked ≡ true
  pub whole : e.ops ≡ ops_of txn

abbrev pub OrdersAsked : Machine → Type 0
OrdersAsked m = (loss : ℕ) → All (IsAsked m) (entries_of m loss)

-- each active primary shows every transaction that was acknowledged, of its epoch and of those before it
abbrev pub PrimariesShowAcknowledged : Machine → Type 0
PrimariesShowAcknowledged m =
    (r : ℕ) (role : Role) → role_of m r ≡ Some role → role.active ≡ true → (t : TxnId) → is_acknowledged m t ≡ true → epoch_le t.epoch role.epoch ≡ true → is_shown m r t ≡ true

-- at no replica does a transaction hold a lock beside one that another holds exclusively
abbrev pub LocksExclude : Machine → Type 0
LocksExclude m = (r : ℕ) → AreExclusive (grants_of m r)

-- Behind a run whose events are all whole nothing that is pending at a replica is shown there, and a primary that is alone
-- in its configurations is active and has nothing pending.
abbrev pub WholeRunsLeaveNothingOpen : Type 0
WholeRunsLeaveNothingOpen = (filters : List Filter) (steps : List Step) → AreWhole filters empty_machine steps → HoldsBehind (moved_all empty_machine steps)

-- ---- some runs, in a world of one replica

abbrev pub first_txn : TxnId
first_txn = record { epoch = first_epoch; n = 1 }

abbrev pub second_txn : TxnId
second_txn = record { epoch = first_epoch; n = 2 }

abbrev pub second_epoch : Epoch
second_epoch = record { loss = 0; number = 2 }

-- the world starts, and a transaction begins
abbrev pub booted : Step
booted = record { number = 1; event = Boot 0 (0 ∷ []); lines = says.Up 0 ∷ says.View 0 0 ∷ says.Active 0 ∷ says.Done ∷ [] }

abbrev pub first_begun : Step
first_begun = record { number = 2; event = Client 0 Begin; lines = says.Txn first_txn ∷ [] }

-- the transaction commits without operations
abbrev pub one_commit : List Step
one_commit =
    booted
    ∷ first_begun
    ∷ record { number = 3; event = Client 0 (Commit first_txn); lines = says.Order first_txn [] ∷ says.View 0 1 ∷ says.Committed first_txn ∷ [] }
    ∷ []

-- such a run is whole, and so the laws are about some runs
pub record OneCommitIsWhole : Type 0 where
  pub whole : AreWhole [] empty_machine one_commit
  pub acknowledged : is_acknowledged (moved_all empty_machine one_commit) first_txn ≡ true

-- The transaction makes a dictionary and writes in it. Another one is refused the name, until the first is aborted: then
-- nothing stands under it.
abbrev pub one_abort : List Step
one_abort =
    booted
    ∷ first_begun
    ∷ record { number = 3; event = Client 0 (Make first_txn (100 ∷ []) kinds.Dict); lines = says.True ∷ [] }
    ∷ record { number = 4; event = Client 0 (OnKey first_txn (100 ∷ []) (107 ∷ []) (Set (118 ∷ []))); lines = says.Done ∷ [] }
    ∷ record { number = 5; event = Client 0 Begin; lines = says.Txn second_txn ∷ [] }
    ∷ record { number = 6; event = Client 0 (OnKey second_txn (100 ∷ []) (107 ∷ []) Get); lines = says.Locked first_txn ∷ [] }
    ∷ record { number = 7; event = Client 0 (Abort first_txn); lines = says.Done ∷ [] }
    ∷ record { number = 8; event = Client 0 (OnKey second_txn (100 ∷ []) (107 ∷ []) Get); lines = says.Absent ∷ [] }
    ∷ []

-- The replica is surveyed and appointed again, to the next epoch, and that is activated: the transaction has ended.
abbrev pub one_appointment : List Step
one_appointment =
    booted
    ∷ first_begun
    ∷ record { number = 3; event = Survey 0 second_epoch; lines = says.Progress 0 first_epoch 2 ∷ [] }
    ∷ record { number = 4; event = Appoint second_epoch 0 (0 ∷ []); lines = says.Active 0 ∷ says.Done ∷ [] }
    ∷ record { number = 5; event = Client 0 (Commit first_txn); lines = says.Ended first_txn ∷ [] }
    ∷ record { number = 6; event = Activate second_epoch; lines = says.Done ∷ [] }
    ∷ []

-- both are whole: the rows of locks, surveys and appointments can be met
pub record AbortAndAppointmentAreWhole : Type 0 where
  pub aborted : AreWhole [] empty_machine one_abort
  pub appointed : AreWhole [] empty_machine one_appointment
