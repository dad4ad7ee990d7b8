-- Phases of a step's lines: the order grows, and the replica shows more.
use Rattle.std.specs.Prelude.{◌≡◌, ℕ, ◌<◌, ◌≤◌, true, false, ◌⊎◌, List, [], ◌++◌, length, drop, Contains, None, is_some}
use mathlib.Core.List.{IsPrefix}
use Rattle.log_records.specs.declared.record.Record.{Record}
use Rattle.txn_table.specs.declared.committed.Committed.{Committed}
use Rattle.txn_table.specs.Log.{Items, commits_in}
use Rattle.order_machine.specs.Machine.{Machine, replica, role_of, order_of, grants_of}
use Rattle.order_machine.specs.Transitions.{Position, may_grow, is_actor}
use Rattle.order_machine.specs.Legal.{Lines, behind}
use Rattle.replica_model.specs.declared.step.Outcome.{Outcome}
use Rattle.replica_model.specs.OpenReplica.{OpenReplica, view_of}
use Rattle.fleet_laws.specs.Fleets.{Fleet}
use Rattle.fleet_laws.specs.Moves.{Run}
use Rattle.history_laws.specs.Texts.{IsText}
use Rattle.history_laws.specs.LockGuards.{OrderCommits}
use Rattle.fleet_run.specs.Scenes.{FleetReplica, replica_at}
use Rattle.fleet_run.specs.Acts.{order_lines, view_line}
use Rattle.fleet_run.specs.Sound.{Sound}
use Rattle.fleet_run.specs.Laws.{stable_logs}

-- Of what stable logs commit, at two times of a run, one begins the other: so a fleet has one order.
abbrev pub StableCommitsAreOne : Type 0
StableCommitsAreOne =
    (m n : Machine) (replicas now : List FleetReplica) (f g : Fleet Record) → Sound m replicas f → Run f g → Sound n now g → (r q : ℕ) (a b : Items) → Contains (stable_logs (replica_at replicas r)) a → Contains (stable_logs (replica_at now q)) b
    → IsPrefix (commits_in a) (commits_in b) ⊎ IsPrefix (commits_in b) (commits_in a)

-- A step of the event's primary begins its lines: the order and the view may still come, and no line waits for another.
pub record IsAtStart (p : Position) (r : ℕ) : Type 0 where
  pub primary : p.primary ≡ r
  pub acts : is_actor p.primary p.event r ≡ true
  pub grows : may_grow p ≡ true
  pub rank : p.rank ≤ 2
  pub opening : p.opening ≡ None
  pub growing : p.growing ≡ false
  pub faulted : p.faulted ≡ []
  pub role : is_some (role_of p.machine r) ≡ true

-- What a step comes to show: the replica showed `before`, the order has `ordered`, and the replica shows `now`, of which the one begins the other. All that it shows,
-- and what its log commits later, is a text.
pub record ComesToShow (p : Position) (o : OpenReplica) (told : Outcome) (before ordered now later : List Committed) : Type 0 where
  pub order : OrderCommits (order_of p.machine o.id) [] ordered
  pub base : (order_of p.machine o.id).base ≡ 0
  pub order_there : (replica p.machine o.id).loss < length p.machine.orders
  pub shows : (replica p.machine o.id).show ≡ length before
  pub view : view_of o ≡ length before
  pub begins : length before ≤ length ordered
  pub more : length before ≤ length now
  pub commits : told.commits ≡ drop (length before) now
  pub shown : told.shown ≡ length now
  pub one : IsPrefix ordered now ⊎ IsPrefix now ordered
  pub text : IsText p.machine.txns [] (now ++ later)

-- What the lines up to a rank leave: the order is the longer of the two, the replica shows what it shows, and nothing waits; of the other replicas all is as it was, and here
-- the locks.
pub record ShowsBehind (p q : Position) (r : ℕ) (ordered now : List Committed) (last : ℕ) : Type 0 where
  pub order : (longer : List Committed) × OrderCommits (order_of q.machine r) [] longer × IsPrefix ordered longer × IsPrefix now longer
  pub base : (order_of q.machine r).base ≡ 0
  pub shows : (replica q.machine r).show ≡ length now
  pub up : (replica q.machine r).up ≡ (replica p.machine r).up
  pub grants : grants_of q.machine r ≡ grants_of p.machine r
  pub elsewhere : (other : ℕ) → (other ≡ r → ⊥) → replica q.machine other ≡ replica p.machine other
  pub rank : q.rank ≤ last
  pub opening : q.opening ≡ None
  pub growing : q.growing ≡ false
  pub faulted : q.faulted ≡ []
  pub txns : q.machine.txns ≡ p.machine.txns
  pub acknowledged : q.machine.acknowledged ≡ p.machine.acknowledged
  pub event : q.event ≡ p.event
  pub primary : q.primary ≡ p.primary
  pub client : q.client ≡ p.client

-- those of the order and of the view leave the roles too
pub record HasShown (p q : Position) (r : ℕ) (ordered now : List Committed) : Type 0 where
  pub shown : ShowsBehind p q r ordered now 3
  pub role : role_of q.machine r ≡ role_of p.machine r
  pub appointments : q.machine.appointments ≡ p.machine.appointments

-- Then the lines of the order and of the view may come where they stand.
abbrev pub OrderAndViewMayCome : Type 0
OrderAndViewMayCome =
    (p : Position) (o : OpenReplica) (told : Outcome) (before ordered now later : List Committed) → IsAtStart p o.id → ComesToShow p o told before ordered now later
    → let lines = order_lines p.machine o told.commits ++ view_line o told in Lines p lines × HasShown p (behind p lines) o.id ordered now
