-- What a log holds of an order of commits.
use Rattle.std.specs.Prelude.{◌≡◌, ℕ, ◌+◌, ◌-◌, ◌<◌, ◌≤◌, max, List, length, take, flat_map, Option, slice_get}
use Rattle.coll_model.specs.Effect.{State, folded}
use Rattle.txn_table.specs.declared.base.Base.{Base}
use Rattle.txn_table.specs.declared.committed.Committed.{Committed}
use Rattle.txn_table.specs.Log.{Items, commits_from}

-- an order of commits from a start on: how many stand before them, the contents there, and the commits
pub record CommitOrder : Type 0 where
  pub count : ℕ
  pub contents : State
  pub commits : List Committed

-- the contents after these commits
abbrev pub contents_after : State → List Committed → State
contents_after contents commits = folded contents (flat_map (λ c. c.ops) commits)

-- the contents at a place of the order, which isn't before its start
abbrev pub contents_at : CommitOrder → ℕ → State
contents_at order place = contents_after order.contents (take (place - order.count) order.commits)

-- the commit at a place of the order, which is after its start
abbrev pub commit_at : CommitOrder → ℕ → Option Committed
commit_at order place = slice_get order.commits (place - (order.count + 1))

-- the order that a log tells by its base and its commits
abbrev pub order_from : Base → Items → CommitOrder
order_from base log = record { count = base.count; contents = base.contents; commits = commits_from base log }

-- A log holds an order to a place: it reaches the place; from the later of both starts on it has the contents of the
-- order at each place, up to this one or where the log starts; and each commit up to there that both have is the same.
pub record HoldsOrder (base : Base) (log : Items) (order : CommitOrder) (place : ℕ) : Type 0 where
  pub enough : place ≤ base.count + length (commits_from base log)
  pub contents : (k : ℕ) → max base.count order.count ≤ k → k ≤ max base.count place → contents_at (order_from base log) k ≡ contents_at order k
  pub commits : (k : ℕ) → max base.count order.count < k → k ≤ place → commit_at (order_from base log) k ≡ commit_at order k
