-- What was read of a log when it is opened.
use Rattle.std.specs.Prelude.{◌≡◌, ℕ, ◌+◌, nat_lt, ◌∷◌, [], ◌++◌, length, Option, Some, None, if◌then◌else◌}
use Rattle.coll_model.specs.Effect.{folded}
use Rattle.txn_table.specs.declared.committed.Committed.{Committed}
use Rattle.txn_table.specs.Log.{Items, commits_in}
use Rattle.replica.specs.declared.mounting.Shown.{Shown}
use Rattle.replica.specs.Open.{commits_to, state_of}

-- the commits of this much of a log, at or below the stable position and above it
pub record IsRead (shown : Shown) (log : Items) : Type 0 where
  pub count : shown.count ≡ length (commits_to shown.stable.0 log)
  pub contents : shown.contents ≡ state_of (commits_to shown.stable.0 log)
  pub commits : commits_in log ≡ commits_to shown.stable.0 log ++ shown.ahead

-- with what commits at one more position
abbrev pub with_commit : ℕ → Option Committed → Shown → Shown
with_commit lsn None shown = shown
with_commit lsn (Some commit) shown =
    if nat_lt shown.stable.0 lsn
    then record shown { ahead = shown.ahead ++ commit ∷ [] }
    else record shown { count = shown.count + 1; contents = folded shown.contents commit.ops }
