-- An open replica: its number, what its disk holds, how much of that is stable, its role, and what goes on there.
use Rattle.std.specs.Prelude.{ℕ, Bool, false, List, drop, length, Option, None}
use Rattle.std.specs.Option.{option_map_or}
use Rattle.rc_base.specs.declared.ids.Epoch.{Epoch}
use Rattle.rc_base.specs.declared.ids.Lsn.{Lsn}
use Rattle.rc_base.specs.Ids.{no_epoch}
use Rattle.coll_model.specs.Effect.{State}
use Rattle.txn_table.specs.declared.committed.Committed.{Committed}
use Rattle.txn_table.specs.Log.{commits_from}
use Rattle.txn_table.specs.Whole.{Whole, last_position, commits_to, count_to, contents_to, stable_of}
use Rattle.txn_front.specs.Front.{Fronted, nothing}

-- The role of a primary: its epoch; whether it is active; the configuration before its own, until it is dropped, and its
-- own; the idle replicas that it sends to besides; and the position to which each of the others has acknowledged its log.
pub record Leading : Type 0 where
  pub epoch : Epoch
  pub active : Bool
  pub previous : Option (List ℕ)
  pub current : List ℕ
  pub idle : List ℕ
  pub reached : List (ℕ × ℕ)

-- Its stable number is a position: what commits at or below it is shown. What commits above it is pending, and isn't kept
-- besides.
pub record OpenReplica : Type 0 where
  pub id : ℕ
  pub disk : Whole
  pub stable : ℕ
  pub leading : Option Leading
  pub front : Fronted

-- the position of the last record of its log
abbrev pub last_lsn : OpenReplica → Lsn
last_lsn o = record { 0 = last_position o.disk }

-- the commits that it shows, and those above its stable number
abbrev pub shown_commits : OpenReplica → List Committed
shown_commits o = commits_to o.disk o.stable

abbrev pub unshown_commits : OpenReplica → List Committed
unshown_commits o = drop (length (shown_commits o)) (commits_from o.disk.start o.disk.log)

-- its view: how many commits it shows, with those before the start of its log
abbrev pub view_of : OpenReplica → ℕ
view_of o = count_to o.disk o.stable

-- the collections that it shows
abbrev pub contents_of : OpenReplica → State
contents_of o = contents_to o.disk o.stable

-- it serves clients
abbrev pub is_active : OpenReplica → Bool
is_active o = option_map_or (λ l. l.active) o.leading false

-- A replica that was opened over a disk shows what the log tells as stable, and is no primary, whatever it was.
abbrev pub opened_over : ℕ → Whole → OpenReplica
opened_over id w = record { id = id; disk = w; stable = stable_of w; leading = None; front = nothing no_epoch }
