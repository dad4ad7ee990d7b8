-- What a disk in memory keeps, and what each of its calls leaves of that.
use Rattle.std.specs.Prelude.{ℕ, ◌-◌, ◌^◌, ◌==◌, Bool, false, ◌||◌, List, [], ◌∷◌, ◌++◌, nat_le, if◌then◌else◌, Option, Some, None, Result, Ok, Err}
use Rattle.std.specs.Option.{option_map}
use Rattle.disk_model.specs.Disk.{Areas, with_area, counted_up, nearer}
use Rattle.disk_model.specs.Changes.{left_of, left_by, end_of}
use Rattle.disk_model.specs.declared.change.Change.{Change}
use Rattle.disk_model.specs.declared.disk.DiskError.{DiskError}
use Rattle.disk_model.specs.declared.disk.DiskError.TheVariants.{Failed, NoMemory}

-- The areas as they read and as at the last sync, the changes that were asked since then, how many calls an armed disk
-- still does, and whether an armed call has failed.
pub record Kept : Type 0 where
  pub shown : Areas
  pub synced : Areas
  pub pending : List Change
  pub calls_left : Option ℕ
  pub failed : Bool

-- the disk is armed, and does no call more
abbrev pub is_spent : Option ℕ → Bool
is_spent None = false
is_spent (Some left) = left == 0

-- A call that changes no byte is only counted. Where it isn't done, an armed call has failed.
abbrev pub after_call : Kept → Kept
after_call k = record { shown = k.shown; synced = k.synced; pending = k.pending; calls_left = option_map (λ n. n - 1) k.calls_left; failed = k.failed || is_spent k.calls_left }

-- A sync that is done leaves nothing pending.
abbrev pub after_sync : Kept → Kept
after_sync k = if is_spent k.calls_left then after_call k else record { shown = k.shown; synced = k.shown; pending = []; calls_left = option_map (λ n. n - 1) k.calls_left; failed = k.failed }

-- A change that is done shows at once, and is pending. The armed call's change is only pending; after it none is.
abbrev pub after_change : Change → Kept → Kept
after_change change k = record { shown = if is_spent k.calls_left then k.shown else with_area change.area (left_of change.edit 1) k.shown; synced = k.synced; pending = if k.failed then k.pending else k.pending ++ change ∷ []; calls_left = option_map (λ n. n - 1) k.calls_left; failed = k.failed || is_spent k.calls_left }

-- A write that would make its area too long is only counted.
abbrev pub after_write : Change → Kept → Kept
after_write change k = if nat_le (2 ^ 63) (end_of change.edit) then after_call k else after_change change k

abbrev pub after_arming : ℕ → Kept → Kept
after_arming calls k = record { shown = k.shown; synced = k.synced; pending = k.pending; calls_left = Some (nearer calls k.calls_left); failed = k.failed }

-- a stop leaves what the pick leaves of the pending changes
abbrev pub after_crash : ℕ → Kept → Kept
after_crash pick k = record { shown = left_by pick k.pending k.synced; synced = left_by pick k.pending k.synced; pending = []; calls_left = None; failed = false }

-- what a new disk keeps
abbrev pub kept_at_first : Kept
kept_at_first = record { shown = λ _. []; synced = λ _. []; pending = []; calls_left = None; failed = false }

-- the count of faults rises by one where a call fails, and stays else
abbrev pub faults_after : {T : Type 0} → Result T DiskError → ℕ → ℕ
faults_after (Ok value) faults = faults
faults_after (Err Failed) faults = counted_up faults
faults_after (Err NoMemory) faults = faults
