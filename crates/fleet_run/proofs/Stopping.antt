-- What was shown is held after each run, and wherever an event is left.
use Rattle.std.proofs.Common.{ℕ, List, inl, inr}
use Rattle.std.specs.Prelude.{Contains}
use Rattle.log_records.specs.declared.record.Record.{Record}
use Rattle.txn_table.specs.Log.{Items}
use Rattle.order_machine.specs.Machine.{Machine}
use Rattle.fleet_laws.specs.Fleets.{Fleet}
use Rattle.fleet_laws.specs.Moves.{Run}
use Rattle.fleet_run.specs.Scenes.{FleetReplica, replica_at}
use Rattle.fleet_run.specs.Sound.{Sound}
use Rattle.fleet_run.specs.Laws.{stable_logs}
use Rattle.fleet_run.specs.Stops.{IsHeldBy, RunsKeepWhatIsShown, StopsKeepWhatIsShown}
use Rattle.fleet_run.proofs.EventRuns.{run_sound, runs_are_sound, beginnings_keep_sound}
use Rattle.fleet_run.proofs.Following.{what_is_shown_is_held}
use Rattle.fleet_run.proofs.OrderLines.{prefix_commits}

held_by_quorum : (m n : Machine) (replicas now : List FleetReplica) (f g : Fleet Record) → Sound m replicas f → Run f g → Sound n now g → (r : ℕ) (shown : Items) → Contains (stable_logs (replica_at replicas r)) shown → IsHeldBy m.config now shown
held_by_quorum m n replicas now f g s run u r shown there = elim (what_is_shown_is_held m n replicas now f g s run u r shown there) [
  | inl none ↦ inl none
  | inr held ↦ inr (held.0, held.1, λ q is w c. let first = held.2 q is w c in (first, prefix_commits shown w.log first))
]

pub runs_keep_what_is_shown : RunsKeepWhatIsShown
runs_keep_what_is_shown steps later s t run spelled more others r shown there =
    let a = runs_are_sound steps s run spelled in
    let b = run_sound s a.0 a.1 later t more others in
    held_by_quorum s.machine t.machine s.replicas t.replicas a.0 b.0 a.1 b.1 b.2 r shown there

pub stops_keep_what_is_shown : StopsKeepWhatIsShown
stops_keep_what_is_shown steps s event lines t acts run spelled named none goes r shown there =
    let a = runs_are_sound steps s run spelled in
    let b = beginnings_keep_sound s t a.0 event lines acts a.1 named none goes in
    held_by_quorum s.machine b.0 s.replicas t.replicas a.0 b.1 a.1 b.2 b.3 r shown there
