-- What the disks hold of what was shown, after each run and wherever an event is left.
use Rattle.std.specs.Prelude.{◌≡◌, ℕ, true, ◌⊎◌, List, [], All, Contains, Bool, None}
use mathlib.Core.List.{IsPrefix}
use Rattle.txn_table.specs.Log.{Items, commits_in}
use Rattle.txn_table.specs.Whole.{Whole}
use Rattle.events.specs.declared.event.Event.{Event}
use Rattle.order_machine.specs.declared.observation.Observation.{Observation}
use Rattle.order_machine.specs.Transitions.{refusal}
use Rattle.order_machine.specs.Legal.{Step}
use Rattle.fleet_laws.specs.Counting.{IsWriteQuorum}
use Rattle.fleet_run.specs.Scenes.{FleetReplica, FleetState, Scene, replica_at, held_by, entered}
use Rattle.fleet_run.specs.Acts.{Act, Goes}
use Rattle.fleet_run.specs.Plans.{plan, FleetRun, IsFleetRun}
use Rattle.fleet_run.specs.Laws.{IsSpelled, stable_logs}

-- Each of a write quorum of the members holds the log and all that it commits, in whatever its disk may hold; or there is nothing of it.
abbrev pub IsHeldBy : List ℕ → List FleetReplica → Items → Type 0
IsHeldBy members replicas shown =
    (shown ≡ []) ⊎ ((p : ℕ → Bool) × IsWriteQuorum p members × ((q : ℕ) → p q ≡ true → (w : Whole) → Contains (held_by (replica_at replicas q)) w → IsPrefix shown w.log × IsPrefix (commits_in shown) (commits_in w.log)))

-- the events name what there is
abbrev pub AreSpelled : List Step → Type 0
AreSpelled steps = All (λ step. IsSpelled step.event) steps

-- What was stable anywhere after a run is held after whatever events follow, by a write quorum of the configuration that there was then.
abbrev pub RunsKeepWhatIsShown : Type 0
RunsKeepWhatIsShown =
    (steps later : List Step) (s t : FleetState) → IsFleetRun steps s → AreSpelled steps → FleetRun s later t → AreSpelled later → (r : ℕ) (shown : Items) → Contains (stable_logs (replica_at s.replicas r)) shown
    → IsHeldBy s.machine.config t.replicas shown

-- So it is wherever the next event is left, between two of its acts: in a reconfiguration too the members of before hold what was stable.
abbrev pub StopsKeepWhatIsShown : Type 0
StopsKeepWhatIsShown =
    (steps : List Step) (s : FleetState) (event : Event) (lines : List Observation) (t : Scene) (acts : List Act) → IsFleetRun steps s → AreSpelled steps → IsSpelled event → refusal s.machine event ≡ None
    → Goes (entered s event) (plan s event) lines t acts → (r : ℕ) (shown : Items) → Contains (stable_logs (replica_at s.replicas r)) shown → IsHeldBy s.machine.config t.replicas shown
