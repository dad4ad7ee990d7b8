-- An inspection tells what its replica shows.
use Rattle.std.proofs.Common.{◌≡◌, ◌∙◌, ℕ, true, List, [], ◌∷◌, ◌++◌, length, map, set, None, refl, sym, ap, subst, inl, inr, append-nil}
use Rattle.std.specs.Prelude.{Contains}
use Rattle.txn_table.specs.Whole.{Whole}
use Rattle.events.specs.declared.event.Event.{Event}
use Rattle.events.specs.declared.event.Event.TheVariants.{Inspect}
use Rattle.order_machine.specs.declared.observation.Observation.{Observation}
use Rattle.order_machine.specs.declared.observation.Observation.TheVariants as says
use Rattle.order_machine.specs.Contents.{rows_of}
use Rattle.order_machine.specs.Machine.{Machine}
use Rattle.order_machine.specs.Transitions.{Position, HoldsBehind, IsComplete, opened, at_start, shown_rows}
use Rattle.order_machine.specs.Legal.{Lines, IsServed, behind}
use Rattle.replica_model.specs.declared.step.StepEvent.TheVariants as steps
use Rattle.replica_model.specs.OpenReplica.{OpenReplica, contents_of}
use Rattle.fleet_laws.proofs.Puts.{first_member}
use Rattle.fleet_run.specs.Scenes.{FleetReplica, FleetState, replica_at, held_by, empty_whole}
use Rattle.fleet_run.specs.Scenes.FleetReplica.{Open, Closed}
use Rattle.fleet_run.specs.Acts.Act.{Takes}
use Rattle.fleet_run.specs.Plans.{plan}
use Rattle.fleet_rows.specs.Served.{Served, IsLogOf, IsReplicaOf}
use Rattle.fleet_run.specs.Laws.{EventsKeepSound}
use Rattle.fleet_rows.specs.Laws.{InspectionsAreServed}
use Rattle.fleet_rows.proofs.Keeping.{Done, Shows, at_each_in}
use Rattle.fleet_rows.proofs.Serving.{serves, shows_as, holds_there}
use Rattle.fleet_rows.proofs.QuietSteps.{quiet_from, one_step, sees, open_is_open, inside}

-- ---- a step that leaves the replica as it was

-- the machine and the replica stay, and so does all that is known of them
pub same_shows : (s : FleetState) (r : ℕ) (o : OpenReplica) (event : Event) (lines : List Observation) → Served s → replica_at s.replicas r ≡ Open o → IsServed (opened s.machine event) lines
    → Shows s event lines (record { machine = s.machine; replicas = set s.replicas r (Open o) })
same_shows s r o event lines v up served = record {
  served = served;
  orders = refl;
  nine = v.nine;
  replicas = at_each_in (λ (q : ℕ) (y : FleetReplica). IsReplicaOf s.machine q y) s.replicas r (Open o) (Closed (empty_whole ∷ [])) (inside s.replicas r o up) (λ q apart. v.replicas q) (open_is_open s.machine r (replica_at s.replicas r) o up (v.replicas r));
  logs = at_each_in (λ (q : ℕ) (y : FleetReplica). (w : Whole) → Contains (held_by y) w → IsLogOf s.machine w) s.replicas r (Open o) (Closed (empty_whole ∷ [])) (inside s.replicas r o up) (λ q apart. v.logs q)
      (λ w there. v.logs r w (subst (λ (y : FleetReplica). Contains (held_by y) w) (sym up) there));
}

-- ---- an inspection

plan_inspect : (s : FleetState) (r : ℕ) → plan s (Inspect r) ≡ Takes r steps.Inspect [] ∷ []
unfolding plan
plan_inspect s r = refl

-- the place behind its first line, where these rows are still to be told
abbrev telling : Machine → ℕ → List (List (List ℕ)) → Position
telling m r rows = record (at_start m (Inspect r) r None []) { answered = true; rank = 6; rows = rows }

rows_told : (m : Machine) (r : ℕ) (rows : List (List (List ℕ))) → Lines (telling m r rows) (map says.Rows rows) × (behind (telling m r rows) (map says.Rows rows) ≡ telling m r [])
rows_told m r [] = (tt, refl)
rows_told m r (row ∷ rows) = let more = rows_told m r rows in ((record { named = refl; in_rank = refl; next = refl; goes_on = refl; row = (rows, refl) }, more.0), more.1)

inspect_all : (m : Machine) (r k : ℕ) (rows : List (List (List ℕ))) → k ≡ r → shown_rows (opened m (Inspect r)) r ≡ rows → HoldsBehind m
    → IsServed (opened m (Inspect r)) (says.State k (length rows) ∷ map says.Rows rows) × ((behind (opened m (Inspect r)) (says.State k (length rows) ∷ map says.Rows rows)).machine ≡ m)
inspect_all m r k rows own told holds =
    let more = rows_told m r rows in
    let now : Position = record (telling m r []) { rows = shown_rows (opened m (Inspect r)) r } in
    let same : now ≡ telling m r rows = ap (telling m r) told in
    let end : behind now (map says.Rows rows) ≡ telling m r [] = ap (λ (p : Position). behind p (map says.Rows rows)) same ∙ more.1 in
    subst (λ (i : ℕ). IsServed (opened m (Inspect r)) (says.State i (length rows) ∷ map says.Rows rows) × ((behind (opened m (Inspect r)) (says.State i (length rows) ∷ map says.Rows rows)).machine ≡ m)) (sym own) (
      record {
        may = (record { named = refl; in_rank = refl; next = refl; goes_on = refl; row = (refl, ap length (sym told), refl) }, subst (λ (p : Position). Lines p (map says.Rows rows)) (sym same) more.0);
        complete = subst (λ (p : Position). IsComplete p) (sym end) (record { opened = refl; grown = refl; mounted = refl; told = refl; answered = refl });
        holds = subst (λ (p : Position). HoldsBehind p.machine) (sym end) holds;
      },
      ap (λ (p : Position). p.machine) end,
    )

inspect_shows : (r : ℕ) (s t : FleetState) (lines : List Observation) → Served s → Done s (Inspect r) lines t → Shows s (Inspect r) lines t
inspect_shows r s t lines v d =
    let m = s.machine in
    let k = one_step s t (Inspect r) r steps.Inspect [] lines d (plan_inspect s r) refl (λ o up. quiet_from o steps.Inspect (v.sound.standing r o up).settled refl) in
    let o = k.replica in
    let up = k.up in
    let rows = rows_of (contents_of o) in
    let own : List Observation = says.State o.id (length rows) ∷ map says.Rows rows in
    let whole = v.sound.kept r o.disk (subst (λ (x : FleetReplica). Contains (held_by x) o.disk) (sym up) (first_member o.disk [])) in
    let seen : shown_rows (opened m (Inspect r)) r ≡ rows = ap rows_of (sees m r o whole.start (open_is_open m r (replica_at s.replicas r) o up (v.replicas r))) in
    let all = inspect_all m r o.id rows (v.sound.standing r o up).number seen (holds_there m v.run) in
    elim k.went [
      | inl fine ↦
          shows_as s t (record { machine = m; replicas = set s.replicas r (Open o) }) (Inspect r) lines own (fine.lines_are ∙ append-nil own)
          (fine.ends ∙ ap (λ (x : OpenReplica). let u : FleetState = record { machine = (behind (opened m (Inspect r)) (own ++ [])).machine; replicas = set s.replicas r (Open x) } in u) (v.sound.standing r o up).settled
          ∙ ap (λ (ls : List Observation). let u : FleetState = record { machine = (behind (opened m (Inspect r)) ls).machine; replicas = set s.replicas r (Open o) } in u) (append-nil own) ∙ ap (λ (n : Machine). let u : FleetState = record { machine = n; replicas = set s.replicas r (Open o) } in u) all.1)
          (same_shows s r o (Inspect r) own v up all.0)
      | inr failed ↦ absurd (failed.logs refl)
    ]

pub inspections_are_served : EventsKeepSound → InspectionsAreServed
inspections_are_served keep r = serves keep (Inspect r) tt (inspect_shows r)
