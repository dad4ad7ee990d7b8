-- Before anything happened the fleet is served.
use Rattle.std.proofs.Common.{◌≡◌, ℕ, ◌≤◌, [], ◌∷◌, replicate, refl, sym, ap, subst, inl, inr}
use Rattle.std.specs.Prelude.{Contains}
use Rattle.std.specs.List.{IsDistinct}
use Rattle.std.proofs.lemmas.Bool.{cases_lt}
use Rattle.std.proofs.lemmas.Option.{none-some}
use Rattle.std.proofs.lemmas.List.{get_or-replicate, get_or_past, length-replicate}
use Rattle.txn_table.specs.Whole.{Whole}
use Rattle.order_machine.specs.Machine.{Replica, never_opened, empty_machine}
use Rattle.order_machine.proofs.Machines.{never_put}
use Rattle.fleet_laws.specs.Fleets.{empty_fleet}
use Rattle.fleet_laws.proofs.Puts.{only_member}
use Rattle.fleet_run.specs.Scenes.{FleetReplica, replica_at, held_by, empty_whole, first_state}
use Rattle.fleet_run.specs.Scenes.FleetReplica.{Closed}
use Rattle.fleet_rows.specs.Served.{IsLogOf, IsReplicaOf, IsClosedOf}
use Rattle.fleet_run.specs.Laws.{FirstIsSound}
use Rattle.fleet_rows.specs.Laws.{FirstIsServed}

all_closed : (r : ℕ) → replica_at first_state.replicas r ≡ Closed (empty_whole ∷ [])
all_closed r =
    elim (cases_lt r 9) [
      | inl lt ↦ get_or-replicate 9 r (Closed (empty_whole ∷ [])) (Closed (empty_whole ∷ [])) lt
      | inr le ↦ get_or_past (replicate 9 (Closed (empty_whole ∷ []))) r (Closed (empty_whole ∷ [])) (subst (λ (n : ℕ). n ≤ r) (sym (length-replicate 9 (Closed (empty_whole ∷ [])))) le)
    ]

first_closed : (r : ℕ) → IsClosedOf empty_machine r
first_closed r = record {
  down = ap (λ (x : Replica). x.up) (never_put r);
  bystander = record { no_role = ap (λ (x : Replica). x.role) (never_put r); idle = record { free = ap (λ (x : Replica). x.grants) (never_put r); over = λ t x known. absurd (none-some x known) } };
}

first_log : IsLogOf empty_machine empty_whole
unfolding IsDistinct
first_log = record {
  rules = tt;
  text = record { serial = tt; once = tt };
  shown = record { later = []; entries = []; one = refl; is = refl };
  last = inl refl;
  fence = inl refl;
}

pub first_is_served : FirstIsSound → FirstIsServed
first_is_served sound = record {
  fleet = empty_fleet;
  sound = sound;
  run = record { steps = []; whole = tt; is = refl };
  nine = length-replicate 9 never_opened;
  order = record { log = []; one = refl; chosen = inl refl };
  replicas = λ r. subst (λ (x : FleetReplica). IsReplicaOf empty_machine r x) (sym (all_closed r)) (first_closed r);
  logs = λ r w there.
      let only : Contains (empty_whole ∷ []) w = subst (λ (x : FleetReplica). Contains (held_by x) w) (all_closed r) there in
      subst (λ (y : Whole). IsLogOf empty_machine y) (sym (only_member empty_whole w only)) first_log;
}
