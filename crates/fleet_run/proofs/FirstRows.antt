-- Before anything happened the machine and the replicas agree.
use Rattle.std.proofs.Common.{◌≡◌, ◌∙◌, ℕ, false, [], ◌∷◌, refl, sym, ap, subst, inl, arith}
use Rattle.std.specs.Prelude.{Contains, option_and_then, ◌==◌}
use Rattle.std.specs.List.{list_all}
use Rattle.std.specs.Option.{option_map_or}
use Rattle.std.proofs.lemmas.Bool.{false≢true}
use Rattle.txn_table.specs.Whole.{Whole, stable_of}
use Rattle.order_machine.specs.Order.{empty_order}
use Rattle.order_machine.specs.Machine.{Replica, empty_machine, never_opened, replica, appointment_of, configs_of}
use Rattle.order_machine.specs.Transitions.{HoldsBehind}
use Rattle.fleet_laws.proofs.Puts.{only_member}
use Rattle.fleet_run.specs.Scenes.{FleetReplica, held_by, empty_whole}
use Rattle.fleet_run.specs.Scenes.FleetReplica.{Closed}
use Rattle.fleet_run.specs.Rows.{BeginsOrder, AgreesClosed, AgreesAt, FirstAgrees}
use Rattle.fleet_run.proofs.Starting.{alike, at_first}

at_start : (r : ℕ) → replica empty_machine r ≡ never_opened
at_start r = alike never_opened 9 r

empty_begins : BeginsOrder empty_order empty_whole (stable_of empty_whole)
empty_begins = record { within = omega arith; entries = refl }

empty_closed : AgreesClosed never_opened empty_order (empty_whole ∷ [])
empty_closed = record { down = refl; role = refl; begins = λ w c. subst (λ (u : Whole). BeginsOrder empty_order u (stable_of u)) (sym (only_member empty_whole w c)) empty_begins }

none_alone : (r : ℕ) (x : Replica) → x ≡ never_opened
    → option_map_or (λ a. list_all (λ c. list_all (λ member. member == r) c) (configs_of a)) (option_and_then (λ role. appointment_of empty_machine role.epoch) x.role) false ≡ false
none_alone r x is = ap (λ (y : Replica). option_map_or (λ a. list_all (λ c. list_all (λ member. member == r) c) (configs_of a)) (option_and_then (λ role. appointment_of empty_machine role.epoch) y.role) false) is

empty_behind : HoldsBehind empty_machine
empty_behind = record {
  not_shown = λ r t h. absurd (false≢true h);
  alone = λ r h. absurd (false≢true (sym (none_alone r (replica empty_machine r) (at_start r)) ∙ h));
}

pub first_agrees : FirstAgrees
first_agrees = record {
  order = empty_order;
  orders = refl;
  start = refl;
  base = refl;
  losses = λ r. ap (λ (x : Replica). x.loss) (at_start r);
  nine = refl;
  each = λ r. subst (λ (z : FleetReplica). AgreesAt (replica empty_machine r) empty_order z) (sym (at_first r)) (subst (λ (y : Replica). AgreesAt y empty_order (Closed (empty_whole ∷ []))) (sym (at_start r)) empty_closed);
  fences = λ r w c. inl (ap (λ (u : Whole). u.fence) (only_member empty_whole w (subst (λ (x : FleetReplica). Contains (held_by x) w) (at_first r) c)));
  behind = empty_behind;
}
