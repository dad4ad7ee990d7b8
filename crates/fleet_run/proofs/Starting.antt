-- The first state is sound.
use Rattle.std.proofs.Common.{◌≡◌, ◌∙◌, ℕ, zero, suc, [], ◌∷◌, replicate, get_or, refl, sym, ap, subst, arith}
use Rattle.std.specs.Prelude.{Contains}
use Rattle.std.proofs.lemmas.Bool.{false≢true}
use Rattle.order_machine.specs.Machine.{Replica, never_opened}
use Rattle.fleet_laws.specs.Moves.Run.{rests}
use Rattle.fleet_laws.proofs.Puts.{only_member}
use Rattle.fleet_run.specs.Scenes.{FleetReplica, replica_at, held_by, empty_whole, first_state}
use Rattle.fleet_run.specs.Scenes.FleetReplica.{Closed}
use Rattle.fleet_run.specs.Kernel.{values_of, role_of}
use Rattle.fleet_run.specs.Sound.{IsKept, IsItem}
use Rattle.fleet_run.specs.Laws.{FirstIsSound}
use Rattle.fleet_run.proofs.Codes.{no_epoch_coded}
use Rattle.fleet_run.proofs.MachineLines.{is_role_of}
use Rattle.fleet_run.proofs.Writing.{all_none}
use Rattle.fleet_run.proofs.Acting.{closed_open}

pub alike : {A : Type 0} (x : A) (n r : ℕ) → get_or (replicate n x) r x ≡ x
alike x zero r = refl
alike x (suc n) zero = refl
alike x (suc n) (suc r) = alike x n r

abbrev first : FleetReplica
first = Closed (empty_whole ∷ [])

pub at_first : (r : ℕ) → replica_at first_state.replicas r ≡ Closed (empty_whole ∷ [])
at_first r = alike first 9 r

none_there : {A : Type 0} (P : Type 0) (x : A) → Contains [] x → P
none_there P x c = absurd (omega (arith, c.1))

empty_kept : IsKept empty_whole
empty_kept = record { start = refl; fence = no_epoch_coded; items = all_none IsItem }

pub first_is_sound : FirstIsSound
first_is_sound = record {
  reached = rests;
  matches = record {
    values = λ r. ap values_of (sym (at_first r));
    role = λ r. ap role_of (sym (at_first r));
    no_copy = λ r. refl;
    rule = record {
      coded = λ t c. none_there _ t c;
      appointed = λ e coded. refl;
      only = λ n is. absurd (false≢true is);
      members = λ t c. none_there _ t c;
      some_member = λ t c. none_there _ t c;
      latest = refl;
      active = refl;
      answers = λ e coded r. refl;
      surveyed = λ n r is. absurd (false≢true is);
      unbooted = λ none. refl;
    };
  };
  roles = record {
    given = λ r e h. absurd (false≢true (sym (ap (λ (x : Replica). is_role_of e x.role) (alike never_opened 9 r)) ∙ h));
    led = λ r o l e up lead h. closed_open (empty_whole ∷ []) o (sym (at_first r) ∙ up);
    begun = λ e h. absurd (false≢true h);
  };
  nine = refl;
  standing = λ r o up. closed_open (empty_whole ∷ []) o (sym (at_first r) ∙ up);
  kept = λ r w c. subst IsKept (sym (only_member empty_whole w (subst (λ (x : FleetReplica). Contains (held_by x) w) (at_first r) c))) empty_kept;
}
