-- The invariant after every run.
use Rattle.std.proofs.Common.{◌≡◌, ℕ, true, false, [], length, refl, sym, ◌∙◌, subst, arith, inl}
use Rattle.fleet_laws.proofs.Tree.{epoch_at-zero}
use Rattle.std.proofs.lemmas.Bool.{false≢true}
use Rattle.fleet_laws.specs.Fleets.{Value, Fleet, empty_fleet, empty_value}
use Rattle.fleet_laws.specs.Invariant.{IsSound, Appointments, Invariant}
use Rattle.fleet_laws.specs.Growth.{ComesAfter}
use Rattle.fleet_laws.specs.Moves.{Move, Run, IsReached}
use Rattle.fleet_laws.specs.Moves.Move.{boot, change, copy, acknowledge, grow, answer, appoint, activate}
use Rattle.fleet_laws.specs.Moves.Run.{rests, moves}
use Rattle.fleet_laws.proofs.After.{after_self, history_after}
use Rattle.fleet_laws.proofs.Puts.{only_member, first_member}
use Rattle.fleet_laws.proofs.Answering.{answer_after, answer_keeps}
use Rattle.fleet_laws.proofs.Copying.{copy_after, copy_keeps}
use Rattle.fleet_laws.proofs.Acknowledging.{acknowledge_after, acknowledge_keeps}
use Rattle.fleet_laws.proofs.Growing.{grow_after, grow_keeps}
use Rattle.fleet_laws.proofs.Changing.{change_after, change_keeps}
use Rattle.fleet_laws.proofs.Activating.{activate_after, activate_keeps}
use Rattle.fleet_laws.proofs.Appointing.{appoint_after, appoint_keeps}
use Rattle.fleet_laws.proofs.Booting.{boot_after, boot_keeps}

no_epoch : {A : Type 0} → (false ≡ true) → A
no_epoch h = absurd (false≢true h)

empty_sound : {R : Type 0} (r : ℕ) (v : Value R) → v ≡ empty_value → IsSound empty_fleet r v
empty_sound {R} r v is = subst (IsSound empty_fleet r) (sym is) (record {
  canonical = λ n one w. absurd (omega arith);
  head = omega arith;
  base = omega arith;
  fenced = omega (arith, epoch_at-zero {R = R} []);
  holds = λ e l le live. no_epoch live.appointed;
  safe = inl refl;
})

empty_appointments : {R : Type 0} → Appointments {R = R} (empty_fleet {R = R}).histories (empty_fleet {R = R}).configurations (empty_fleet {R = R}).acknowledged
empty_appointments = record {
  latest = λ e h. no_epoch h;
  is_latest = inl refl;
  activated = λ e h. no_epoch h;
  active = λ e h. no_epoch h;
  is_active = λ e h. no_epoch h;
  founder = λ e h. no_epoch h;
  is_founder = λ e h. no_epoch h;
  before = λ e h. no_epoch h;
  chosen = λ e h. no_epoch h;
  known = λ r e h. absurd (omega (arith, h));
}

pub empty_invariant : {R : Type 0} → Invariant {R = R} empty_fleet
empty_invariant = record {
  appointments = empty_appointments;
  branches = λ e h. no_epoch h;
  barriers = λ e h. no_epoch h;
  some_value = λ r. (empty_value, first_member empty_value []);
  values = λ r v c. empty_sound r v (only_member empty_value v c);
  key = λ d e l h a lt m. no_epoch h;
  surveys = λ e r h. no_epoch h;
  copies = λ r h. absurd (omega (arith, h));
  primaries = λ r h. absurd (omega (arith, h));
}

pub move_keeps : {R : Type 0} (f g : Fleet R) → Invariant f → Move f g → Invariant g
move_keeps f g i (boot e p members a) = boot_keeps f e p members i a
move_keeps f g i (change r values role copying a) = change_keeps f r values role copying i a
move_keeps f g i (copy r e n head c a) = copy_keeps f r e n head c i a
move_keeps f g i (acknowledge r e l v a) = acknowledge_keeps f r e l v i a
move_keeps f g i (grow r e entries a) = grow_keeps f r e entries i a
move_keeps f g i (answer e r v a) = answer_keeps f e r v i a
move_keeps f g i (appoint e p v members a) = appoint_keeps f e p v members i a
move_keeps f g i (activate a) = activate_keeps f i a

pub move_after : {R : Type 0} (f g : Fleet R) → Invariant f → Move f g → ComesAfter f g
move_after f g i (boot e p members a) = boot_after f e p members i a
move_after f g i (change r values role copying a) = change_after f r values role copying i a
move_after f g i (copy r e n head c a) = copy_after f r e n head c
move_after f g i (acknowledge r e l v a) = acknowledge_after f r e l v i a
move_after f g i (grow r e entries a) = grow_after f r e entries
move_after f g i (answer e r v a) = answer_after f e r v
move_after f g i (appoint e p v members a) = appoint_after f e p v members i a
move_after f g i (activate a) = activate_after f

pub after_trans : {R : Type 0} (f g h : Fleet R) → ComesAfter f g → ComesAfter g h → ComesAfter f h
after_trans f g h a b = record {
  appointed = λ e x. b.appointed e (a.appointed e x);
  latest = omega (arith, a.latest, b.latest);
  start = λ e x. b.start e (a.appointed e x) ∙ a.start e x;
  history = λ e x. history_after g h b e (length (f.history e)) (f.history e) (a.appointed e x) (a.history e x);
  acknowledged = λ r e. omega (arith, a.acknowledged r e, b.acknowledged r e);
  chosen = λ e l x c. b.chosen e l (a.appointed e x) (a.chosen e l x c);
  may = λ e l x lt m. a.may e l x lt (b.may e l (a.appointed e x) (omega (arith, lt, a.latest)) m);
}

pub run_keeps : {R : Type 0} (f g : Fleet R) → Invariant f → Run f g → Invariant g
run_keeps f g i rests = i
run_keeps f g i (moves {g = h} run move) = move_keeps h g (run_keeps f h i run) move

pub run_after : {R : Type 0} (f g : Fleet R) → Invariant f → Run f g → ComesAfter f g
run_after f g i rests = after_self f
run_after f g i (moves {g = h} run move) = after_trans f h g (run_after f h i run) (move_after h g (run_keeps f h i run) move)

pub reached_invariant : {R : Type 0} (f : Fleet R) → IsReached f → Invariant f
reached_invariant f run = run_keeps empty_fleet f empty_invariant run
