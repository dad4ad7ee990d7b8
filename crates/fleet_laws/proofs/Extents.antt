-- What was acknowledged is within the histories.
use Rattle.std.proofs.Common.{ℕ, ◌≤◌, length, ap, arith, inl, inr}
use Rattle.std.proofs.lemmas.Bool.{cases_lt}
use Rattle.fleet_laws.specs.Fleets.{Value, Fleet, IsAppointed, empty_fleet}
use Rattle.fleet_laws.specs.Invariant.{Invariant}
use Rattle.fleet_laws.specs.Growth.{ComesAfter}
use Rattle.fleet_laws.specs.Moves.{Acknowledges, acknowledged, Move, Run, IsReached}
use Rattle.fleet_laws.specs.Moves.Move.{boot, change, copy, acknowledge, grow, answer, appoint, activate}
use Rattle.fleet_laws.specs.Moves.Run.{rests, moves}
use Rattle.fleet_laws.proofs.Acknowledging.{new_number}
use Rattle.fleet_laws.proofs.Runs.{empty_invariant, move_after, run_keeps, reached_invariant}

abbrev IsWithin : {R : Type 0} → Fleet R → Type 0
IsWithin f = (r e : ℕ) → f.acknowledged r e ≤ length (f.history e)

-- what was within a history is so after, since histories of appointed epochs only grow
within_after : {R : Type 0} (f g : Fleet R) → Invariant f → ComesAfter f g → IsWithin f → (r e : ℕ) → f.acknowledged r e ≤ length (g.history e)
within_after f g i after within r e = elim (cases_lt 0 (f.acknowledged r e)) [
  | inr none ↦ omega (arith, none)
  | inl one ↦ omega (arith, within r e, (after.history e (i.appointments.known r e one)).right)
]

acknowledged_is_within : {R : Type 0} (f : Fleet R) (r e l : ℕ) (v : Value R) (i : Invariant f) (a : Acknowledges f r e l v) → IsWithin f → IsWithin (acknowledged f r e l)
acknowledged_is_within f r e l v i a within q d = elim (new_number f r e l v i a q d) [
  | inl x ↦ omega (arith, x.2, within r e, a.within, ap (λ y. length (f.history y)) x.1)
  | inr x ↦ omega (arith, x.1, within q d)
]

move_within : {R : Type 0} (f g : Fleet R) → Invariant f → IsWithin f → Move f g → IsWithin g
move_within f g i within (acknowledge r e l v a) = acknowledged_is_within f r e l v i a within
move_within f g i within (boot e p members a) = within_after f g i (move_after f g i (boot e p members a)) within
move_within f g i within (change r values role copying a) = within_after f g i (move_after f g i (change r values role copying a)) within
move_within f g i within (copy r e n head c a) = within_after f g i (move_after f g i (copy r e n head c a)) within
move_within f g i within (grow r e entries a) = within_after f g i (move_after f g i (grow r e entries a)) within
move_within f g i within (answer e r v a) = within_after f g i (move_after f g i (answer e r v a)) within
move_within f g i within (appoint e p v members a) = within_after f g i (move_after f g i (appoint e p v members a)) within
move_within f g i within (activate a) = within_after f g i (move_after f g i (activate a)) within

run_within : {R : Type 0} (f g : Fleet R) → Invariant f → IsWithin f → Run f g → IsWithin g
run_within f g i within rests = within
run_within f g i within (moves {g = h} run move) = move_within h g (run_keeps f h i run) (run_within f h i within run) move

pub acknowledged_within : {R : Type 0} (f : Fleet R) → IsReached f → (r e : ℕ) → 1 ≤ f.acknowledged r e → IsAppointed f e × (f.acknowledged r e ≤ length (f.history e))
acknowledged_within f run r e one = (
  (reached_invariant f run).appointments.known r e one,
  run_within empty_fleet f empty_invariant (λ q d. omega arith) run r e,
)
