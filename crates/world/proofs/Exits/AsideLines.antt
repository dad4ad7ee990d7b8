-- The events that change nothing: a disk is armed, and what a replica shows is inspected.
use Rattle.std.proofs.Common.{◌≡◌, ap, cond, ℕ, length, map, List, [], ◌∷◌, true, false, Option, Some, None, refl, ◌∙◌, sym, subst}
use Rattle.events.specs.declared.event.Event.TheVariants.{Arm, Inspect}
use Rattle.order_machine.specs.declared.observation.Observation.{Observation}
use Rattle.order_machine.specs.declared.observation.Observation.TheVariants as says
use Rattle.order_machine.specs.Order.{state_at}
use Rattle.order_machine.specs.Machine.{Machine, replica, order_of, is_booted}
use Rattle.order_machine.specs.Contents.{rows_of}
use Rattle.order_machine.specs.Transitions.{Position, HoldsBehind, IsComplete, opened, once_booted}
use Rattle.order_machine.specs.Legal.{Lines, behind, IsWhole, moved}
use Rattle.world.proofs.States.Beginnings.{served_from}
use Rattle.events.specs.declared.answer.Answer.TheVariants as answers
use Rattle.events.specs.declared.answer.Answer.{Answer}

-- an open replica of a booted world refuses neither
unrefused : (m : Machine) (refused : Option Answer) → is_booted m ≡ true → (replica m 0).up ≡ true → once_booted m (cond (replica m 0).up None refused) ≡ None
unrefused m refused booted up = ap (λ b. cond b (cond (replica m 0).up None refused) (Some (answers.Refused 9))) booted ∙ ap (λ b. cond b None refused) up

-- ---- arm

pub arm_serves : (m : Machine) (k : ℕ) → is_booted m ≡ true → (replica m 0).up ≡ true → HoldsBehind m → IsWhole m (Arm 0 k) (says.Done ∷ []) × (moved m (Arm 0 k) (says.Done ∷ []) ≡ m)
arm_serves m k booted up holds =
    served_from m (Arm 0 k) (says.Done ∷ []) (opened m (Arm 0 k)) (λ n. n ≡ m) (unrefused m (Some (answers.Down 0)) booted up) refl
    (record {
      may = (record { named = refl; in_rank = refl; next = refl; goes_on = refl; row = refl }, tt);
      complete = record { opened = refl; grown = refl; mounted = refl; told = refl; answered = refl };
      holds = holds;
    })
    refl

-- ---- inspect

abbrev pub rows_shown : Machine → List (List (List ℕ))
rows_shown m = rows_of (state_at (order_of m 0) (replica m 0).show)

-- an inspection with these rows still to print
abbrev telling : Machine → List (List (List ℕ)) → Position
telling m rows = record {
  machine = m;
  event = Inspect 0;
  primary = 0;
  client = None;
  answered = true;
  rank = 6;
  opening = None;
  growing = false;
  mounts = [];
  rows = rows;
  rose = [];
  faulted = [];
}

rows_may : (m : Machine) (rows : List (List (List ℕ))) → Lines (telling m rows) (map says.Rows rows)
rows_may m [] = tt
rows_may m (words ∷ rows) = (record { named = refl; in_rank = refl; next = refl; goes_on = refl; row = (rows, refl) }, rows_may m rows)

rows_behind : (m : Machine) (rows : List (List (List ℕ))) → behind (telling m rows) (map says.Rows rows) ≡ telling m []
rows_behind m [] = refl
rows_behind m (words ∷ rows) = rows_behind m rows

abbrev pub inspection : Machine → List Observation
inspection m = says.State 0 (length (rows_shown m)) ∷ map says.Rows (rows_shown m)

pub inspect_serves : (m : Machine) → is_booted m ≡ true → (replica m 0).up ≡ true → HoldsBehind m → IsWhole m (Inspect 0) (inspection m) × (moved m (Inspect 0) (inspection m) ≡ m)
inspect_serves m booted up holds =
    let told : behind (telling m (rows_shown m)) (map says.Rows (rows_shown m)) ≡ telling m [] = rows_behind m (rows_shown m) in
    served_from m (Inspect 0) (inspection m) (opened m (Inspect 0)) (λ n. n ≡ m) (unrefused m (Some (answers.Down 0)) booted up) refl
    (record {
      may = (record { named = refl; in_rank = refl; next = refl; goes_on = refl; row = (refl, refl, refl) }, rows_may m (rows_shown m));
      complete = subst IsComplete (sym told) (record { opened = refl; grown = refl; mounted = refl; told = refl; answered = refl });
      holds = subst (λ p. HoldsBehind p.machine) (sym told) holds;
    })
    (ap (λ p. p.machine) told)
