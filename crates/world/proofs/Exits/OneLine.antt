-- Events that have one line, and change nothing but the count of events.
use Rattle.std.proofs.Common.{◌≡◌, sym, subst, ℕ, ◌≤◌, List, [], ◌∷◌, Some, Result, Ok, Err, IfOk, OnOk, OnErr}
use Rattle.disk_model.specs.Disk.{Areas}
use Rattle.events.specs.declared.event.Event.{Event}
use Rattle.order_machine.specs.declared.observation.Observation.{Observation}
use Rattle.order_machine.specs.Machine.{Machine}
use Rattle.order_machine.specs.Transitions.{refusal}
use Rattle.order_machine.specs.Legal.{IsWhole, moved}
use Rattle.world.specs.declared.error.WorldError.{WorldError}
use Rattle.world.specs.declared.error.WorldError.TheVariants as errors
use Rattle.world.specs.Kept.{Kept}
use Rattle.world.specs.World.{StandsFor, StillHolds, Serves}
use Rattle.world.proofs.States.Refusals.{refused_serves}
use Rattle.world.proofs.States.Later.{stands_later}
use Rattle.world.proofs.States.HeldOrder.{stands_still}
use Rattle.order_machine.specs.AnswerLines.{line_of_answer}
use Rattle.events.specs.declared.answer.Answer.{Answer}

-- what the event changes where it is answered so: nothing
pub record IsAnswered (m : Machine) (event : Event) (o : Observation) : Type 0 where
  pub whole : IsWhole m event (o ∷ [])
  pub same : moved m event (o ∷ []) ≡ m

pub answered_refused : (m : Machine) (event : Event) (told : Answer) → refusal m event ≡ Some told → IsAnswered m event (line_of_answer told)
answered_refused m event told e = let r = refused_serves m event told e in record { whole = r.0; same = r.1 }

-- ---- the event is served

pub no_memory : (old new : Kept) (before now : Areas → Type 0) (event : Event) (e : WorldError) → ((m : Machine) → StandsFor old before m → StillHolds m now) → ◌≡◌ {A = Result (List Observation) WorldError} (Err e) (Err errors.NoMemory) → Serves old new before now event (Err e)
no_memory old new before now event e still is =
    let none : e ≡ errors.NoMemory = cc in
    subst (λ x. Serves old new before now event (Err x)) (sym none) still

pub answered_serves : (old new : Kept) (images : Areas → Type 0) (event : Event) (o : Observation) (number : ℕ) (result : Result (List Observation) WorldError) →
    IfOk result (λ lines. lines ≡ o ∷ []) → OnOk result (new ≡ record old { last = number }) → OnErr result (result ≡ Err errors.NoMemory) →
    old.last ≤ number → ((m : Machine) → StandsFor old images m → IsAnswered m event o) → Serves old new images images event result
answered_serves old new images event o number (Ok lines) told kept memory rising answered =
    subst (λ ls. Serves old new images images event (Ok ls)) (sym told)
    (λ m s.
    let a = answered m s in
    let later : StandsFor new images m = subst (λ k. StandsFor k images m) (sym kept) (stands_later old number images m rising s) in
    (a.whole, subst (λ n. StandsFor new images n) (sym a.same) later, stands_still old images m s))
answered_serves old new images event o number (Err e) told kept memory rising answered = no_memory old new images images event e (λ m s. stands_still old images m s) memory

-- ---- which are answered so
