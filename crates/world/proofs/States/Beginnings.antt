-- An event that isn't refused, by where it begins.
use Rattle.std.proofs.Common.{◌≡◌, sym, subst, List, None}
use Rattle.events.specs.declared.event.Event.{Event}
use Rattle.order_machine.specs.declared.observation.Observation.{Observation}
use Rattle.order_machine.specs.Machine.{Machine}
use Rattle.order_machine.specs.Transitions.{Position, refusal, opened}
use Rattle.order_machine.specs.Legal.{IsServed, IsWhole, behind, moved}

pub served_from : (m : Machine) (event : Event) (lines : List Observation) (p : Position) (Q : Machine → Type 0) → refusal m event ≡ None → opened m event ≡ p → IsServed p lines → Q (behind p lines).machine → IsWhole m event lines × Q (moved m event lines)
served_from m event lines p Q r o s q =
    let S : Position → Type 0 = λ at. IsServed at lines in
    let N : Position → Type 0 = λ at. Q (behind at lines).machine in
    (rw r (subst S (sym o) s), rw r (subst N (sym o) q))
