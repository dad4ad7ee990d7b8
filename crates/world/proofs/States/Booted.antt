-- A world that stands was booted, and refuses no client's call.
use Rattle.std.proofs.Common.{◌≡◌, ap, suc, cond, not, ◌==◌, ℕ, length, List, true, Option, Some, None, arith}
use Rattle.std.proofs.lemmas.Bool.Decides.{nat_tests}
use Rattle.rc_base.specs.declared.ids.TxnId.{TxnId}
use Rattle.events.specs.declared.event.Event.TheVariants.{Client}
use Rattle.events.specs.declared.call.Call.{Call}
use Rattle.order_machine.specs.Order.{Entry}
use Rattle.order_machine.specs.Machine.{Machine, Replica, Txn, is_booted}
use Rattle.order_machine.specs.Transitions.{refusal, once_booted}
use Rattle.coll_model.specs.Effect.{State}
use Rattle.txn_front.specs.Front.{Fronted}
use Rattle.world.specs.Running.{running, Runs}
use Rattle.world.specs.Standing.{Course, standing, serving}
use Rattle.events.specs.declared.answer.Answer.TheVariants as answers
use Rattle.events.specs.declared.answer.Answer.{Answer}

some_first : (n : ℕ) → not (suc n == 0) ≡ true
some_first n = grind (arith, nat_tests)

pub standing_booted : (entries : List Entry) (acknowledged : List TxnId) (first : Replica) (txns : List (TxnId × Txn)) (course : Course) → is_booted (standing entries acknowledged first txns course) ≡ true
standing_booted entries acknowledged first txns course = some_first (length course.later)

-- what a booted world refuses is told by the event alone
pub once_standing : (m : Machine) (refused : Option Answer) → is_booted m ≡ true → once_booted m refused ≡ refused
once_standing m refused booted = ap (λ b. cond b refused (Some (answers.Refused 9))) booted

pub call_unrefused : (entries : List Entry) (acknowledged : List TxnId) (first : Replica) (txns : List (TxnId × Txn)) (course : Course) (call : Call) → refusal (standing entries acknowledged first txns course) (Client 0 call) ≡ None
call_unrefused entries acknowledged first txns course call = once_standing (standing entries acknowledged first txns course) None (standing_booted entries acknowledged first txns course)

pub running_unrefused : (front : Fronted) (shown : ℕ) (contents : State) (m : Machine) (h : Runs front shown contents m) (call : Call) → refusal (running h.entries h.acknowledged h.txns front.begins h.grants h.course) (Client 0 call) ≡ None
running_unrefused front shown contents m h call = call_unrefused h.entries h.acknowledged (serving h.course (length h.entries) front.begins h.grants) h.txns h.course call
