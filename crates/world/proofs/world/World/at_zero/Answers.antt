use Rattle.std.proofs.Common.{◌≡◌, ◌∙◌, sym, subst, ◌∷◌, [], IfOk, arith}
use Rattle.order_machine.specs.AnswerLines.{line_of_answer}
use Rattle.order_machine.specs.declared.observation.Observation.{Observation}
use Rattle.world.proofs.Exits.OneLine.{answered_serves, answered_refused}
use Rattle.world.proofs.Exits.FaultCounts.{answer_faultless}
use Rattle.world.proofs.Exits.Guards.{refusal_mirrors, refusal_marks}
use Rattle.world.proofs.Exits.Limits.{servable_refused}
use Rattle.world.proofs.Exits.Common.{line_handles}
use Rattle.world.proofs.world.World.at_zero.Goals as goal

pub returns-in-Some : goal.returns-in-Some
returns-in-Some g c =
    let done = c.answered.ensures in
    let told = c.in-Some.answer in
    let lines = subst (λ (o : Observation). IfOk c.answered.result (λ ls. ls ≡ o ∷ [])) c.line_of_answer.ensures done.lines in
    let refused = sym c.refusal.ensures ∙ c.in-Some.is in
    line_handles g.M.Disk.images g.M.Disk.faults g.M.Disk.marks c.args.self.now c.answered.new.self c.args.disk.now c.args.number c.args.event.now (line_of_answer told) c.answered.result lines done.stays (λ q. answer_faultless q told) (refusal_marks c.args.self.now c.args.event.now told refused)
    (λ m s. servable_refused m c.args.event.now told (refusal_mirrors c.args.self.now (g.M.Disk.images c.args.disk.now) c.args.event.now told c.requires.here refused m s))
    (answered_serves c.args.self.now c.answered.new.self (g.M.Disk.images c.args.disk.now) c.args.event.now (line_of_answer told) c.args.number c.answered.result lines done.stays done.memory (omega (arith, c.requires.ready.rising))
    (λ m s. answered_refused m c.args.event.now told (refusal_mirrors c.args.self.now (g.M.Disk.images c.args.disk.now) c.args.event.now told c.requires.here refused m s)))
