use Rattle.std.proofs.Common.{◌∙◌, ap, refl, arith}
use Rattle.replica_model.specs.declared.step.StepEvent.TheVariants as steps
use Rattle.replica.specs.Open.{Open}
use Rattle.world.specs.declared.effects.EventEffects.{EventEffects}
use Rattle.world.specs.Steps.{log_once}
use Rattle.world.proofs.Calls.TwoSteps.{barrier_effects, finished_twice, holds_second, stands_second}
use Rattle.world.proofs.starting.start_epoch.Goals as goal

pub returns-in_err-take_step-clause-stop : goal.returns-in_err-take_step-clause-stop
returns-in_err-take_step-clause-stop g c = λ log o.
    let once = c.in_ok-take_start.ensures in
    holds_second c.args.opened.now c.take_start.new.opened (steps.Appoint c.args.appointment) log _ refl once.kept (c.in_err-take_step.ensures.stop (log_once c.args.opened.now (steps.Appoint c.args.appointment) log) (once.stands log o))

pub returns-clause-stands : goal.returns-clause-stands
returns-clause-stands g c = λ log o.
    let once = c.in_ok-take_start.ensures in
    stands_second c.args.opened.now c.take_start.new.opened c.take_step.new.opened (steps.Appoint c.args.appointment) log _ once.kept (c.in_ok-take_step.ensures.stands (log_once c.args.opened.now (steps.Appoint c.args.appointment) log) (once.stands log o))

pub returns-clause-stop : goal.returns-clause-stop
returns-clause-stop g c = λ log o.
    let once = c.in_ok-take_start.ensures in
    holds_second c.args.opened.now c.take_start.new.opened (steps.Appoint c.args.appointment) log _ refl once.kept (c.in_ok-take_step.ensures.stop (log_once c.args.opened.now (steps.Appoint c.args.appointment) log) (once.stands log o))

pub returns-clause-kept : goal.returns-clause-kept
returns-clause-kept g c =
    finished_twice c.args.opened.now c.take_start.new.opened c.take_step.new.opened (steps.Appoint c.args.appointment) refl c.in_ok-take_start.ensures.kept c.in_ok-take_step.ensures.kept

-- a Barrier has no effects of its own
pub returns-clause-told : goal.returns-clause-told
returns-clause-told g c =
    let once = c.in_ok-take_start.ensures in
    let now = ap (λ (x : Open). x.shown) once.kept.same in
    let all = ap (λ (d : EventEffects). d.order) once.told in
    c.in_ok-take_step.ensures.told ∙ (barrier_effects c.take_start.new.effects c.take_start.new.opened (grind (arith, now, all)) ∙ once.told)
