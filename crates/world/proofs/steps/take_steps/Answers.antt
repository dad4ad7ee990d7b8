use Rattle.std.proofs.Common.{sym, ap, ◌∙◌, arith}
use Rattle.replica.specs.Open.{Open}
use Rattle.std.proofs.lemmas.Result.{err_from_is_err_and}
use Rattle.replica.specs.declared.error.StepError.TheVariants as errors
use Rattle.world.specs.Steps.{log_once}
use Rattle.world.proofs.Calls.TwoSteps.{cut_second, effects_twice, due_shows, counted_second, handed_on, finished_twice, last_few, alike_begins}
use Rattle.replica.proofs.Lengthened.{begins_few}
use Rattle.world.proofs.steps.take_steps.Goals as goal

pub returns-in_err-take_step-2-clause-cut : goal.returns-in_err-take_step-2-clause-cut
returns-in_err-take_step-2-clause-cut g c = λ told log o.
    let once = c.in_ok-take_step.ensures in
    let second = c.in_err-take_step-2.ensures in
    let failed = handed_on _ _ errors.Disk (err_from_is_err_and _ c.from_residual-in_err-take_step-2.ensures.1) told in
    cut_second c.args.opened.now c.take_step.new.opened c.args.event.now log c.args.effects.now c.take_step.new.effects _ _ (sym once.due ∙ c.if-branch.true) once.kept once.told (second.untold failed) (second.stop (log_once c.args.opened.now c.args.event.now log) (once.stands log o))

pub returns-in_err-take_step-2-clause-cause : goal.returns-in_err-take_step-2-clause-cause
returns-in_err-take_step-2-clause-cause g c =
    counted_second _ _ _ c.in_ok-take_step.ensures.cause.later c.in_err-take_step-2.ensures.cause (λ told. handed_on _ _ errors.Disk (err_from_is_err_and _ c.from_residual-in_err-take_step-2.ensures.1) told)

pub take_step-requires-then-branch-clause-room : goal.take_step-requires-then-branch-clause-room
take_step-requires-then-branch-clause-room g c =
    let there = c.requires.stands in
    let few = last_few c.args.opened.now c.args.event.now there.0 there.1.agrees c.requires.may in
    let same = ap (λ (x : Open). x.last.0) c.in_ok-take_step.ensures.kept.same in
    let room = c.requires.room in
    omega (arith, few, same, room)

pub take_step-requires-then-branch-clause-counted : goal.take_step-requires-then-branch-clause-counted
take_step-requires-then-branch-clause-counted g c =
    let few = begins_few c.args.opened.now c.args.event.now in
    let alike = c.in_ok-take_step.ensures.kept.front in
    let counted = c.requires.counted in
    let begins = alike_begins _ _ alike in
    omega (arith, few, begins, counted)

pub returns-in_ok-take_step-2-clause-kept : goal.returns-in_ok-take_step-2-clause-kept
returns-in_ok-take_step-2-clause-kept g c =
    finished_twice c.args.opened.now c.take_step.new.opened c.take_step-then-branch.new.opened c.args.event.now (sym c.in_ok-take_step.ensures.due ∙ c.if-branch.true) c.in_ok-take_step.ensures.kept c.in_ok-take_step-2.ensures.kept

pub returns-in_ok-take_step-2-clause-told : goal.returns-in_ok-take_step-2-clause-told
returns-in_ok-take_step-2-clause-told g c =
    let once = c.in_ok-take_step.ensures in
    c.in_ok-take_step-2.ensures.told ∙ effects_twice c.args.opened.now c.take_step.new.opened c.args.event.now c.args.effects.now c.take_step.new.effects once.kept once.told (due_shows c.args.opened.now c.args.event.now (sym once.due ∙ c.if-branch.true))
