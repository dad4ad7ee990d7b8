use Rattle.std.proofs.Common.{◌∙◌, ap}
use Rattle.replica.specs.Open.{Open}
use Rattle.replica_model.specs.declared.step.StepEvent.TheVariants as steps
use Rattle.world.proofs.Calls.TwoSteps.{stepped_id}
use Rattle.world.proofs.starting.take_start.Goals as goal

pub returns-clause-stands : goal.returns-clause-stands
returns-clause-stands g c = λ log o.
    let e = c.in_ok-outcome.ensures in
    let agrees = e.agrees log o.stands o.agrees in
    record {
      first = ap (λ (r : Open). r.id) e.kept.same ∙ (stepped_id c.args.opened.now (steps.Appoint c.args.appointment) ∙ o.first);
      stands = agrees.0;
      agrees = agrees.1;
      opened = e.opened;
      not_closed = e.not_closed;
    }
