use Rattle.std.proofs.Common.{rules, ◌≡◌, subst}
use Rattle.std.specs.Result.{IsErrOf}
use Rattle.events.specs.declared.call.Call.{Call}
use Rattle.log_store.specs.declared.kept.Kept.{Kept as Log}
use Rattle.replica.specs.declared.error.StepError.TheVariants as errors
use Rattle.replica_model.specs.declared.step.StepEvent.TheVariants as steps
use Rattle.std.specs.Prelude.{OnOk}
use Rattle.world.specs.Steps.{IsCutOff, log_behind}
use Rattle.world.specs.World.{IsOpen}
use Rattle.world.proofs.steps.take_call.Goals as goal

pub returns-clause-cut : goal.returns-clause-cut
returns-clause-cut g c =
    let same : c.in_ok-clone.field-0 ≡ c.args.call.now = search rules in
    subst (λ (k : Call). IsErrOf c.take_steps.result errors.Disk → (log : Log) → IsOpen c.args.opened.now log (g.M.Disk.images c.args.disk.now) → IsCutOff c.args.opened.now (steps.Client k) log c.args.effects.now c.take_steps.new.effects (g.M.Disk.images c.take_steps.new.disk)) same c.take_steps.ensures.cut

pub returns-clause-stands : goal.returns-clause-stands
returns-clause-stands g c =
    let same : c.in_ok-clone.field-0 ≡ c.args.call.now = search rules in
    subst (λ (k : Call). OnOk c.take_steps.result ((log : Log) → IsOpen c.args.opened.now log (g.M.Disk.images c.args.disk.now) → IsOpen c.take_steps.new.opened (log_behind c.args.opened.now (steps.Client k) log) (g.M.Disk.images c.take_steps.new.disk))) same c.take_steps.ensures.stands
