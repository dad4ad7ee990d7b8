use Rattle.std.proofs.Common.{◌∙◌, Err, ap, Bool}
use Rattle.replica.specs.Step as replica
use Rattle.fleet_acts.specs.Lines.{stays_active}
use Rattle.fleet_acts.proofs.Takings.{takes_so, fails_so, cuts_so}
use Rattle.fleet_acts.proofs.taking.take.Goals as goal

pub returns-in_err-tell-in-Ok-clause-cut : goal.returns-in_err-tell-in-Ok-clause-cut
returns-in_err-tell-in-Ok-clause-cut g c = λ s r o a ready. cuts_so s r o _ _ _ (g.D.Disk.images c.args.disk.now) (g.D.Disk.images c.step.new.disk) a ready (c.step.ensures.stop o a) (λ none. ap g.D.Disk.images (c.step.ensures.untouched o a none))

pub returns-in-Ok-clause-does : goal.returns-in-Ok-clause-does
returns-in-Ok-clause-does g c = λ s r o a ready order.
    takes_so s r o _ _ _ _ _ (g.D.Disk.images c.args.disk.now) (g.D.Disk.images c.step.new.disk) _ _ _ _ _ _ _ _ a ready order (c.in-Ok.ensures.took o a) c.id-id.ensures c.shown-shown.ensures (c.stays_active-was_active.ensures ∙ ap (λ (b : Bool). stays_active c.args.event.now b) (c.is_active.ensures ∙ ap replica.is_active c.role.ensures)) c.in_ok-contents.ensures c.saturating_sub-known.ensures c.in_ok-tell-in-Ok.ensures.told

pub returns-in-Ok-clause-cut : goal.returns-in-Ok-clause-cut
returns-in-Ok-clause-cut g c = λ s r o a ready. cuts_so s r o _ _ _ (g.D.Disk.images c.args.disk.now) (g.D.Disk.images c.step.new.disk) a ready (c.step.ensures.stop o a) (λ none. ap g.D.Disk.images (c.step.ensures.untouched o a none))

pub returns-in_err-push-in-Err-Disk-clause-cut : goal.returns-in_err-push-in-Err-Disk-clause-cut
returns-in_err-push-in-Err-Disk-clause-cut g c = λ s r o a ready. cuts_so s r o _ _ _ (g.D.Disk.images c.args.disk.now) (g.D.Disk.images c.step.new.disk) a ready (c.step.ensures.stop o a) (λ none. ap g.D.Disk.images (c.step.ensures.untouched o a none))

pub returns-in-Err-Disk-clause-does : goal.returns-in-Err-Disk-clause-does
returns-in-Err-Disk-clause-does g c = λ s r o a ready order.
    fails_so s r o _ _ _ (g.D.Disk.images c.args.disk.now) (g.D.Disk.images c.step.new.disk) _ _ _ a ready (c.in-Err-Disk.ensures.only_logging (ap Err c.in-Err-Disk.field-0-is) o a) (c.step.ensures.stop o a) c.id-id.ensures c.in_ok-push-in-Err-Disk.ensures.ok

pub returns-in-Err-Disk-clause-cut : goal.returns-in-Err-Disk-clause-cut
returns-in-Err-Disk-clause-cut g c = λ s r o a ready. cuts_so s r o _ _ _ (g.D.Disk.images c.args.disk.now) (g.D.Disk.images c.step.new.disk) a ready (c.step.ensures.stop o a) (λ none. ap g.D.Disk.images (c.step.ensures.untouched o a none))

pub returns-clause-cut : goal.returns-clause-cut
returns-clause-cut g c = λ s r o a ready. cuts_so s r o _ _ _ (g.D.Disk.images c.args.disk.now) (g.D.Disk.images c.step.new.disk) a ready (c.step.ensures.stop o a) (λ none. ap g.D.Disk.images (c.step.ensures.untouched o a none))
