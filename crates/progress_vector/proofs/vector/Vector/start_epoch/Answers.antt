use Rattle.progress_vector.proofs.Forms.{started_form}
use Rattle.progress_vector.proofs.vector.Vector.start_epoch.Goals as goal

pub returns-clause-form : goal.returns-clause-form
returns-clause-form c = rw c.in_ok-push.ensures.ok (started_form c.args.self.now c.args.epoch c.requires.above)
