use Rattle.std.proofs.Common.{ap}
use Rattle.progress_vector.specs.Vectors.{Entry, origin}
use Rattle.progress_vector.proofs.Epochs.{last_at_filter}
use Rattle.progress_vector.proofs.Forms.{cut_form}
use Rattle.progress_vector.proofs.vector.Vector.cut_to.Goals as goal

pub returns-clause-epochs : goal.returns-clause-epochs
returns-clause-epochs c at le = rw c.cut_to.ensures (ap (λ (e : Entry). e.0) (last_at_filter origin c.args.self.now.entries c.args.lsn.0 at le))

pub returns-clause-form : goal.returns-clause-form
returns-clause-form c = rw c.cut_to.ensures (cut_form c.args.self.now c.args.lsn)
