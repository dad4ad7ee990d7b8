use Rattle.replica_laws.proofs.QuietSteps as steps
use Rattle.replica_laws.proofs.inspections_agree.Goals as goal

pub returns : goal.returns
returns g c = steps.inspections_agree (g.D.Disk.images c.args.before.now) (g.D.Disk.images c.args.disk.now)
