use Rattle.replica_laws.proofs.AllowedSteps as steps
use Rattle.replica_laws.proofs.allowed_agree.Goals as goal

pub returns : goal.returns
returns g c = steps.allowed_agree (g.D.Disk.images c.args.disk.now)
