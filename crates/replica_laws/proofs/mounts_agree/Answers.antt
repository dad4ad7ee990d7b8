use Rattle.replica_laws.proofs.QuietSteps as steps
use Rattle.replica_laws.proofs.mounts_agree.Goals as goal

pub returns : goal.returns
returns g c = steps.mounts_agree (g.D.Disk.images c.args.disk.now)
