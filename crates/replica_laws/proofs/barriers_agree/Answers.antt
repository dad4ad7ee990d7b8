use Rattle.replica_laws.proofs.Barriers as steps
use Rattle.replica_laws.proofs.barriers_agree.Goals as goal

pub returns : goal.returns
returns g c = steps.barriers_agree (g.D.Disk.images c.args.before.now) (g.D.Disk.images c.args.disk.now)
