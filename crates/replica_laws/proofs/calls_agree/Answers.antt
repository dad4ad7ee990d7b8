use Rattle.replica_laws.proofs.EveryCall as steps
use Rattle.replica_laws.proofs.calls_agree.Goals as goal

pub returns : goal.returns
returns g c = steps.calls_agree (g.D.Disk.images c.args.before.now) (g.D.Disk.images c.args.disk.now)
