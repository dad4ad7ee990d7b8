use Rattle.replica_laws.proofs.StoppedSteps as steps
use Rattle.replica_laws.proofs.cut_off_agrees.Goals as goal

pub returns : goal.returns
returns g c = steps.cut_off_agrees (g.D.Disk.images c.args.before.now) (g.D.Disk.images c.args.disk.now)
