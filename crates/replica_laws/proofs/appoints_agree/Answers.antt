use Rattle.replica_laws.proofs.EveryStep as steps
use Rattle.replica_laws.proofs.appoints_agree.Goals as goal

pub returns : goal.returns
returns g c = steps.appoints_agree (g.D.Disk.images c.args.before.now) (g.D.Disk.images c.args.disk.now) (g.D.Disk.seen c.args.before.now) (g.met.D.CrashDisk.tells c.args.before.now) (g.met.D.Disk.seen_is_image c.args.before.now)
