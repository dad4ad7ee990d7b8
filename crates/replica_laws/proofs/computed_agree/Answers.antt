use Rattle.replica_laws.proofs.Computed as steps
use Rattle.replica_laws.proofs.computed_agree.Goals as goal

pub returns : goal.returns
returns g c = steps.computed_agree (g.D.Disk.images c.args.before.now) (g.D.Disk.seen c.args.before.now) (g.met.D.CrashDisk.tells c.args.before.now) (g.met.D.Disk.seen_is_image c.args.before.now)
