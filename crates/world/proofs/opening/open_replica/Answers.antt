use Rattle.std.proofs.Common.{Err, ap}
use Rattle.world.proofs.Mounts.Readable.{never_corrupt}
use Rattle.world.proofs.opening.open_replica.Goals as goal

pub unreachable-requires : goal.unreachable-requires
unreachable-requires g c =
    let disk = c.mount.new.disk in
    let failed = c.in-Err-Corrupt.ensures in
    never_corrupt (g.M.Disk.seen disk) (g.M.Disk.images c.args.disk.now) (g.M.Disk.images disk) _ (g.met.M.CrashDisk.tells disk) (g.met.M.Disk.seen_is_image disk) failed.stop c.requires.readable (failed.corrupt c.in-Err-Corrupt.field-0-0 c.in-Err-Corrupt.field-0-1 (ap Err c.in-Err-Corrupt.field-0-is))
