use Rattle.std.proofs.Common.{Err, ap}
use Rattle.fleet_acts.proofs.Openings.{never_corrupt, opens_so, fails_so}
use Rattle.fleet_acts.proofs.opening.open.Goals as goal

pub unreachable-requires : goal.unreachable-requires
unreachable-requires g c =
    let disk = c.mount.new.disk in
    let failed = c.in-Err-Corrupt.ensures in
    let before = c.requires.closed in
    never_corrupt (g.D.Disk.seen disk) (g.D.Disk.images disk) _ before.0 (g.met.D.CrashDisk.tells disk) (g.met.D.Disk.seen_is_image disk) (failed.stop before.0 before.1) (failed.corrupt c.in-Err-Corrupt.field-0-0 c.in-Err-Corrupt.field-0-1 (ap Err c.in-Err-Corrupt.field-0-is))

pub returns-in_ok-tell_opening-in-Ok-clause-does : goal.returns-in_ok-tell_opening-in-Ok-clause-does
returns-in_ok-tell_opening-in-Ok-clause-does g c = λ s logs there stands.
    let disk = c.mount.new.disk in
    opens_so s c.args.id logs _ _ (g.D.Disk.seen disk) (g.D.Disk.images disk) _ _ (g.met.D.CrashDisk.tells disk) (g.met.D.Disk.seen_is_image disk) there (c.in-Ok.ensures.stop logs stands) c.in-Ok.ensures.opened c.in_ok-tell_opening-in-Ok.ensures.told

pub returns-in_ok-push-in-Err-Disk-clause-does : goal.returns-in_ok-push-in-Err-Disk-clause-does
returns-in_ok-push-in-Err-Disk-clause-does g c = λ s logs there stands.
    fails_so s c.args.id logs (g.D.Disk.images c.mount.new.disk) _ _ there (c.in-Err-Disk.ensures.stop logs stands) c.in_ok-push-in-Err-Disk.ensures.ok
