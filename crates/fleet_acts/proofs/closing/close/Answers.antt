use Rattle.fleet_acts.proofs.Frames.{closes_so}
use Rattle.fleet_acts.proofs.closing.close.Goals as goal

pub returns-clause-does : goal.returns-clause-does
returns-clause-does g c = λ s r lines stands.
    closes_so s r c.args.replica (g.D.Disk.seen c.crash.new.self) (g.D.Disk.images c.args.disk.now) (g.D.Disk.images c.crash.new.self) lines c.crash.ensures.left c.crash.ensures.only stands
