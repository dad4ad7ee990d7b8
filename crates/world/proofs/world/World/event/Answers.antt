use Rattle.std.proofs.Common.{rules}
use Rattle.world.proofs.Exits.LentDisk.{serves_lent, servable_lent, still_lent, stands_first, elsewhere_lent, faults_lent}
use Rattle.world.proofs.world.World.event.Goals as goal

pub returns-clause-serves : goal.returns-clause-serves
returns-clause-serves g c = serves_lent g.M.Disk.images c.args.fleet.now.items _ c.at_zero.new.disk _ _ c.args.event.now c.at_zero.result (search rules) c.index_mut.ensures.value c.at_zero.ensures.serves

pub returns-clause-servable : goal.returns-clause-servable
returns-clause-servable g c = servable_lent g.M.Disk.images c.args.fleet.now.items _ c.args.self.now c.args.event.now c.at_zero.result (search rules) c.index_mut.ensures.value c.at_zero.ensures.servable

pub returns-clause-still : goal.returns-clause-still
returns-clause-still g c = still_lent g.M.Disk.images c.args.fleet.now.items _ c.at_zero.new.disk _ _ c.args.event.now c.at_zero.result (search rules) c.index_mut.ensures.value c.at_zero.ensures.serves

pub returns-clause-elsewhere : goal.returns-clause-elsewhere
returns-clause-elsewhere g c = λ m s. elsewhere_lent c.args.fleet.now.items c.at_zero.new.disk m c.args.event.now c.requires.here (stands_first c.args.self.now _ m s)

pub returns-clause-faults : goal.returns-clause-faults
returns-clause-faults g c = faults_lent g.M.Disk.faults c.args.fleet.now.items _ c.at_zero.new.disk c.at_zero.result (search rules) c.index_mut.ensures.value c.at_zero.ensures.others c.at_zero.ensures.counted
