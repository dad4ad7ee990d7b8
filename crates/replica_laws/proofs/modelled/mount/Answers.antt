use Rattle.replica_laws.proofs.ByModel.{all_five, opens, mount_stops}
use Rattle.replica_laws.proofs.modelled.mount.Goals as goal

pub returns-clause-opened : goal.returns-clause-opened
returns-clause-opened g c =
    let e = c.mount.ensures in
    all_five _ _ _ _ _ _ (λ r opened not_closed held fresh tells. opens r.0 c.args.id r.1 (g.D.Disk.images c.mount.new.disk) opened not_closed held fresh tells) c.mount.result e.opened e.not_closed e.agrees e.fresh e.outcome

pub returns-clause-stop : goal.returns-clause-stop
returns-clause-stop g c = mount_stops c.args.partition (g.D.Disk.images c.args.disk.now) (g.D.Disk.images c.mount.new.disk) c.mount.ensures.stop
