use Rattle.replica_laws.proofs.ByModel.{all_five, may_alone, takes, none_there}
use Rattle.replica_laws.proofs.StoppedSteps.{cut_off_agrees}
use Rattle.replica_laws.proofs.modelled.step.Goals as goal

pub returns-clause-took : goal.returns-clause-took
returns-clause-took g c =
    let e = c.step.ensures in
    let before = g.D.Disk.images c.args.disk.now in
    all_five _ _ _ _ _ _
    (λ told says kept agrees opened not_closed. takes c.args.replica.now c.step.new.self c.args.event.now before (g.D.Disk.images c.step.new.disk) (g.D.Disk.seen c.args.disk.now) told (g.met.D.CrashDisk.tells c.args.disk.now) (g.met.D.Disk.seen_is_image c.args.disk.now)
    (may_alone c.args.replica.now c.args.event.now before c.requires.ready) says kept agrees opened not_closed)
    c.step.result e.outcome e.kept e.agrees e.opened e.not_closed

pub returns-clause-stop : goal.returns-clause-stop
returns-clause-stop g c = λ o a. cut_off_agrees (g.D.Disk.images c.args.disk.now) (g.D.Disk.images c.step.new.disk) c.args.event.now c.args.replica.now o a c.step.ensures.stop

pub returns-clause-untouched : goal.returns-clause-untouched
returns-clause-untouched g c = λ o a none. c.step.ensures.untouched (none_there c.args.replica.now c.args.event.now (g.D.Disk.images c.args.disk.now) o a none)

pub returns-clause-only_logging : goal.returns-clause-only_logging
returns-clause-only_logging g c = λ failed o a none. c.step.ensures.only_logging failed (none_there c.args.replica.now c.args.event.now (g.D.Disk.images c.args.disk.now) o a none)
