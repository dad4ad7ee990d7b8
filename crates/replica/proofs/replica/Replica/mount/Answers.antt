use Rattle.log_store.specs.Store.{kept_as}
use Rattle.replica.proofs.Opening.{mounted_agrees}
use Rattle.replica.proofs.replica.Replica.mount.Goals as goal

pub returns-clause-agrees : goal.returns-clause-agrees
returns-clause-agrees g c =
    let store = c.in_ok-log.log in
    let told = c.in_ok-log.durable in
    let done = mounted_agrees c.args.id store told c.last_epoch.result c.in_ok-shown.shown c.new.result c.as_slice-records.result.now c.as_slice-records.ensures c.in_ok-log.ensures.log c.in_ok-shown.ensures.read c.in_ok-shown.ensures.stable c.last_epoch.ensures c.new.ensures in
    (kept_as store.identity told, c.in_ok-log.ensures.found, done.0, done.1)
