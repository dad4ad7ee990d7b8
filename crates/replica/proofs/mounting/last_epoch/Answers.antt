use Rattle.std.proofs.Common.{◌+◌, ◌-◌, ◌≡◌, length, ap, sym, ◌∙◌, arith}
use Rattle.rc_base.specs.declared.ids.Epoch.{Epoch}
use Rattle.rc_base.specs.Ids.{no_epoch}
use Rattle.log_records.specs.declared.record.Record.{Record}
use Rattle.replica.proofs.Opening.{last_item}
use Rattle.replica.proofs.mounting.last_epoch.Goals as goal

pub returns-in-Some : goal.returns-in-Some
returns-in-Some c =
    let records = c.args.records.now in
    let there = c.in-Some.ensures.item in
    let i = length records - 1 in
    let size : i + 1 ≡ length records = omega (arith, there.3.0) in
    ap (λ (item : Epoch × Record). item.0) there.1 ∙ sym (last_item no_epoch records c.in-Some.item.now i size)
