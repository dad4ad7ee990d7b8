use Rattle.std.proofs.Common.{◌+◌, ◌-◌, ◌≡◌, length, ap, sym, ◌∙◌, arith}
use Rattle.log_store.specs.declared.kept.Row.{Row}
use Rattle.rc_base.specs.Ids.{no_epoch}
use Rattle.log_store.proofs.Rows.{last_row}
use Rattle.log_store.proofs.kept.last_epoch_of.Goals as goal

pub returns-in-Some : goal.returns-in-Some
returns-in-Some c =
    let rows = c.args.rows.now in
    let there = c.in-Some.ensures.item in
    let i = length rows - 1 in
    let size : i + 1 ≡ length rows = omega (arith, there.3.0) in
    ap (λ (row : Row). row.epoch) there.1 ∙ sym (last_row no_epoch rows c.in-Some.row.now i size)
