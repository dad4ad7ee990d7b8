use Rattle.std.proofs.Common.{◌+◌, length, refl}
use Rattle.disk_model.proofs.Bytes.{overwritten}
use Rattle.disk_model.proofs.change.overwrite.Goals as goal

pub returns-clause-items : goal.returns-clause-items
returns-clause-items c =
    let bytes = c.fill_up.new.bytes in
    overwritten c.args.bytes.now.items bytes.items c.deref_mut.result.now c.copy_from_slice.new.self c.args.piece.now c.args.at (c.args.at + length c.args.piece.now) bytes.len c.fill_up.ensures.items c.deref_mut.ensures.value c.copy_from_slice.ensures.after refl bytes.ok.0
