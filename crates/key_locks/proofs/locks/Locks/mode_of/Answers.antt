use Rattle.std.proofs.Common.{◌∙◌, sym, ap}
use Rattle.key_locks.specs.Grants.{mode_in}
use Rattle.key_locks.proofs.Flat.{mode_row}
use Rattle.key_locks.proofs.locks.Locks.mode_of.Goals as goal

pub returns : goal.returns
returns c =
    c.mode_of.ensures ∙ sym (mode_row c.self.inside.rows c.args.txn c.args.name.now c.self.invariant.unique) ∙ ap (λ grants. mode_in grants c.args.txn c.args.name.now) c.self.view_is
