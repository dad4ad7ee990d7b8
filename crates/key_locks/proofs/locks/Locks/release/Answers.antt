use Rattle.std.proofs.Common.{◌∙◌, subst, List}
use Rattle.key_locks.specs.declared.lock_name.LockName.{LockName}
use Rattle.key_locks.specs.Grants.{Grant, released, Alike}
use Rattle.key_locks.specs.Table.{RowsLeft, all_grants}
use Rattle.key_locks.proofs.Flat.{released_table, released_alike}
use Rattle.key_locks.proofs.locks.Locks.release.Goals as goal

pub invariant_of-self : goal.invariant_of-self
invariant_of-self c =
    let P : List LockName → Type 0 = λ names. RowsLeft c.self.inside.rows c.leave_all.new.self c.args.txn names in
    released_table c.self.inside.rows c.leave_all.new.self c.self.inside.held c.remove-names.new.self c.args.txn c.self.invariant c.leave_all.ensures.unique
    (subst P (c.as_slice.ensures ∙ c.remove-names.ensures.names) c.leave_all.ensures.rows) c.remove-names.ensures.forgotten

pub returns : goal.returns
returns c =
    let P : List LockName → Type 0 = λ names. RowsLeft c.self.inside.rows c.leave_all.new.self c.args.txn names in
    let Q : List Grant → Type 0 = λ grants. Alike (all_grants c.leave_all.new.self) (released grants c.args.txn) in
    subst Q c.self.view_is (released_alike c.self.inside.rows c.leave_all.new.self c.self.inside.held c.args.txn c.self.invariant c.leave_all.ensures.unique
    (subst P (c.as_slice.ensures ∙ c.remove-names.ensures.names) c.leave_all.ensures.rows))
