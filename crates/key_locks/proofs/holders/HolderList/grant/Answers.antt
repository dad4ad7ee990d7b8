use Rattle.std.proofs.Common.{◌∙◌, ap, sym}
use Rattle.std.specs.List.{position}
use Rattle.key_locks.specs.Grants.{is_holder}
use Rattle.key_locks.specs.Table.{granted_in}
use Rattle.key_locks.proofs.OneRow.{granted_where, granted_behind}
use Rattle.key_locks.proofs.holders.HolderList.grant.Goals as goal

pub returns-in-Some-clause-ok : goal.returns-in-Some-clause-ok
returns-in-Some-clause-ok c =
    granted_where c.args.txn c.args.mode c.self.inside.holders.items c.in-Some.place c.index_mut-holder.result.now c.stronger-holder.result
    (ap (position (is_holder c.args.txn)) c.self.view_is ∙ sym c.in-Some.ensures) c.index_mut-holder.ensures.value c.stronger-holder.ensures
    ∙ ap (λ hs. granted_in hs c.args.txn c.args.mode) c.self.view_is

pub returns-in_ok-push-in-None-clause-ok : goal.returns-in_ok-push-in-None-clause-ok
returns-in_ok-push-in-None-clause-ok c =
    c.in_ok-push-in-None.ensures.items
    ∙ sym (granted_behind c.args.txn c.args.mode c.self.inside.holders.items (ap (position (is_holder c.args.txn)) c.self.view_is ∙ sym c.in-None.ensures))
    ∙ ap (λ hs. granted_in hs c.args.txn c.args.mode) c.self.view_is
