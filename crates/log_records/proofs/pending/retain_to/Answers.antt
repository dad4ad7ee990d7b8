use Rattle.std.proofs.Common.{rules, leb}
use Rattle.std.proofs.lemmas.Fn.{filter_same}
use Rattle.rc_base.specs.declared.ids.Lsn.{Lsn}
use Rattle.coll_model.specs.declared.op.Op.{Op}
use Rattle.log_records.proofs.pending.retain_to.Goals as goal

pub returns : goal.returns
returns c = filter_same _ (λ (logged : Lsn × Op). leb logged.0.0 c.args.lsn.0) _ (λ e b f h. search rules) _ _ c.retain.ensures.filtered
