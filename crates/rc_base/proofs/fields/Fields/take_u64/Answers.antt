use Rattle.std.proofs.Common.{rules}
use Rattle.rc_base.proofs.FieldLaws.{wide64, reads_number}
use Rattle.rc_base.proofs.fields.Fields.take_u64.Goals as goal

pub returns-in-Ok-clause-exact : goal.returns-in-Ok-clause-exact
returns-in-Ok-clause-exact c = search rules

pub returns-in-Ok-clause-reads : goal.returns-in-Ok-clause-reads
returns-in-Ok-clause-reads c = reads_number _ _ wide64 _ _ _ c.in-Ok.ensures.small.bytes (returns-in-Ok-clause-exact c)
