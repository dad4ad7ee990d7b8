use Rattle.std.proofs.Common.{leb, rules}
use Rattle.std.proofs.lemmas.Fn.{filter_same}
use Rattle.progress_vector.specs.Vectors.{Entry}
use Rattle.progress_vector.proofs.entries.retain_to.Goals as goal

pub returns : goal.returns
returns c = filter_same _ (λ (entry : Entry). leb entry.1.0 c.args.lsn.0) _ (λ e b f h. search rules) _ _ c.retain.ensures.filtered
