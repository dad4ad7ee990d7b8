use Rattle.std.proofs.Common.{rules}
use Rattle.std.specs.Prelude.{nat_lt}
use Rattle.std.proofs.lemmas.Fn.{filter_same}
use Rattle.state_manager.specs.declared.change.Change.{Change}
use Rattle.state_manager.proofs.change.keep_above.Goals as goal

pub returns : goal.returns
returns c = filter_same _ (λ (change : Change). nat_lt c.args.v.0 change.at.0) _ (λ e b f h. search rules) _ _ c.retain.ensures.filtered
