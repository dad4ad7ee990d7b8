use Rattle.std.proofs.Common.{◌∙◌, ap}
use Rattle.state_manager.specs.Managed.{chain_of}
use Rattle.state_manager.proofs.States.{chain_of-with_other}
use Rattle.state_manager.proofs.names.enter.Goals as goal

pub returns-in_ok-insert-clause-others : goal.returns-in_ok-insert-clause-others
returns-in_ok-insert-clause-others g c = λ other apart.
    ap (chain_of other) c.in_ok-insert.ensures.entries
    ∙ chain_of-with_other other c.in_ok-clone.field-0 c.operate.new.self c.args.chains.now.entries (λ same. apart (same ∙ c.in_ok-clone.ensures.cases ∙ c.name_of.ensures))
