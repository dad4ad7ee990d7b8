use Rattle.std.proofs.Common.{◌∙◌, ap}
use Rattle.state_manager.specs.Managed.{chain_of}
use Rattle.state_manager.proofs.States.{chain_of-set_other}
use Rattle.state_manager.proofs.names.undo_in.Goals as goal

pub returns-in-Some-clause-others : goal.returns-in-Some-clause-others
returns-in-Some-clause-others g c = λ other apart.
    ap (chain_of other) ((c.get_mut.follows.holds c.undo_above.new.self).0) ∙ chain_of-set_other c.args.name.now c.in-Some.chain.now c.undo_above.new.self c.args.chains.now.entries other apart
