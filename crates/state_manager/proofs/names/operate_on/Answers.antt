use Rattle.std.proofs.Common.{◌∙◌, sym, ap, subst}
use Rattle.state_manager.specs.Chains.{AreKept}
use Rattle.state_manager.specs.Managed.{chain_of}
use Rattle.state_manager.proofs.States.{chain_of_found, chain_of-set_other}
use Rattle.state_manager.proofs.names.operate_on.Goals as goal

pub operate-requires-clause-kept : goal.operate-requires-clause-kept
operate-requires-clause-kept g c =
    subst (AreKept g.P.StateProvider.least c.args.v.0)
    (ap (λ name. chain_of name c.args.chains.now.entries) (sym c.name_of-name.ensures)
    ∙ chain_of_found c.name_of-name.result.now c.in-Some.chain.now c.in-Some.chain.now c.args.chains.now.entries (sym c.in-Some.ensures.value))
    c.requires.kept

pub returns-in-Some-clause-others : goal.returns-in-Some-clause-others
returns-in-Some-clause-others g c = λ other apart.
    ap (chain_of other) ((c.get_mut.follows.holds c.operate.new.self).0)
    ∙ chain_of-set_other c.name_of-name.result.now c.in-Some.chain.now c.operate.new.self c.args.chains.now.entries other (λ same. apart (same ∙ c.name_of-name.ensures))
