use Rattle.state_manager.proofs.Seen.{kept_made_by, made_by_newest, settled_reset, cut_reset}
use Rattle.std.proofs.Common.{sym, subst}
use Rattle.state_manager.specs.Chains.{made_by, AreKept, HasNewest, IsSlotReset}
use Rattle.state_manager.proofs.chain.Chain.undo_above.Goals as goal

pub reset-requires : goal.reset-requires
reset-requires g c = subst (AreKept g.P.StateProvider.least c.args.v.0) (sym c.pop_above.ensures) (kept_made_by g.P.StateProvider.least c.args.v.0 c.args.self.now c.args.v.0 c.requires)

pub returns-clause-settled : goal.returns-clause-settled
returns-clause-settled g c =
    settled_reset g.P.StateProvider.least g.P.StateProvider.greatest g.P.StateProvider.view c.args.v.0 (made_by c.args.v.0 c.args.self.now) c.reset.new.self
    (subst (λ old. HasNewest (IsSlotReset g.P.StateProvider.least g.P.StateProvider.greatest g.P.StateProvider.view c.args.v.0) old c.reset.new.self) c.pop_above.ensures c.reset.ensures)
    (made_by_newest c.args.v.0 c.args.self.now)

pub returns-clause-cut : goal.returns-clause-cut
returns-clause-cut g c =
    cut_reset g.P.StateProvider.least g.P.StateProvider.greatest g.P.StateProvider.view c.args.v.0 c.args.self.now c.reset.new.self
    (subst (λ old. HasNewest (IsSlotReset g.P.StateProvider.least g.P.StateProvider.greatest g.P.StateProvider.view c.args.v.0) old c.reset.new.self) c.pop_above.ensures c.reset.ensures)
