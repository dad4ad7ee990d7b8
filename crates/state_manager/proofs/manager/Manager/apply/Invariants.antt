use Rattle.std.proofs.Common.{◌≡◌, ◌≤◌, take}
use Rattle.coll_model.specs.Effect.{folded}
use Rattle.state_manager.specs.Chains.{AreChanged}
use Rattle.state_manager.specs.Managed.{state_at}
use Rattle.state_manager.proofs.manager.Manager.apply.Given as goal

abbrev pub invariant-loop-op : goal.invariant-loop-op
invariant-loop-op g l = record {
  floor : l.self.floor ≡ l.fn.self.floor;
  top : l.self.top.0 ≤ l.v.0;
  risen : 1 ≤ l.op-index → l.self.top ≡ l.v;
  untouched : l.op-index ≡ 0 → l.self ≡ l.fn.self;
  now : state_at g.P.StateProvider.view l.self l.self.top.0 ≡ folded (state_at g.P.StateProvider.view l.fn.self l.fn.self.top.0) (take l.op-index l.ops);
  changed : AreChanged l.v.0 l.fn.self.floor.0 (state_at g.P.StateProvider.view l.fn.self) (state_at g.P.StateProvider.view l.self) (folded (state_at g.P.StateProvider.view l.fn.self l.fn.self.top.0) (take l.op-index l.ops));
}
