use Rattle.std.proofs.Common.{◌≡◌, ◌≤◌, take}
use Rattle.provider_law.specs.Views.{together, Written}
use Rattle.provider_law.proofs.several.apply_all.Given as goal

abbrev pub invariant-loop-op : goal.invariant-loop-op
invariant-loop-op g l = record {
  sort : g.P.StateProvider.sort l.provider ≡ g.P.StateProvider.sort l.fn.provider;
  floor : g.P.StateProvider.least l.provider ≡ g.P.StateProvider.least l.fn.provider;
  top : g.P.StateProvider.greatest l.provider ≤ l.v.0;
  risen : 1 ≤ l.op-index → g.P.StateProvider.greatest l.provider ≡ l.v.0;
  untouched : l.op-index ≡ 0 → l.provider ≡ l.fn.provider;
  now : g.P.StateProvider.view l.provider (g.P.StateProvider.greatest l.provider) ≡ together (g.P.StateProvider.view l.fn.provider (g.P.StateProvider.greatest l.fn.provider)) (take l.op-index l.ops);
  written : Written l.v.0 (g.P.StateProvider.least l.fn.provider) (g.P.StateProvider.view l.fn.provider) (g.P.StateProvider.view l.provider) (together (g.P.StateProvider.view l.fn.provider (g.P.StateProvider.greatest l.fn.provider)) (take l.op-index l.ops));
}
