use Rattle.std.proofs.Common.{take}
use Rattle.std.specs.Prelude.{All}
use Rattle.provider_law.specs.Replies.{AreRows}
use Rattle.state_manager.specs.Managed.{told_by, IsLoaded}
use Rattle.state_manager.proofs.loading.load_all.Given as goal

-- those so far are loaded
abbrev pub invariant-loop-one : goal.invariant-loop-one
invariant-loop-one g l = record {
  rows : All (λ one. AreRows one.kind one.rows) (take l.one-index l.image);
  loaded : IsLoaded g.P.StateProvider.least g.P.StateProvider.view l.v.0 (told_by (take l.one-index l.image)) l.chains.entries;
}
