use Rattle.std.proofs.Common.{List, subst}
use Rattle.coll_model.specs.declared.rows.Collection.{Collection}
use Rattle.state_manager.specs.Managed.{told_by, IsLoaded}
use Rattle.state_manager.proofs.Loads.{loaded_states}
use Rattle.state_manager.proofs.manager.Manager.load.Goals as goal

pub returns-clause-states : goal.returns-clause-states
returns-clause-states g c = λ w le.
    let S = g.P.StateProvider in
    let entries = c.in_ok-load_all.field-0.entries in
    let loaded : IsLoaded S.least S.view c.args.v.0 (told_by c.args.image.now) entries = subst (λ (image : List Collection). IsLoaded S.least S.view c.args.v.0 (told_by image) entries) c.as_slice.ensures c.in_ok-load_all.ensures.loaded in
    loaded_states S.least S.view c.args.v (told_by c.args.image.now) entries loaded c.requires.rising w le
