use Rattle.std.proofs.Common.{rules, ◌≡◌, ◌∙◌, ◌+◌, ◌<◌, List, [], Some, length, take, get_or, ap, sym, subst}
use Rattle.std.specs.Prelude.{All}
use Rattle.std.proofs.lemmas.List.{take_all}
use Rattle.std.proofs.lemmas.List.Elements.{All-nil, All-more}
use Rattle.coll_model.specs.declared.rows.Collection.{Collection}
use Rattle.coll_model.specs.Effect.{with_key}
use Rattle.provider_law.specs.Replies.{AreRows, contents_of}
use Rattle.state_manager.specs.Managed.{told_by, IsLoaded}
use Rattle.state_manager.proofs.Loads.{nothing_loaded, loaded_more}
use Rattle.state_manager.proofs.loading.load_all.Goals as goal

pub loop-one-init : goal.loop-one-init
loop-one-init g c = record {
  rows = All-nil (λ (one : Collection). AreRows one.kind one.rows);
  loaded = subst (IsLoaded g.P.StateProvider.least g.P.StateProvider.view c.args.v.0 []) (sym c.new-chains.ensures.empty) (nothing_loaded g.P.StateProvider.least g.P.StateProvider.view c.args.v.0);
}

pub loop-one-preserved : goal.loop-one-preserved
loop-one-preserved g c =
    let S = g.P.StateProvider in
    let image = c.args.image.now in
    let i = c.loop-one.one-index in
    let item = c.one-item.result in
    let chain = c.in_ok-chain.chain in
    let lt : i < length image = c.loop-one-test.true in
    let is : item ≡ get_or image i item = c.one-item.is in
    let inserted : c.insert.new.self.entries ≡ with_key item.name chain c.loop-one.chains.entries = search rules in
    record {
      rows = All-more (λ (one : Collection). AreRows one.kind one.rows) image i item lt c.loop-one.invariant.rows (subst (λ (one : Collection). AreRows one.kind one.rows) is c.in_ok-chain.ensures.rows);
      loaded = subst (IsLoaded S.least S.view c.args.v.0 (told_by (take (i + 1) image))) (sym (inserted ∙ ap (λ (one : Collection). with_key one.name chain c.loop-one.chains.entries) is))
          (loaded_more S.least S.view c.args.v.0 image i item c.loop-one.chains.entries chain lt c.requires.rising c.loop-one.invariant.loaded c.in_ok-chain.ensures.kept
          (λ w le. c.in_ok-chain.ensures.views w le ∙ ap (λ (one : Collection). Some (contents_of one.rows)) is));
    }

pub returns-clause-rows : goal.returns-clause-rows
returns-clause-rows g c =
    let image = c.args.image.now in
    let whole : take c.loop-one.one-index image ≡ image = take_all c.loop-one.one-index image c.loop-one-test.false in
    subst (All (λ (one : Collection). AreRows one.kind one.rows)) whole c.loop-one.invariant.rows

pub returns-clause-loaded : goal.returns-clause-loaded
returns-clause-loaded g c =
    let S = g.P.StateProvider in
    let image = c.args.image.now in
    let whole : take c.loop-one.one-index image ≡ image = take_all c.loop-one.one-index image c.loop-one-test.false in
    subst (λ (l : List Collection). IsLoaded S.least S.view c.args.v.0 (told_by l) c.loop-one.chains.entries) whole c.loop-one.invariant.loaded
