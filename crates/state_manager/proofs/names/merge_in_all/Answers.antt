use Rattle.std.proofs.Common.{◌≡◌, ◌∙◌, [], List, false, refl, sym, ap, subst}
use Rattle.std.proofs.lemmas.Fn.{chained_keeps}
use Rattle.rc_base.specs.declared.ids.Lsn.{Lsn}
use Rattle.state_manager.specs.declared.slot.Slot.{Slot}
use Rattle.state_manager.specs.Chains.{AreKept, IsMergedTo}
use Rattle.state_manager.proofs.Forgetting.{merged_each, kept_within}
use Rattle.state_manager.proofs.names.merge_in_all.Goals as goal

pub retain-requires : goal.retain-requires
retain-requires g c = record {
  at = λ before after f k chain e runs p q is_key is_chain.
      let least = g.P.StateProvider.least in
      let own : f.0.now ≡ c.args.v = chained_keeps _ (λ xs now. now.0.now ≡ c.args.v) (λ xs now x left j step. ap (λ b. b.now) step.2.called.met.0 ∙ j) before _ f refl runs in
      let here : AreKept least c.args.v.0 chain = kept_within least c.args.v.0 before after k chain c.args.chains.now.entries e c.requires.kept in
      subst (λ (at : Lsn). AreKept least at.0 q.now) (sym own) (subst (AreKept least c.args.v.0) (sym is_chain) here);
}

pub returns-clause-each : goal.returns-clause-each
returns-clause-each g c =
    let S = g.P.StateProvider in
    merged_each S.least S.view c.args.v.0 _ (λ f. f.0.now ≡ c.args.v)
    (λ f k chain b now left i t.
    let merged : IsMergedTo S.least S.view c.args.v.0 t.value.now t.left.now = subst (λ (at : Lsn). IsMergedTo S.least S.view at.0 t.value.now t.left.now) i t.called.met.1.0 in
    let gone : b ≡ false → t.left.now ≡ [] = t.called.met.1.1 in (
      subst (λ (was : List (Slot g.row.P.Denot)). IsMergedTo S.least S.view c.args.v.0 was now) t.shows.1 (subst (IsMergedTo S.least S.view c.args.v.0 t.value.now) t.leaves merged),
      (λ no. sym t.leaves ∙ gone no),
      ap (λ x. x.now) t.called.met.0 ∙ i,
    ))
    _ c.args.chains.now.entries c.retain.new.self.entries refl c.retain.ensures.filtered c.requires.rising
