use Rattle.std.proofs.Common.{◌≡◌, ◌∙◌, None, option_map, sym, ap, subst}
use Rattle.std.proofs.lemmas.Result.{on_ok_weaker, on_err_weaker}
use Rattle.coll_model.specs.declared.op.Op.{Op}
use Rattle.coll_laws.specs.Effects.{after}
use Rattle.provider_law.specs.Views.{alone}
use Rattle.state_manager.specs.Chains.{seen, made_over, IsTurned}
use Rattle.state_manager.proofs.Turns.{turned_drop, turned_apply, turned_after, cut_same, after_alone, after_make}
use Rattle.state_manager.proofs.chain.Chain.operate.Goals as goal

pub returns-in-Make-clause-ok : goal.returns-in-Make-clause-ok
returns-in-Make-clause-ok g c =
    let S = g.P.StateProvider in
    let old = c.args.self.now in
    let now : made_over c.in-Make.kind (seen S.view c.args.v.0 old) ≡ after c.args.op.now (seen S.view c.args.v.0 old) =
    after_make c.in-Make.field-0 c.in-Make.kind (seen S.view c.args.v.0 old) ∙ ap (λ (op : Op). after op (seen S.view c.args.v.0 old)) (sym c.in-Make.is) in
    on_ok_weaker c.make.result
    (λ turned. subst (IsTurned S.least S.view c.args.v.0 old c.make.new.self) now (turned_after S.least S.greatest S.view g.met.P.StateProvider.rests c.args.v.0 old c.undo_above.new.self c.make.new.self (made_over c.in-Make.kind) c.undo_above.ensures.cut turned c.requires.kept))
    c.make.ensures.ok

pub returns-in-Unmake-clause-ok : goal.returns-in-Unmake-clause-ok
returns-in-Unmake-clause-ok g c =
    let S = g.P.StateProvider in
    let old = c.args.self.now in
    let now : None ≡ after c.args.op.now (seen S.view c.args.v.0 old) = ap (λ (op : Op). after op (seen S.view c.args.v.0 old)) (sym c.in-Unmake.is) in
    subst (IsTurned S.least S.view c.args.v.0 old c.drop_newest.new.self) now
    (turned_after S.least S.greatest S.view g.met.P.StateProvider.rests c.args.v.0 old c.undo_above.new.self c.drop_newest.new.self (λ o. None) c.undo_above.ensures.cut
    (turned_drop S.least S.greatest S.view g.met.P.StateProvider.rests c.args.v c.undo_above.new.self c.drop_newest.new.self c.undo_above.ensures.settled c.drop_newest.ensures) c.requires.kept)

pub returns-in_default : goal.returns-in_default
returns-in_default g c =
    let S = g.P.StateProvider in
    let old = c.args.self.now in
    let mid = c.undo_above.new.self in
    let op = c.args.op.now in
    record {
      ok = on_ok_weaker c.apply.result
          (λ applied. subst (IsTurned S.least S.view c.args.v.0 old c.apply.new.self) (after_alone op c.in_default.not-Make c.in_default.not-Unmake (seen S.view c.args.v.0 old))
          (turned_after S.least S.greatest S.view g.met.P.StateProvider.rests c.args.v.0 old mid c.apply.new.self (option_map (λ contents. alone contents op)) c.undo_above.ensures.cut
          (turned_apply S.least S.greatest S.view g.met.P.StateProvider.rests c.args.v.0 op mid c.apply.new.self c.undo_above.ensures.settled applied) c.requires.kept))
          c.apply.ensures.ok;
      err = on_err_weaker c.apply.result
          (λ same. cut_same S.least S.greatest S.view g.met.P.StateProvider.rests c.args.v.0 old mid c.apply.new.self c.undo_above.ensures.cut c.undo_above.ensures.settled same)
          c.apply.ensures.err;
    }
