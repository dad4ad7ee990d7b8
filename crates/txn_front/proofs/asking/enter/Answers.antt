use Rattle.std.proofs.Common.{◌≡◌, ◌∙◌, Some, sym, ap}
use Rattle.coll_model.specs.Effect.{folded}
use Rattle.coll_model.specs.declared.op.Kind.{Kind}
use Rattle.coll_model.specs.declared.op.Kind.TheVariants.{Dict}
use Rattle.lock_laws.specs.Protected.{kind_at}
use Rattle.txn_front.proofs.OnKeys.{entered-kind}
use Rattle.txn_front.proofs.asking.enter.Goals as goal

pub returns-in-None-2-clause-kept : goal.returns-in-None-2-clause-kept
returns-in-None-2-clause-kept c =
    let same : Some Dict ≡ kind_at c.args.name.now (folded c.args.state.now c.args.going.now.ops) = sym (c.in-Some-Dict.is ∙ ap (λ (k : Kind). Some k) c.in-Some-Dict.field-0-is) ∙ c.in_ok-kind_seen.ensures in
    entered-kind c.args.locks.now c.ask_name.new.locks c.ask_key.new.locks c.args.txn c.args.name.now c.args.key.now c.args.mode (folded c.args.state.now c.args.going.now.ops) (Some Dict)
    (sym c.in_ok-by.ensures.told ∙ c.in_default.is) same c.in_ok-by.ensures.kept c.in_ok-by-in-Some-Dict.ensures.kept
