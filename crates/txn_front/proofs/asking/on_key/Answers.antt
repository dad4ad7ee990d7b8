use Rattle.std.proofs.Common.{◌≡◌, ◌∙◌, Some, None, sym, ap}
use Rattle.std.specs.Option.{option_copied}
use Rattle.std.proofs.lemmas.Result.{IfOk-weaker}
use Rattle.coll_model.specs.Effect.{folded}
use Rattle.events.specs.declared.call.Call.TheVariants.{OnKey}
use Rattle.events.specs.Answers.{key_reply, live_reply}
use Rattle.txn_front.proofs.OnKeys.{told_from}
use Rattle.txn_front.proofs.asking.on_key.Goals as goal

pub returns-in-Some-clause-told : goal.returns-in-Some-clause-told
returns-in-Some-clause-told c =
    told_from c.args.locks.now c.args.txn c.args.name.now c.args.key.now c.args.call.now (folded c.args.state.now c.args.going.now.ops) c.mode_of.result c.mode_of.ensures
    (Some c.in-Some.refusal) (sym c.in-Some.is ∙ c.in_ok-refusal.ensures.told) c.plain.result c.plain.ensures

pub returns-in_ok-value_seen-in-None-clause-told : goal.returns-in_ok-value_seen-in-None-clause-told
returns-in_ok-value_seen-in-None-clause-told c =
    let seen = folded c.args.state.now c.args.going.now.ops in
    let call = c.args.call.now in
    let name = c.args.name.now in
    let key = c.args.key.now in
    IfOk-weaker c.keyed.result (λ reply. reply ≡ key_reply name key call (option_copied c.in_ok-value_seen-in-None.field-0)) (λ reply. Some reply ≡ live_reply c.args.locks.now seen c.args.txn (OnKey c.args.txn name key call))
    (λ reply is. told_from c.args.locks.now c.args.txn name key call seen c.mode_of.result c.mode_of.ensures None
    (sym c.in-None.is ∙ c.in_ok-refusal.ensures.told) reply (is ∙ ap (key_reply name key call) c.in_ok-value_seen-in-None.ensures)) c.keyed.ensures
