use Rattle.std.proofs.Common.{◌∙◌, sym, ap}
use Rattle.txn_front.specs.Front.{told}
use Rattle.replica.specs.Open.{Open}
use Rattle.replica.specs.Logging.{logged_to}
use Rattle.replica_model.specs.Records.{logged_call}
use Rattle.replica.proofs.Told.{named_logs, none_logs}
use Rattle.replica.proofs.replica.Replica.answer_call.Goals as goal
use Rattle.replica.proofs.replica.Replica.answer_call.Goals.{in-Some+in_ok-bodies-in-Some, in-None}

pub returns-clause-logged : goal.returns-clause-logged
returns-clause-logged c =
    let r : Open = c.args.self.now in
    let call = c.args.call.now in
    elim c.match-last.branch [
      | in-Some+in_ok-bodies-in-Some w ↦
          ap (λ b. b.items) w.bodies-is ∙ named_logs r call w.in-Some.txn w.in-Some.last c.in_ok-reply.reply w.in_ok-bodies-in-Some.bodies.items (sym c.is_active.ensures ∙ c.if-not-is_active.false) (sym c.last_named-last.ensures ∙ w.in-Some.is) (c.in_ok-reply.ensures.told ∙ ap (λ (o : Open). told o.front o.contents call) c.self.view_is)
          (w.in_ok-bodies-in-Some.ensures ∙ ap (logged_call c.self.inside.last w.in-Some.txn (logged_to w.in-Some.last) call) w.as_ref.ensures.value ∙ ap (λ (o : Open). logged_call o.last w.in-Some.txn (logged_to w.in-Some.last) call c.in_ok-reply.reply) c.self.view_is)
      | in-None w ↦
          ap (λ b. b.items) w.bodies-is ∙ w.new-bodies.ensures.items ∙ sym (none_logs r call (sym c.last_named-last.ensures ∙ w.in-None.is))
    ]
