use Rattle.std.proofs.Common.{◌≡◌, ◌∙◌, sym, ap, subst, ℕ, ◌+◌, ◌≤◌, length, List, Some, arith, false}
use Rattle.log_records.specs.declared.record.Physical.{Physical}
use Rattle.barrier_group.specs.Group.{spelled}
use Rattle.log_store.specs.Durable.{StandFor, StandForOneOf}
use Rattle.log_store.specs.Growth.{GoesOn, after}
use Rattle.log_store.specs.Store.{Store, IsOpenOn}
use Rattle.replica.specs.Logging.{AllFit}
use Rattle.replica.specs.Open.{Open}
use Rattle.replica.specs.Step.{block, stepped}
use Rattle.replica.proofs.Lengthened.{steps_to, identity_after}
use Rattle.replica.proofs.Told.{logged_fits, parts_told}
use Rattle.replica.proofs.Short.{block_short}
use Rattle.replica.proofs.Stepped.{shown_few, block_is, both_parts, kept_front, behind_parts, own_log, kept_is, agrees_same}
use Rattle.replica.proofs.replica.Replica.step.Goals as goal

pub block-requires-clause-fit : goal.block-requires-clause-fit
block-requires-clause-fit g c =
    subst AllFit (sym c.in_ok-reply.ensures.logged) (logged_fits c.args.self.now c.args.event.now c.requires.may)

pub append-requires-clause-fits : goal.append-requires-clause-fits
append-requires-clause-fits g c =
    let r = c.args.self.now in
    let event = c.args.event.now in
    let is : c.in_ok-block.block ≡ block r event = block_is r c.answer.new.self event c.in_ok-reply.bodies.items c.in_ok-block.block c.in_ok-reply.ensures.others c.in_ok-reply.ensures.logged c.in_ok-block.ensures in
    subst (λ (items : List Physical). length (spelled items) ≤ 1048576) (sym is) (block_short r event c.requires.may)

pub append-requires-clause-goes_on : goal.append-requires-clause-goes_on
append-requires-clause-goes_on g c =
    let r = c.args.self.now in
    let event = c.args.event.now in
    let held = c.requires.agrees in
    let is : c.in_ok-block.block ≡ block r event = block_is r c.answer.new.self event c.in_ok-reply.bodies.items c.in_ok-block.block c.in_ok-reply.ensures.others c.in_ok-reply.ensures.logged c.in_ok-block.ensures in
    (held.0, held.1, subst (GoesOn held.0) (sym is) (steps_to r held.0 event held.2 c.requires.may).goes_on)

pub change-requires-clause-shown : goal.change-requires-clause-shown
change-requires-clause-shown g c =
    let held = c.requires.agrees in
    let count : Open → ℕ = λ o. o.shown + length o.ahead in
    let same : count c.append.new.self ≡ count c.args.self.now = ap count c.in_ok-append.ensures.others ∙ ap count c.in_ok-reply.ensures.others in
    omega (arith, same, shown_few c.args.self.now held.0 held.2, c.requires.room)

pub returns-clause-outcome : goal.returns-clause-outcome
returns-clause-outcome g c =
    let r = c.args.self.now in
    let m = c.append.new.self in
    let event = c.args.event.now in
    let others = both_parts r c.answer.new.self m c.in_ok-reply.ensures.others c.in_ok-append.ensures.others in
    let alike = kept_front r c.answer.new.self m event c.in_ok-append.ensures.others c.in_ok-reply.ensures.asked in
    c.in_ok-change.ensures.told ∙ parts_told r m event c.in_ok-reply.reply others alike c.in_ok-reply.ensures.told

pub returns-clause-kept : goal.returns-clause-kept
returns-clause-kept g c =
    let r = c.args.self.now in
    let m = c.append.new.self in
    let event = c.args.event.now in
    let same = behind_parts r c.answer.new.self m c.change.new.self event c.len-count.result c.in_ok-reply.bodies.items c.in_ok-reply.ensures.others c.in_ok-append.ensures.others c.in_ok-reply.ensures.asked c.in_ok-reply.ensures.logged (c.len-count.ensures ∙ c.in_ok-reply.bodies.ok.0) c.in_ok-change.ensures.kept in
    kept_is c.change.new.self (stepped r event) m.log same

pub returns-clause-agrees : goal.returns-clause-agrees
returns-clause-agrees g c = λ v s a.
    let r = c.args.self.now in
    let m = c.append.new.self in
    let event = c.args.event.now in
    let is : c.in_ok-block.block ≡ block r event = block_is r c.answer.new.self event c.in_ok-reply.bodies.items c.in_ok-block.block c.in_ok-reply.ensures.others c.in_ok-reply.ensures.logged c.in_ok-block.ensures in
    let same = behind_parts r c.answer.new.self m c.change.new.self event c.len-count.result c.in_ok-reply.bodies.items c.in_ok-reply.ensures.others c.in_ok-append.ensures.others c.in_ok-reply.ensures.asked c.in_ok-reply.ensures.logged (c.len-count.ensures ∙ c.in_ok-reply.bodies.ok.0) c.in_ok-change.ensures.kept in
    let identity = identity_after v r event ∙ a.identity ∙ ap (λ (o : Open). Some o.log.identity) (sym c.in_ok-reply.ensures.others) ∙ ap (λ (i : ℕ). Some i) (sym c.in_ok-append.ensures.identity) in (
      subst (λ (items : List Physical). StandFor (after v items) (g.D.Disk.images c.append.new.disk)) is (c.in_ok-append.ensures.ok v s),
      agrees_same c.change.new.self (stepped r event) m.log (after v (block r event)) same (steps_to r v event a c.requires.may).agrees identity,
    )

pub returns-clause-opened : goal.returns-clause-opened
returns-clause-opened g c =
    let r = c.args.self.now in
    let m = c.append.new.self in
    let event = c.args.event.now in
    let same = behind_parts r c.answer.new.self m c.change.new.self event c.len-count.result c.in_ok-reply.bodies.items c.in_ok-reply.ensures.others c.in_ok-append.ensures.others c.in_ok-reply.ensures.asked c.in_ok-reply.ensures.logged (c.len-count.ensures ∙ c.in_ok-reply.bodies.ok.0) c.in_ok-change.ensures.kept in
    subst (λ (l : Store). IsOpenOn l (g.D.Disk.images c.append.new.disk)) (sym (own_log c.change.new.self (stepped r event) m.log same)) c.in_ok-append.ensures.opened

pub returns-clause-not_closed : goal.returns-clause-not_closed
returns-clause-not_closed g c =
    let r = c.args.self.now in
    let m = c.append.new.self in
    let event = c.args.event.now in
    let same = behind_parts r c.answer.new.self m c.change.new.self event c.len-count.result c.in_ok-reply.bodies.items c.in_ok-reply.ensures.others c.in_ok-append.ensures.others c.in_ok-reply.ensures.asked c.in_ok-reply.ensures.logged (c.len-count.ensures ∙ c.in_ok-reply.bodies.ok.0) c.in_ok-change.ensures.kept in
    subst (λ (l : Store). l.log.closed ≡ false) (sym (own_log c.change.new.self (stepped r event) m.log same)) c.in_ok-append.ensures.not_closed

pub returns-clause-stop : goal.returns-clause-stop
returns-clause-stop g c = λ v s a.
    let r = c.args.self.now in
    let event = c.args.event.now in
    let is : c.in_ok-block.block ≡ block r event = block_is r c.answer.new.self event c.in_ok-reply.bodies.items c.in_ok-block.block c.in_ok-reply.ensures.others c.in_ok-reply.ensures.logged c.in_ok-block.ensures in
    subst (λ (items : List Physical). StandForOneOf v (after v items) (g.D.Disk.images c.append.new.disk)) is (c.in_ok-append.ensures.stop v s)
