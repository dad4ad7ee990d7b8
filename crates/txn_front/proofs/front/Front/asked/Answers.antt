use Rattle.std.proofs.Common.{◌≡◌, ◌∙◌, sym, subst}
use Rattle.rc_base.specs.Ids.{is_epoch}
use Rattle.txn_front.specs.Front.{Fronted, AreAlike, told, called}
use Rattle.txn_front.proofs.Asked.{same_epoch, asked_told, asked_kept}
use Rattle.txn_front.proofs.front.Front.asked.Goals as goal

pub returns-clause-told : goal.returns-clause-told
returns-clause-told c =
    let inside = c.self.inside in
    let same = same_epoch (is_epoch c.args.txn.epoch inside.epoch) (sym c.ne.ensures ∙ c.if-ne.false) in
    subst (λ (f : Fronted). c.in_ok-reply.reply ≡ told f c.args.state.now c.args.call.now) c.self.view_is
    (asked_told inside.epoch inside.begins inside.live.entries inside.locks c.args.state.now c.args.txn c.args.call.now c.in-Some.going.now same (sym c.in-Some.ensures.value) c.requires.named
    c.in_ok-reply.reply c.in_ok-reply.ensures.told)

pub returns-clause-kept : goal.returns-clause-kept
returns-clause-kept c =
    let inside = c.self.inside in
    let same = same_epoch (is_epoch c.args.txn.epoch inside.epoch) (sym c.ne.ensures ∙ c.if-ne.false) in
    let after = c.get_mut.follows.lender c.note.new.self in
    subst (λ (f : Fronted). AreAlike (record { epoch = inside.epoch; begins = inside.begins; live = after.entries; grants = c.answer.new.locks }) (called f c.args.state.now c.args.call.now)) c.self.view_is
    (asked_kept inside.epoch inside.begins inside.live.entries inside.locks c.args.state.now c.args.txn c.args.call.now c.in-Some.going.now same (sym c.in-Some.ensures.value) c.requires.named
    c.get_mut.ensures.ordered c.in_ok-reply.reply c.in_ok-reply.ensures.told c.answer.new.locks c.in_ok-reply.ensures.kept c.note.new.self c.in_ok-note.ensures.ok
    after.entries ((c.get_mut.follows.holds c.note.new.self).0))
