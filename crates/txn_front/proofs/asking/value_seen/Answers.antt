use Rattle.std.proofs.Common.{Some, None, refl}
use Rattle.std.specs.Option.{option_copied}
use Rattle.lock_laws.specs.Protected.{value_at}
use Rattle.txn_front.proofs.Seen.{value_from, nothing_left}
use Rattle.txn_front.proofs.asking.value_seen.Goals as goal

pub returns-in-Put : goal.returns-in-Put
returns-in-Put c =
    value_from c.in_ok-clone.field-0 c.in_ok-clone-2.field-0 c.args.name.now c.args.key.now c.args.state.now c.args.going.now.ops c.in_ok-clone.ensures.cases c.in_ok-clone-2.ensures.cases
    c.requires.ordered c.requires.effective (Some c.in-Some.op.now) c.in-Some.ensures (Some c.in-Put.value) (rw c.in-Put.is refl)

pub returns-in-Some : goal.returns-in-Some
returns-in-Some c =
    value_from c.in_ok-clone.field-0 c.in_ok-clone-2.field-0 c.args.name.now c.args.key.now c.args.state.now c.args.going.now.ops c.in_ok-clone.ensures.cases c.in_ok-clone-2.ensures.cases
    c.requires.ordered c.requires.effective (Some c.in-Some.op.now) c.in-Some.ensures None
    (nothing_left c.in-Some.op.now (value_at c.args.name.now c.args.key.now c.args.state.now) c.in_default.not-Put)

pub returns : goal.returns
returns c =
    value_from c.in_ok-clone.field-0 c.in_ok-clone-2.field-0 c.args.name.now c.args.key.now c.args.state.now c.args.going.now.ops c.in_ok-clone.ensures.cases c.in_ok-clone-2.ensures.cases
    c.requires.ordered c.requires.effective None c.in-None.ensures (option_copied c.value_shown.result) c.value_shown.ensures
