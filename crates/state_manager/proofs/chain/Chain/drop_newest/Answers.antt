use Rattle.std.proofs.Common.{rules, ◌≡◌, sym, subst, length}
use Rattle.std.proofs.lemmas.Bool.{ltb-true}
use Rattle.state_manager.specs.declared.slot.Slot.{Slot}
use Rattle.state_manager.specs.Chains.{HasNewest, dropped_at}
use Rattle.state_manager.proofs.Seen.{newest_set, newest_none}
use Rattle.state_manager.proofs.chain.Chain.drop_newest.Goals as goal
use Rattle.state_manager.proofs.chain.Chain.drop_newest.Goals.{in-Some, in_default}

pub returns : goal.returns
returns g c =
    let steps = λ (slot now : Slot g.row.P.Denot). now ≡ dropped_at c.args.v slot in
    let items = c.self.inside.slots.items in
    subst (λ old. HasNewest steps old c.match-front_mut.self-inside.slots.items) c.self.view_is (elim c.match-front_mut.branch [
      | in-Some w ↦ rw w.self-inside-is (newest_set steps items w.in-Some.slot.now w.drop_at.new.self (ltb-true 0 (length items) (sym w.in-Some.ensures.item.0)) w.in-Some.ensures.item.1 w.drop_at.ensures)
      | in_default w ↦ rw w.self-inside-is (newest_none steps items (search rules))
    ])
