use Rattle.std.proofs.Common.{sym, ◌∙◌}
use Rattle.rc_base.proofs.Twice.{rising_from_none}
use Rattle.rc_base.proofs.members.Members.from_slice.Goals as goal

pub invariant_of-result : goal.invariant_of-result
invariant_of-result c = rising_from_none c.args.ids.now c.in_ok-sorted.field-0.items (sym c.find_twice.ensures ∙ c.in_default.is) c.in_ok-sorted.ensures.same c.in_ok-sorted.ensures.in_order

pub returns-clause-members : goal.returns-clause-members
returns-clause-members c = record {
  rising = rising_from_none c.args.ids.now c.in_ok-sorted.field-0.items (sym c.find_twice.ensures ∙ c.in_default.is) c.in_ok-sorted.ensures.same c.in_ok-sorted.ensures.in_order;
  same = c.in_ok-sorted.ensures.same;
}
