use Rattle.std.proofs.Common.{◌∙◌, ap, List, [], ◌∷◌, ◌++◌, arith}
use Rattle.std.specs.Prelude.{IsOk, if◌then◌else◌}
use Rattle.std.specs.Result.{is_ok}
use Rattle.log_records.specs.declared.record.Physical.{Physical}
use Rattle.barrier_group.proofs.Spelled.{grown}
use Rattle.barrier_group.proofs.group.Group.push.Goals as goal

pub invariant_of-self-2 : goal.invariant_of-self-2
invariant_of-self-2 c =
    let ok : IsOk c.push.result = c.push.ensures.succeeds (omega (arith, c.in_ok-reserve.ensures.ok)) in
    let is = c.push.ensures.items ∙ ap (λ (xs : List Physical). if is_ok c.push.result then xs ++ c.args.item ∷ [] else xs) c.reserve.ensures.items in
    grown c.push.result c.self.inside.items.items c.push.new.self.items c.args.item c.self.inside.payload.items c.encode.new.out.items
    ok is c.self.invariant.0 c.in_ok-encode.ensures.ok c.self.invariant.1 (c.requires, c.physical_in_range.ensures)
