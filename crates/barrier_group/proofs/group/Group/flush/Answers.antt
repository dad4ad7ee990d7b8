use Rattle.std.proofs.Common.{◌≡◌, [], List, ◌≤◌, length, ◌∙◌, subst, sym}
use Rattle.std.proofs.lemmas.Bool.{false≢true}
use Rattle.log_records.specs.declared.record.Physical.{Physical}
use Rattle.barrier_group.specs.Group.{spelled}
use Rattle.barrier_group.proofs.Spelled.{is_payload}
use Rattle.barrier_group.proofs.group.Group.flush.Goals as goal

pub append-requires-clause-payload : goal.append-requires-clause-payload
append-requires-clause-payload g c =
    let some = λ (none : c.self.inside.items.items ≡ []). absurd (false≢true (sym c.if-is_empty.false ∙ c.is_empty.ensures.1 (sym c.self.view_is ∙ none))) in
    let fits = subst (λ (xs : List Physical). length (spelled xs) ≤ 1048576) (sym c.self.view_is) c.requires.fits in
    is_payload c.self.inside.items.items c.deref.result.now some (c.deref.ensures.value ∙ c.self.invariant.0) fits
