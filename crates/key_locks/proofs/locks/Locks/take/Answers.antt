use Rattle.std.proofs.Common.{◌≡◌, ◌∙◌, ap, sym, subst, List, None, Some}
use Rattle.key_locks.specs.Grants.{Grant, conflict, granted, Alike}
use Rattle.key_locks.specs.Table.{all_grants}
use Rattle.key_locks.specs.declared.locks.Locks.TheInside.{Inside}
use Rattle.key_locks.proofs.Flat.{IsReady, conflict_row, ready_noted, ready_held, ready_table, ready_alike}
use Rattle.key_locks.proofs.locks.Locks.take.Goals as goal
use Rattle.key_locks.proofs.locks.Locks.take.Goals.{then-is_none+in_ok-note, else-is_none}

pub returns-in-Some-clause-held : goal.returns-in-Some-clause-held
returns-in-Some-clause-held c =
    let is : conflict c.args.self.now c.args.txn c.args.name.now c.args.mode ≡ Some c.in-Some.by = ap (λ grants. conflict grants c.args.txn c.args.name.now c.args.mode) (sym c.self.view_is) ∙ conflict_row c.self.inside.rows c.args.txn c.args.name.now c.args.mode c.self.invariant.unique ∙ sym c.in-Some.ensures in
    λ by e. is ∙ cc

pub returns-in-Some-clause-held_only : goal.returns-in-Some-clause-held_only
returns-in-Some-clause-held_only c =
    let is : conflict c.args.self.now c.args.txn c.args.name.now c.args.mode ≡ Some c.in-Some.by = ap (λ grants. conflict grants c.args.txn c.args.name.now c.args.mode) (sym c.self.view_is) ∙ conflict_row c.self.inside.rows c.args.txn c.args.name.now c.args.mode c.self.invariant.unique ∙ sym c.in-Some.ensures in
    λ by e. cc

pub returns-in_err-note-clause-held_only : goal.returns-in_err-note-clause-held_only
returns-in_err-note-clause-held_only c =
    let free : conflict c.args.self.now c.args.txn c.args.name.now c.args.mode ≡ None = ap (λ grants. conflict grants c.args.txn c.args.name.now c.args.mode) (sym c.self.view_is) ∙ conflict_row c.self.inside.rows c.args.txn c.args.name.now c.args.mode c.self.invariant.unique ∙ sym c.in_default.ensures in
    λ by e. absurd (cc)

pub returns-in_err-grant-clause-held_only : goal.returns-in_err-grant-clause-held_only
returns-in_err-grant-clause-held_only c =
    let free : conflict c.args.self.now c.args.txn c.args.name.now c.args.mode ≡ None = ap (λ grants. conflict grants c.args.txn c.args.name.now c.args.mode) (sym c.self.view_is) ∙ conflict_row c.self.inside.rows c.args.txn c.args.name.now c.args.mode c.self.invariant.unique ∙ sym c.in_default.ensures in
    λ by e. absurd (cc)

ready : (c : goal.In_ok-grant) → IsReady c.self.inside.rows c.args.txn c.args.name.now c.if-is_none.self-inside.rows c.if-is_none.self-inside.held
ready c =
    let P : Inside → Type 0 = λ l. IsReady c.self.inside.rows c.args.txn c.args.name.now l.rows l.held in
    elim c.if-is_none.branch [
      | then-is_none+in_ok-note w ↦ subst P (sym w.self-inside-is) (ready_noted c.self.inside.rows c.self.inside.held w.note.new.self c.args.txn c.args.name.now c.self.invariant w.in_ok-note.ensures.ok)
      | else-is_none w ↦ subst P (sym w.self-inside-is) (ready_held c.self.inside.rows c.self.inside.held c.args.txn c.args.name.now c.mode_of.result c.self.invariant c.mode_of.ensures w.if-is_none.ensures)
    ]

pub invariant_of-self-2 : goal.invariant_of-self-2
invariant_of-self-2 c =
    ready_table c.self.inside.rows c.if-is_none.self-inside.rows c.grant.new.self c.if-is_none.self-inside.held c.args.txn c.args.name.now c.args.mode (ready c) c.in_ok-grant.ensures.unique c.in_ok-grant.ensures.ok

pub returns-clause-granted : goal.returns-clause-granted
returns-clause-granted c =
    let P : List Grant → Type 0 = λ grants. Alike (all_grants c.grant.new.self) (granted grants c.args.txn c.args.name.now c.args.mode) in
    subst P c.self.view_is (ready_alike c.self.inside.rows c.if-is_none.self-inside.rows c.grant.new.self c.if-is_none.self-inside.held c.args.txn c.args.name.now c.args.mode (ready c) c.self.invariant.unique c.in_ok-grant.ensures.unique c.in_ok-grant.ensures.ok)

pub returns-clause-free : goal.returns-clause-free
returns-clause-free c =
    ap (λ grants. conflict grants c.args.txn c.args.name.now c.args.mode) (sym c.self.view_is) ∙ conflict_row c.self.inside.rows c.args.txn c.args.name.now c.args.mode c.self.invariant.unique ∙ sym c.in_default.ensures

pub returns-clause-held_only : goal.returns-clause-held_only
returns-clause-held_only c =
    let free : conflict c.args.self.now c.args.txn c.args.name.now c.args.mode ≡ None = ap (λ grants. conflict grants c.args.txn c.args.name.now c.args.mode) (sym c.self.view_is) ∙ conflict_row c.self.inside.rows c.args.txn c.args.name.now c.args.mode c.self.invariant.unique ∙ sym c.in_default.ensures in
    λ by e. absurd (cc)
