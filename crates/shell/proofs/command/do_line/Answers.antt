use Rattle.std.proofs.Common.{ap, subst, ℕ, List, ◌∷◌, Option, Err, inr, refl}
use Rattle.std.specs.Option.{IfSome, IfNone}
use Rattle.events.specs.declared.event.Event.{Event}
use Rattle.script_text.specs.Sentence.{Spells, IsSkipped, IsBad}
use Rattle.shell.specs.Ran.{CutShort}
use Rattle.shell.proofs.Disks.{keeps}
use Rattle.shell.proofs.Reach.{ends_at_bad_line, after_skipped, one_less, stops}
use Rattle.shell.proofs.command.do_line.Goals as goal

pub returns-in-Ok-None-clause-done : goal.returns-in-Ok-None-clause-done
returns-in-Ok-None-clause-done g c =
    let S : Option Event → Type 0 = λ o. IfNone o (IsSkipped c.args.line.now) in
    let skipped : IsSkipped c.args.line.now = subst S c.in-Ok-None.field-0-is c.in-Ok-None.ensures.skipped in
    λ input held holds before left raw first text at l d h.
    (holds, h, after_skipped input held holds before left raw c.args.world.now d l (subst IsSkipped text skipped))

pub returns-in-Ok-Some-clause-done : goal.returns-in-Ok-Some-clause-done
returns-in-Ok-Some-clause-done g c =
    let S : Option Event → Type 0 = λ o. IfSome o (Spells c.args.line.now) in
    let spells = subst S c.in-Ok-Some.field-0-is c.in-Ok-Some.ensures.event in
    λ input held holds before left raw first text at l d h.
    c.do_event.ensures.done input held holds before left raw first (subst (λ (l : List ℕ). Spells l c.in-Ok-Some.event) text spells) at l d h

pub returns-in-Err-BadLine-clause-done : goal.returns-in-Err-BadLine-clause-done
returns-in-Err-BadLine-clause-done g c =
    let bad : IsBad c.args.line.now = c.in-Err-BadLine.ensures.bad (ap Err c.in-Err-BadLine.field-0-is) in
    λ input held holds before left raw first text at l d h.
    ends_at_bad_line input held holds _ before left raw c.args.world.now _ _ c.args.number c.ended.result c.write_bad_line.result d
    (keeps input held holds before (raw ∷ left) c.args.world.now d (raw ∷ left))
    (subst IsBad text bad) l (one_less before raw) at h c.write_bad_line.ensures.writes c.ended.ensures

pub returns-in-Err-NoMemory-clause-done : goal.returns-in-Err-NoMemory-clause-done
returns-in-Err-NoMemory-clause-done g c = λ input held holds before left raw first text at l d h.
    stops input held holds _ before (raw ∷ left) c.args.world.now _ CutShort 8 (one_less before raw) d (keeps input held holds before (raw ∷ left) c.args.world.now d (raw ∷ left) 8) refl (inr refl) refl h
