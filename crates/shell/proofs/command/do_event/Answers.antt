use Rattle.std.proofs.Common.{◌∙◌, sym, ap, subst, List, ◌∷◌, ◌++◌, Some, Ok, Err, refl, inr, take, arith}
use Rattle.std.specs.Io.KnownBytes.{append_known}
use Rattle.order_machine.specs.declared.observation.Observation.{Observation}
use Rattle.order_machine.specs.Machine.{empty_machine}
use Rattle.order_machine.specs.Legal.{moved_all}
use Rattle.transcript_text.specs.Lines.{lines_text}
use Rattle.world.specs.declared.error.WorldError.{WorldError}
use Rattle.world.specs.Fleet.{images_of}
use Rattle.world.specs.World.{Serves}
use Rattle.shell.specs.Text.{limit_line_text}
use Rattle.shell.specs.Ran.{CutShort}
use Rattle.shell.specs.Reached.{Writes}
use Rattle.shell.specs.declared.lines.WriteError.{WriteError}
use Rattle.shell.proofs.Calls.{here}
use Rattle.shell.proofs.Disks.{Did, keeps_failed, keeps_unwritten}
use Rattle.shell.proofs.Reach.{after_event, event_cut_off, ends_at_machine_limit, one_less, stops}
use Rattle.shell.proofs.command.do_event.Goals as goal

pub event-requires-clause-here : goal.event-requires-clause-here
event-requires-clause-here g c = here c.args.event.now c.requires.built

pub returns-in-Err-NoMemory-clause-done : goal.returns-in-Err-NoMemory-clause-done
returns-in-Err-NoMemory-clause-done g c =
    let did : Did g.M.Disk.images g.M.Disk.faults g.M.Disk.marks c.args.world.now c.event.new.self c.args.fleet.now.items c.event.new.fleet.items c.args.event.now (Err c.in-Err-NoMemory.field-0) =
    record { serves = c.in-Err-NoMemory.ensures.serves; servable = c.in-Err-NoMemory.ensures.servable; still = c.in-Err-NoMemory.ensures.still; faulted = c.in-Err-NoMemory.ensures.faults; marked = c.in-Err-NoMemory.ensures.marks } in
    λ input held holds before left raw first spells at l d h.
    stops input held holds _ before (raw ∷ left) c.args.world.now _ CutShort 8 (one_less before raw) d
    (keeps_failed input held holds before (raw ∷ left) c.args.world.now c.event.new.self c.args.event.now c.in-Err-NoMemory.field-0 d did (raw ∷ left) 8) refl (inr refl) refl h

pub returns-in-Err-Limit-clause-done : goal.returns-in-Err-Limit-clause-done
returns-in-Err-Limit-clause-done g c =
    let S : WorldError → Type 0 = λ e. Did g.M.Disk.images g.M.Disk.faults g.M.Disk.marks c.args.world.now c.event.new.self c.args.fleet.now.items c.event.new.fleet.items c.args.event.now (Err e) in
    let did = subst S c.in-Err-Limit.field-0-is (record { serves = c.in-Err-Limit.ensures.serves; servable = tt; still = c.in-Err-Limit.ensures.still; faulted = c.in-Err-Limit.ensures.faults; marked = c.in-Err-Limit.ensures.marks }) in
    let W : List Observation → Type 0 = λ ls. Writes (lines_text c.args.number ls ++ limit_line_text c.args.number c.in-Err-Limit.which) (g.K.Sink.holds c.args.sink.now) (g.K.Sink.holds c.write_limited-written.new.sink) c.write_limited-written.result in
    λ input held holds before left raw first spells at l d h.
    ends_at_machine_limit input held holds _ before left raw c.args.world.now c.event.new.self _ _ c.args.number c.ended.result c.args.event.now c.in-Err-Limit.which c.in-Err-Limit.lines c.write_limited-written.result d did spells l (one_less before raw) at h
    (subst W c.as_slice.ensures c.write_limited-written.ensures.writes) c.ended.ensures

pub returns-in-Err-Unbuilt-clause-done : goal.returns-in-Err-Unbuilt-clause-done
returns-in-Err-Unbuilt-clause-done g c =
    let S : WorldError → Type 0 = λ e. Serves c.args.world.now c.event.new.self (images_of g.M.Disk.images c.args.fleet.now.items 0) (images_of g.M.Disk.images c.event.new.fleet.items 0) c.args.event.now (Err e) in
    let serves = subst S c.in-Err-Unbuilt.field-0-is c.in-Err-Unbuilt.ensures.serves in
    λ input held holds before left raw first spells at l d h. absurd (serves (moved_all empty_machine d.steps) d.stands).0

pub returns-in-Ok-write_lines-clause-done : goal.returns-in-Ok-write_lines-clause-done
returns-in-Ok-write_lines-clause-done g c =
    let did : Did g.M.Disk.images g.M.Disk.faults g.M.Disk.marks c.args.world.now c.event.new.self c.args.fleet.now.items c.event.new.fleet.items c.args.event.now (Ok c.in-Ok.lines) =
    record { serves = c.in-Ok.ensures.serves; servable = c.in-Ok.ensures.servable; still = c.in-Ok.ensures.still; faulted = c.in-Ok.ensures.faults; marked = c.in-Ok.ensures.marks } in
    λ input held holds before left raw first spells at l d h. (
      holds ++ lines_text c.args.number c.in-Ok.lines,
      c.in-Ok-write_lines.ensures.writes ∙ ap (λ o. append_known o (lines_text c.args.number c.as_slice-2.result.now)) h ∙ ap (λ (ls : List Observation). Some (holds ++ lines_text c.args.number ls)) c.as_slice-2.ensures,
      after_event input held holds _ before left raw c.args.world.now c.event.new.self c.args.number c.args.event.now c.in-Ok.lines d l spells at did refl,
    )

pub returns-in-Err-Failed-clause-done : goal.returns-in-Err-Failed-clause-done
returns-in-Err-Failed-clause-done g c =
    let text = lines_text c.args.number c.as_slice-2.result.now in
    let W : WriteError → Type 0 = λ e. Writes {T = Unit {0}} text (g.K.Sink.holds c.args.sink.now) (g.K.Sink.holds c.write_lines.new.sink) (Err e) in
    let wrote = subst W c.in-Err-Failed.field-0-is c.in-Err-Failed.ensures.writes in
    let S : List Observation → Type 0 = λ ls. Did g.M.Disk.images g.M.Disk.faults g.M.Disk.marks c.args.world.now c.event.new.self c.args.fleet.now.items c.event.new.fleet.items c.args.event.now (Ok ls) in
    let did = subst S (sym c.as_slice-2.ensures) (record { serves = c.in-Ok.ensures.serves; servable = c.in-Ok.ensures.servable; still = c.in-Ok.ensures.still; faulted = c.in-Ok.ensures.faults; marked = c.in-Ok.ensures.marks }) in
    λ input held holds before left raw first spells at l d h.
    event_cut_off input held holds _ before left raw c.args.world.now c.event.new.self _ c.args.number c.args.event.now c.as_slice-2.result.now wrote.0 d l spells at did (omega arith)
    (wrote.1 ∙ ap (λ o. append_known o (take wrote.0 text)) h)

pub returns-clause-done : goal.returns-clause-done
returns-clause-done g c =
    let W : WriteError → Type 0 = λ e. Writes {T = Unit {0}} (lines_text c.args.number c.as_slice-2.result.now) (g.K.Sink.holds c.args.sink.now) (g.K.Sink.holds c.write_lines.new.sink) (Err e) in
    let wrote = subst W c.in-Err-NoMemory-write_lines.field-0-is c.in-Err-NoMemory-write_lines.ensures.writes in
    let did : Did g.M.Disk.images g.M.Disk.faults g.M.Disk.marks c.args.world.now c.event.new.self c.args.fleet.now.items c.event.new.fleet.items c.args.event.now (Ok c.in-Ok.lines) =
    record { serves = c.in-Ok.ensures.serves; servable = c.in-Ok.ensures.servable; still = c.in-Ok.ensures.still; faulted = c.in-Ok.ensures.faults; marked = c.in-Ok.ensures.marks } in
    λ input held holds before left raw first spells at l d h.
    stops input held holds _ before (raw ∷ left) c.args.world.now _ CutShort 8 (one_less before raw) d
    (keeps_unwritten input held holds before left raw c.args.world.now c.event.new.self c.args.event.now c.in-Ok.lines d did spells) refl (inr refl) refl (wrote ∙ h)
