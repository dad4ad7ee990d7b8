use Rattle.std.proofs.Common.{◌≡◌, ◌∙◌, ap, ℕ, List, ◌++◌, Option, Some, Err, take, drop, refl}
use Rattle.std.specs.Io.KnownBytes.{append_known}
use Rattle.std.proofs.lemmas.List.{take-append-drop}
use Rattle.shell.specs.Text.{usage}
use Rattle.shell.specs.Reached.{Writes}
use Rattle.shell.specs.declared.lines.WriteError.{WriteError}
use Rattle.shell.specs.declared.lines.WriteError.TheVariants.{Failed, NoMemory}
use Rattle.shell.proofs.Reach.{complete}
use Rattle.shell.proofs.command.run.Goals as goal

abbrev five : ℕ
five = 5

cut_off : (e : WriteError) (old new : Option (List ℕ)) (held : List ℕ) → Writes {T = Unit {0}} usage old new (Err e) → (e ≡ NoMemory → ⊥) → old ≡ Some held →
    (part : List ℕ) × (new ≡ Some (held ++ part)) × ((more : List ℕ) × (part ++ more ≡ usage)) × (five ≡ 2 → part ≡ usage)
cut_off Failed old new held w m h =
    (take w.0 usage, w.1 ∙ ap (λ o. append_known o (take w.0 usage)) h, (drop w.0 usage, take-append-drop w.0 usage), λ e. absurd (not_two e))
  where
    not_two : five ≡ 2 → ⊥
    not_two e = cc
cut_off NoMemory old new held w m h = absurd (m refl)

pub returns-in-Err-clause-usage_text : goal.returns-in-Err-clause-usage_text
returns-in-Err-clause-usage_text g c = λ held words h. cut_off c.in-Err.field-0 _ _ held c.in-Err.ensures.writes (λ q. c.in-Err.ensures.memory (ap Err q)) h

pub returns-then-is_world-clause-complete : goal.returns-then-is_world-clause-complete
returns-then-is_world-clause-complete g c = λ input held words told holds clean source sink.
    let ended = c.run_world.ensures.ran input held told holds in
    complete input c.run_world.result ended.2.0 ended.2.2 clean (λ four. source (c.run_world.ensures.source_fault.rose four)) (λ five. sink (c.run_world.ensures.sink_fault.rose five))

pub returns-then-is_world-clause-ran : goal.returns-then-is_world-clause-ran
returns-then-is_world-clause-ran g c = λ input held words told holds.
    let ended = c.run_world.ensures.ran input held told holds in
    (ended.0, ended.2.0, ended.1, ended.2.1, ended.2.2, ended.2.3, ended.2.4)
