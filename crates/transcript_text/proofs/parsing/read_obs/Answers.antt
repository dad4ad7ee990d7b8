use Rattle.std.proofs.Common.{◌∙◌, sym, ap, subst}
use Rattle.script_text.specs.Reading.{texts}
use Rattle.transcript_text.specs.ReadBack.{line_words, IsLine}
use Rattle.transcript_text.specs.WordReading.{IsWrong}
use Rattle.transcript_text.proofs.LineWords.{tells_from_words, told_once, tells_nothing, place_within, wrong_at}
use Rattle.transcript_text.proofs.parsing.read_obs.Goals as goal

pub returns-in-Ok-clause-found : goal.returns-in-Ok-clause-found
returns-in-Ok-clause-found c =
    tells_from_words c.args.line.now (texts c.deref.result.now) c.in-Ok.read.0 c.in-Ok.read.1 (ap texts c.deref.ensures.value ∙ c.in_ok-words.ensures) c.in-Ok.ensures.0.0 c.in-Ok.ensures.0.1 c.in-Ok.ensures.1

pub returns-in-Ok-clause-only : goal.returns-in-Ok-clause-only
returns-in-Ok-clause-only c = λ n o tells.
    let read = tells_from_words c.args.line.now (texts c.deref.result.now) c.in-Ok.read.0 c.in-Ok.read.1 (ap texts c.deref.ensures.value ∙ c.in_ok-words.ensures) c.in-Ok.ensures.0.0 c.in-Ok.ensures.0.1 c.in-Ok.ensures.1 in
    told_once c.args.line.now c.in-Ok.read.0 n c.in-Ok.read.1 o read tells

pub place_of-requires : goal.place_of-requires
place_of-requires c =
    let is = rw c.in-Err-Wrong.field-0-is at c.in-Err-Wrong.ensures in
    let same = c.deref.ensures.value ∙ sym c.deref-in-Err-Wrong.ensures.value in
    place_within c.args.line.now c.deref-in-Err-Wrong.result.now c.len.result c.in-Err-Wrong.left (ap texts c.deref-in-Err-Wrong.ensures.value ∙ c.in_ok-words.ensures)
    (c.len.ensures ∙ sym c.deref-in-Err-Wrong.ensures.len) (subst (λ ws. IsWrong line_words IsLine (texts ws) c.in-Err-Wrong.left) same is)

pub returns-in-Err-Wrong-clause-only : goal.returns-in-Err-Wrong-clause-only
returns-in-Err-Wrong-clause-only c = λ n o tells.
    let is = rw c.in-Err-Wrong.field-0-is at c.in-Err-Wrong.ensures in
    absurd (tells_nothing c.args.line.now (texts c.deref.result.now) c.in-Err-Wrong.left (ap texts c.deref.ensures.value ∙ c.in_ok-words.ensures) is n o tells)

pub returns-in-Err-Wrong-clause-place : goal.returns-in-Err-Wrong-clause-place
returns-in-Err-Wrong-clause-place c =
    let is = rw c.in-Err-Wrong.field-0-is at c.in-Err-Wrong.ensures in
    let same = c.deref.ensures.value ∙ sym c.deref-in-Err-Wrong.ensures.value in
    wrong_at c.args.line.now c.deref-in-Err-Wrong.result.now c.len.result c.in-Err-Wrong.left c.place_of.result (ap texts c.deref-in-Err-Wrong.ensures.value ∙ c.in_ok-words.ensures)
    (c.len.ensures ∙ sym c.deref-in-Err-Wrong.ensures.len) (subst (λ ws. IsWrong line_words IsLine (texts ws) c.in-Err-Wrong.left) same is) c.place_of.ensures
