use Rattle.std.proofs.Common.{◌∙◌, ◌++◌, ◌∷◌, flat_map, decimal, ap}
use Rattle.std.proofs.lemmas.Result.{IfOk-equal}
use Rattle.std.proofs.lemmas.List.{append_assoc}
use Rattle.transcript_text.specs.Lines.{words_of}
use Rattle.transcript_text.proofs.Joined.{join-flat_map}
use Rattle.transcript_text.proofs.printing.write_line.Goals as goal

pub returns-clause-ok : goal.returns-clause-ok
returns-clause-ok c =
    let words = words_of c.args.observation.now in
    IfOk-equal c.write_words.result _ _ _ c.write_words.ensures.ok (ap (λ x. x ++ flat_map (λ w. 32 ∷ w) words) c.in_ok-write_digits.ensures.ok ∙ (append_assoc c.args.out.now.items (decimal c.args.number) (flat_map (λ w. 32 ∷ w) words) ∙ ap (λ x. c.args.out.now.items ++ x) (join-flat_map 32 (decimal c.args.number) words)))
