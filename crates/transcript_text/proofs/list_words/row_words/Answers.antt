use Rattle.std.proofs.Common.{◌≡◌, ◌∙◌, ◌++◌, ◌∷◌, [], List, ℕ, sym, subst, All}
use Rattle.std.proofs.lemmas.Bool.{false≢true}
use Rattle.std.proofs.lemmas.List.Elements.{All-push, recursion_from_All}
use Rattle.transcript_text.specs.Words.{IsRowWord}
use Rattle.transcript_text.specs.Forms.{fields_words, AreFields}
use Rattle.transcript_text.specs.Forms as forms
use Rattle.transcript_text.proofs.EachWord.{each_more, each_wrong, among}
use Rattle.transcript_text.proofs.list_words.row_words.Goals as goal

no_row : (before : List (List ℕ)) (word : List ℕ) → (IsRowWord word → ⊥) → (words more : List (List ℕ)) → All IsRowWord words → (before ++ word ∷ []) ++ more ≡ words → ⊥
no_row before word none words more all e = none (among IsRowWord before word more (recursion_from_All IsRowWord ((before ++ word ∷ []) ++ more) (subst (All IsRowWord) (sym e) all)))

pub returns-then-not-branch : goal.returns-then-not-branch
returns-then-not-branch c =
    each_wrong (fields_words forms.row_words) (AreFields forms.row_words) c.loop-index.row c.loop-index.invariant.rows c.args.words.now c.loop-index.index _ c.wrong.result c.loop-index-test.true c.loop-index.invariant.read c.wrong.ensures
    (no_row c.loop-index.row _ (λ is. false≢true (sym c.if-not-branch.true ∙ (c.in_ok-is_row_word.ensures ∙ is))))

pub loop-index-preserved : goal.loop-index-preserved
loop-index-preserved c =
    let word = c.in_ok-from_slice.field-0 in
    let is_row = sym c.in_ok-is_row_word.ensures ∙ c.if-not-branch.false in
    let all = All-push IsRowWord c.loop-index.row word c.loop-index.invariant.rows (subst IsRowWord (sym c.in_ok-from_slice.ensures) is_row) in
    record {
      read = each_more c.args.words.now c.loop-index.index _ c.loop-index.row word c.loop-index-test.true c.loop-index.invariant.read (sym c.in_ok-from_slice.ensures) ∙ sym c.in_ok-push.ensures.ok;
      rows = subst (All IsRowWord) (sym c.in_ok-push.ensures.ok) all;
    }
