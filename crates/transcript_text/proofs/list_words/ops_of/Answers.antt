use Rattle.std.proofs.Common.{◌≡◌, ◌∙◌, ◌++◌, ◌∷◌, [], List, ℕ, map, sym, ap, subst, All}
use Rattle.std.proofs.lemmas.List.{map-append}
use Rattle.std.proofs.lemmas.List.Elements.{All-push, recursion_from_All}
use Rattle.coll_model.specs.declared.op.Op.{Op}
use Rattle.transcript_text.specs.Words.{op_text}
use Rattle.transcript_text.specs.Words.{IsSaidOp}
use Rattle.transcript_text.specs.Forms.{fields_words, AreFields}
use Rattle.transcript_text.specs.Forms as forms
use Rattle.transcript_text.proofs.EachWord.{each_more, each_wrong, one_among}
use Rattle.transcript_text.proofs.list_words.ops_of.Goals as goal

no_op : (ops : List Op) (word : List ℕ) → ((op : Op) → IsSaidOp op → word ≡ op_text op → ⊥) → (others : List Op) (more : List (List ℕ)) → All IsSaidOp others → (map op_text ops ++ word ∷ []) ++ more ≡ map op_text others → ⊥
no_op ops word none others more all e =
    let one = one_among op_text IsSaidOp others (map op_text ops) word more (recursion_from_All IsSaidOp others all) e in none one.0 one.1 one.2

pub returns-in_default : goal.returns-in_default
returns-in_default c =
    each_wrong (fields_words forms.ops) (AreFields forms.ops) c.loop-index.ops c.loop-index.invariant.said c.args.words.now c.loop-index.index _ c.wrong.result c.loop-index-test.true c.loop-index.invariant.read c.wrong.ensures
    (no_op c.loop-index.ops _ (rw c.in_default.is at c.in_ok-op.ensures.none))

pub loop-index-preserved : goal.loop-index-preserved
loop-index-preserved c =
    let op = rw c.in-Some.is at c.in_ok-op.ensures.some in
    let all = All-push IsSaidOp c.loop-index.ops c.in-Some.op c.loop-index.invariant.said op.0 in
    record {
      read = each_more c.args.words.now c.loop-index.index _ (map op_text c.loop-index.ops) (op_text c.in-Some.op) c.loop-index-test.true c.loop-index.invariant.read op.1
          ∙ (sym (map-append op_text c.loop-index.ops (c.in-Some.op ∷ [])) ∙ ap (map op_text) (sym c.in_ok-push.ensures.ok));
      said = subst (All IsSaidOp) (sym c.in_ok-push.ensures.ok) all;
    }
