use Rattle.std.proofs.Common.{◌≡◌, ◌∙◌, ◌++◌, ◌∷◌, flat_map, codes, sym, ap, List, ℕ}
use Rattle.std.proofs.lemmas.Result.{IfOk-equal}
use Rattle.std.proofs.lemmas.List.{append_assoc}
use Rattle.std.proofs.lemmas.List.Folds.{flat_map-map}
use Rattle.coll_model.specs.declared.op.Op.{Op}
use Rattle.rc_base.specs.declared.ids.TxnId.{TxnId}
use Rattle.script_text.specs.Sentence.{txn_text}
use Rattle.transcript_text.specs.Words.{op_text}
use Rattle.transcript_text.specs.Lines.{words_of}
use Rattle.order_machine.specs.declared.observation.Observation.TheVariants.{Order}
use Rattle.transcript_text.proofs.printing.write_words.Goals as goal

order_words : (old : List ℕ) (t : TxnId) (ops : List Op) → (old ++ 32 ∷ (codes "order" ++ 32 ∷ txn_text t)) ++ flat_map (λ op. 32 ∷ op_text op) ops ≡ old ++ flat_map (λ w. 32 ∷ w) (words_of (Order t ops))
order_words old t ops =
    append_assoc old (32 ∷ (codes "order" ++ 32 ∷ txn_text t)) (flat_map (λ op. 32 ∷ op_text op) ops) ∙ ap (λ x. old ++ 32 ∷ (codes "order" ++ 32 ∷ (txn_text t ++ x))) (sym (flat_map-map (λ w. 32 ∷ w) op_text ops))

pub returns-in_ok-write_with_txn-in-Order-clause-ok : goal.returns-in_ok-write_with_txn-in-Order-clause-ok
returns-in_ok-write_with_txn-in-Order-clause-ok c =
    IfOk-equal c.write_ops.result _ _ _ c.write_ops.ensures.ok (ap (λ x. x ++ flat_map (λ op. 32 ∷ op_text op) c.as_slice.result.now) c.in_ok-write_with_txn-in-Order.ensures.ok ∙ (ap (λ x. (c.args.out.now.items ++ 32 ∷ (codes "order" ++ 32 ∷ txn_text c.in-Order.t)) ++ flat_map (λ op. 32 ∷ op_text op) x) c.as_slice.ensures ∙ (order_words c.args.out.now.items c.in-Order.t c.in-Order.ops ∙ ap (λ x. c.args.out.now.items ++ flat_map (λ w. 32 ∷ w) (words_of x)) (sym c.in-Order.is))))
