use Rattle.std.proofs.Common.{◌≡◌, ℕ, List, Option, Some, None, IfSome, IfNone, eqb, sym, ap, ◌∙◌, lit<}
use Rattle.std.specs.List.{slice_split}
use Rattle.rc_base.specs.declared.ids.TxnId.{TxnId}
use Rattle.script_text.specs.Sentence.{txn_text, IsTxn}
use Rattle.script_text.specs.Reading.{texts, txn_parts}
use Rattle.script_text.proofs.Parts.{joined_from_parts, parts_from_joined}
use Rattle.script_text.proofs.EventWords.{AllLack-txn_parts}
use Rattle.script_text.proofs.words.txn.Goals as goal

of_word : (word : List ℕ) (parts : List (List ℕ)) (read : Option TxnId) → parts ≡ slice_split (λ b. eqb b 46) word → IfSome read (λ t. IsTxn t × (parts ≡ txn_parts t)) → IfSome read (λ t. IsTxn t × (word ≡ txn_text t))
of_word word parts None cut h = tt
of_word word parts (Some t) cut h = (h.0, joined_from_parts 46 word (txn_parts t) (sym cut ∙ h.1))

of_no_word : (word : List ℕ) (parts : List (List ℕ)) (read : Option TxnId) → parts ≡ slice_split (λ b. eqb b 46) word → IfNone read ((t : TxnId) → IsTxn t → parts ≡ txn_parts t → ⊥) → IfNone read ((t : TxnId) → IsTxn t → word ≡ txn_text t → ⊥)
of_no_word word parts None cut h = λ t is e. h t is (cut ∙ parts_from_joined 46 word (txn_parts t) (lit< tt) (AllLack-txn_parts 46 t (lit< tt) is) e)
of_no_word word parts (Some t) cut h = tt

pub returns-clause-some : goal.returns-clause-some
returns-clause-some c = of_word c.args.word.now (texts c.deref.result.now) c.txn_of_parts.result (ap texts c.deref.ensures.value ∙ c.in_ok-parts_of.ensures) c.txn_of_parts.ensures.some

pub returns-clause-none : goal.returns-clause-none
returns-clause-none c = of_no_word c.args.word.now (texts c.deref.result.now) c.txn_of_parts.result (ap texts c.deref.ensures.value ∙ c.in_ok-parts_of.ensures) c.txn_of_parts.ensures.none
