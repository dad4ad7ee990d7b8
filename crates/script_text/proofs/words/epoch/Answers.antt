use Rattle.std.proofs.Common.{◌≡◌, ℕ, List, Option, Some, None, IfSome, IfNone, eqb, sym, ap, ◌∙◌, lit<}
use Rattle.std.specs.List.{slice_split}
use Rattle.rc_base.specs.declared.ids.Epoch.{Epoch}
use Rattle.script_text.specs.Sentence.{epoch_text, IsEpoch}
use Rattle.script_text.specs.Reading.{texts, epoch_parts}
use Rattle.script_text.proofs.Parts.{joined_from_parts, parts_from_joined}
use Rattle.script_text.proofs.EventWords.{AllLack-epoch_parts}
use Rattle.script_text.proofs.words.epoch.Goals as goal

of_word : (word : List ℕ) (parts : List (List ℕ)) (read : Option Epoch) → parts ≡ slice_split (λ b. eqb b 46) word → IfSome read (λ e. IsEpoch e × (parts ≡ epoch_parts e)) → IfSome read (λ e. IsEpoch e × (word ≡ epoch_text e))
of_word word parts None cut h = tt
of_word word parts (Some e) cut h = (h.0, joined_from_parts 46 word (epoch_parts e) (sym cut ∙ h.1))

of_no_word : (word : List ℕ) (parts : List (List ℕ)) (read : Option Epoch) → parts ≡ slice_split (λ b. eqb b 46) word → IfNone read ((e : Epoch) → IsEpoch e → parts ≡ epoch_parts e → ⊥) → IfNone read ((e : Epoch) → IsEpoch e → word ≡ epoch_text e → ⊥)
of_no_word word parts None cut h = λ e is same. h e is (cut ∙ parts_from_joined 46 word (epoch_parts e) (lit< tt) (AllLack-epoch_parts 46 e (lit< tt) is) same)
of_no_word word parts (Some e) cut h = tt

pub returns-clause-some : goal.returns-clause-some
returns-clause-some c = of_word c.args.word.now (texts c.deref.result.now) c.epoch_of_parts.result (ap texts c.deref.ensures.value ∙ c.in_ok-parts_of.ensures) c.epoch_of_parts.ensures.some

pub returns-clause-none : goal.returns-clause-none
returns-clause-none c = of_no_word c.args.word.now (texts c.deref.result.now) c.epoch_of_parts.result (ap texts c.deref.ensures.value ∙ c.in_ok-parts_of.ensures) c.epoch_of_parts.ensures.none
