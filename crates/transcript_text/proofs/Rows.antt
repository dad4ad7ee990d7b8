-- The rows of the forms: each form has a word of its own, and each row is one observation's.
use Rattle.std.proofs.Common.{◌≡◌, ◌∙◌, ℕ, ◌-◌, ◌<◌, ◌≤◌, ◌^◌, List, [], ◌∷◌, length, get_or, take, drop, decimal, false, Result, Err, refl, sym, ap, subst, rules}
use Rattle.std.specs.Borrow.{Bor}
use Rattle.std.specs.Str.{bytes_eq}
use Rattle.std.proofs.lemmas.Bool.{false≢true}
use Rattle.std.proofs.lemmas.Slice.Eq.{bytes_eq-Decides}
use Rattle.script_text.specs.Reading.{texts}
use Rattle.script_text.proofs.Numbers.{Lacks}
use Rattle.script_text.proofs.Parts.{AllLack}
use Rattle.order_machine.specs.declared.observation.Observation.{Observation}
use Rattle.order_machine.specs.declared.observation.Observation.TheVariants as says
use Rattle.transcript_text.specs.declared.cause.Cause.{Cause}
use Rattle.transcript_text.specs.declared.cause.Cause.TheVariants as causes
use Rattle.transcript_text.specs.declared.form.Form.{Form}
use Rattle.transcript_text.specs.declared.form.Form.TheVariants as forms
use Rattle.transcript_text.specs.declared.word_error.WordError.{WordError}
use Rattle.transcript_text.specs.declared.word_error.WordError.TheVariants.{Wrong}
use Rattle.transcript_text.specs.Forms.{Tagged, tagged, tagged_words, AreTagged, cause_word, cause_layout, CauseFields, cause_words, AreCauseFields, LineLayout, plain, caused, LineFields, line_fields_words, AreLineFields, form_word, form_layout, FormFields, form_fields_words, AreFormFields, row_of}
use Rattle.transcript_text.specs.Lines.{words_of}
use Rattle.transcript_text.specs.Said.{IsSaid}
use Rattle.transcript_text.specs.ReadBack.{line_words, IsLine}
use Rattle.transcript_text.specs.WordReading.{Reads}
use Rattle.transcript_text.proofs.Fields.{AllLack-fields, same_fields}
use Rattle.transcript_text.proofs.Tagged.{same_tagged, no_tagged, no_tag, error_tagged, error_through}
use Rattle.transcript_text.proofs.Wrongs.{same_rest, texts_first, none_there, wrong_there, wrong_after}

-- ---- the words that tell forms and causes

apart : (word other : List ℕ) → bytes_eq word other ≡ false → word ≡ other → ⊥
apart word other test e = false≢true (sym test ∙ (bytes_eq-Decides word other).1 e)

same_cause : (cause other : Cause) → cause_word cause ≡ cause_word other → cause ≡ other
same_cause causes.Up causes.Up e = refl
same_cause causes.OldEpoch causes.OldEpoch e = refl
same_cause cause other e = absurd (apart (cause_word cause) (cause_word other) refl e)

same_form : (form other : Form) → form_word form ≡ form_word other → form ≡ other
same_form forms.Up forms.Up e = refl
same_form forms.Order forms.Order e = refl
same_form forms.View forms.View e = refl
same_form forms.Active forms.Active e = refl
same_form forms.Committed forms.Committed e = refl
same_form forms.Txn forms.Txn e = refl
same_form forms.Done forms.Done e = refl
same_form forms.Refused forms.Refused e = refl
same_form forms.Down forms.Down e = refl
same_form forms.NotActive forms.NotActive e = refl
same_form forms.Ended forms.Ended e = refl
same_form forms.Locked forms.Locked e = refl
same_form forms.True forms.True e = refl
same_form forms.False forms.False e = refl
same_form forms.Value forms.Value e = refl
same_form forms.Missing forms.Missing e = refl
same_form forms.Absent forms.Absent e = refl
same_form forms.WrongKind forms.WrongKind e = refl
same_form forms.Fault forms.Fault e = refl
same_form forms.Ignored forms.Ignored e = refl
same_form forms.Progress forms.Progress e = refl
same_form forms.State forms.State e = refl
same_form forms.Rows forms.Rows e = refl
same_form form other e = absurd (apart (form_word form) (form_word other) refl e)

Lacks-cause_word : (cause : Cause) → Lacks 32 (cause_word cause)
Lacks-cause_word causes.Up = search rules
Lacks-cause_word causes.OldEpoch = search rules

Lacks-form_word : (form : Form) → Lacks 32 (form_word form)
Lacks-form_word forms.Up = search rules
Lacks-form_word forms.Order = search rules
Lacks-form_word forms.View = search rules
Lacks-form_word forms.Active = search rules
Lacks-form_word forms.Committed = search rules
Lacks-form_word forms.Txn = search rules
Lacks-form_word forms.Done = search rules
Lacks-form_word forms.Refused = search rules
Lacks-form_word forms.Down = search rules
Lacks-form_word forms.NotActive = search rules
Lacks-form_word forms.Ended = search rules
Lacks-form_word forms.Locked = search rules
Lacks-form_word forms.True = search rules
Lacks-form_word forms.False = search rules
Lacks-form_word forms.Value = search rules
Lacks-form_word forms.Missing = search rules
Lacks-form_word forms.Absent = search rules
Lacks-form_word forms.WrongKind = search rules
Lacks-form_word forms.Fault = search rules
Lacks-form_word forms.Ignored = search rules
Lacks-form_word forms.Progress = search rules
Lacks-form_word forms.State = search rules
Lacks-form_word forms.Rows = search rules

-- ---- the observation of a row

abbrev ignored : Tagged CauseFields → Observation
ignored (tagged causes.Up fields) = says.IgnoredUp
ignored (tagged causes.OldEpoch fields) = says.IgnoredOldEpoch fields.0 fields.1

abbrev observation : (form : Form) → FormFields form → Observation
observation forms.Up fields = says.Up fields
observation forms.Order fields = says.Order fields.0 fields.1
observation forms.View fields = says.View fields.0 fields.1
observation forms.Active fields = says.Active fields
observation forms.Committed fields = says.Committed fields
observation forms.Txn fields = says.Txn fields
observation forms.Done fields = says.Done
observation forms.Refused fields = says.Refused fields
observation forms.Down fields = says.Down fields
observation forms.NotActive fields = says.NotActive fields
observation forms.Ended fields = says.Ended fields
observation forms.Locked fields = says.Locked fields
observation forms.True fields = says.True
observation forms.False fields = says.False
observation forms.Value fields = says.Value fields
observation forms.Missing fields = says.Missing
observation forms.Absent fields = says.Absent
observation forms.WrongKind fields = says.WrongKind
observation forms.Fault fields = says.Fault fields
observation forms.Ignored fields = ignored fields
observation forms.Progress fields = says.Progress fields.0 fields.1.0 fields.1.1
observation forms.State fields = says.State fields.0 fields.1
observation forms.Rows fields = says.Rows fields

abbrev built : Tagged FormFields → Observation
built (tagged form fields) = observation form fields

row_of-ignored : (x : Tagged CauseFields) → row_of (ignored x) ≡ tagged forms.Ignored x
row_of-ignored (tagged causes.Up fields) = refl
row_of-ignored (tagged causes.OldEpoch fields) = refl

row_of-observation : (form : Form) (fields : FormFields form) → row_of (observation form fields) ≡ tagged form fields
row_of-observation forms.Up fields = refl
row_of-observation forms.Order fields = refl
row_of-observation forms.View fields = refl
row_of-observation forms.Active fields = refl
row_of-observation forms.Committed fields = refl
row_of-observation forms.Txn fields = refl
row_of-observation forms.Done fields = refl
row_of-observation forms.Refused fields = refl
row_of-observation forms.Down fields = refl
row_of-observation forms.NotActive fields = refl
row_of-observation forms.Ended fields = refl
row_of-observation forms.Locked fields = refl
row_of-observation forms.True fields = refl
row_of-observation forms.False fields = refl
row_of-observation forms.Value fields = refl
row_of-observation forms.Missing fields = refl
row_of-observation forms.Absent fields = refl
row_of-observation forms.WrongKind fields = refl
row_of-observation forms.Fault fields = refl
row_of-observation forms.Ignored fields = row_of-ignored fields
row_of-observation forms.Progress fields = refl
row_of-observation forms.State fields = refl
row_of-observation forms.Rows fields = refl

row_of-built : (x : Tagged FormFields) → row_of (built x) ≡ x
row_of-built (tagged form fields) = row_of-observation form fields

built-row_of : (o : Observation) → built (row_of o) ≡ o
built-row_of (says.Up x) = refl
built-row_of (says.Order t list) = refl
built-row_of (says.View r n) = refl
built-row_of (says.Active x) = refl
built-row_of (says.Committed x) = refl
built-row_of (says.Txn x) = refl
built-row_of says.Done = refl
built-row_of (says.Refused x) = refl
built-row_of (says.Down x) = refl
built-row_of (says.NotActive x) = refl
built-row_of (says.Ended x) = refl
built-row_of (says.Locked x) = refl
built-row_of says.True = refl
built-row_of says.False = refl
built-row_of (says.Value x) = refl
built-row_of says.Missing = refl
built-row_of says.Absent = refl
built-row_of says.WrongKind = refl
built-row_of (says.Fault x) = refl
built-row_of says.IgnoredUp = refl
built-row_of (says.IgnoredOldEpoch fence e) = refl
built-row_of (says.Progress r e last) = refl
built-row_of (says.State r k) = refl
built-row_of (says.Rows x) = refl

-- ---- what the words of a line tell

AllLack-caused : (x : Tagged CauseFields) → AreTagged CauseFields AreCauseFields x → AllLack 32 (tagged_words CauseFields cause_word cause_words x)
AllLack-caused (tagged cause fields) are = (Lacks-cause_word cause, AllLack-fields (cause_layout cause) fields are)

AllLack-line_fields : (layout : LineLayout) (fields : LineFields layout) → AreLineFields layout fields → AllLack 32 (line_fields_words layout fields)
AllLack-line_fields (plain layout) fields are = AllLack-fields layout fields are
AllLack-line_fields caused fields are = AllLack-caused fields are

AllLack-row : (x : Tagged FormFields) → AreTagged FormFields AreFormFields x → AllLack 32 (tagged_words FormFields form_word form_fields_words x)
AllLack-row (tagged form fields) are = (Lacks-form_word form, AllLack-line_fields (form_layout form) fields are)

pub AllLack-words_of : (o : Observation) → IsSaid o → AllLack 32 (words_of o)
AllLack-words_of o said = AllLack-row (row_of o) said

same_line_fields : (layout : LineLayout) (a b : LineFields layout) → AreLineFields layout a → AreLineFields layout b → line_fields_words layout a ≡ line_fields_words layout b → a ≡ b
same_line_fields (plain layout) a b are_a are_b same = same_fields layout a b are_a are_b same
same_line_fields caused a b are_a are_b same = same_tagged CauseFields cause_word cause_words AreCauseFields same_cause (λ cause. same_fields (cause_layout cause)) a b are_a are_b same

-- words are one observation's
pub same_observation : (a b : Observation) → IsSaid a → IsSaid b → words_of a ≡ words_of b → a ≡ b
same_observation a b said_a said_b same =
    let rows = same_tagged FormFields form_word form_fields_words AreFormFields same_form (λ form. same_line_fields (form_layout form)) (row_of a) (row_of b) said_a said_b same in
    sym (built-row_of a) ∙ (ap built rows ∙ built-row_of b)

-- ---- what is wrong in the words of a line

-- after the word of a form
pub error_in_form : (form : Form) (words : List (List ℕ)) (e : WordError) → Reads (form_fields_words form) (AreFormFields form) words (Err e) → Reads words_of IsSaid (form_word form ∷ words) (Err e)
error_in_form form words e wrong =
    error_through row_of built row_of-built (tagged_words FormFields form_word form_fields_words) (AreTagged FormFields AreFormFields) (form_word form ∷ words) e
    (error_tagged FormFields form_word form_fields_words AreFormFields same_form form words e wrong)

-- what is wrong after a form's word is wrong after this form's
pub of_form_error : (shape form : Form) → form ≡ shape → (words : List (List ℕ)) (e : WordError) (result : Result Observation WordError) → result ≡ Err e
    → Reads words_of IsSaid (form_word shape ∷ words) (Err e) → Reads words_of IsSaid (form_word form ∷ words) result
of_form_error shape form tells words e result is wrong =
    subst (λ (r : Result Observation WordError). Reads words_of IsSaid (form_word form ∷ words) r) (sym is)
    (subst (λ f. Reads words_of IsSaid (form_word f ∷ words) (Err e)) (sym tells) wrong)

pub form_error : (shape form : Form) → form ≡ shape → (words : List (List ℕ)) (e : WordError) (result : Result Observation WordError) → result ≡ Err e
    → Reads (form_fields_words shape) (AreFormFields shape) words (Err e) → Reads words_of IsSaid (form_word form ∷ words) result
form_error shape form tells words e result is wrong = of_form_error shape form tells words e result is (error_in_form shape words e wrong)

-- after that of a cause
pub cause_error : (shape cause : Cause) → cause ≡ shape → (words : List (List ℕ)) (e : WordError) (result : Result Observation WordError) → result ≡ Err e
    → Reads (cause_words shape) (AreCauseFields shape) words (Err e) → Reads words_of IsSaid (form_word forms.Ignored ∷ cause_word cause ∷ words) result
cause_error shape cause tells words e result is wrong =
    subst (λ (r : Result Observation WordError). Reads words_of IsSaid (form_word forms.Ignored ∷ cause_word cause ∷ words) r) (sym is)
    (subst (λ c. Reads words_of IsSaid (form_word forms.Ignored ∷ cause_word c ∷ words) (Err e)) (sym tells)
    (error_in_form forms.Ignored (cause_word shape ∷ words) e (error_tagged CauseFields cause_word cause_words AreCauseFields same_cause shape words e wrong)))

pub no_cause : (words : List (Bor (List ℕ))) (e : WordError) → length words < 1 → e ≡ Wrong (length words) → Reads words_of IsSaid (form_word forms.Ignored ∷ texts words) (Err e)
no_cause words e few is =
    error_in_form forms.Ignored (texts words) e (none_there (tagged_words CauseFields cause_word cause_words) (AreTagged CauseFields AreCauseFields) (tagged causes.Up tt) tt (λ y f same. no_tagged CauseFields cause_word cause_words y same) words e few is)

pub wrong_cause : (words : List (Bor (List ℕ))) (other : Bor (List ℕ)) (e : WordError) → 1 ≤ length words → e ≡ Wrong (length words) → ((cause : Cause) → (get_or words 0 other).now ≡ cause_word cause → ⊥)
    → Reads words_of IsSaid (form_word forms.Ignored ∷ texts words) (Err e)
wrong_cause words other e some is none =
    error_in_form forms.Ignored (texts words) e
    (wrong_there (tagged_words CauseFields cause_word cause_words) (AreTagged CauseFields AreCauseFields) (tagged causes.Up tt) tt words other e some is
    (λ y more f same. no_tag CauseFields cause_word cause_words (get_or words 0 other).now none y more same))

-- what is read after a cause's word
pub with_cause : (words : List (Bor (List ℕ))) (other : Bor (List ℕ)) (cause : Cause) (result : Result Observation WordError) → 1 ≤ length words → (get_or words 0 other).now ≡ cause_word cause
    → Reads words_of IsSaid (form_word forms.Ignored ∷ cause_word cause ∷ texts (take (length words - 1) (drop 1 words))) result → Reads words_of IsSaid (form_word forms.Ignored ∷ texts words) result
with_cause words other cause result some is reads =
    let rest = texts (take (length words - 1) (drop 1 words)) in
    subst (λ ws. Reads words_of IsSaid (form_word forms.Ignored ∷ ws) result) (sym (texts_first words other some ∙ ap (λ w. w ∷ rest) is)) reads

pub no_words : (o : Observation) → IsSaid o → [] ≡ words_of o → ⊥
no_words o said e = no_tagged FormFields form_word form_fields_words (row_of o) e

pub no_form : (word : List ℕ) → ((form : Form) → word ≡ form_word form → ⊥) → (o : Observation) (more : List (List ℕ)) → IsSaid o → word ∷ more ≡ words_of o → ⊥
no_form word none o more said e = no_tag FormFields form_word form_fields_words word none (row_of o) more e

-- what is read after a form's word
pub with_form : (words : List (Bor (List ℕ))) (other : Bor (List ℕ)) (shape : Form) (result : Result Observation WordError) → 1 ≤ length words → (get_or words 0 other).now ≡ form_word shape
    → Reads words_of IsSaid (form_word shape ∷ texts (take (length words - 1) (drop 1 words))) result → Reads words_of IsSaid (texts words) result
with_form words other shape result some is reads =
    let rest = texts (take (length words - 1) (drop 1 words)) in
    subst (λ ws. Reads words_of IsSaid ws result) (sym (texts_first words other some ∙ ap (λ w. w ∷ rest) is)) reads

pub numbered_error : (n : ℕ) → n < 2 ^ 64 → (words : List (Bor (List ℕ))) (other : Bor (List ℕ)) (e : WordError) (result : Result (ℕ × Observation) WordError)
    → 1 ≤ length words → (get_or words 0 other).now ≡ decimal n → result ≡ Err e → Reads words_of IsSaid (texts (take (length words - 1) (drop 1 words))) (Err e) → Reads line_words IsLine (texts words) result
numbered_error n small words other e result some is same =
    let word = (get_or words 0 other).now in
    wrong_after line_words IsLine words_of IsSaid words other
    (λ more spells. ((n, spells.0), (small, spells.1), ap (λ w. w ∷ more) is ∙ ap (λ ws. decimal n ∷ ws) spells.2))
    (λ more spells. (spells.0.1, spells.1.1, same_rest word (decimal spells.0.0) more (words_of spells.0.1) spells.2)) e result some same
