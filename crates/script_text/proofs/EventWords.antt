-- What stands in the words of each event, and that the words tell the event.
use Rattle.std.proofs.Common.{◌≡◌, ℕ, ◌<◌, List, [], ◌∷◌, length, decimal, Bool, true, false, ◌&&◌, eqb, leb, refl, sym, ap, subst, ◌∙◌, arith, rules, lit<}
use Rattle.std.specs.Prelude.{IsTrue}
use Rattle.std.proofs.lemmas.Fmt.{decimal_injective}
use Rattle.std.specs.List.{slice_split, list_all}
use Rattle.std.proofs.lemmas.Bool.{ne_eqb, false≢true}
use Rattle.rc_base.specs.declared.ids.Epoch.{Epoch}
use Rattle.rc_base.specs.declared.ids.TxnId.{TxnId}
use Rattle.rc_base.specs.Names.{is_name_letter, is_name}
use Rattle.coll_model.specs.declared.op.Kind.{Kind}
use Rattle.coll_model.specs.declared.op.Kind.TheVariants as kinds
use Rattle.coll_model.specs.Rows.{kind_word}
use Rattle.events.specs.declared.event.Event.{Event}
use Rattle.events.specs.declared.event.Event.TheVariants.{Boot, Client, Arm, Crash, Reboot, Inspect, Survey, Appoint, Activate}
use Rattle.events.specs.declared.call.Call.{Call}
use Rattle.events.specs.declared.call.Call.TheVariants as calls
use Rattle.events.specs.declared.call.KeyCall.{KeyCall}
use Rattle.events.specs.declared.call.KeyCall.TheVariants.{Get, GetForUpdate, Set, Add, Delete}
use Rattle.script_text.specs.Letters.{is_key_letter, is_key_word, is_value_word}
use Rattle.script_text.specs.Sentence.{words_at, words_of, epoch_text, txn_text, members_text, IsEpoch, IsTxn, IsBuiltEpoch, key_verb, value_words, IsBuiltTxn, GivesValueWord, IsBuiltCall, IsBuilt, Spells}
use Rattle.script_text.specs.Reading.{epoch_parts, txn_parts, IsSentence}
use Rattle.script_text.proofs.Numbers.{Lacks, Lacks-decimal}
use Rattle.script_text.proofs.Parts.{AllLack, Lacks-joined, joined_from_parts, parts_from_joined}

-- the parts of an epoch and of a transaction hold no byte below the digits
pub AllLack-epoch_parts : (c : ℕ) (e : Epoch) → c < 48 → IsEpoch e → AllLack c (epoch_parts e)
AllLack-epoch_parts c e low is = (Lacks-decimal c e.loss low (omega arith), (Lacks-decimal c e.number low (omega arith), tt))

pub AllLack-txn_parts : (c : ℕ) (t : TxnId) → c < 48 → IsTxn t → AllLack c (txn_parts t)
AllLack-txn_parts c t low is = (
  Lacks-decimal c t.epoch.loss low (omega arith),
  (Lacks-decimal c t.epoch.number low (omega arith), (Lacks-decimal c t.n low (omega arith), tt)),
)

-- a text is one epoch's
pub same_epoch : (word : List ℕ) (d e : Epoch) → IsEpoch d → IsEpoch e → word ≡ epoch_text d → word ≡ epoch_text e → d ≡ e
same_epoch word d e is_d is_e of_d of_e =
    let one = parts_from_joined 46 word (epoch_parts d) (lit< tt) (AllLack-epoch_parts 46 d (lit< tt) is_d) of_d in
    let other = parts_from_joined 46 word (epoch_parts e) (lit< tt) (AllLack-epoch_parts 46 e (lit< tt) is_e) of_e in
    by_parts (sym one ∙ other) where
      from_parts : d.loss ≡ e.loss → d.number ≡ e.number → d ≡ e
      from_parts losses numbers =
          ap (λ (l : ℕ). let e' : Epoch = record { loss = l; number = d.number } in e') losses
          ∙ ap (λ (k : ℕ). let e' : Epoch = record { loss = e.loss; number = k } in e') numbers

      by_parts : epoch_parts d ≡ epoch_parts e → d ≡ e
      by_parts same =
          let losses : decimal d.loss ≡ decimal e.loss = cc in
          let numbers : decimal d.number ≡ decimal e.number = cc in
          from_parts (decimal_injective d.loss e.loss (omega arith) (omega arith) losses) (decimal_injective d.number e.number (omega arith) (omega arith) numbers)

same_built_epoch : (d e : Epoch) → IsBuiltEpoch d → IsBuiltEpoch e → epoch_text d ≡ epoch_text e → d ≡ e
same_built_epoch d e is_d is_e same = same_epoch (epoch_text d) d e is_d.0 is_e.0 refl same

txn_from_parts : (t u : TxnId) → t.epoch.loss ≡ u.epoch.loss → t.epoch.number ≡ u.epoch.number → t.n ≡ u.n → t ≡ u
txn_from_parts t u losses numbers ns =
    ap (λ (l : ℕ). let t' : TxnId = record { epoch = record { loss = l; number = t.epoch.number }; n = t.n } in t') losses
    ∙ ap (λ (k : ℕ). let t' : TxnId = record { epoch = record { loss = u.epoch.loss; number = k }; n = t.n } in t') numbers
    ∙ ap (λ (m : ℕ). let t' : TxnId = record { epoch = u.epoch; n = m } in t') ns

-- a text is one transaction's
pub same_txn : (word : List ℕ) (t u : TxnId) → IsTxn t → IsTxn u → word ≡ txn_text t → word ≡ txn_text u → t ≡ u
same_txn word t u is_t is_u of_t of_u =
    let one = parts_from_joined 46 word (txn_parts t) (lit< tt) (AllLack-txn_parts 46 t (lit< tt) is_t) of_t in
    let other = parts_from_joined 46 word (txn_parts u) (lit< tt) (AllLack-txn_parts 46 u (lit< tt) is_u) of_u in
    by_parts (sym one ∙ other) where
      by_parts : txn_parts t ≡ txn_parts u → t ≡ u
      by_parts same =
          let losses : decimal t.epoch.loss ≡ decimal u.epoch.loss = cc in
          let numbers : decimal t.epoch.number ≡ decimal u.epoch.number = cc in
          let ns : decimal t.n ≡ decimal u.n = cc in
          txn_from_parts t u (decimal_injective t.epoch.loss u.epoch.loss (omega arith) (omega arith) losses) (decimal_injective t.epoch.number u.epoch.number (omega arith) (omega arith) numbers) (decimal_injective t.n u.n (omega arith) (omega arith) ns)

same_built : (t u : TxnId) → IsBuiltTxn t → IsBuiltTxn u → txn_text t ≡ txn_text u → t ≡ u
same_built t u is_t is_u same = same_txn (txn_text t) t u is_t.0 is_u.0 refl same

-- ---- words hold no space

Lacks-zero : (r : ℕ) → r ≡ 0 → Lacks 32 (decimal r)
Lacks-zero r zero = Lacks-decimal 32 r (lit< tt) (omega arith)

both : (a b : Bool) → (a && b) ≡ true → (a ≡ true) × (b ≡ true)
both true b h = (refl, h)
both false b h = absurd cc

Lacks-text : (c : ℕ) (test : ℕ → Bool) (text : List ℕ) → test c ≡ false → IsTrue (list_all test text) → Lacks c text
Lacks-text c test [] other all = tt
Lacks-text c test (b ∷ bytes) other all =
    let each = both (test b) (list_all test bytes) all in
    (ne_eqb b c (λ e. false≢true (sym other ∙ (ap test (sym e) ∙ each.0))), Lacks-text c test bytes other each.1)

-- names, keys and values hold nothing but their letters
pub Lacks-name : (c : ℕ) (name : List ℕ) → is_name_letter c ≡ false → IsTrue (is_name name) → Lacks c name
Lacks-name c name other is = Lacks-text c is_name_letter name other (both (leb 1 (length name) && leb (length name) 64) (list_all is_name_letter name) is).1

pub Lacks-key : (c : ℕ) (key : List ℕ) → is_key_letter c ≡ false → IsTrue (is_key_word key) → Lacks c key
Lacks-key c key other is = Lacks-text c is_key_letter key other (both (leb 1 (length key) && leb (length key) 128) (list_all is_key_letter key) is).1

pub Lacks-value : (c : ℕ) (value : List ℕ) → is_key_letter c ≡ false → IsTrue (is_value_word value) → Lacks c value
Lacks-value c value other is = Lacks-text c is_key_letter value other (both (leb 1 (length value) && leb (length value) 1024) (list_all is_key_letter value) is).1

Lacks-epoch : (e : Epoch) → IsBuiltEpoch e → Lacks 32 (epoch_text e)
Lacks-epoch e is = Lacks-joined 32 46 (epoch_parts e) refl (AllLack-epoch_parts 32 e (lit< tt) is.0)

Lacks-txn : (t : TxnId) → IsBuiltTxn t → Lacks 32 (txn_text t)
Lacks-txn t is = Lacks-joined 32 46 (txn_parts t) refl (AllLack-txn_parts 32 t (lit< tt) is.0)

Lacks-kind : (kind : Kind) → Lacks 32 (kind_word kind)
Lacks-kind kinds.Dict = search rules
Lacks-kind kinds.Queue = search rules

Lacks-verb : (call : KeyCall) → Lacks 32 (key_verb call)
Lacks-verb Get = search rules
Lacks-verb GetForUpdate = search rules
Lacks-verb (Set value) = search rules
Lacks-verb (Add value) = search rules
Lacks-verb Delete = search rules

AllLack-values : (call : KeyCall) → GivesValueWord call → AllLack 32 (value_words call)
AllLack-values Get is = tt
AllLack-values GetForUpdate is = tt
AllLack-values (Set value) is = (Lacks-value 32 value refl is, tt)
AllLack-values (Add value) is = (Lacks-value 32 value refl is, tt)
AllLack-values Delete is = tt

-- one line for each form
AllLack-call : (r : ℕ) (call : Call) → r ≡ 0 → IsBuiltCall call → AllLack 32 (words_at r call)
AllLack-call r calls.Begin zero is = (search rules, (Lacks-zero r zero, tt))
AllLack-call r (calls.Make t name kind) zero is = (search rules, (Lacks-zero r zero, (Lacks-txn t is.0, (Lacks-name 32 name refl is.1, (Lacks-kind kind, tt)))))
AllLack-call r (calls.OnKey t name key call) zero is =
    (Lacks-verb call, (Lacks-zero r zero, (Lacks-txn t is.0, (Lacks-name 32 name refl is.1, (Lacks-key 32 key refl is.2, AllLack-values call is.3)))))
AllLack-call r (calls.Commit t) zero is = (search rules, (Lacks-zero r zero, (Lacks-txn t is, tt)))
AllLack-call r (calls.Abort t) zero is = (search rules, (Lacks-zero r zero, (Lacks-txn t is, tt)))

one_member : (members : List ℕ) → members ≡ 0 ∷ [] → Lacks 32 (members_text members)
one_member members e = rw e (Lacks-decimal 32 0 (lit< tt) (lit< tt))

AllLack-words : (event : Event) → IsBuilt event → AllLack 32 (words_of event)
AllLack-words (Boot p members) is = (search rules, (Lacks-zero p is.0, (one_member members is.1, tt)))
AllLack-words (Client r call) is = AllLack-call r call is.0 is.1
AllLack-words (Arm r calls) is = (search rules, (Lacks-zero r is.0, (Lacks-decimal 32 calls (lit< tt) is.2, tt)))
AllLack-words (Crash r pick) is = (search rules, (Lacks-zero r is.0, (Lacks-decimal 32 pick (lit< tt) is.1, tt)))
AllLack-words (Reboot r) is = (search rules, (Lacks-zero r is, tt))
AllLack-words (Inspect r) is = (search rules, (Lacks-zero r is, tt))
AllLack-words (Survey r e) is = (search rules, (Lacks-zero r is.0, (Lacks-epoch e is.1, tt)))
AllLack-words (Appoint e p members) is = (search rules, (Lacks-epoch e is.0, (Lacks-zero p is.1, (one_member members is.2, tt))))
AllLack-words (Activate e) is = (search rules, (Lacks-epoch e is, tt))

some_words_at : (r : ℕ) (call : Call) → 0 < length (words_at r call)
some_words_at r call = grind arith

some_words : (event : Event) → 0 < length (words_of event)
some_words (Boot p members) = lit< tt
some_words (Client r call) = some_words_at r call
some_words (Arm r calls) = lit< tt
some_words (Crash r pick) = lit< tt
some_words (Reboot r) = lit< tt
some_words (Inspect r) = lit< tt
some_words (Survey r e) = lit< tt
some_words (Appoint e p members) = lit< tt
some_words (Activate e) = lit< tt

-- ---- lines and their words

-- the words of a line are those of its event
pub words_from_line : (line : List ℕ) (event : Event) → Spells line event → IsSentence (slice_split (λ b. eqb b 32) line) event
words_from_line line event spells = record {
  spelled = parts_from_joined 32 line (words_of event) (some_words event) (AllLack-words event spells.built) spells.text;
  built = spells.built;
}

pub line_from_words : (line : List ℕ) (words : List (List ℕ)) (event : Event) → words ≡ slice_split (λ b. eqb b 32) line → IsSentence words event → Spells line event
line_from_words line words event cut is = record {
  text = joined_from_parts 32 line (words_of event) (sym cut ∙ is.spelled);
  built = is.built;
}

pub no_line_from_words : (line : List ℕ) (words : List (List ℕ)) → words ≡ slice_split (λ b. eqb b 32) line → ((event : Event) → IsSentence words event → ⊥) → (event : Event) → Spells line event → ⊥
no_line_from_words line words cut none event spells = none event (subst (λ ws. IsSentence ws event) (sym cut) (words_from_line line event spells))

-- no call begins as an event of another form does
no_boot : (p : ℕ) (members : List ℕ) (r : ℕ) (call : Call) → words_of (Boot p members) ≡ words_at r call → ⊥
no_boot p members r call e = grind arith

no_arm : (q n r : ℕ) (call : Call) → words_of (Arm q n) ≡ words_at r call → ⊥
no_arm q n r call e = grind arith

no_crash : (q n r : ℕ) (call : Call) → words_of (Crash q n) ≡ words_at r call → ⊥
no_crash q n r call e = grind arith

no_reboot : (q r : ℕ) (call : Call) → words_of (Reboot q) ≡ words_at r call → ⊥
no_reboot q r call e = grind arith

no_inspect : (q r : ℕ) (call : Call) → words_of (Inspect q) ≡ words_at r call → ⊥
no_inspect q r call e = grind arith

no_survey : (q : ℕ) (e : Epoch) (r : ℕ) (call : Call) → words_of (Survey q e) ≡ words_at r call → ⊥
no_survey q e r call same = grind arith

no_appoint : (e : Epoch) (p : ℕ) (members : List ℕ) (r : ℕ) (call : Call) → words_of (Appoint e p members) ≡ words_at r call → ⊥
no_appoint e p members r call same = grind arith

no_activate : (e : Epoch) (r : ℕ) (call : Call) → words_of (Activate e) ≡ words_at r call → ⊥
no_activate e r call same = grind arith

-- words are one call's on a key
same_key_call : (a b : KeyCall) → key_verb a ≡ key_verb b → value_words a ≡ value_words b → a ≡ b
same_key_call Get Get verbs values = refl
same_key_call GetForUpdate GetForUpdate verbs values = refl
same_key_call (Set value) (Set other) verbs values = cc
same_key_call (Add value) (Add other) verbs values = cc
same_key_call Delete Delete verbs values = refl
same_key_call _ _ verbs values = grind arith

-- and one event's
same_call : (r : ℕ) (a b : Call) → IsBuiltCall a → IsBuiltCall b → words_at r a ≡ words_at r b → a ≡ b
same_call r calls.Begin calls.Begin is_a is_b e = refl
same_call r (calls.Make t name kind) (calls.Make u other sort) is_a is_b e =
    let same = same_built t u is_a.0 is_b.0 cc in cc
same_call r (calls.OnKey t name key call) (calls.OnKey u other at asked) is_a is_b e =
    let same = same_built t u is_a.0 is_b.0 cc in
    let verbs : key_verb call ≡ key_verb asked = cc in
    let values : value_words call ≡ value_words asked = cc in
    let asked_same : call ≡ asked = same_key_call call asked verbs values in cc
same_call r (calls.Commit t) (calls.Commit u) is_a is_b e = ap calls.Commit (same_built t u is_a is_b cc)
same_call r (calls.Abort t) (calls.Abort u) is_a is_b e = ap calls.Abort (same_built t u is_a is_b cc)
same_call r _ _ is_a is_b e = grind arith

same_event : (a b : Event) → IsBuilt a → IsBuilt b → words_of a ≡ words_of b → a ≡ b
same_event (Boot p members) (Boot q others) is_a is_b e = cc
same_event (Client r call) (Client s other) is_a is_b e =
    let replicas : r ≡ s = is_a.0 ∙ sym is_b.0 in
    let calls_same : call ≡ other = same_call r call other is_a.1 is_b.1 (e ∙ ap (λ q. words_at q other) (sym replicas)) in cc
same_event (Arm r n) (Arm s k) is_a is_b e =
    let replicas : r ≡ s = is_a.0 ∙ sym is_b.0 in
    let texts_same : decimal n ≡ decimal k = cc in
    let same : n ≡ k = decimal_injective n k is_a.2 is_b.2 texts_same in cc
same_event (Crash r n) (Crash s k) is_a is_b e =
    let replicas : r ≡ s = is_a.0 ∙ sym is_b.0 in
    let texts_same : decimal n ≡ decimal k = cc in
    let same : n ≡ k = decimal_injective n k is_a.1 is_b.1 texts_same in cc
same_event (Reboot r) (Reboot s) is_a is_b e = ap Reboot (is_a ∙ sym is_b)
same_event (Inspect r) (Inspect s) is_a is_b e = ap Inspect (is_a ∙ sym is_b)
same_event (Survey r d) (Survey s e) is_a is_b words =
    let replicas : r ≡ s = is_a.0 ∙ sym is_b.0 in
    let same = same_built_epoch d e is_a.1 is_b.1 cc in cc
same_event (Appoint d p members) (Appoint e q others) is_a is_b words =
    let same = same_built_epoch d e is_a.0 is_b.0 cc in
    let primaries : p ≡ q = is_a.1 ∙ sym is_b.1 in
    let lists : members ≡ others = is_a.2 ∙ sym is_b.2 in cc
same_event (Activate d) (Activate e) is_a is_b words = ap Activate (same_built_epoch d e is_a is_b cc)
same_event (Boot p members) (Client s call) is_a is_b e = absurd (no_boot p members s call e)
same_event (Arm q n) (Client s call) is_a is_b e = absurd (no_arm q n s call e)
same_event (Crash q n) (Client s call) is_a is_b e = absurd (no_crash q n s call e)
same_event (Reboot q) (Client s call) is_a is_b e = absurd (no_reboot q s call e)
same_event (Inspect q) (Client s call) is_a is_b e = absurd (no_inspect q s call e)
same_event (Survey q d) (Client s call) is_a is_b e = absurd (no_survey q d s call e)
same_event (Appoint d q members) (Client s call) is_a is_b e = absurd (no_appoint d q members s call e)
same_event (Activate d) (Client s call) is_a is_b e = absurd (no_activate d s call e)
same_event (Client r call) (Boot q others) is_a is_b e = absurd (no_boot q others r call (sym e))
same_event (Client r call) (Arm q n) is_a is_b e = absurd (no_arm q n r call (sym e))
same_event (Client r call) (Crash q n) is_a is_b e = absurd (no_crash q n r call (sym e))
same_event (Client r call) (Reboot q) is_a is_b e = absurd (no_reboot q r call (sym e))
same_event (Client r call) (Inspect q) is_a is_b e = absurd (no_inspect q r call (sym e))
same_event (Client r call) (Survey q d) is_a is_b e = absurd (no_survey q d r call (sym e))
same_event (Client r call) (Appoint d q members) is_a is_b e = absurd (no_appoint d q members r call (sym e))
same_event (Client r call) (Activate d) is_a is_b e = absurd (no_activate d r call (sym e))
same_event _ _ is_a is_b e = cc

pub same_from_line : (line : List ℕ) (a b : Event) → Spells line a → Spells line b → a ≡ b
same_from_line line a b spells_a spells_b =
    same_event a b spells_a.built spells_b.built (sym (words_from_line line a spells_a).spelled ∙ (words_from_line line b spells_b).spelled)
