-- The fields: numbers, words and tags; epochs and transactions.
use Rattle.std.proofs.Common.{◌≡◌, ℕ, ◌+◌, ◌-◌, ◌^◌, ◌<◌, ◌≤◌, lit<, Bool, true, false, cond, eqb, leb, ◌&&◌, List, [], ◌∷◌, ◌++◌, length, Option, Some, None, Result, Ok, Err, refl, sym, ap, subst, ◌∙◌, arith, length-append, inl, inr, ◌⊎◌}
use Rattle.std.specs.Prelude.{IsTrue}
use Rattle.std.specs.Int.{Width, w8, w32, w64, w128, to_be_bytes}
use Rattle.std.specs.List.{list_all}
use Rattle.std.proofs.lemmas.Bool.{and_parts, leb-true, cases_lt}
use Rattle.std.proofs.lemmas.List.{append-nil}
use Rattle.rc_base.specs.declared.ids.Epoch.{Epoch}
use Rattle.rc_base.specs.declared.ids.TxnId.{TxnId}
use Rattle.rc_base.specs.Fields.{Reader, with_length, number_at, bytes_at}
use Rattle.rc_base.proofs.FieldLaws.{IsBytes, IsWide, wide8, wide32, wide64, wide128, number_takes, number_again, bytes_takes, bytes_again}
use Rattle.coll_model.specs.declared.op.Kind.{Kind}
use Rattle.coll_model.specs.declared.op.Kind.TheVariants as kinds
use Rattle.rc_base.specs.Names.{is_name, is_name_letter}
use Rattle.log_records.specs.Spelling.{is_key, is_value, byte, long, name, string, kind, flag, epoch, txn, joined, EpochInRange, TxnInRange}
use Rattle.log_records.specs.Reading.{◌>>=◌, field, in_front, read_number, read_word, read_name, read_key, read_value, read_kind, read_flag, read_slot, read_format, read_epoch, read_txn}
use Rattle.log_records.proofs.Steps.{Step, Takes, Again, bind_ok, done, gave, ok_is, two_takes, two_again, pick, leaf, nothing}

-- a field that was read
field_ok : {X : Type 0} (r : Reader) (o : Option (X × List ℕ)) (x : X) (after : Reader) → field r o ≡ Ok (x, after) → (o ≡ Some (x, after.rest)) × (after.place ≡ r.place + (length r.rest - length after.rest))
field_ok r None x after e = absurd cc
field_ok {X} r (Some f) x after e =
    let same : ◌≡◌ {A = X × Reader} (f.0, in_front r f.1) (x, after) = ok_is (f.0, in_front r f.1) (x, after) e in
    (ap (λ (p : X × Reader). Some (p.0, p.1.rest)) same, subst (λ (p : X × Reader). p.1.place ≡ r.place + (length r.rest - length p.1.rest)) same refl)

step_field : (r after : Reader) (f : List ℕ) → r.rest ≡ f ++ after.rest → after.place ≡ r.place + (length r.rest - length after.rest) → IsBytes after.rest → Step r (f ∷ []) after
step_field r after f e place small = record {
  parts = e ∙ ap (λ (t : List ℕ). t ++ after.rest) (sym (append-nil f));
  sums = omega (arith, ap length e, length-append f after.rest);
  small = small;
}

-- ---- numbers

module _ (w : Width) (limit : ℕ) (wide : IsWide w limit) where
  pub read_number_takes : Takes (read_number w) (λ n. to_be_bytes w n ∷ []) (λ n. n < limit)
  unfolding read_number
  read_number_takes r n after small e =
      let f = field_ok r (number_at w r.rest) n after e in
      let t = number_takes w limit wide r.rest n after.rest small f.0 in
      (t.1, step_field r after (to_be_bytes w n) t.0.parts f.1 t.0.rest_fits)

  pub read_number_again : Again (read_number w) (λ n. to_be_bytes w n ∷ []) (λ n. n < limit)
  unfolding read_number
  read_number_again r n rest lt e =
      let e2 : r.rest ≡ to_be_bytes w n ++ rest = e ∙ ap (λ (t : List ℕ). t ++ rest) (append-nil (to_be_bytes w n)) in
      (in_front r rest, ap (field r) (ap (number_at w) e2 ∙ number_again w limit wide n rest lt), refl)

abbrev pub Short : ℕ → Type 0
Short n = n < 2 ^ 32

abbrev pub Long : ℕ → Type 0
Long n = n < 2 ^ 64

abbrev pub Wide : ℕ → Type 0
Wide n = n < 2 ^ 128

abbrev pub shorts : ℕ → List (List ℕ)
shorts n = to_be_bytes w32 n ∷ []

abbrev pub longs : ℕ → List (List ℕ)
longs n = long n ∷ []

abbrev pub wides : ℕ → List (List ℕ)
wides n = to_be_bytes w128 n ∷ []

pub short_takes : Takes (read_number w32) shorts Short
short_takes = read_number_takes w32 (2 ^ 32) wide32

pub short_again : Again (read_number w32) shorts Short
short_again = read_number_again w32 (2 ^ 32) wide32

pub long_takes : Takes (read_number w64) longs Long
long_takes = read_number_takes w64 (2 ^ 64) wide64

pub long_again : Again (read_number w64) longs Long
long_again = read_number_again w64 (2 ^ 64) wide64

pub wide_takes : Takes (read_number w128) wides Wide
wide_takes = read_number_takes w128 (2 ^ 128) wide128

pub wide_again : Again (read_number w128) wides Wide
wide_again = read_number_again w128 (2 ^ 128) wide128

-- the byte in front, read from a reader
pub tag_takes : (r : Reader) (n : ℕ) (after : Reader) → IsBytes r.rest → read_number w8 r ≡ Ok (n, after) → Step r (byte n ∷ []) after
tag_takes r n after small e = (read_number_takes w8 (2 ^ 8) wide8 r n after small e).1

pub tag_again : (r : Reader) (tag : ℕ) (body : List (List ℕ)) (rest : List ℕ) → tag < 256 → r.rest ≡ joined (byte tag ∷ body) ++ rest → (after : Reader) × (read_number w8 r ≡ Ok (tag, after)) × (after.rest ≡ joined body ++ rest)
tag_again r tag body rest lt e = read_number_again w8 (2 ^ 8) wide8 r tag (joined body ++ rest) lt e

-- ---- words

guard_passed : {A : Type 0} (b : Bool) (x y : A) (at : ℕ) → cond b (done x) (Err at) ≡ Ok y → (b ≡ true) × (x ≡ y)
guard_passed true x y at e = (refl, ok_is x y e)
guard_passed false x y at e = absurd cc

module _ (w : Width) (limit : ℕ) (wide : IsWide w limit) (max : ℕ) (test : List ℕ → Bool) where
  word_takes : Takes (read_word w max test) (λ t. with_length w t ∷ []) (λ t. IsTrue (test t))
  unfolding read_word
  word_takes r t after small e =
      let b = bind_ok (field r (bytes_at w max r.rest)) (λ (word : List ℕ × Reader). cond (test word.0) (done word) (Err r.place)) (t, after) e in
      let g = guard_passed (test b.0.0) b.0 (t, after) r.place b.2 in
      let f = field_ok r (bytes_at w max r.rest) b.0.0 b.0.1 b.1 in
      let s = bytes_takes w limit wide max r.rest b.0.0 b.0.1.rest small f.0 in
      subst (λ (p : List ℕ × Reader). IsTrue (test p.0) × Step r (with_length w p.0 ∷ []) p.1) g.1 (g.0, step_field r b.0.1 (with_length w b.0.0) s.0.parts f.1 s.0.rest_fits)

  word_again : max < limit → ((t : List ℕ) → IsTrue (test t) → length t ≤ max) → Again (read_word w max test) (λ t. with_length w t ∷ []) (λ t. IsTrue (test t))
  unfolding read_word
  word_again room bound r t rest fits e =
      let e2 : r.rest ≡ with_length w t ++ rest = e ∙ ap (λ (s : List ℕ). s ++ rest) (append-nil (with_length w t)) in
      let le : length t ≤ max = bound t fits in
      let taken : field r (bytes_at w max r.rest) ≡ done (t, in_front r rest) = ap (field r) (ap (bytes_at w max) e2 ∙ bytes_again w limit wide max t rest le (omega arith)) in
      (in_front r rest, ap (λ (z : Result (List ℕ × Reader) ℕ). z >>= λ word. cond (test word.0) (done word) (Err r.place)) taken ∙ ap (λ (b : Bool). cond b (done (t, in_front r rest)) (Err r.place)) fits, refl)

pub name_bound : (t : List ℕ) → IsTrue (is_name t) → length t ≤ 64
name_bound t h = leb-true (length t) 64 (and_parts (leb 1 (length t)) (leb (length t) 64) (and_parts (leb 1 (length t) && leb (length t) 64) (list_all is_name_letter t) h).0).1

pub key_bound : (t : List ℕ) → IsTrue (is_key t) → length t ≤ 128
key_bound t h = leb-true (length t) 128 (and_parts (leb 1 (length t)) (leb (length t) 128) h).1

pub value_bound : (t : List ℕ) → IsTrue (is_value t) → length t ≤ 1024
value_bound t h = leb-true (length t) 1024 h

abbrev pub IsName : List ℕ → Type 0
IsName t = IsTrue (is_name t)

abbrev pub IsKey : List ℕ → Type 0
IsKey t = IsTrue (is_key t)

abbrev pub IsValue : List ℕ → Type 0
IsValue t = IsTrue (is_value t)

abbrev pub names : List ℕ → List (List ℕ)
names t = name t ∷ []

abbrev pub strings : List ℕ → List (List ℕ)
strings t = string t ∷ []

pub name_takes : Takes read_name names IsName
name_takes = word_takes w8 (2 ^ 8) wide8 64 is_name

pub name_again : Again read_name names IsName
name_again = word_again w8 (2 ^ 8) wide8 64 is_name (lit< tt) name_bound

pub key_takes : Takes read_key strings IsKey
key_takes = word_takes w32 (2 ^ 32) wide32 128 is_key

pub key_again : Again read_key strings IsKey
key_again = word_again w32 (2 ^ 32) wide32 128 is_key (lit< tt) key_bound

pub value_takes : Takes read_value strings IsValue
value_takes = word_takes w32 (2 ^ 32) wide32 1024 is_value

pub value_again : Again read_value strings IsValue
value_again = word_again w32 (2 ^ 32) wide32 1024 is_value (lit< tt) value_bound

-- ---- tags that are values

abbrev pub Any : {X : Type 0} → X → Type 0
Any x = Unit {0}

abbrev pub kinds_of : Kind → List (List ℕ)
kinds_of k = kind k ∷ []

pub kind_takes : Takes read_kind kinds_of (λ k. Unit {0})
unfolding read_kind
kind_takes r x after small e =
    let t = bind_ok (read_number w8 r) (λ (tag : ℕ × Reader). cond (eqb tag.0 1) (gave kinds.Dict tag.1) (cond (eqb tag.0 2) (gave kinds.Queue tag.1) (Err r.place))) (x, after) e in
    let s = tag_takes r t.0.0 t.0.1 small t.1 in
    pick (λ q. gave kinds.Dict q) 1 kinds_of (λ k. Unit {0}) (leaf kinds.Dict 1 kinds_of (λ k. Unit {0}) tt refl) r t.0.1 after x t.0.0 s (cond (eqb t.0.0 2) (gave kinds.Queue t.0.1) (Err r.place))
    (λ e2. pick (λ q. gave kinds.Queue q) 2 kinds_of (λ k. Unit {0}) (leaf kinds.Queue 2 kinds_of (λ k. Unit {0}) tt refl) r t.0.1 after x t.0.0 s (Err r.place) (λ e3. nothing r.place x after e3) e2) t.2

pub kind_again : Again read_kind kinds_of (λ k. Unit {0})
unfolding read_kind
kind_again r kinds.Dict rest fits e = let t = tag_again r 1 [] rest (lit< tt) e in (t.0, rw t.1 refl, t.2)
kind_again r kinds.Queue rest fits e = let t = tag_again r 2 [] rest (lit< tt) e in (t.0, rw t.1 refl, t.2)

abbrev pub flags : Bool → List (List ℕ)
flags b = flag b ∷ []

pub flag_takes : Takes read_flag flags (λ b. Unit {0})
unfolding read_flag
flag_takes r x after small e =
    let t = bind_ok (read_number w8 r) (λ (tag : ℕ × Reader). cond (eqb tag.0 0) (gave false tag.1) (cond (eqb tag.0 1) (gave true tag.1) (Err r.place))) (x, after) e in
    let s = tag_takes r t.0.0 t.0.1 small t.1 in
    pick (λ q. gave false q) 0 flags (λ b. Unit {0}) (leaf false 0 flags (λ b. Unit {0}) tt refl) r t.0.1 after x t.0.0 s (cond (eqb t.0.0 1) (gave true t.0.1) (Err r.place))
    (λ e2. pick (λ q. gave true q) 1 flags (λ b. Unit {0}) (leaf true 1 flags (λ b. Unit {0}) tt refl) r t.0.1 after x t.0.0 s (Err r.place) (λ e3. nothing r.place x after e3) e2) t.2

pub flag_again : Again read_flag flags (λ b. Unit {0})
unfolding read_flag
flag_again r false rest fits e = let t = tag_again r 0 [] rest (lit< tt) e in (t.0, rw t.1 refl, t.2)
flag_again r true rest fits e = let t = tag_again r 1 [] rest (lit< tt) e in (t.0, rw t.1 refl, t.2)

abbrev pub IsSlot : ℕ → Type 0
IsSlot n = n < 2

abbrev pub bytes_of : ℕ → List (List ℕ)
bytes_of n = byte n ∷ []

pub slot_takes : Takes read_slot bytes_of IsSlot
unfolding read_slot
slot_takes r x after small e =
    let t = bind_ok (read_number w8 r) (λ (tag : ℕ × Reader). cond (eqb tag.0 0) (gave 0 tag.1) (cond (eqb tag.0 1) (gave 1 tag.1) (Err r.place))) (x, after) e in
    let s = tag_takes r t.0.0 t.0.1 small t.1 in
    pick (λ q. gave 0 q) 0 bytes_of IsSlot (leaf 0 0 bytes_of IsSlot (lit< tt) refl) r t.0.1 after x t.0.0 s (cond (eqb t.0.0 1) (gave 1 t.0.1) (Err r.place))
    (λ e2. pick (λ q. gave 1 q) 1 bytes_of IsSlot (leaf 1 1 bytes_of IsSlot (lit< tt) refl) r t.0.1 after x t.0.0 s (Err r.place) (λ e3. nothing r.place x after e3) e2) t.2

pub slot_cases : (n : ℕ) → n < 2 → (n ≡ 0) ⊎ (n ≡ 1)
slot_cases n lt = elim (cases_lt n 1) [ inl a ↦ inl (omega arith) | inr b ↦ inr (omega arith) ]

slot_0_again : (r : Reader) (rest : List ℕ) → r.rest ≡ joined (bytes_of 0) ++ rest → (after : Reader) × (read_slot r ≡ Ok (0, after)) × (after.rest ≡ rest)
unfolding read_slot
slot_0_again r rest e = let t = tag_again r 0 [] rest (lit< tt) e in (t.0, rw t.1 refl, t.2)

slot_1_again : (r : Reader) (rest : List ℕ) → r.rest ≡ joined (bytes_of 1) ++ rest → (after : Reader) × (read_slot r ≡ Ok (1, after)) × (after.rest ≡ rest)
unfolding read_slot
slot_1_again r rest e = let t = tag_again r 1 [] rest (lit< tt) e in (t.0, rw t.1 refl, t.2)

pub slot_again : Again read_slot bytes_of IsSlot
slot_again r n rest fits e =
    let Goal : ℕ → Type 0 = λ m. r.rest ≡ joined (bytes_of m) ++ rest → (after : Reader) × (read_slot r ≡ Ok (m, after)) × (after.rest ≡ rest) in
    elim (slot_cases n fits) [
      | inl is ↦ subst Goal (sym is) (slot_0_again r rest) e
      | inr is ↦ subst Goal (sym is) (slot_1_again r rest) e
    ]

-- the format is always 1
abbrev pub IsFormat : ℕ → Type 0
IsFormat n = n ≡ 1

pub format_takes : Takes read_format bytes_of IsFormat
unfolding read_format
format_takes r x after small e =
    let t = bind_ok (read_number w8 r) (λ (tag : ℕ × Reader). cond (eqb tag.0 1) (gave 1 tag.1) (Err r.place)) (x, after) e in
    let s = tag_takes r t.0.0 t.0.1 small t.1 in
    pick (λ q. gave 1 q) 1 bytes_of IsFormat (leaf 1 1 bytes_of IsFormat refl refl) r t.0.1 after x t.0.0 s (Err r.place) (λ e3. nothing r.place x after e3) t.2

format_1_again : (r : Reader) (rest : List ℕ) → r.rest ≡ joined (bytes_of 1) ++ rest → (after : Reader) × (read_format r ≡ Ok (1, after)) × (after.rest ≡ rest)
unfolding read_format
format_1_again r rest e = let t = tag_again r 1 [] rest (lit< tt) e in (t.0, rw t.1 refl, t.2)

pub format_again : Again read_format bytes_of IsFormat
format_again r n rest is e =
    let Goal : ℕ → Type 0 = λ m. r.rest ≡ joined (bytes_of m) ++ rest → (after : Reader) × (read_format r ≡ Ok (m, after)) × (after.rest ≡ rest) in
    subst Goal (sym is) (format_1_again r rest) e

-- ---- epochs and transactions

epoch_made : ℕ → ℕ → Epoch
epoch_made l n = record { loss = l; number = n }

pub epoch_takes : Takes read_epoch epoch EpochInRange
unfolding read_epoch epoch_made
epoch_takes r x after small e =
    let m = two_takes (read_number w32) shorts Short (read_number w32) shorts Short epoch_made short_takes short_takes r x after small e in
    subst (λ (y : Epoch). EpochInRange y × Step r (epoch y) after) m.2 (record { loss = m.3; number = m.4 }, m.5)

pub epoch_again : Again read_epoch epoch EpochInRange
unfolding read_epoch epoch_made
epoch_again r x rest fits e = two_again (read_number w32) shorts Short (read_number w32) shorts Short epoch_made short_again short_again r x.loss x.number rest fits.loss fits.number e

txn_made : Epoch → ℕ → TxnId
txn_made e n = record { epoch = e; n = n }

pub txn_takes : Takes read_txn txn TxnInRange
unfolding read_txn txn_made
txn_takes r x after small e =
    let m = two_takes read_epoch epoch EpochInRange (read_number w64) longs Long txn_made epoch_takes long_takes r x after small e in
    subst (λ (y : TxnId). TxnInRange y × Step r (txn y) after) m.2 (record { epoch = m.3; n = m.4 }, m.5)

pub txn_again : Again read_txn txn TxnInRange
unfolding read_txn txn_made
txn_again r x rest fits e = two_again read_epoch epoch EpochInRange (read_number w64) longs Long txn_made epoch_again long_again r x.epoch x.n rest fits.epoch fits.n e
