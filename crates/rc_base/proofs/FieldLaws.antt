-- A field that is read is the field that was written, and what was written is read again.
use Rattle.std.proofs.Common.{◌≡◌, ℕ, ◌+◌, ◌*◌, ◌/◌, ◌%◌, ◌^◌, ◌<◌, ◌≤◌, Bool, true, false, cond, ltb, List, [], ◌∷◌, ◌++◌, length, get_or, take, drop, Option, Some, None, Result, Ok, Err, lit<, refl, sym, ap, subst, ◌∙◌, append_assoc, arith, inl, inr}
use Rattle.std.specs.Int.{Width, w8, w32, w64, w128, byte_len, from_be_bytes, to_be_bytes}
use Rattle.std.proofs.lemmas.Bool.{cases_lt, ltb-false, le-ltb}
use Rattle.std.proofs.lemmas.List.{take_at, drop_at, take-append-drop, length-append, length-take, length-drop, get_or-drop, get_or-take, get_or_past}
use Rattle.std.proofs.lemmas.Nat.{be_bytes_4, be_bytes_8, from_be_bytes-to_be_bytes_4, from_be_bytes-to_be_bytes_8}
use Rattle.std.specs.Option.{option_and_then, option_map}
use Rattle.std.proofs.Math.Nat as nat
use Rattle.rc_base.specs.declared.fields.Bad.{Bad}
use Rattle.rc_base.specs.Fields.{Reader, with_length, front_at, number_at, part_at, bytes_at, Takes, Reads}

abbrev pub IsBytes : List ℕ → Type 0
IsBytes bytes = (i : ℕ) → get_or bytes i 0 < 256

pub IsBytes-drop : (n : ℕ) (bytes : List ℕ) → IsBytes bytes → IsBytes (drop n bytes)
IsBytes-drop n bytes h i = rw get_or-drop (h (n + i))

pub IsBytes-take : (n : ℕ) (bytes : List ℕ) → IsBytes bytes → IsBytes (take n bytes)
IsBytes-take n bytes h i =
    elim (cases_lt i n) [
      | inl lt ↦ rw (get_or-take n bytes i 0 lt) (h i)
      | inr le ↦ rw (get_or_past (take n bytes) i 0 (omega (arith, length-take n bytes))) (omega arith)
    ]

-- ---- numbers

pub record IsWide (w : Width) (limit : ℕ) : Type 0 where
  pub len : (n : ℕ) → length (to_be_bytes w n) ≡ byte_len w
  pub back : (bytes : List ℕ) → length bytes ≡ byte_len w → IsBytes bytes → to_be_bytes w (from_be_bytes w bytes) ≡ bytes
  pub again : (n : ℕ) → n < limit → from_be_bytes w (to_be_bytes w n) ≡ n
  pub below : (bytes : List ℕ) → IsBytes bytes → from_be_bytes w bytes < limit

one_byte : (bytes : List ℕ) → length bytes ≡ 1 → IsBytes bytes → to_be_bytes w8 (from_be_bytes w8 bytes) ≡ bytes
one_byte [] len fits = absurd (omega arith)
one_byte (b ∷ []) len fits = let e : b % 256 ≡ b = omega (arith, fits 0) in ap (λ (x : ℕ). x ∷ []) e
one_byte (b ∷ c ∷ bs) len fits = absurd (omega arith)

pub wide8 : IsWide w8 (2 ^ 8)
wide8 = record {
  len = λ n. refl;
  back = one_byte;
  again = λ n lt. omega arith;
  below = λ bytes fits. omega (arith, fits 0);
}

pub wide32 : IsWide w32 (2 ^ 32)
wide32 = record {
  len = λ n. refl;
  back = λ bytes len fits. be_bytes_4 bytes _ len fits refl;
  again = λ n lt. from_be_bytes-to_be_bytes_4 n lt;
  below = λ bytes fits. omega (arith, fits 0, fits 1, fits 2, fits 3);
}

pub wide64 : IsWide w64 (2 ^ 64)
wide64 = record {
  len = λ n. refl;
  back = λ bytes len fits. be_bytes_8 bytes _ len fits refl;
  again = λ n lt. from_be_bytes-to_be_bytes_8 n lt;
  below = λ bytes fits. omega (arith, fits 0, fits 1, fits 2, fits 3, fits 4, fits 5, fits 6, fits 7);
}

-- sixteen bytes are twice eight
halves_written : (n : ℕ) → to_be_bytes w128 n ≡ to_be_bytes w64 (n / 18446744073709551616) ++ to_be_bytes w64 (n % 18446744073709551616)
halves_written n =
    let h7 : n / 18446744073709551616 / 72057594037927936 % 256 ≡ n / 1329227995784915872903807060280344576 % 256 = ap (λ (x : ℕ). x % 256) (nat.div-div-eq-div-mul n 18446744073709551616 72057594037927936) in
    let h6 : n / 18446744073709551616 / 281474976710656 % 256 ≡ n / 5192296858534827628530496329220096 % 256 = ap (λ (x : ℕ). x % 256) (nat.div-div-eq-div-mul n 18446744073709551616 281474976710656) in
    let h5 : n / 18446744073709551616 / 1099511627776 % 256 ≡ n / 20282409603651670423947251286016 % 256 = ap (λ (x : ℕ). x % 256) (nat.div-div-eq-div-mul n 18446744073709551616 1099511627776) in
    let h4 : n / 18446744073709551616 / 4294967296 % 256 ≡ n / 79228162514264337593543950336 % 256 = ap (λ (x : ℕ). x % 256) (nat.div-div-eq-div-mul n 18446744073709551616 4294967296) in
    let h3 : n / 18446744073709551616 / 16777216 % 256 ≡ n / 309485009821345068724781056 % 256 = ap (λ (x : ℕ). x % 256) (nat.div-div-eq-div-mul n 18446744073709551616 16777216) in
    let h2 : n / 18446744073709551616 / 65536 % 256 ≡ n / 1208925819614629174706176 % 256 = ap (λ (x : ℕ). x % 256) (nat.div-div-eq-div-mul n 18446744073709551616 65536) in
    let h1 : n / 18446744073709551616 / 256 % 256 ≡ n / 4722366482869645213696 % 256 = ap (λ (x : ℕ). x % 256) (nat.div-div-eq-div-mul n 18446744073709551616 256) in
    let l7 : n % 18446744073709551616 / 72057594037927936 % 256 ≡ n / 72057594037927936 % 256 = omega arith in
    let l6 : n % 18446744073709551616 / 281474976710656 % 256 ≡ n / 281474976710656 % 256 = omega arith in
    let l5 : n % 18446744073709551616 / 1099511627776 % 256 ≡ n / 1099511627776 % 256 = omega arith in
    let l4 : n % 18446744073709551616 / 4294967296 % 256 ≡ n / 4294967296 % 256 = omega arith in
    let l3 : n % 18446744073709551616 / 16777216 % 256 ≡ n / 16777216 % 256 = omega arith in
    let l2 : n % 18446744073709551616 / 65536 % 256 ≡ n / 65536 % 256 = omega arith in
    let l1 : n % 18446744073709551616 / 256 % 256 ≡ n / 256 % 256 = omega arith in
    let l0 : n % 18446744073709551616 % 256 ≡ n % 256 = omega arith in
    cc

halves_read : (bytes : List ℕ) → from_be_bytes w128 bytes ≡ from_be_bytes w64 (take 8 bytes) * 18446744073709551616 + from_be_bytes w64 (drop 8 bytes)
halves_read bytes = omega (arith, get_or-take 8 bytes 0 0 (lit< tt), get_or-take 8 bytes 1 0 (lit< tt), get_or-take 8 bytes 2 0 (lit< tt), get_or-take 8 bytes 3 0 (lit< tt), get_or-take 8 bytes 4 0 (lit< tt), get_or-take 8 bytes 5 0 (lit< tt), get_or-take 8 bytes 6 0 (lit< tt), get_or-take 8 bytes 7 0 (lit< tt), get_or-drop 8 bytes 0 0, get_or-drop 8 bytes 1 0, get_or-drop 8 bytes 2 0, get_or-drop 8 bytes 3 0, get_or-drop 8 bytes 4 0, get_or-drop 8 bytes 5 0, get_or-drop 8 bytes 6 0, get_or-drop 8 bytes 7 0)

pub wide128 : IsWide w128 (2 ^ 128)
wide128 = record {
  len = λ n. refl;
  back = λ bytes len fits.
      let h = from_be_bytes w64 (take 8 bytes) in
      let l = from_be_bytes w64 (drop 8 bytes) in
      let l_small : l < 18446744073709551616 = wide64.below (drop 8 bytes) (IsBytes-drop 8 bytes fits) in
      let h_is : from_be_bytes w128 bytes / 18446744073709551616 ≡ h = omega (arith, halves_read bytes) in
      let l_is : from_be_bytes w128 bytes % 18446744073709551616 ≡ l = omega (arith, halves_read bytes) in
      let h_back : to_be_bytes w64 h ≡ take 8 bytes = wide64.back (take 8 bytes) (omega (arith, length-take 8 bytes)) (IsBytes-take 8 bytes fits) in
      let l_back : to_be_bytes w64 l ≡ drop 8 bytes = wide64.back (drop 8 bytes) (omega (arith, length-drop 8 bytes)) (IsBytes-drop 8 bytes fits) in
      halves_written (from_be_bytes w128 bytes) ∙ ap (λ (k : ℕ). to_be_bytes w64 k ++ to_be_bytes w64 (from_be_bytes w128 bytes % 18446744073709551616)) h_is ∙ ap (λ (k : ℕ). to_be_bytes w64 h ++ to_be_bytes w64 k) l_is ∙ ap (λ (t : List ℕ). t ++ to_be_bytes w64 l) h_back ∙ ap (λ (t : List ℕ). take 8 bytes ++ t) l_back ∙ take-append-drop 8 bytes;
  again = λ n lt.
      let h = to_be_bytes w64 (n / 18446744073709551616) in
      let l = to_be_bytes w64 (n % 18446744073709551616) in
      let h_again : from_be_bytes w64 h ≡ n / 18446744073709551616 = wide64.again (n / 18446744073709551616) (omega arith) in
      let l_again : from_be_bytes w64 l ≡ n % 18446744073709551616 = wide64.again (n % 18446744073709551616) (omega arith) in
      let both : from_be_bytes w128 (h ++ l) ≡ from_be_bytes w64 h * 18446744073709551616 + from_be_bytes w64 l = halves_read (h ++ l) in
      ap (from_be_bytes w128) (halves_written n) ∙ both ∙ omega (arith, h_again, l_again);
  below = λ bytes fits. omega (arith, halves_read bytes, wide64.below (take 8 bytes) (IsBytes-take 8 bytes fits), wide64.below (drop 8 bytes) (IsBytes-drop 8 bytes fits));
}

-- ---- a field is an option: none where the bytes are no such field

-- a test that did not fail
pub guard_some : {A : Type 0} (b : Bool) (x y : A) → cond b None (Some x) ≡ Some y → (b ≡ false) × (x ≡ y)
guard_some true x y e = absurd cc
guard_some false x y e = (refl, cc)

pub and_then_some : {A B : Type 0} (o : Option A) (f : A → Option B) (y : B) → option_and_then f o ≡ Some y → (x : A) × (o ≡ Some x) × (f x ≡ Some y)
and_then_some None f y e = absurd cc
and_then_some (Some x) f y e = (x, refl, e)

abbrev found : {A : Type 0} → A → Option A
found x = Some x

pub some_is : {A : Type 0} (x y : A) → found x ≡ found y → x ≡ y
some_is x y e = cc

-- what was taken from the front
pub record Splits (bytes text rest : List ℕ) : Type 0 where
  pub parts : bytes ≡ text ++ rest
  pub rest_fits : IsBytes rest

pub map_some : {A B : Type 0} (f : A → B) (o : Option A) (y : B) → option_map f o ≡ Some y → (x : A) × (o ≡ Some x) × (f x ≡ y)
map_some f None y e = absurd cc
map_some f (Some x) y e = (x, refl, some_is (f x) y e)

pub front_takes : (n : ℕ) (bytes text rest : List ℕ) → IsBytes bytes → front_at n bytes ≡ Some (text, rest) → Splits bytes text rest × (length text ≡ n) × IsBytes text
front_takes n bytes text rest fits e =
    let g = guard_some (ltb (length bytes) n) (take n bytes, drop n bytes) (text, rest) e in
    let enough : n ≤ length bytes = ltb-false _ _ g.0 in
    let text-is : take n bytes ≡ text = ap (λ (p : List ℕ × List ℕ). p.0) g.1 in
    let rest-is : drop n bytes ≡ rest = ap (λ (p : List ℕ × List ℕ). p.1) g.1 in
    (record { parts = rw (← text-is, ← rest-is) (sym (take-append-drop n bytes)); rest_fits = rw (← rest-is) (IsBytes-drop n bytes fits) }, rw (← text-is) (omega (arith, length-take n bytes)), rw (← text-is) (IsBytes-take n bytes fits))

pub front_again : (n : ℕ) (text rest : List ℕ) → length text ≡ n → front_at n (text ++ rest) ≡ Some (text, rest)
front_again n text rest len =
    let long : ltb (length (text ++ rest)) n ≡ false = le-ltb _ _ (omega (arith, length-append text rest)) in
    rw (long, take_at text rest n len, drop_at text rest n len) refl

pub number_takes : (w : Width) (limit : ℕ) (wide : IsWide w limit) (bytes : List ℕ) (n : ℕ) (rest : List ℕ) → IsBytes bytes → number_at w bytes ≡ Some (n, rest) → Splits bytes (to_be_bytes w n) rest × (n < limit)
number_takes w limit wide bytes n rest fits e =
    let m = map_some (λ (front : List ℕ × List ℕ). (from_be_bytes w front.0, front.1)) (front_at (byte_len w) bytes) (n, rest) e in
    let f = front_takes (byte_len w) bytes m.0.0 m.0.1 fits m.1 in
    let spelled : to_be_bytes w (from_be_bytes w m.0.0) ≡ m.0.0 = wide.back m.0.0 f.1 f.2 in
    let whole : bytes ≡ to_be_bytes w (from_be_bytes w m.0.0) ++ m.0.1 = f.0.parts ∙ ap (λ (t : List ℕ). t ++ m.0.1) (sym spelled) in
    subst (λ (p : ℕ × List ℕ). Splits bytes (to_be_bytes w p.0) p.1 × (p.0 < limit)) m.2 (record { parts = whole; rest_fits = f.0.rest_fits }, wide.below m.0.0 f.2)

pub number_again : (w : Width) (limit : ℕ) (wide : IsWide w limit) (n : ℕ) (rest : List ℕ) → n < limit → number_at w (to_be_bytes w n ++ rest) ≡ Some (n, rest)
number_again w limit wide n rest lt = rw (front_again (byte_len w) (to_be_bytes w n) rest (wide.len n), wide.again n lt) refl

-- ---- bytes behind their length

guard_part : {A : Type 0} (a : Bool) (o : Option A) (y : A) → cond a None o ≡ Some y → (a ≡ false) × (o ≡ Some y)
guard_part true o y e = absurd cc
guard_part false o y e = (refl, e)

pub bytes_takes : (w : Width) (limit : ℕ) (wide : IsWide w limit) (max : ℕ) (bytes text rest : List ℕ) → IsBytes bytes → bytes_at w max bytes ≡ Some (text, rest) → Splits bytes (with_length w text) rest × (length text ≤ max) × (length text < limit)
bytes_takes w limit wide max bytes text rest fits e =
    let n = and_then_some (number_at w bytes) (λ len. part_at max len.0 len.1) (text, rest) e in
    let t = number_takes w limit wide bytes n.0.0 n.0.1 fits n.1 in
    let g = guard_part (ltb max n.0.0) (front_at n.0.0 n.0.1) (text, rest) n.2 in
    let p = front_takes n.0.0 n.0.1 text rest t.0.rest_fits g.1 in
    let below : n.0.0 ≤ max = ltb-false _ _ g.0 in
    let whole : bytes ≡ (to_be_bytes w n.0.0 ++ text) ++ rest = t.0.parts ∙ ap (λ (r : List ℕ). to_be_bytes w n.0.0 ++ r) p.0.parts ∙ sym (append_assoc (to_be_bytes w n.0.0) text rest) in
    (record { parts = subst (λ (k : ℕ). bytes ≡ (to_be_bytes w k ++ text) ++ rest) (sym p.1) whole; rest_fits = p.0.rest_fits }, omega (arith, p.1, below), omega (arith, p.1, t.1))

pub bytes_again : (w : Width) (limit : ℕ) (wide : IsWide w limit) (max : ℕ) (text rest : List ℕ) → length text ≤ max → length text < limit → bytes_at w max (with_length w text ++ rest) ≡ Some (text, rest)
bytes_again w limit wide max text rest le lt =
    let regrouped : with_length w text ++ rest ≡ to_be_bytes w (length text) ++ (text ++ rest) = append_assoc (to_be_bytes w (length text)) text rest in
    let small : ltb max (length text) ≡ false = le-ltb _ _ le in
    ap (bytes_at w max) regrouped ∙ rw (number_again w limit wide (length text) (text ++ rest) lt, small) (front_again (length text) text rest refl)

-- ---- a reader whose field is read so obeys the law of both directions

reads : {X : Type 0} (spelling : X → List ℕ) (Fits : X → Type 0) (field : List ℕ → Option (X × List ℕ))
    → ((bytes : List ℕ) (x : X) (rest : List ℕ) → IsBytes bytes → field bytes ≡ Some (x, rest) → Fits x × (bytes ≡ spelling x ++ rest))
    → ((x : X) (rest : List ℕ) → Fits x → field (spelling x ++ rest) ≡ Some (x, rest))
    → (result : Result X Bad) (old new : Reader) → IsBytes old.rest → Takes result old new (field old.rest) → Reads spelling Fits result old new
reads {X} spelling Fits field takes again (Ok x) old new fits took = record {
  spelled = takes old.rest x new.rest fits took.0;
  again = λ y rest fit e. let same = some_is (x, new.rest) (y, rest) (sym took.0 ∙ ap field e ∙ again y rest fit) in (ap (λ (p : X × List ℕ). Ok p.0) same, ap (λ (p : X × List ℕ). p.1) same);
}
reads {X} spelling Fits field takes again (Err bad) old new fits took = record {
  spelled = tt;
  again = λ y rest fit e. let wrong : found (y, rest) ≡ None = sym (again y rest fit) ∙ sym (ap field e) ∙ took.0 in absurd cc;
}

pub reads_number : (w : Width) (limit : ℕ) (wide : IsWide w limit) (result : Result ℕ Bad) (old new : Reader) → IsBytes old.rest → Takes result old new (number_at w old.rest) → Reads (to_be_bytes w) (λ n. n < limit) result old new
reads_number w limit wide result old new fits took =
    reads (to_be_bytes w) (λ n. n < limit) (number_at w) (λ bytes n rest small e. let t = number_takes w limit wide bytes n rest small e in (t.1, t.0.parts)) (λ n rest lt. number_again w limit wide n rest lt) result old new fits took

pub reads_bytes : (w : Width) (limit : ℕ) (wide : IsWide w limit) (max : ℕ) → max < limit → (result : Result (List ℕ) Bad) (old new : Reader) → IsBytes old.rest → Takes result old new (bytes_at w max old.rest) → Reads (with_length w) (λ bytes. length bytes ≤ max) result old new
reads_bytes w limit wide max small result old new fits took =
    reads (with_length w) (λ bytes. length bytes ≤ max) (bytes_at w max)
    (λ bytes text rest fit e. let t = bytes_takes w limit wide max bytes text rest fit e in (t.1, t.0.parts))
    (λ text rest le. bytes_again w limit wide max text rest le (omega arith)) result old new fits took
