-- Which blocks of an area are open.
use Rattle.std.proofs.Common.{◌≡◌, ◌≢◌, ◌⊎◌, inl, inr, ℕ, zero, suc, ◌+◌, ◌-◌, ◌^◌, ◌≤◌, ◌<◌, Bool, true, false, List, [], ◌∷◌, ◌++◌, length, take, drop, get_or, refl, sym, ◌∙◌, ap, subst, arith, lit<, lit≤, nat_le, nat_lt, ◌&&◌, ◌==◌, if◌then◌else◌}
use Rattle.std.proofs.lemmas.List.{append_assoc, length-append, length-take, length-drop, take_at, drop_at, take-take, drop-take, drop-drop, take-append-drop, length-take-le, get_or-take, get_or_past, get_or-drop, drop_more}
use Rattle.std.proofs.lemmas.Nat.{be_bytes_4, from_be_bytes-to_be_bytes_4}
use Rattle.std.proofs.lemmas.Bool.{cases_eq, cases_lt, false≢true}
use Rattle.std.proofs.lemmas.Bool.Decides.{nat_tests}
use Rattle.std.specs.Int.{w32, to_be_bytes, from_be_bytes}
use Rattle.gated_log.specs.Log.{placed_from}
use Rattle.gated_log.specs.declared.block.Block.{Block}
use Rattle.gated_log.specs.Blocks.{length_at, is_whole, blocks_behind, open_blocks, OpensWith, IsPayload, AllPayloads, block, spelling}

-- the blocks behind some bytes are those of the rest
pub behind_drop : (k : ℕ) (bytes : List ℕ) → blocks_behind k bytes ≡ open_blocks (drop k bytes)
behind_drop zero bytes = refl
behind_drop (suc k) [] = refl
behind_drop (suc k) (byte ∷ bytes) = behind_drop k bytes

-- what a whole block is
pub record Whole (bytes : List ℕ) : Type 0 where
  pub some : 1 ≤ length_at bytes
  pub fits : length_at bytes ≤ 1048576
  pub within : 4 + length_at bytes < length bytes

whole_tests : (n m : ℕ) → nat_le 1 n && nat_le n 1048576 && nat_lt (4 + n) m ≡ true → (1 ≤ n) × (n ≤ 1048576) × (4 + n < m)
whole_tests n m e = (grind (arith, nat_tests), grind (arith, nat_tests), grind (arith, nat_tests))

tests_whole : (n m : ℕ) → 1 ≤ n → n ≤ 1048576 → 4 + n < m → nat_le 1 n && nat_le n 1048576 && nat_lt (4 + n) m ≡ true
tests_whole n m some fits within = grind (arith, nat_tests)

pub whole_from : (bytes : List ℕ) → is_whole bytes ≡ true → Whole bytes
unfolding is_whole
whole_from bytes e = let tests = whole_tests (length_at bytes) (length bytes) e in record { some = tests.0; fits = tests.1; within = tests.2 }

pub whole_to : (bytes : List ℕ) → Whole bytes → is_whole bytes ≡ true
unfolding is_whole
whole_to bytes w = tests_whole (length_at bytes) (length bytes) w.some w.fits w.within

pub cases_whole : (bytes : List ℕ) → (Whole bytes) ⊎ (is_whole bytes ≡ false)
cases_whole bytes = by (is_whole bytes) refl
  where
    by : (b : Bool) → is_whole bytes ≡ b → (Whole bytes) ⊎ (is_whole bytes ≡ false)
    by true e = inl (whole_from bytes e)
    by false e = inr e

-- an open block, and the blocks behind it
pub open_front : (bytes : List ℕ) → Whole bytes → open_blocks (1 ∷ bytes) ≡ take (length_at bytes) (drop 4 bytes) ∷ open_blocks (drop (4 + length_at bytes) bytes)
open_front bytes w =
    let e : is_whole bytes ≡ true = whole_to bytes w in
    front (is_whole bytes) e ∙ ap (λ (l : List (List ℕ)). take (length_at bytes) (drop 4 bytes) ∷ l) (behind_drop (4 + length_at bytes) bytes)
  where
    front : (b : Bool) → b ≡ true → (if (1 == 1) && b then take (length_at bytes) (drop 4 bytes) ∷ blocks_behind (4 + length_at bytes) bytes else []) ≡ take (length_at bytes) (drop 4 bytes) ∷ blocks_behind (4 + length_at bytes) bytes
    front true e = refl
    front false e = absurd (false≢true e)

pub shut_front : (gate : ℕ) (bytes : List ℕ) → gate ≢ 1 → open_blocks (gate ∷ bytes) ≡ []
shut_front gate bytes shut = grind (arith, nat_tests)

pub short_front : (gate : ℕ) (bytes : List ℕ) → is_whole bytes ≡ false → open_blocks (gate ∷ bytes) ≡ []
short_front gate bytes e = front (gate == 1) (is_whole bytes) e
  where
    front : (a b : Bool) → b ≡ false → (if a && b then take (length_at bytes) (drop 4 bytes) ∷ blocks_behind (4 + length_at bytes) bytes else []) ≡ []
    front true true e = absurd (false≢true (sym e))
    front false true e = refl
    front true false e = refl
    front false false e = refl

not_whole : (bytes : List ℕ) → length bytes ≤ 4 + length_at bytes → is_whole bytes ≡ false
not_whole bytes short = elim (cases_whole bytes) [ inl w ↦ absurd (omega (arith, w.within)) | inr e ↦ e ]

-- a gate with less than a block behind it opens nothing
pub lone_gate : (bytes : List ℕ) → length bytes ≤ 1 → open_blocks bytes ≡ []
lone_gate [] short = refl
lone_gate (gate ∷ bytes) short = short_front gate bytes (not_whole bytes (omega arith))

length_at-same : (a b : List ℕ) → ((i : ℕ) → i < 4 → get_or a i 0 ≡ get_or b i 0) → length_at a ≡ length_at b
unfolding length_at
length_at-same a b same =
    let e0 : get_or a 0 0 ≡ get_or b 0 0 = same 0 (lit< tt) in
    let e1 : get_or a 1 0 ≡ get_or b 1 0 = same 1 (lit< tt) in
    let e2 : get_or a 2 0 ≡ get_or b 2 0 = same 2 (lit< tt) in
    let e3 : get_or a 3 0 ≡ get_or b 3 0 = same 3 (lit< tt) in
    cc

length_at-take : (n : ℕ) (bytes : List ℕ) → 4 ≤ n → length_at (take n bytes) ≡ length_at bytes
length_at-take n bytes long = length_at-same (take n bytes) bytes (λ i lt. get_or-take n bytes i 0 (omega arith))

-- a front of bytes with no whole block has none
front_not_whole : (n : ℕ) (bytes : List ℕ) → is_whole bytes ≡ false → is_whole (take n bytes) ≡ false
front_not_whole n bytes e = elim (cases_whole (take n bytes)) [
  | inl w ↦ absurd (false≢true (sym e ∙ whole_to bytes (widened w)))
  | inr f ↦ f
]
  where
    widened : Whole (take n bytes) → Whole bytes
    widened w =
        let size = length-take n bytes in
        let long : 4 ≤ n = omega (arith, size, w.within) in
        let same : length_at (take n bytes) ≡ length_at bytes = length_at-take n bytes long in
        record { some = omega (arith, same, w.some); fits = omega (arith, same, w.fits); within = omega (arith, same, size, w.within) }

pub front_nothing : (n : ℕ) (rest : List ℕ) → open_blocks rest ≡ [] → open_blocks (take n rest) ≡ []
front_nothing zero rest none = refl
front_nothing (suc n) [] none = refl
front_nothing (suc n) (gate ∷ bytes) none = elim (cases_eq gate 1) [
  | inr shut ↦ shut_front gate (take n bytes) shut
  | inl is_open ↦ elim (cases_whole bytes) [
    | inr short ↦ short_front gate (take n bytes) (front_not_whole n bytes short)
    | inl w ↦ absurd (no_cons _ _ (sym (open_front bytes w) ∙ ap (λ (g : ℕ). open_blocks (g ∷ bytes)) (sym is_open) ∙ none))
  ]
]
  where
    no_cons : (x : List ℕ) (xs : List (List ℕ)) → x ∷ xs ≡ [] → ⊥
    no_cons x xs e = cc

-- a front of an area has a front of its blocks
pub front_prefix : (fuel m : ℕ) (bytes : List ℕ) → length bytes ≤ fuel → (n : ℕ) × (open_blocks (take m bytes) ≡ take n (open_blocks bytes))
front_prefix fuel zero bytes le = (0, refl)
front_prefix fuel (suc m) [] le = (0, refl)
front_prefix zero (suc m) (gate ∷ bytes) le = absurd (omega arith)
front_prefix (suc fuel) (suc m) (gate ∷ bytes) le = elim (cases_eq gate 1) [
  | inr shut ↦ (0, shut_front gate (take m bytes) shut)
  | inl is_open ↦ elim (cases_whole bytes) [
    | inr short ↦ (0, short_front gate (take m bytes) (front_not_whole m bytes short))
    | inl w ↦ elim (cases_lt (4 + length_at bytes) m) [
      | inr cut ↦ (0, short_front gate (take m bytes) (elim (cases_whole (take m bytes)) [ inl v ↦ absurd (too_short w v cut) | inr e ↦ e ]))
      | inl long ↦
          let rest = front_prefix fuel (m - (4 + length_at bytes)) (drop (4 + length_at bytes) bytes) (omega (arith, length-drop (4 + length_at bytes) bytes)) in
          (suc rest.0, ap (λ (g : ℕ). open_blocks (g ∷ take m bytes)) is_open ∙ kept w long rest.0 rest.1 ∙ ap (λ (g : ℕ). take (suc rest.0) (open_blocks (g ∷ bytes))) (sym is_open))
    ]
  ]
]
  where
    too_short : Whole bytes → Whole (take m bytes) → m ≤ 4 + length_at bytes → ⊥
    too_short w v cut =
        let size = length-take m bytes in
        let same : length_at (take m bytes) ≡ length_at bytes = length_at-take m bytes (omega (arith, size, v.within)) in
        omega (arith, same, size, v.within)

    kept : Whole bytes → 4 + length_at bytes < m → (n : ℕ) → open_blocks (take (m - (4 + length_at bytes)) (drop (4 + length_at bytes) bytes)) ≡ take n (open_blocks (drop (4 + length_at bytes) bytes)) → open_blocks (1 ∷ take m bytes) ≡ take (suc n) (open_blocks (1 ∷ bytes))
    kept w long n rest =
        let k = length_at bytes in
        let same : length_at (take m bytes) ≡ k = length_at-take m bytes (omega arith) in
        let size = length-take m bytes in
        let v : Whole (take m bytes) = record { some = omega (arith, same, w.some); fits = omega (arith, same, w.fits); within = omega (arith, same, size, w.within) } in
        let four : m ≡ 4 + (m - 4) = omega arith in
        let all : m ≡ (4 + k) + (m - (4 + k)) = omega arith in
        let payload : take k (drop 4 (take m bytes)) ≡ take k (drop 4 bytes) =
        ap (λ (n : ℕ). take k (drop 4 (take n bytes))) four ∙ ap (λ (l : List ℕ). take k l) (drop-take 4 (m - 4) bytes) ∙ take-take k (m - 4) (drop 4 bytes) (omega arith) in
        let tail : drop (4 + k) (take m bytes) ≡ take (m - (4 + k)) (drop (4 + k) bytes) =
        ap (λ (n : ℕ). drop (4 + k) (take n bytes)) all ∙ drop-take (4 + k) (m - (4 + k)) bytes in
        open_front (take m bytes) v
        ∙ ap (λ (n : ℕ). take n (drop 4 (take m bytes)) ∷ open_blocks (drop (4 + n) (take m bytes))) same
        ∙ ap (λ (l : List ℕ). l ∷ open_blocks (drop (4 + k) (take m bytes))) payload
        ∙ ap (λ (l : List ℕ). take k (drop 4 bytes) ∷ open_blocks l) tail
        ∙ ap (λ (l : List (List ℕ)). take k (drop 4 bytes) ∷ l) rest
        ∙ ap (λ (l : List (List ℕ)). take (suc n) l) (sym (open_front bytes w))

length_at_is : (bytes : List ℕ) → length_at bytes ≡ from_be_bytes w32 bytes
unfolding length_at
length_at_is bytes = refl

length_at-spelled : (n : ℕ) (rest : List ℕ) → n < 2 ^ 32 → length_at (to_be_bytes w32 n ++ rest) ≡ n
unfolding length_at
length_at-spelled n rest fits = from_be_bytes-to_be_bytes_4 n fits

-- the spelling of a length that was read
spelled-length_at : (bytes : List ℕ) (n : ℕ) → 4 ≤ length bytes → ((i : ℕ) → get_or bytes i 0 < 256) → n ≡ length_at bytes → to_be_bytes w32 n ≡ take 4 bytes
spelled-length_at bytes n long small is = be_bytes_4 (take 4 bytes) n (length-take-le 4 bytes long) (λ i. elim (cases_lt i 4) [
  | inl lt ↦ subst (λ (x : ℕ). x < 256) (sym (get_or-take 4 bytes i 0 lt)) (small i)
  | inr past ↦ subst (λ (x : ℕ). x < 256) (sym (get_or_past (take 4 bytes) i 0 (omega (arith, length-take-le 4 bytes long)))) (lit< tt)
]) (is ∙ sym (length_at-take 4 bytes (lit≤ tt)) ∙ length_at_is (take 4 bytes))

-- the length of a block's spelling
pub length-block : (payload : List ℕ) → length (block payload) ≡ 5 + length payload
length-block payload = omega (arith, length-append (to_be_bytes w32 (length payload)) payload)

-- an open block is read again, whatever stands behind it, if something does
pub open_block : (payload rest : List ℕ) → IsPayload payload → 1 ≤ length rest → open_blocks (block payload ++ rest) ≡ payload ∷ open_blocks rest
open_block payload rest is more =
    open_front behind w
    ∙ ap (λ (k : ℕ). take k (payload ++ rest) ∷ open_blocks (drop (4 + k) behind)) reads
    ∙ ap (λ (l : List ℕ). l ∷ open_blocks (drop (4 + length payload) behind)) (take_at payload rest (length payload) refl)
    ∙ ap (λ (l : List ℕ). payload ∷ open_blocks l) (sym (drop-drop (length payload) 4 behind) ∙ drop_at payload rest (length payload) refl)
  where
    behind : List ℕ
    behind = to_be_bytes w32 (length payload) ++ payload ++ rest

    reads : length_at (to_be_bytes w32 (length payload) ++ payload ++ rest) ≡ length payload
    reads = length_at-spelled (length payload) (payload ++ rest) (omega (arith, is.fits))

    w : Whole (to_be_bytes w32 (length payload) ++ payload ++ rest)
    w = record {
      some = omega (arith, reads, is.some);
      fits = omega (arith, reads, is.fits);
      within = omega (arith, reads, length-append (to_be_bytes w32 (length payload) ++ payload) rest, length-append (to_be_bytes w32 (length payload)) payload);
    }

-- open blocks, and then whatever the rest has
pub open_spelling : (payloads : List (List ℕ)) (rest : List ℕ) → AllPayloads payloads → 1 ≤ length rest → open_blocks (spelling payloads ++ rest) ≡ payloads ++ open_blocks rest
open_spelling [] rest all more = refl
open_spelling (payload ∷ payloads) rest all more =
    ap open_blocks (append_assoc (block payload) (spelling payloads) rest)
    ∙ open_block payload (spelling payloads ++ rest) all.0 (omega (arith, length-append (spelling payloads) rest))
    ∙ ap (λ (l : List (List ℕ)). payload ∷ l) (open_spelling payloads rest all.1 more)

rejoined : (bytes : List ℕ) (k : ℕ) → take 4 bytes ++ take k (drop 4 bytes) ++ drop (4 + k) bytes ≡ bytes
rejoined bytes k =
    ap (λ (l : List ℕ). take 4 bytes ++ take k (drop 4 bytes) ++ l) (sym (drop-drop k 4 bytes))
    ∙ append_assoc (take 4 bytes) (take k (drop 4 bytes)) (drop k (drop 4 bytes))
    ∙ ap (λ (l : List ℕ). take 4 bytes ++ l) (take-append-drop k (drop 4 bytes))
    ∙ take-append-drop 4 bytes

-- Bytes are their open blocks, and a rest that has none.
pub record Parts (bytes : List ℕ) : Type 0 where
  pub rest : List ℕ
  pub split : bytes ≡ spelling (open_blocks bytes) ++ rest
  pub nothing : open_blocks rest ≡ []
  pub payloads : AllPayloads (open_blocks bytes)
  pub behind : length rest ≡ 0 → open_blocks bytes ≡ []

pub parts : (fuel : ℕ) (bytes : List ℕ) → length bytes ≤ fuel → ((i : ℕ) → get_or bytes i 0 < 256) → Parts bytes
parts fuel [] le small = record { rest = []; split = refl; nothing = refl; payloads = tt; behind = λ e. refl }
parts zero (gate ∷ bytes) le small = absurd (omega arith)
parts (suc fuel) (gate ∷ bytes) le small = elim (cases_eq gate 1) [
  | inr shut ↦ whole_rest (shut_front gate bytes shut)
  | inl is_open ↦ elim (cases_whole bytes) [
    | inr short ↦ whole_rest (short_front gate bytes short)
    | inl w ↦ subst (λ (g : ℕ). Parts (g ∷ bytes)) (sym is_open) (opened w (parts fuel (drop (4 + length_at bytes) bytes) (omega (arith, length-drop (4 + length_at bytes) bytes)) (λ i. subst (λ (x : ℕ). x < 256) (sym (get_or-drop (4 + length_at bytes) bytes i 0)) (small (suc (4 + length_at bytes + i))))))
  ]
]
  where
    whole_rest : open_blocks (gate ∷ bytes) ≡ [] → Parts (gate ∷ bytes)
    whole_rest none = record {
      rest = gate ∷ bytes;
      split = ap (λ (l : List (List ℕ)). spelling l ++ gate ∷ bytes) (sym none);
      nothing = none;
      payloads = subst AllPayloads (sym none) tt;
      behind = λ e. none;
    }

    opened : Whole bytes → Parts (drop (4 + length_at bytes) bytes) → Parts (1 ∷ bytes)
    opened w p =
        let k = length_at bytes in
        let payload = take k (drop 4 bytes) in
        let front = open_front bytes w in
        let size : length payload ≡ k = length-take-le k (drop 4 bytes) (omega (arith, length-drop 4 bytes, w.within)) in
        let is : IsPayload payload = record { some = omega (arith, size, w.some); fits = omega (arith, size, w.fits) } in
        record {
          rest = p.rest;
          split = sym (ap (λ (l : List (List ℕ)). spelling l ++ p.rest) front
              ∙ append_assoc (block payload) (spelling (open_blocks (drop (4 + k) bytes))) p.rest
              ∙ ap (λ (l : List ℕ). block payload ++ l) (sym p.split)
              ∙ ap (λ (l : List ℕ). 1 ∷ (l ++ payload ++ drop (4 + k) bytes)) (spelled-length_at bytes (length payload) (omega (arith, w.within)) (λ i. small (suc i)) size)
              ∙ ap (λ (l : List ℕ). 1 ∷ l) (rejoined bytes k));
          nothing = p.nothing;
          payloads = subst AllPayloads (sym front) (is, p.payloads);
          behind = λ e. absurd (omega (arith, e, w.within, length-drop (4 + k) bytes, ap length p.split, ap (λ (l : List (List ℕ)). length (spelling l)) (p.behind e), length-append (spelling (open_blocks (drop (4 + k) bytes))) p.rest));
        }

-- What a walk over the blocks asks of bytes.

pub read_length : (bytes : List ℕ) (a b c d : ℕ) → a ≡ get_or bytes 1 0 → b ≡ get_or bytes 2 0 → c ≡ get_or bytes 3 0 → d ≡ get_or bytes 4 0 → from_be_bytes w32 (a ∷ b ∷ c ∷ d ∷ []) ≡ length_at (drop 1 bytes)
read_length bytes a b c d ea eb ec ed =
    sym (length_at_is (a ∷ b ∷ c ∷ d ∷ []))
    ∙ sym (length_at-same (drop 1 bytes) (a ∷ b ∷ c ∷ d ∷ []) at)
  where
    at : (i : ℕ) → i < 4 → get_or (drop 1 bytes) i 0 ≡ get_or (a ∷ b ∷ c ∷ d ∷ []) i 0
    at zero lt = get_or-drop 1 bytes 0 0 ∙ sym ea
    at (suc zero) lt = get_or-drop 1 bytes 1 0 ∙ sym eb
    at (suc (suc zero)) lt = get_or-drop 1 bytes 2 0 ∙ sym ec
    at (suc (suc (suc zero))) lt = get_or-drop 1 bytes 3 0 ∙ sym ed
    at (suc (suc (suc (suc i)))) lt = absurd (omega arith)

pub opens_with : (bytes : List ℕ) (count : ℕ) → get_or bytes 0 0 ≡ 1 → count ≡ length_at (drop 1 bytes) → 1 ≤ count → count ≤ 1048576 → 5 + count < length bytes → OpensWith bytes count
opens_with bytes count is_open is some fits within =
    let behind = drop 1 bytes in
    let size : length behind ≡ length bytes - 1 = length-drop 1 bytes in
    let w : Whole behind = record { some = omega (arith, is, some); fits = omega (arith, is, fits); within = omega (arith, is, size, within) } in
    let front : bytes ≡ 1 ∷ behind = drop_more bytes 0 0 (omega arith) ∙ ap (λ (g : ℕ). g ∷ behind) is_open in
    record {
      within = within;
      first = ap open_blocks front ∙ open_front behind w
          ∙ ap (λ (k : ℕ). take k (drop 4 behind) ∷ open_blocks (drop (4 + k) behind)) (sym is)
          ∙ ap (λ (l : List ℕ). take count l ∷ open_blocks (drop (4 + count) behind)) (drop-drop 4 1 bytes)
          ∙ ap (λ (l : List ℕ). take count (drop 5 bytes) ∷ open_blocks l) (drop-drop (4 + count) 1 bytes ∙ ap (λ (n : ℕ). drop n bytes) (let same : 1 + (4 + count) ≡ 5 + count = omega arith in same));
      size = length-take-le count (drop 5 bytes) (omega (arith, length-drop 5 bytes));
    }

pub opens_nothing : (bytes : List ℕ) → (get_or bytes 0 0 ≡ 1 → Whole (drop 1 bytes) → ⊥) → open_blocks bytes ≡ []
opens_nothing [] none = refl
opens_nothing (gate ∷ bytes) none = elim (cases_eq gate 1) [
  | inr shut ↦ shut_front gate bytes shut
  | inl is_open ↦ elim (cases_whole bytes) [ inl w ↦ absurd (none is_open w) | inr short ↦ short_front gate bytes short ]
]

pub AllPayloads-at : (payloads : List (List ℕ)) (i : ℕ) (payload : List ℕ) → AllPayloads payloads → i < length payloads → payload ≡ get_or payloads i payload → IsPayload payload
AllPayloads-at [] i payload all lt is = absurd (omega arith)
AllPayloads-at (first ∷ payloads) zero payload all lt is = subst IsPayload (sym is) all.0
AllPayloads-at (first ∷ payloads) (suc i) payload all lt is = AllPayloads-at payloads i payload all.1 (omega arith) is

-- a walk goes on behind an open block
pub walk_more : (bytes : List ℕ) (at count : ℕ) (before after : List Block) (payload : List ℕ) → OpensWith (drop at bytes) count → payload ≡ take count (drop 5 (drop at bytes)) → after ≡ before ++ (record { place = at; payload = payload }) ∷ [] → after ++ placed_from (at + 5 + count) (open_blocks (drop (at + 5 + count) bytes)) ≡ before ++ placed_from at (open_blocks (drop at bytes))
walk_more bytes at count before after payload o is grows =
    let rest = open_blocks (drop (at + 5 + count) bytes) in
    let size : length payload ≡ count = ap length is ∙ o.size in
    let opens : open_blocks (drop at bytes) ≡ payload ∷ rest = o.first ∙ ap (λ (l : List ℕ). l ∷ open_blocks (drop (5 + count) (drop at bytes))) (sym is) ∙ ap (λ (l : List ℕ). payload ∷ open_blocks l) (drop-drop (5 + count) at bytes ∙ ap (λ (n : ℕ). drop n bytes) (let same : at + (5 + count) ≡ at + 5 + count = omega arith in same)) in
    ap (λ (l : List Block). l ++ placed_from (at + 5 + count) rest) grows
    ∙ append_assoc before ((record { place = at; payload = payload }) ∷ []) (placed_from (at + 5 + count) rest)
    ∙ ap (λ (n : ℕ). before ++ (record { place = at; payload = payload }) ∷ placed_from (at + 5 + n) rest) (sym size)
    ∙ ap (λ (l : List (List ℕ)). before ++ placed_from at l) (sym opens)

pub walk_place : (bytes : List ℕ) (at count : ℕ) → OpensWith (drop at bytes) count → at + 5 + count + length (spelling (open_blocks (drop (at + 5 + count) bytes))) ≡ at + length (spelling (open_blocks (drop at bytes)))
walk_place bytes at count o =
    let payload = take count (drop 5 (drop at bytes)) in
    let rest = open_blocks (drop (at + 5 + count) bytes) in
    let opens : open_blocks (drop at bytes) ≡ payload ∷ rest = o.first ∙ ap (λ (l : List ℕ). payload ∷ open_blocks l) (drop-drop (5 + count) at bytes ∙ ap (λ (n : ℕ). drop n bytes) (let same : at + (5 + count) ≡ at + 5 + count = omega arith in same)) in
    omega (arith, ap (λ (l : List (List ℕ)). length (spelling l)) opens, length-append (block payload) (spelling rest), length-block payload, o.size)
