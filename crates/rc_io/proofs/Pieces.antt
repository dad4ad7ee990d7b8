-- On lists that are read and written piece by piece.
use Rattle.std.proofs.Common.{◌≡◌, ◌∙◌, ℕ, zero, suc, ◌+◌, ◌-◌, ◌≤◌, List, [], ◌∷◌, ◌++◌, length, take, drop, Option, Some, None, Result, Ok, Err, IfOk, refl, sym, ap, arith, append_assoc, zero-add, length-drop}
use Rattle.std.proofs.lemmas.List.{take_all, take-take, take-append-drop, length-take-le, take-append-le, drop-append-le}
use Rattle.std.proofs.lemmas.List.Edits.{take-paste}
use Rattle.std.proofs.lemmas.Slice.{between_is}
use Rattle.std.proofs.Math.Seq.{take-append-add}
use borrow.Rule.Slice.PartMut.{put_mid, post_of}
use Rattle.std.specs.List.{copy_within}
use Rattle.std.specs.Option.{ForSome, option_map}
use Rattle.rc_base.specs.Counts.{Counted, Rose}
use Rattle.rc_io.specs.Window.{Takes}
use Rattle.std.specs.Io.KnownBytes.{append_known}

pub take-add : {X : Type 0} (m n : ℕ) (xs : List X) → take (m + n) xs ≡ take m xs ++ take n (drop m xs)
take-add zero n xs = rw zero-add refl
take-add (suc m) n [] = let e : suc m + n ≡ suc (m + n) = omega arith in rw e (sym (take_all n [] (omega arith)))
take-add (suc m) n (x ∷ xs) = let e : suc m + n ≡ suc (m + n) = omega arith in rw e (ap (λ ys. x ∷ ys) (take-add m n xs))

pub append_known-append_known : (known : Option (List ℕ)) (xs ys : List ℕ) → append_known (append_known known xs) ys ≡ append_known known (xs ++ ys)
append_known-append_known None xs ys = refl
append_known-append_known (Some zs) xs ys = ap (λ l. Some l) (append_assoc zs xs ys)

-- one more piece from the rest of what is written
pub append_known_more : (known known' known'' : Option (List ℕ)) (xs rest : List ℕ) (at n : ℕ) → known' ≡ append_known known (take at xs) → rest ≡ drop at xs → known'' ≡ append_known known' (take n rest) → known'' ≡ append_known known (take (at + n) xs)
append_known_more known known' known'' xs rest at n a b c = c ∙ (ap (λ k. append_known k (take n rest)) a ∙ (append_known-append_known known (take at xs) (take n rest) ∙ (ap (λ r. append_known known (take at xs ++ take n r)) b ∙ ap (append_known known) (sym (take-add at n xs)))))

-- what a buffer holds after its part from `end` on was written, up to n bytes behind that
take-written : (xs ys : List ℕ) (end k n : ℕ) → end ≤ length xs → n ≤ length ys → take (end + n) (put_mid end k xs ys) ≡ take end xs ++ take n ys
take-written xs ys end k n a b =
    let l : length (take end xs) ≡ end = length-take-le end xs a in
    let p : List ℕ = take end xs in
    let t : take (length p + n) (p ++ (ys ++ post_of end k xs)) ≡ p ++ take n (ys ++ post_of end k xs) = take-append-add p (ys ++ post_of end k xs) n in
    ap (λ m. take (m + n) (put_mid end k xs ys)) (sym l) ∙ (t ∙ ap (λ q. p ++ q) (take-append-le n ys (post_of end k xs) b))

pub takes_behind : {E : Type 0} (r : Result ℕ E) (left left' : Option (List ℕ)) (xs ys : List ℕ) (end k : ℕ) → end ≤ length xs → IfOk r (λ n. n ≤ length ys) → IfOk r (λ n. ForSome left (λ bytes. (n ≤ length bytes) × (take n ys ≡ take n bytes))) → IfOk r (λ n. left' ≡ option_map (drop n) left) → IfOk r (λ n. n ≡ 0 → ForSome left (λ bytes. bytes ≡ [])) → IfOk r (λ n. ForSome left (λ bytes. Takes n bytes left' (take end xs) (take (end + n) (put_mid end k xs ys))))
takes_behind (Ok n) left left' xs ys end k a w t l e = λ bytes is. record {
  held = take-written xs ys end k n a w ∙ ap (λ q. take end xs ++ q) (t bytes is).1;
  left = l ∙ ap (option_map (drop n)) is;
  end = λ z. e z bytes is;
}
takes_behind (Err x) left left' xs ys end k a w t l e = tt

-- the same from a place on
pub takes-drop : (n : ℕ) (bytes : List ℕ) (left' : Option (List ℕ)) (old new : List ℕ) (at : ℕ) → at ≤ length old → Takes n bytes left' old new → Takes n bytes left' (drop at old) (drop at new)
takes-drop n bytes left' old new at a t = record { held = ap (drop at) t.held ∙ drop-append-le at old (take n bytes) a; left = t.left; end = t.end }

-- a part of a list that was copied to its front
pub take-copied : (xs : List ℕ) (at end : ℕ) → at ≤ end → end ≤ length xs → take (end - at) (copy_within xs at end 0) ≡ drop at (take end xs)
take-copied xs at end a b =
    let n : ℕ = end - at in
    let l : n ≤ length (drop at xs) = omega (arith, length-drop at xs) in
    ap (λ m. take m (copy_within xs at end 0)) (sym (zero-add n)) ∙ (take-paste xs 0 (drop at xs) n (omega arith) l ∙ between_is xs at end)

-- the part of a buffer from `at` to `end`, where more was written behind it
pub take-drop_front : (xs ys : List ℕ) (at end n : ℕ) → take end ys ≡ take end xs → take (end - at) (drop at (take (end + n) ys)) ≡ drop at (take end xs)
take-drop_front xs ys at end n h = between_is (take (end + n) ys) at end ∙ ap (drop at) (take-take end (end + n) ys (omega arith) ∙ h)

pub length-part : (xs : List ℕ) (at end : ℕ) → end ≤ length xs → length (drop at (take end xs)) ≡ end - at
length-part xs at end h = length-drop at (take end xs) ∙ ap (λ m. m - at) (length-take-le end xs h)

-- what a window holds after a piece came behind it
pub takes_part : (n : ℕ) (bytes : List ℕ) (left' : Option (List ℕ)) (value xs ys zs : List ℕ) (at end : ℕ) → value ≡ drop at (take end xs) → zs ≡ ys → at ≤ end → end ≤ length xs → Takes n bytes left' (take end xs) (take (end + n) ys) → Takes n bytes left' value (drop at (take (end + n) zs))
takes_part n bytes left' value xs ys zs at end a b c d t =
    let l = length-take-le end xs d in
    let u = takes-drop n bytes left' (take end xs) (take (end + n) ys) at (omega arith) t in
    record { held = ap (λ q. drop at (take (end + n) q)) b ∙ (u.held ∙ ap (λ q. q ++ take n bytes) (sym a)); left = u.left; end = u.end }

pub front_part : (n : ℕ) (value xs ys zs : List ℕ) (at end : ℕ) → value ≡ drop at (take end xs) → zs ≡ ys → end ≤ length xs → take end ys ≡ take end xs → take (length value) (drop at (take (end + n) zs)) ≡ value
front_part n value xs ys zs at end a b d t =
    let k : length value ≡ end - at = ap length a ∙ length-part xs at end d in
    ap (λ q. take (length value) (drop at (take (end + n) q))) b ∙ (ap (λ m. take m (drop at (take (end + n) ys))) k ∙ (take-drop_front xs ys at end n t ∙ sym a))

-- Nothing is lost in a piece.
pub takes_same : (n : ℕ) (bytes : List ℕ) (left' : Option (List ℕ)) (old new : List ℕ) → Takes n bytes left' old new → new ++ drop n bytes ≡ old ++ bytes
takes_same n bytes left' old new t = ap (λ q. q ++ drop n bytes) t.held ∙ (append_assoc old (take n bytes) (drop n bytes) ∙ ap (λ q. old ++ q) (take-append-drop n bytes))

pub same_from_front : (xs ys : List ℕ) (n : ℕ) → take (length xs) ys ≡ xs → length ys ≡ length xs + n → n ≡ 0 → ys ≡ xs
same_from_front xs ys n h l z = sym (take_all (length xs) ys (omega arith)) ∙ h

-- a fault that comes later in a call
pub counted-later : (before mid now : ℕ) (told : Type 0) → before ≤ mid → mid ≤ now → Rose mid now → Counted before now told
counted-later before mid now told a b r = record { later = omega (arith, a, b); rose = λ _. omega (arith, a, r) }
