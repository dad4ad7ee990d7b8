-- Writes over bytes.
use Rattle.std.proofs.Common.{◌≡◌, inl, inr, ℕ, ◌+◌, ◌-◌, ◌≤◌, List, ◌++◌, length, take, drop, replicate, sym, ◌∙◌, ap, arith, length-append}
use Rattle.std.proofs.lemmas.List.{append-nil, append_assoc, take_all, drop_all, drop-drop, length-take-le, length-drop, length-replicate, take-append-le, replicate-append-replicate}
use Rattle.std.proofs.lemmas.Bool.{cases_lt}
use borrow.Rule.Slice.PartMut.{put_mid}
use Rattle.disk_model.specs.Disk.{written}
use Rattle.disk_model.specs.Changes.{padded}

-- a write to a part of a vector's bytes
pub mid_write : (bytes piece : List ℕ) (at k n : ℕ) → n ≡ length bytes → at + k ≤ n → length piece ≡ k → take n (put_mid at k bytes piece ++ drop (length (put_mid at k bytes piece)) bytes) ≡ take at bytes ++ piece ++ drop (at + k) bytes
mid_write bytes piece at k n is within long =
    let whole : put_mid at k bytes piece ≡ take at bytes ++ piece ++ drop (at + k) bytes = ap (λ (l : List ℕ). take at bytes ++ (piece ++ l)) (drop-drop k at bytes) ∙ sym (append_assoc (take at bytes) piece (drop (at + k) bytes)) in
    let size : length (put_mid at k bytes piece) ≡ length bytes = ap length whole ∙ omega (arith, length-append (take at bytes ++ piece) (drop (at + k) bytes), length-append (take at bytes) piece, length-take-le at bytes (omega arith), length-drop (at + k) bytes) in
    ap (λ (l : List ℕ). take n (put_mid at k bytes piece ++ l)) (drop_all (length (put_mid at k bytes piece)) bytes (omega arith))
    ∙ ap (λ (l : List ℕ). take n l) (append-nil (put_mid at k bytes piece))
    ∙ take_all n (put_mid at k bytes piece) (omega arith) ∙ whole

-- bytes behind the place of a write, as far as the write reaches, don't show
pub written_behind : (front back piece : List ℕ) (at : ℕ) → at ≤ length front → length front + length back ≤ at + length piece → written at piece (front ++ back) ≡ written at piece front
written_behind front back piece at within short =
    ap (λ (l : List ℕ). l ++ piece ++ drop (at + length piece) (front ++ back)) (take-append-le at front back within)
    ∙ ap (λ (l : List ℕ). take at front ++ piece ++ l) (drop_all (at + length piece) (front ++ back) (omega (arith, length-append front back)) ∙ sym (drop_all (at + length piece) front (omega arith)))

-- a write to bytes that were made long enough for it
pub written_filled : (old piece : List ℕ) (at : ℕ) → length old ≤ at + length piece → written at piece (old ++ replicate (at + length piece - length old) 165) ≡ written at piece (padded at old)
written_filled old piece at short =
    let gap = at - length old in
    let more = (at + length piece - length old) - gap in
    let parts : replicate (at + length piece - length old) 165 ≡ replicate gap 165 ++ replicate more 165 =
    ap (λ (n : ℕ). replicate n 165) (omega arith) ∙ sym (replicate-append-replicate gap more 165) in
    ap (λ (l : List ℕ). written at piece (old ++ l)) parts
    ∙ ap (λ (l : List ℕ). written at piece l) (sym (append_assoc old (replicate gap 165) (replicate more 165)))
    ∙ written_behind (padded at old) (replicate more 165) piece at (omega (arith, length-append old (replicate gap 165), length-replicate {A = ℕ} gap 165)) (omega (arith, length-append old (replicate gap 165), length-replicate {A = ℕ} gap 165, length-replicate {A = ℕ} more 165))

-- nothing is filled where the bytes reach the place
pub padded_none : (old : List ℕ) (at : ℕ) → at ≤ length old → padded at old ≡ old
padded_none old at within =
    let none : at - length old ≡ 0 = omega arith in
    ap (λ (n : ℕ). old ++ replicate n 165) none ∙ append-nil old

-- bytes are filled up to the end of a write, and then written over
pub overwritten : (old grown lent new piece : List ℕ) (at end n : ℕ) → grown ≡ old ++ replicate (end - length old) 165 → lent ≡ grown → new ≡ piece → end ≡ at + length piece → n ≡ length grown → take n (put_mid at (end - at) lent new ++ drop (length (put_mid at (end - at) lent new)) grown) ≡ written at piece (padded at old)
overwritten old grown lent new piece at end n grows is_lent is_new ends long =
    let size : length grown ≡ length old + (end - length old) = ap length grows ∙ length-append old (replicate (end - length old) 165) ∙ ap (λ (k : ℕ). length old + k) (length-replicate {A = ℕ} (end - length old) 165) in
    let count : length new ≡ end - at = omega (arith, ap length is_new) in
    ap (λ (l : List ℕ). take n (put_mid at (end - at) l new ++ drop (length (put_mid at (end - at) l new)) grown)) is_lent
    ∙ mid_write grown new at (end - at) n long (omega arith) count
    ∙ ap (λ (l : List ℕ). take at grown ++ l ++ drop (at + (end - at)) grown) is_new
    ∙ ap (λ (k : ℕ). take at grown ++ piece ++ drop k grown) (let same : at + (end - at) ≡ at + length piece = omega arith in same)
    ∙ ap (λ (l : List ℕ). written at piece l) grows
    ∙ filled
  where
    filled : written at piece (old ++ replicate (end - length old) 165) ≡ written at piece (padded at old)
    filled = elim (cases_lt (length old) end) [
      | inl short ↦ ap (λ (k : ℕ). written at piece (old ++ replicate (k - length old) 165)) ends ∙ written_filled old piece at (omega arith)
      | inr enough ↦ ap (λ (l : List ℕ). written at piece l) (padded_none old end enough ∙ sym (padded_none old at (omega arith)))
    ]
