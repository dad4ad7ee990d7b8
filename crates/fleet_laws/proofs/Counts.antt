-- Counting the members that pass a test.
use Rattle.std.proofs.Common.{◌≡◌, ℕ, suc, ◌+◌, ◌<◌, ◌≤◌, Bool, true, false, List, [], ◌∷◌, length, refl, arith}
use Rattle.std.specs.Prelude.{Contains}
use Rattle.std.proofs.lemmas.Bool.{cond-true, cond-false}
use Rattle.fleet_laws.specs.Counting.{count, IsWriteQuorumOfEach}

pub count_yes : (p : ℕ → Bool) (m : ℕ) (ms : List ℕ) → p m ≡ true → count p (m ∷ ms) ≡ suc (count p ms)
count_yes p m ms e = cond-true (p m) (suc (count p ms)) (count p ms) e

pub count_no : (p : ℕ → Bool) (m : ℕ) (ms : List ℕ) → p m ≡ false → count p (m ∷ ms) ≡ count p ms
count_no p m ms e = cond-false (p m) (suc (count p ms)) (count p ms) e

later_member : (m n : ℕ) (ms : List ℕ) → Contains ms n → Contains (m ∷ ms) n
later_member m n ms c = (suc c.0, omega (arith, c.1), c.2)

meet_step : (p q : ℕ → Bool) (m : ℕ) (ms : List ℕ) (a b : Bool) → p m ≡ a → q m ≡ b
    → (length ms < count p ms + count q ms → (n : ℕ) × Contains ms n × (p n ≡ true) × (q n ≡ true))
    → suc (length ms) < count p (m ∷ ms) + count q (m ∷ ms) → (n : ℕ) × Contains (m ∷ ms) n × (p n ≡ true) × (q n ≡ true)
meet_step p q m ms true true x y rest h = (m, (0, omega arith, refl), x, y)
meet_step p q m ms true false x y rest h = let r = rest (omega (arith, count_yes p m ms x, count_no q m ms y)) in (r.0, later_member m r.0 ms r.1, r.2, r.3)
meet_step p q m ms false true x y rest h = let r = rest (omega (arith, count_no p m ms x, count_yes q m ms y)) in (r.0, later_member m r.0 ms r.1, r.2, r.3)
meet_step p q m ms false false x y rest h = let r = rest (omega (arith, count_no p m ms x, count_no q m ms y)) in (r.0, later_member m r.0 ms r.1, r.2, r.3)

-- two tests that together are passed more often than there are members are both passed by one
pub meet : (p q : ℕ → Bool) (c : List ℕ) → length c < count p c + count q c → (n : ℕ) × Contains c n × (p n ≡ true) × (q n ≡ true)
meet p q [] h = absurd (omega arith)
meet p q (m ∷ ms) h = meet_step p q m ms (p m) (q m) refl refl (meet p q ms) h

count_some : (p : ℕ → Bool) (m : ℕ) (ms : List ℕ) (a : Bool) → p m ≡ a → count p ms ≤ count p (m ∷ ms)
count_some p m ms true x = omega (arith, count_yes p m ms x)
count_some p m ms false x = omega (arith, count_no p m ms x)

more_step : (p q : ℕ → Bool) (m : ℕ) (ms : List ℕ) (a : Bool) → p m ≡ a → (p m ≡ true → q m ≡ true) → count p ms ≤ count q ms
    → count p (m ∷ ms) ≤ count q (m ∷ ms)
more_step p q m ms true x h rest = omega (arith, count_yes p m ms x, count_yes q m ms (h x), rest)
more_step p q m ms false x h rest = omega (arith, count_no p m ms x, count_some q m ms (q m) refl, rest)

pub count_more : (p q : ℕ → Bool) → ((m : ℕ) → p m ≡ true → q m ≡ true) → (c : List ℕ) → count p c ≤ count q c
count_more p q h [] = omega arith
count_more p q h (m ∷ ms) = more_step p q m ms (p m) refl (h m) (count_more p q h ms)

pub quorums_more : (p q : ℕ → Bool) → ((m : ℕ) → p m ≡ true → q m ≡ true) → (cs : List (List ℕ)) → IsWriteQuorumOfEach p cs → IsWriteQuorumOfEach q cs
quorums_more p q h [] w = tt
quorums_more p q h (c ∷ cs) w = (omega (arith, w.0, count_more p q h c), quorums_more p q h cs w.1)
