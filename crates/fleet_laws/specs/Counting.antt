-- How many members of a configuration pass a test, and which numbers of them are quorums.
use Rattle.std.specs.Prelude.{ℕ, suc, ◌≤◌, leb, Bool, cond, List, [], ◌∷◌, length}
use Rattle.rc_base.specs.Quorum.{write_quorum, read_quorum}

-- how many of the members pass the test
abbrev pub count : (ℕ → Bool) → List ℕ → ℕ
count p [] = 0
count p (m ∷ ms) = cond (p m) (suc (count p ms)) (count p ms)

-- those that pass are a write quorum of the configuration
abbrev pub IsWriteQuorum : (ℕ → Bool) → List ℕ → Type 0
IsWriteQuorum p c = write_quorum (length c) ≤ count p c

-- those that pass are a read quorum of the configuration
abbrev pub IsReadQuorum : (ℕ → Bool) → List ℕ → Type 0
IsReadQuorum p c = read_quorum (length c) ≤ count p c

-- those that pass are a write quorum of each configuration
abbrev pub IsWriteQuorumOfEach : (ℕ → Bool) → List (List ℕ) → Type 0
IsWriteQuorumOfEach p [] = Unit {0}
IsWriteQuorumOfEach p (c ∷ cs) = IsWriteQuorum p c × IsWriteQuorumOfEach p cs

-- whether a replica has reached place l, by what each has reached
abbrev pub has_reached : (ℕ → ℕ) → ℕ → ℕ → Bool
has_reached reached l m = leb l (reached m)

-- the quorum number of the configurations: the greatest place that a write quorum of each has reached
pub record IsQuorumNumber (reached : ℕ → ℕ) (cs : List (List ℕ)) (n : ℕ) : Type 0 where
  pub by : IsWriteQuorumOfEach (has_reached reached n) cs
  pub greatest : (l : ℕ) → IsWriteQuorumOfEach (has_reached reached l) cs → l ≤ n
