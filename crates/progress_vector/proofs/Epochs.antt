-- On the last entry at or below a position.
use Rattle.std.proofs.Common.{◌≡◌, ℕ, ◌<◌, ◌≤◌, List, [], ◌∷◌, ◌++◌, Bool, cond, leb, filter, refl, sym, subst, inl, inr, arith}
use Rattle.std.proofs.lemmas.Bool.{cases_lt, lt-leb, le-leb}
use Rattle.progress_vector.specs.Vectors.{Entry, origin, last_at}

-- one more entry behind the others
pub last_at_push : (before : Entry) (entries : List Entry) (entry : Entry) (lsn : ℕ) → last_at before (entries ++ entry ∷ []) lsn ≡ cond (leb entry.1.0 lsn) entry (last_at before entries lsn)
last_at_push before [] entry lsn = refl
last_at_push before (e ∷ es) entry lsn = last_at_push (cond (leb e.1.0 lsn) e before) es entry lsn

one_choice : (o p e : Entry) (x at : ℕ) → x ≤ at → (p.1.0 ≤ x → o ≡ p) → (cond (leb e.1.0 at) e p).1.0 ≤ x → cond (leb e.1.0 x) e o ≡ cond (leb e.1.0 at) e p
one_choice o p e x at le same below =
    elim (cases_lt x e.1.0) [
      | inl lt ↦ elim (cases_lt at e.1.0) [
        | inl above ↦ rw (lt-leb e.1.0 x lt, lt-leb e.1.0 at above) (same (rw (lt-leb e.1.0 at above) at below))
        | inr under ↦ let h : e.1.0 ≤ x = rw (le-leb e.1.0 at under) at below in absurd (omega arith)
      ]
      | inr ge ↦ let under : e.1.0 ≤ at = omega arith in rw (le-leb e.1.0 x ge, le-leb e.1.0 at under) refl
    ]

stays_from : (o p : Entry) (entries : List Entry) (x at : ℕ) → x ≤ at → (p.1.0 ≤ x → o ≡ p) → (last_at p entries at).1.0 ≤ x → last_at o entries x ≡ last_at p entries at
stays_from o p [] x at le same below = same below
stays_from o p (e ∷ es) x at le same below =
    stays_from (cond (leb e.1.0 x) e o) (cond (leb e.1.0 at) e p) es x at le (one_choice o p e x at le same) below

-- from the start of the last entry at or below a position on, up to that position, it stays the last
pub stays : (entries : List Entry) (x at : ℕ) → x ≤ at → (last_at origin entries at).1.0 ≤ x → last_at origin entries x ≡ last_at origin entries at
stays entries x at le below = stays_from origin origin entries x at le (λ _. refl) below

-- without the entries above a position, the positions to it keep their last entries
pub last_at_filter : (before : Entry) (entries : List Entry) (lsn x : ℕ) → x ≤ lsn → last_at before (filter (λ entry. leb entry.1.0 lsn) entries) x ≡ last_at before entries x
last_at_filter before [] lsn x le = refl
last_at_filter before (e ∷ es) lsn x le =
    elim (cases_lt lsn e.1.0) [
      | inl lt ↦ let above : x < e.1.0 = omega arith in rw (lt-leb e.1.0 lsn lt, lt-leb e.1.0 x above) (last_at_filter before es lsn x le)
      | inr ge ↦ rw (le-leb e.1.0 lsn ge) (last_at_filter (cond (leb e.1.0 x) e before) es lsn x le)
    ]

below_from : (before : Entry) (entries : List Entry) (lsn : ℕ) → before.1.0 ≤ lsn → (last_at before entries lsn).1.0 ≤ lsn
below_from before [] lsn le = le
below_from before (e ∷ es) lsn le =
    elim (cases_lt lsn e.1.0) [
      | inl lt ↦ subst (λ (b : Bool). (last_at (cond b e before) es lsn).1.0 ≤ lsn) (sym (lt-leb e.1.0 lsn lt)) (below_from before es lsn le)
      | inr ge ↦ subst (λ (b : Bool). (last_at (cond b e before) es lsn).1.0 ≤ lsn) (sym (le-leb e.1.0 lsn ge)) (below_from e es lsn ge)
    ]

-- it starts at or below the position
pub last_at_below : (entries : List Entry) (lsn : ℕ) → (last_at origin entries lsn).1.0 ≤ lsn
last_at_below entries lsn = below_from origin entries lsn (omega arith)
