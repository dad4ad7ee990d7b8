-- On forks and modes.
use Rattle.std.proofs.Common.{◌≡◌, ℕ, ◌<◌, ◌≤◌, List, true, false, ◌&&◌, eqb, max, refl, sym, ap, subst, ◌∙◌, inl, inr, arith}
use Rattle.std.proofs.lemmas.Bool.{cases_lt, cases_eq, eq-eqb}
use Rattle.std.proofs.lemmas.Bool.Decides.{nat_tests}
use Rattle.rc_base.specs.declared.ids.Epoch.{Epoch}
use Rattle.rc_base.specs.declared.ids.Lsn.{Lsn}
use Rattle.progress_vector.specs.declared.vector.Vector.{Vector}
use Rattle.progress_vector.specs.declared.mode.Mode.TheVariants.{Same, Partial, Undo, Full}
use Rattle.progress_vector.specs.Vectors.{Entry, origin, last_at, epoch_at}
use Rattle.progress_vector.specs.Modes.{IsCommon, IsFork, IsMode, mode_of, OneMode}
use Rattle.progress_vector.proofs.Epochs.{stays, last_at_below}

-- where the entries agree with a vector's up to a position
pub record Agrees (entries whole : List Entry) (at : ℕ) : Type 0 where
  pub up_to : (lsn : ℕ) → lsn ≤ at → last_at origin entries lsn ≡ last_at origin whole lsn

-- where two epochs differ, the common positions stand below the later start
pub below_start : (source target : Vector) (ours theirs : List Entry) (at start : ℕ) → Agrees ours source.entries at → Agrees theirs target.entries at → (epoch_at ours at ≡ epoch_at theirs at → ⊥) → (last_at origin ours at).1.0 ≤ start → (last_at origin theirs at).1.0 ≤ start → (lsn : ℕ) → lsn ≤ at → IsCommon source target lsn → lsn < start
below_start source target ours theirs at start a b apart s t lsn le common =
    elim (cases_lt lsn start) [
      | inl lt ↦ lt
      | inr ge ↦ absurd (apart
          (ap (λ (e : Entry). e.0) (sym (stays ours lsn at le (omega arith)) ∙ a.up_to lsn le)
          ∙ common.same
          ∙ ap (λ (e : Entry). e.0) (sym (b.up_to lsn le) ∙ stays theirs lsn at le (omega arith))))
    ]

apart_epochs : (a b : Epoch) → false ≡ (eqb a.loss b.loss && eqb a.number b.number) → a ≡ b → ⊥
apart_epochs a b h e =
    let l : eqb a.loss b.loss ≡ true = eq-eqb a.loss b.loss (ap (λ (x : Epoch). x.loss) e) in
    let n : eqb a.number b.number ≡ true = eq-eqb a.number b.number (ap (λ (x : Epoch). x.number) e) in
    let k : false ≡ true = rw (l, n) at h in
    cc

-- what one turn finds: the common positions stand below the later start, which isn't above the position looked at
pub record Turn (source target : Vector) (at start : ℕ) : Type 0 where
  pub within : start ≤ at
  pub below : (lsn : ℕ) → IsCommon source target lsn → lsn < start

pub turn : (source target : Vector) (ours theirs : List Entry) (at start : ℕ) (a b : Entry) → Agrees ours source.entries at → Agrees theirs target.entries at → a ≡ last_at origin ours at → b ≡ last_at origin theirs at → false ≡ (eqb a.0.loss b.0.loss && eqb a.0.number b.0.number) → start ≡ max a.1.0 b.1.0 → ((lsn : ℕ) → IsCommon source target lsn → lsn ≤ at) → Turn source target at start
turn source target ours theirs at start a b s t ea eb differ e below =
    let la : a.1.0 ≤ at = subst (λ (x : Entry). x.1.0 ≤ at) (sym ea) (last_at_below ours at) in
    let lb : b.1.0 ≤ at = subst (λ (x : Entry). x.1.0 ≤ at) (sym eb) (last_at_below theirs at) in
    let sa : (last_at origin ours at).1.0 ≤ start = subst (λ (x : Entry). x.1.0 ≤ start) ea (omega arith) in
    let sb : (last_at origin theirs at).1.0 ≤ start = subst (λ (x : Entry). x.1.0 ≤ start) eb (omega arith) in
    record {
      within = omega arith;
      below = λ lsn common. below_start source target ours theirs at start s t
          (λ same. apart_epochs a.0 b.0 differ (ap (λ (x : Entry). x.0) ea ∙ same ∙ ap (λ (x : Entry). x.0) (sym eb)))
          sa sb lsn (below lsn common) common;
    }

pub lower : (entries kept whole : List Entry) (at at' : ℕ) → at' ≤ at → Agrees entries whole at → ((lsn : ℕ) → lsn ≤ at → last_at origin kept lsn ≡ last_at origin entries lsn) → Agrees kept whole at'
lower entries kept whole at at' le a same = record { up_to = λ lsn below. let h : lsn ≤ at = omega arith in same lsn h ∙ a.up_to lsn h }

pub mode_is : (source target : Vector) (at : Lsn) → IsFork source target at.0 → IsMode source target (mode_of source.last target.last at)
mode_is source target at f =
    elim (cases_eq at.0 source.last.0) [
      | inl same ↦ rw (eq-eqb at.0 source.last.0 same) (subst (IsFork source target) same f)
      | inr other ↦ let differs : eqb at.0 source.last.0 ≡ false = grind (arith, nat_tests) in rw differs (elim (cases_eq at.0 target.last.0) [
        | inl same ↦ rw (eq-eqb at.0 target.last.0 same) (f, ap (λ (n : ℕ). let l : Lsn = record { 0 = n } in l) same, omega (arith, f.common.in_source))
        | inr apart ↦ let differs : eqb at.0 target.last.0 ≡ false = grind (arith, nat_tests) in rw differs (f, omega (arith, f.common.in_source), omega (arith, f.common.in_target))
      ])
    ]

one_fork : (source target : Vector) (a b : ℕ) → IsFork source target a → IsFork source target b → a ≡ b
one_fork source target a b f g = omega (arith, f.greatest b g.common, g.greatest a f.common)

same_lsn : (a b : Lsn) → a.0 ≡ b.0 → a ≡ b
same_lsn a b e = ap (λ (n : ℕ). let l : Lsn = record { 0 = n } in l) e

pub one_mode_holds : OneMode
one_mode_holds s t Same Same m n = refl
one_mode_holds s t Same (Partial b) m n = absurd (omega (arith, one_fork s t s.last.0 b.0 m n.0, ap (λ (l : Lsn). l.0) n.1, n.2))
one_mode_holds s t Same (Undo b) m n = absurd (omega (arith, one_fork s t s.last.0 b.0 m n.0, n.1))
one_mode_holds s t Same Full m n = absurd (n s.last.0 m.common)
one_mode_holds s t (Partial a) Same m n = absurd (omega (arith, one_fork s t a.0 s.last.0 m.0 n, ap (λ (l : Lsn). l.0) m.1, m.2))
one_mode_holds s t (Partial a) (Partial b) m n = ap Partial (m.1 ∙ sym n.1)
one_mode_holds s t (Partial a) (Undo b) m n = absurd (omega (arith, one_fork s t a.0 b.0 m.0 n.0, ap (λ (l : Lsn). l.0) m.1, n.2))
one_mode_holds s t (Partial a) Full m n = absurd (n a.0 m.0.common)
one_mode_holds s t (Undo a) Same m n = absurd (omega (arith, one_fork s t a.0 s.last.0 m.0 n, m.1))
one_mode_holds s t (Undo a) (Partial b) m n = absurd (omega (arith, one_fork s t a.0 b.0 m.0 n.0, ap (λ (l : Lsn). l.0) n.1, m.2))
one_mode_holds s t (Undo a) (Undo b) m n = ap Undo (same_lsn a b (one_fork s t a.0 b.0 m.0 n.0))
one_mode_holds s t (Undo a) Full m n = absurd (n a.0 m.0.common)
one_mode_holds s t Full Same m n = absurd (m s.last.0 n.common)
one_mode_holds s t Full (Partial b) m n = absurd (m b.0 n.0.common)
one_mode_holds s t Full (Undo b) m n = absurd (m b.0 n.0.common)
one_mode_holds s t Full Full m n = refl
