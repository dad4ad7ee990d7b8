-- The form of a vector stays.
use Rattle.std.proofs.Common.{ℕ, ◌+◌, ◌≤◌, List, [], ◌∷◌, ◌++◌, leb, filter, inl, inr, arith}
use Rattle.std.proofs.lemmas.Bool.{cases_lt, lt-leb, le-leb}
use Rattle.std.specs.List.{AllByRecursion}
use Rattle.rc_base.specs.declared.ids.Epoch.{Epoch}
use Rattle.rc_base.specs.declared.ids.Lsn.{Lsn}
use Rattle.progress_vector.specs.declared.vector.Vector.{Vector}
use Rattle.progress_vector.specs.Vectors.{Entry, IsEpochBelow, IsEntryBelow, Rise, HasForm, cut, advanced, started}

all_kept : (P Q : Entry → Type 0) (lsn : ℕ) → ((e : Entry) → e.1.0 ≤ lsn → P e → Q e) → (entries : List Entry) → AllByRecursion P entries → AllByRecursion Q (filter (λ entry. leb entry.1.0 lsn) entries)
all_kept P Q lsn f [] h = tt
all_kept P Q lsn f (e ∷ es) h =
    elim (cases_lt lsn e.1.0) [
      | inl lt ↦ rw (lt-leb e.1.0 lsn lt) (all_kept P Q lsn f es h.1)
      | inr ge ↦ rw (le-leb e.1.0 lsn ge) (f e ge h.0, all_kept P Q lsn f es h.1)
    ]

rise_kept : (lsn : ℕ) (entries : List Entry) → Rise entries → Rise (filter (λ entry. leb entry.1.0 lsn) entries)
rise_kept lsn [] h = tt
rise_kept lsn (e ∷ es) h =
    elim (cases_lt lsn e.1.0) [
      | inl lt ↦ rw (lt-leb e.1.0 lsn lt) (rise_kept lsn es h.1)
      | inr ge ↦ rw (le-leb e.1.0 lsn ge) (all_kept (IsEntryBelow e) (IsEntryBelow e) lsn (λ f _ p. p) es h.0, rise_kept lsn es h.1)
    ]

pub cut_form : (vector : Vector) (lsn : Lsn) → HasForm vector → HasForm (cut vector lsn)
cut_form vector lsn h = record {
  rise = rise_kept lsn.0 vector.entries h.rise;
  within = all_kept (λ e. (1 ≤ e.1.0) × (e.1.0 ≤ vector.last.0)) (λ e. (1 ≤ e.1.0) × (e.1.0 ≤ lsn.0)) lsn.0 (λ e le p. (p.0, le)) vector.entries h.within;
}

all_map : (P Q : Entry → Type 0) → ((e : Entry) → P e → Q e) → (entries : List Entry) → AllByRecursion P entries → AllByRecursion Q entries
all_map P Q f [] h = tt
all_map P Q f (e ∷ es) h = (f e h.0, all_map P Q f es h.1)

all_both : (P Q R : Entry → Type 0) → ((e : Entry) → P e → Q e → R e) → (entries : List Entry) → AllByRecursion P entries → AllByRecursion Q entries → AllByRecursion R entries
all_both P Q R f [] h k = tt
all_both P Q R f (e ∷ es) h k = (f e h.0 k.0, all_both P Q R f es h.1 k.1)

all_push : (P : Entry → Type 0) (entries : List Entry) (entry : Entry) → AllByRecursion P entries → P entry → AllByRecursion P (entries ++ entry ∷ [])
all_push P [] entry h p = (p, tt)
all_push P (e ∷ es) entry h p = (h.0, all_push P es entry h.1 p)

rise_push : (entries : List Entry) (entry : Entry) → Rise entries → AllByRecursion (λ e. IsEntryBelow e entry) entries → Rise (entries ++ entry ∷ [])
rise_push [] entry h k = (tt, tt)
rise_push (e ∷ es) entry h k = (all_push (IsEntryBelow e) es entry h.0 k.0, rise_push es entry h.1 k.1)

pub advanced_form : (vector : Vector) → HasForm vector → HasForm (advanced vector)
advanced_form vector h = record {
  rise = h.rise;
  within = all_map (λ e. (1 ≤ e.1.0) × (e.1.0 ≤ vector.last.0)) (λ e. (1 ≤ e.1.0) × (e.1.0 ≤ vector.last.0 + 1)) (λ e p. (p.0, omega arith)) vector.entries h.within;
}

pub started_form : (vector : Vector) (epoch : Epoch) → AllByRecursion (λ (entry : Entry). IsEpochBelow entry.0 epoch) vector.entries → HasForm vector → HasForm (started vector epoch)
started_form vector epoch above h =
    let next : Lsn = record { 0 = vector.last.0 + 1 } in
    record {
      rise = rise_push vector.entries (epoch, next) h.rise
          (all_both (λ (e : Entry). IsEpochBelow e.0 epoch) (λ e. (1 ≤ e.1.0) × (e.1.0 ≤ vector.last.0)) (λ e. IsEntryBelow e (epoch, next)) (λ e below within. (below, omega arith)) vector.entries above h.within);
      within = all_push (λ e. (1 ≤ e.1.0) × (e.1.0 ≤ vector.last.0 + 1)) vector.entries (epoch, next)
          (all_map (λ e. (1 ≤ e.1.0) × (e.1.0 ≤ vector.last.0)) (λ e. (1 ≤ e.1.0) × (e.1.0 ≤ vector.last.0 + 1)) (λ e p. (p.0, omega arith)) vector.entries h.within)
          (omega arith, omega arith);
    }
