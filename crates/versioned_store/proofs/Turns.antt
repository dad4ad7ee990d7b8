-- One turn of an undo and of a merge.
use Rattle.std.proofs.Common.{◌≡◌, ◌∙◌, ℕ, ◌<◌, ◌≤◌, List, [], ◌∷◌, ◌++◌, All, refl, sym, ap, subst, arith}
use Rattle.std.specs.List.{AllByRecursion}
use Rattle.std.specs.List.Sorted.{IsNonDecreasingBy}
use Rattle.std.proofs.lemmas.Bool.{le-leb}
use Rattle.versioned_store.specs.declared.journal.JournalEntry.{JournalEntry}
use Rattle.versioned_store.specs.Chains.{without_newest, with_base}
use Rattle.versioned_store.specs.Stores.{Chains, history_at, HasChain, Tells, count_at}
use Rattle.versioned_store.specs.Loops.{AgreesAt}
use Rattle.versioned_store.proofs.Latest.{Rise, all_from, all_by_place, rise_from, rise_by_place, latest_above}
use Rattle.versioned_store.proofs.Changes.{entry_at, back_tells, back_value, front_tells, front_value}

abbrev pub entry_count : JournalEntry → ℕ
entry_count entry = entry.count

-- before the first turn
pub agrees_first : (InView : ℕ → Type 0) (count : ℕ) (chains : Chains) (journal : List JournalEntry) → Tells journal chains → IsNonDecreasingBy entry_at journal → AgreesAt InView count chains journal count chains journal
agrees_first InView count chains journal tells rises = record {
  values = λ w view key. refl;
  counts = λ w view. refl;
  tells = tells;
  rises = rises;
  reaches = λ m h. h;
}

all_front : (P : JournalEntry → Type 0) (front : List JournalEntry) (last : JournalEntry) → AllByRecursion P (front ++ last ∷ []) → AllByRecursion P front
all_front P [] last h = tt
all_front P (e ∷ es) last h = (h.0, all_front P es last h.1)

rise_front : (front : List JournalEntry) (last : JournalEntry) → Rise entry_at (front ++ last ∷ []) → Rise entry_at front
rise_front [] last h = tt
rise_front (e ∷ es) last h = (all_front (λ (later : JournalEntry). entry_at e ≤ entry_at later) es last h.0, rise_front es last h.1)

-- the last change goes, which stands above the versions in view
pub back_turn : (v count : ℕ) (old : Chains) (old_journal : List JournalEntry) (chains new : Chains) (journal front : List JournalEntry) (last : JournalEntry)
    → AgreesAt (λ w. w ≤ v) count old old_journal count chains journal → journal ≡ front ++ last ∷ [] → v < entry_at last → HasChain chains new last.key (without_newest (history_at last.key chains))
    → AgreesAt (λ w. w ≤ v) count old old_journal count new front
back_turn v count old old_journal chains new journal front last agrees split above has =
    let tells : Tells (front ++ last ∷ []) chains = subst (λ (l : List JournalEntry). Tells l chains) split agrees.tells in
    record {
      values = λ w view key. back_value chains new front last tells has w key (omega (arith, view, above)) ∙ agrees.values w view key;
      counts = λ w view. sym (latest_above entry_at entry_count w count front last (omega (arith, view, above))) ∙ ap (λ (l : List JournalEntry). count_at count l w) (sym split) ∙ agrees.counts w view;
      tells = back_tells chains new front last tells has;
      rises = rise_by_place entry_at front (rise_front front last (rise_from entry_at (front ++ last ∷ []) (subst (λ (l : List JournalEntry). IsNonDecreasingBy entry_at l) split agrees.rises)));
      reaches = λ m h. all_by_place entry_at (λ (e : JournalEntry). entry_at e ≤ m) front (all_front (λ (e : JournalEntry). entry_at e ≤ m) front last (all_from entry_at (λ (e : JournalEntry). entry_at e ≤ m) (front ++ last ∷ []) (subst (λ (l : List JournalEntry). All (λ (e : JournalEntry). entry_at e ≤ m) l) split (agrees.reaches m h))));
    }

-- the first change goes into the value at the floor, which stands at or below the versions in view
pub front_turn : (v old_count count : ℕ) (old : Chains) (old_journal : List JournalEntry) (chains new : Chains) (journal rest : List JournalEntry) (first : JournalEntry)
    → AgreesAt (λ w. v ≤ w) old_count old old_journal count chains journal → journal ≡ first ∷ rest → entry_at first ≤ v → HasChain chains new first.key (with_base (history_at first.key chains))
    → AgreesAt (λ w. v ≤ w) old_count old old_journal first.count new rest
front_turn v old_count count old old_journal chains new journal rest first agrees split within has =
    let tells : Tells (first ∷ rest) chains = subst (λ (l : List JournalEntry). Tells l chains) split agrees.tells in
    let rises : IsNonDecreasingBy entry_at (first ∷ rest) = subst (λ (l : List JournalEntry). IsNonDecreasingBy entry_at l) split agrees.rises in
    record {
      values = λ w view key. front_value chains new rest first tells has w key (omega (arith, view, within)) ∙ agrees.values w view key;
      counts = λ w view. counted w first.count count first rest (omega (arith, view, within)) ∙ ap (λ (l : List JournalEntry). count_at count l w) (sym split) ∙ agrees.counts w view;
      tells = front_tells chains new rest first tells has;
      rises = rise_by_place entry_at rest (rise_from entry_at (first ∷ rest) rises).1;
      reaches = λ m h. all_by_place entry_at (λ (e : JournalEntry). entry_at e ≤ m) rest (all_from entry_at (λ (e : JournalEntry). entry_at e ≤ m) (first ∷ rest) (subst (λ (l : List JournalEntry). All (λ (e : JournalEntry). entry_at e ≤ m) l) split (agrees.reaches m h))).1;
    }
  where
    counted : (w n count : ℕ) (first : JournalEntry) (rest : List JournalEntry) → entry_at first ≤ w → count_at first.count rest w ≡ count_at count (first ∷ rest) w
    counted w n count first rest le = rw (le-leb (entry_at first) w le) refl
