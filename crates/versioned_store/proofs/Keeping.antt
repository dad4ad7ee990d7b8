-- What each change of a store keeps.
use Rattle.std.proofs.Common.{◌≡◌, ◌∙◌, ℕ, ◌<◌, ◌≤◌, min, List, [], ◌∷◌, ◌++◌, length, All, sym, ap, subst, inl, inr, arith}
use Rattle.std.proofs.lemmas.Bool.{cases_lt}
use Rattle.rc_base.specs.declared.ids.Lsn.{Lsn}
use Rattle.versioned_store.specs.declared.chain.Change.{Change}
use Rattle.versioned_store.specs.declared.journal.JournalEntry.{JournalEntry}
use Rattle.versioned_store.specs.Chains.{with_change}
use Rattle.versioned_store.specs.Stores.{Chains, Store, IsStore, history_at, pairs_at, changed, HasChain, count_at}
use Rattle.versioned_store.specs.Loops.{AgreesAt}
use Rattle.versioned_store.proofs.Latest.{Reach, reach_more, reach_one, rise_one, all_from, all_by_place, rise_from, rise_by_place, latest_above, latest_within, latest_rests}
use Rattle.versioned_store.proofs.Entries.{Rising}
use Rattle.versioned_store.proofs.Pairs.{same_pairs}
use Rattle.versioned_store.proofs.Changes.{entry_at, put_tells, put_below, put_from, pairs_rest}
use Rattle.versioned_store.proofs.Turns.{entry_count}

pub reaches_of : (m : ℕ) (journal : List JournalEntry) → All (λ (entry : JournalEntry). entry_at entry ≤ m) journal → Reach entry_at m journal
reaches_of m journal h = all_from entry_at (λ (entry : JournalEntry). entry_at entry ≤ m) journal h

reached : (m : ℕ) (journal : List JournalEntry) → Reach entry_at m journal → All (λ (entry : JournalEntry). entry_at entry ≤ m) journal
reached m journal h = all_by_place entry_at (λ (entry : JournalEntry). entry_at entry ≤ m) journal h

-- ---- a put

module _ (s : Store) (new : Chains) (entry : JournalEntry) (change : Change) (is : IsStore s) (above : s.top.0 ≤ entry_at entry) (same : change.at ≡ entry.at) (has : HasChain s.chains new entry.key (with_change (history_at entry.key s.chains) change)) (old_rising : Rising s.chains) (new_rising : Rising new) where
  pub put_sees_below : (w : ℕ) → w < entry_at entry → pairs_at new w ≡ pairs_at s.chains w
  put_sees_below w lt = put_below s.chains new s.journal entry change same is.tells has w old_rising new_rising lt

  pub put_sees_from : (w : ℕ) → entry_at entry ≤ w → pairs_at new w ≡ changed entry.key change.value (pairs_at s.chains s.top.0)
  put_sees_from w le = put_from s.chains new s.journal entry change same is.tells has s.top.0 w old_rising new_rising (reaches_of s.top.0 s.journal is.reaches) (omega (arith, above, le)) le

  pub put_keeps : entry.count ≡ length (changed entry.key change.value (pairs_at s.chains s.top.0)) → IsStore (record s { chains = new; journal = s.journal ++ entry ∷ []; top = entry.at })
  put_keeps counted = record {
    in_order = omega (arith, is.in_order, above);
    rises = rise_by_place entry_at (s.journal ++ entry ∷ []) (rise_one entry_at s.journal entry (rise_from entry_at s.journal is.rises) (reach_more entry_at s.top.0 (entry_at entry) s.journal above (reaches_of s.top.0 s.journal is.reaches)));
    reaches = reached (entry_at entry) (s.journal ++ entry ∷ []) (reach_one entry_at (entry_at entry) s.journal entry (reach_more entry_at s.top.0 (entry_at entry) s.journal above (reaches_of s.top.0 s.journal is.reaches)) (omega arith));
    tells = put_tells s.chains new s.journal entry change same is.tells has;
    rests = λ w le. put_sees_from w le ∙ sym (put_sees_from (entry_at entry) (omega arith));
    counted = λ w le.
        elim (cases_lt w (entry_at entry)) [
          | inl lt ↦ latest_above entry_at entry_count w s.base_count s.journal entry lt ∙ is.counted w le ∙ ap (λ (pairs : List (List ℕ × List ℕ)). length pairs) (sym (put_sees_below w lt))
          | inr ge ↦ latest_within entry_at entry_count w s.base_count s.journal entry ge ∙ counted ∙ ap (λ (pairs : List (List ℕ × List ℕ)). length pairs) (sym (put_sees_from w ge))
        ];
  }

-- ---- a higher top

pub rest_keeps : (s : Store) (v : Lsn) → IsStore s → s.top.0 ≤ v.0 → IsStore (record s { top = v })
rest_keeps s v is above = record {
  in_order = omega (arith, is.in_order, above);
  rises = is.rises;
  reaches = reached v.0 s.journal (reach_more entry_at s.top.0 v.0 s.journal above (reaches_of s.top.0 s.journal is.reaches));
  tells = is.tells;
  rests = λ w le. is.rests w (omega (arith, above, le)) ∙ sym (is.rests v.0 above);
  counted = is.counted;
}

-- ---- an undo

module _ (s : Store) (v : Lsn) (new : Chains) (journal : List JournalEntry) (is : IsStore s) (above : s.floor.0 ≤ v.0) (agrees : AgreesAt (λ w. w ≤ v.0) s.base_count s.chains s.journal s.base_count new journal) (within : All (λ (entry : JournalEntry). entry_at entry ≤ v.0) journal) (old_rising : Rising s.chains) (new_rising : Rising new) where
  cut_low : (w : ℕ) → w ≤ v.0 → pairs_at new w ≡ pairs_at s.chains w
  cut_low w le = same_pairs new s.chains w w new_rising old_rising (agrees.values w le)

  cut_high : (w : ℕ) → v.0 ≤ w → pairs_at new w ≡ pairs_at s.chains v.0
  cut_high w le = pairs_rest v.0 w journal new new_rising agrees.tells (reaches_of v.0 journal within) le ∙ cut_low v.0 (omega arith)

  pub cut_sees : (w : ℕ) → pairs_at new w ≡ pairs_at s.chains (min w v.0)
  cut_sees w =
      elim (cases_lt w v.0) [
        | inl lt ↦ cut_low w (omega (arith, lt)) ∙ ap (pairs_at s.chains) (omega (arith, lt))
        | inr ge ↦ cut_high w ge ∙ ap (pairs_at s.chains) (omega (arith, ge))
      ]

  least_reach : (entries : List JournalEntry) (a b : ℕ) → Reach entry_at a entries → Reach entry_at b entries → Reach entry_at (min a b) entries
  least_reach [] a b x y = tt
  least_reach (entry ∷ entries) a b x y = (omega (arith, x.0, y.0), least_reach entries a b x.1 y.1)

  cut_reach : Reach entry_at (min s.top.0 v.0) journal
  cut_reach = least_reach journal s.top.0 v.0 (reaches_of s.top.0 journal (agrees.reaches s.top.0 is.reaches)) (reaches_of v.0 journal within)

  cut_counted : (w : ℕ) → s.floor.0 ≤ w → count_at s.base_count journal w ≡ length (pairs_at new w)
  cut_counted w le =
      elim (cases_lt w v.0) [
        | inl lt ↦ agrees.counts w (omega (arith, lt)) ∙ is.counted w le ∙ ap (λ (pairs : List (List ℕ × List ℕ)). length pairs) (sym (cut_low w (omega (arith, lt))))
        | inr ge ↦ latest_rests entry_at entry_count v.0 w s.base_count journal (reaches_of v.0 journal within) ge ∙ agrees.counts v.0 (omega arith) ∙ is.counted v.0 above ∙ ap (λ (pairs : List (List ℕ × List ℕ)). length pairs) (sym (cut_high w ge))
      ]

  pub cut_keeps : (top : Lsn) → top.0 ≡ min s.top.0 v.0 → IsStore (record s { chains = new; journal = journal; top = top })
  cut_keeps top least = record {
    in_order = omega (arith, is.in_order, above, least);
    rises = agrees.rises;
    reaches = reached top.0 journal (subst (λ (m : ℕ). Reach entry_at m journal) (sym least) cut_reach);
    tells = agrees.tells;
    rests = λ w le. pairs_rest top.0 w journal new new_rising agrees.tells (subst (λ (m : ℕ). Reach entry_at m journal) (sym least) cut_reach) le;
    counted = cut_counted;
  }

-- ---- a merge

module _ (s : Store) (v : Lsn) (new : Chains) (journal : List JournalEntry) (count : ℕ) (is : IsStore s) (above : s.floor.0 ≤ v.0) (agrees : AgreesAt (λ w. v.0 ≤ w) s.base_count s.chains s.journal count new journal) (old_rising : Rising s.chains) (new_rising : Rising new) where
  pub merge_sees : (w : ℕ) → v.0 ≤ w → pairs_at new w ≡ pairs_at s.chains w
  merge_sees w le = same_pairs new s.chains w w new_rising old_rising (agrees.values w le)

  pub merge_keeps : (top : Lsn) → s.top.0 ≤ top.0 → v.0 ≤ top.0 → IsStore (record s { chains = new; journal = journal; base_count = count; floor = v; top = top })
  merge_keeps top more within =
      let reach = reach_more entry_at s.top.0 top.0 journal more (reaches_of s.top.0 journal (agrees.reaches s.top.0 is.reaches)) in
      record {
        in_order = within;
        rises = agrees.rises;
        reaches = reached top.0 journal reach;
        tells = agrees.tells;
        rests = λ w le. pairs_rest top.0 w journal new new_rising agrees.tells reach le;
        counted = λ w le. agrees.counts w le ∙ is.counted w (omega (arith, above, le)) ∙ ap (λ (pairs : List (List ℕ × List ℕ)). length pairs) (sym (merge_sees w le));
      }
