-- What each step makes of the chain of its key, of the pairs at each version, and of the journal.
use Rattle.std.proofs.Common.{◌≡◌, ◌∙◌, ℕ, ◌-◌, ◌<◌, ◌≤◌, Bool, true, false, cond, List, [], ◌∷◌, ◌++◌, length, take, map, Option, refl, sym, ap, ap₂, subst, arith}
use Rattle.std.specs.List.{AllByRecursion}
use Rattle.std.specs.Ordering.{is_eq}
use Rattle.std.specs.Cmp.{tied_itself}
use Rattle.std.proofs.lemmas.Bool.{le-leb}
use Rattle.std.proofs.lemmas.Cmp.{nat_list_cmp_total}
use Rattle.std.proofs.lemmas.List.{map-append, length_push, take_at}
use Rattle.rc_base.specs.declared.ids.Lsn.{Lsn}
use Rattle.versioned_store.specs.declared.chain.Change.{Change}
use Rattle.versioned_store.specs.declared.journal.JournalEntry.{JournalEntry}
use Rattle.versioned_store.specs.Chains.{History, with_change, without_newest, with_base, value_in, latest}
use Rattle.versioned_store.specs.Stores.{Chains, same_key, history_at, HasChain, versions_of, Tells, pairs_at, changed}
use Rattle.versioned_store.proofs.Latest.{Rise, Reach, latest_above, latest_within, latest_rests}
use Rattle.versioned_store.proofs.Entries.{Rising, key_is}
use Rattle.versioned_store.proofs.Pairs.{same_pairs, put_pairs}

-- by the key that a step changes
by_key : (key other : List ℕ) (P : Bool → Type 0) → (key ≡ other → P true) → P false → P (same_key key other)
by_key key other P here there =
    elim (same_key key other) as (λ (b : Bool). same_key key other ≡ b → P b) [
      | true ↦ λ same. here (key_is key other same)
      | false ↦ λ same. there
    ] refl

by_key_is : (key other : List ℕ) (P : Bool → Type 0) → (key ≡ other → P true) → (same_key key other ≡ false → P false) → P (same_key key other)
by_key_is key other P here there =
    elim (same_key key other) as (λ (b : Bool). same_key key other ≡ b → P b) [
      | true ↦ λ same. here (key_is key other same)
      | false ↦ there
    ] refl

is_key : (key other : List ℕ) → key ≡ other → same_key key other ≡ true
is_key key other e = subst (λ (k : List ℕ). same_key key k ≡ true) e (ap is_eq (tied_itself nat_list_cmp_total key))

pub same_chain : (chains : Chains) (key : List ℕ) → HasChain chains chains key (history_at key chains)
same_chain chains key other =
    by_key key other (λ (b : Bool). history_at other chains ≡ cond b (history_at key chains) (history_at other chains)) (λ same. ap (λ (k : List ℕ). history_at k chains) (sym same)) refl

-- ---- the journal tells each chain

abbrev pub entry_at : JournalEntry → ℕ
entry_at entry = entry.at.0

abbrev pub change_at : Change → ℕ
change_at change = change.at.0

abbrev pub change_value : Change → Option (List ℕ)
change_value change = change.value

abbrev pub lsn : Lsn → ℕ
lsn at = at.0

pushed : (b : Bool) (x : Lsn) (ats : List Lsn) (y : Lsn) → x ∷ cond b (ats ++ y ∷ []) ats ≡ cond b ((x ∷ ats) ++ y ∷ []) (x ∷ ats)
pushed true x ats y = refl
pushed false x ats y = refl

versions_append : (key : List ℕ) (journal : List JournalEntry) (entry : JournalEntry) → versions_of key (journal ++ entry ∷ []) ≡ cond (same_key entry.key key) (versions_of key journal ++ entry.at ∷ []) (versions_of key journal)
versions_append key [] entry = refl
versions_append key (e ∷ es) entry =
    elim (same_key e.key key) as (λ (b : Bool). cond b (e.at ∷ versions_of key (es ++ entry ∷ [])) (versions_of key (es ++ entry ∷ [])) ≡ cond (same_key entry.key key) (cond b (e.at ∷ versions_of key es) (versions_of key es) ++ entry.at ∷ []) (cond b (e.at ∷ versions_of key es) (versions_of key es))) [
      | true ↦ ap (λ (ats : List Lsn). e.at ∷ ats) (versions_append key es entry) ∙ pushed (same_key entry.key key) e.at (versions_of key es) entry.at
      | false ↦ versions_append key es entry
    ]

versions_all : (P : ℕ → Type 0) (key : List ℕ) (journal : List JournalEntry) → AllByRecursion (λ (entry : JournalEntry). P (entry_at entry)) journal → AllByRecursion (λ (at : Lsn). P (lsn at)) (versions_of key journal)
versions_all P key [] h = tt
versions_all P key (e ∷ es) h =
    elim (same_key e.key key) as (λ (b : Bool). AllByRecursion (λ (at : Lsn). P (lsn at)) (cond b (e.at ∷ versions_of key es) (versions_of key es))) [
      | true ↦ (h.0, versions_all P key es h.1)
      | false ↦ versions_all P key es h.1
    ]

versions_rise : (key : List ℕ) (journal : List JournalEntry) → Rise entry_at journal → Rise lsn (versions_of key journal)
versions_rise key [] h = tt
versions_rise key (e ∷ es) h =
    elim (same_key e.key key) as (λ (b : Bool). Rise lsn (cond b (e.at ∷ versions_of key es) (versions_of key es))) [
      | true ↦ (versions_all (λ (n : ℕ). entry_at e ≤ n) key es h.0, versions_rise key es h.1)
      | false ↦ versions_rise key es h.1
    ]

abbrev ats_of : List Change → List Lsn
ats_of changes = map (λ (change : Change). change.at) changes

changes_all : (P : ℕ → Type 0) (changes : List Change) → AllByRecursion (λ (at : Lsn). P (lsn at)) (ats_of changes) → AllByRecursion (λ (change : Change). P (change_at change)) changes
changes_all P [] h = tt
changes_all P (c ∷ cs) h = (h.0, changes_all P cs h.1)

changes_rise : (changes : List Change) → Rise lsn (ats_of changes) → Rise change_at changes
changes_rise [] h = tt
changes_rise (c ∷ cs) h = (changes_all (λ (n : ℕ). change_at c ≤ n) cs h.0, changes_rise cs h.1)

pub chain_rises : (journal : List JournalEntry) (chains : Chains) (key : List ℕ) → Tells journal chains → Rise entry_at journal → Rise change_at (history_at key chains).changes
chain_rises journal chains key tells h = changes_rise (history_at key chains).changes (subst (Rise lsn) (sym (tells key)) (versions_rise key journal h))

pub chain_reaches : (m : ℕ) (journal : List JournalEntry) (chains : Chains) (key : List ℕ) → Tells journal chains → Reach entry_at m journal → Reach change_at m (history_at key chains).changes
chain_reaches m journal chains key tells h =
    changes_all (λ (n : ℕ). n ≤ m) (history_at key chains).changes (subst (λ (ats : List Lsn). AllByRecursion (λ (at : Lsn). lsn at ≤ m) ats) (sym (tells key)) (versions_all (λ (n : ℕ). n ≤ m) key journal h))

-- from where all changes reach on, a key rests
value_rests : (m w : ℕ) (journal : List JournalEntry) (chains : Chains) (key : List ℕ) → Tells journal chains → Reach entry_at m journal → m ≤ w → value_in (history_at key chains) w ≡ value_in (history_at key chains) m
value_rests m w journal chains key tells h le = latest_rests change_at change_value m w (history_at key chains).base (history_at key chains).changes (chain_reaches m journal chains key tells h) le

pub pairs_rest : (m w : ℕ) (journal : List JournalEntry) (chains : Chains) → Rising chains → Tells journal chains → Reach entry_at m journal → m ≤ w → pairs_at chains w ≡ pairs_at chains m
pairs_rest m w journal chains rising tells h le = same_pairs chains chains w m rising rising (λ q. value_rests m w journal chains q tells h le)

-- ---- the changes of one key, of which the first or the last goes

ats_append : (changes : List Change) (change : Change) → ats_of (changes ++ change ∷ []) ≡ ats_of changes ++ change.at ∷ []
ats_append changes change = map-append (λ (c : Change). c.at) changes (change ∷ [])

-- all but the last
record Fronts (changes : List Change) (ats : List Lsn) (at : Lsn) : Type 0 where
  front : List Change
  last : Change
  whole : changes ≡ front ++ last ∷ []
  told : ats_of front ≡ ats
  stands : last.at ≡ at

fronts : (changes : List Change) (ats : List Lsn) (at : Lsn) → ats_of changes ≡ ats ++ at ∷ [] → Fronts changes ats at
fronts [] ats at e = absurd (omega (arith, ap length e, length_push ats at))
fronts (c ∷ []) [] at e = record { front = []; last = c; whole = refl; told = refl; stands = cc }
fronts (c ∷ d ∷ ds) [] at e = absurd (omega (arith, ap length e))
fronts (c ∷ cs) (x ∷ xs) at e =
    let rest : ats_of cs ≡ xs ++ at ∷ [] = cc in
    let head : c.at ≡ x = cc in
    let more = fronts cs xs at rest in
    record { front = c ∷ more.front; last = more.last; whole = ap (λ (l : List Change). c ∷ l) more.whole; told = ap₂ (λ (y : Lsn) (l : List Lsn). y ∷ l) head more.told; stands = more.stands }

front_is : (changes front : List Change) (last : Change) → changes ≡ front ++ last ∷ [] → take (length changes - 1) changes ≡ front
front_is changes front last e =
    subst (λ (l : List Change). take (length l - 1) l ≡ front) (sym e) (take_at front (last ∷ []) (length (front ++ last ∷ []) - 1) (omega (arith, length_push front last)))

ats_front : (changes : List Change) (ats : List Lsn) (at : Lsn) → ats_of changes ≡ ats ++ at ∷ [] → ats_of (take (length changes - 1) changes) ≡ ats
ats_front changes ats at e =
    let f = fronts changes ats at e in
    ap ats_of (front_is changes f.front f.last f.whole) ∙ f.told

latest_front : (w : ℕ) (base : Option (List ℕ)) (changes : List Change) (ats : List Lsn) (at : Lsn) → ats_of changes ≡ ats ++ at ∷ [] → w < lsn at
    → latest change_at change_value w base (take (length changes - 1) changes) ≡ latest change_at change_value w base changes
latest_front w base changes ats at e lt =
    let f = fronts changes ats at e in
    ap (latest change_at change_value w base) (front_is changes f.front f.last f.whole)
    ∙ sym (latest_above change_at change_value w base f.front f.last (subst (λ (x : Lsn). w < lsn x) (sym f.stands) lt))
    ∙ ap (latest change_at change_value w base) (sym f.whole)

ats_rest : (base : Option (List ℕ)) (changes : List Change) (ats : List Lsn) (at : Lsn) → ats_of changes ≡ at ∷ ats → ats_of (with_base (record { base = base; changes = changes })).changes ≡ ats
ats_rest base [] ats at e = absurd (omega (arith, ap length e))
ats_rest base (c ∷ cs) ats at e = cc

latest_rest : (w : ℕ) (base : Option (List ℕ)) (changes : List Change) (ats : List Lsn) (at : Lsn) → ats_of changes ≡ at ∷ ats → lsn at ≤ w
    → value_in (with_base (record { base = base; changes = changes })) w ≡ latest change_at change_value w base changes
latest_rest w base [] ats at e le = absurd (omega (arith, ap length e))
latest_rest w base (c ∷ cs) ats at e le =
    let head : c.at ≡ at = cc in
    let within : change_at c ≤ w = subst (λ (x : Lsn). lsn x ≤ w) (sym head) le in
    rw (le-leb (change_at c) w within) refl

-- ---- a put

module _ (old new : Chains) (journal : List JournalEntry) (entry : JournalEntry) (change : Change) (same : change.at ≡ entry.at) (tells : Tells journal old) (has : HasChain old new entry.key (with_change (history_at entry.key old) change)) where
  pub put_tells : Tells (journal ++ entry ∷ []) new
  put_tells q =
      ap (λ (h : History). ats_of h.changes) (has q)
      ∙ by_key entry.key q (λ (b : Bool). ats_of (cond b (with_change (history_at entry.key old) change) (history_at q old)).changes ≡ cond b (versions_of q journal ++ entry.at ∷ []) (versions_of q journal))
      (λ here. ats_append (history_at entry.key old).changes change ∙ ap₂ (λ (ats : List Lsn) (at : Lsn). ats ++ at ∷ []) (ap (λ (k : List ℕ). ats_of (history_at k old).changes) here ∙ tells q) same)
      (tells q)
      ∙ sym (versions_append q journal entry)

  value_below : (w : ℕ) (q : List ℕ) → w < lsn entry.at → value_in (history_at q new) w ≡ value_in (history_at q old) w
  value_below w q lt =
      ap (λ (h : History). value_in h w) (has q)
      ∙ by_key entry.key q (λ (b : Bool). value_in (cond b (with_change (history_at entry.key old) change) (history_at q old)) w ≡ value_in (history_at q old) w)
      (λ here. latest_above change_at change_value w (history_at entry.key old).base (history_at entry.key old).changes change (subst (λ (at : Lsn). w < lsn at) (sym same) lt) ∙ ap (λ (k : List ℕ). value_in (history_at k old) w) here)
      refl

  pub put_below : (w : ℕ) → Rising old → Rising new → w < lsn entry.at → pairs_at new w ≡ pairs_at old w
  put_below w s t lt = same_pairs new old w w t s (λ q. value_below w q lt)

  value_from : (m w : ℕ) (q : List ℕ) → Reach entry_at m journal → m ≤ w → lsn entry.at ≤ w → value_in (history_at q new) w ≡ cond (same_key entry.key q) change.value (value_in (history_at q old) m)
  value_from m w q h less le =
      ap (λ (h : History). value_in h w) (has q)
      ∙ by_key entry.key q (λ (b : Bool). value_in (cond b (with_change (history_at entry.key old) change) (history_at q old)) w ≡ cond b change.value (value_in (history_at q old) m))
      (λ here. latest_within change_at change_value w (history_at entry.key old).base (history_at entry.key old).changes change (subst (λ (at : Lsn). lsn at ≤ w) (sym same) le))
      (value_rests m w journal old q tells h less)

  pub put_from : (m w : ℕ) → Rising old → Rising new → Reach entry_at m journal → m ≤ w → lsn entry.at ≤ w → pairs_at new w ≡ changed entry.key change.value (pairs_at old m)
  put_from m w s t h less le = put_pairs old new w m entry.key change.value s t (λ q. value_from m w q h less le)

-- ---- the newest change goes

module _ (old new : Chains) (journal : List JournalEntry) (entry : JournalEntry) (tells : Tells (journal ++ entry ∷ []) old) (has : HasChain old new entry.key (without_newest (history_at entry.key old))) where
  told_here : (q : List ℕ) → entry.key ≡ q → ats_of (history_at entry.key old).changes ≡ versions_of q journal ++ entry.at ∷ []
  told_here q here =
      tells entry.key ∙ ap (λ (k : List ℕ). versions_of k (journal ++ entry ∷ [])) here ∙ versions_append q journal entry ∙ ap (λ (b : Bool). cond b (versions_of q journal ++ entry.at ∷ []) (versions_of q journal)) (is_key entry.key q here)

  pub back_tells : Tells journal new
  back_tells q =
      ap (λ (h : History). ats_of h.changes) (has q)
      ∙ by_key_is entry.key q (λ (b : Bool). ats_of (cond b (without_newest (history_at entry.key old)) (history_at q old)).changes ≡ versions_of q journal)
      (λ here. ats_front (history_at entry.key old).changes (versions_of q journal) entry.at (told_here q here))
      (λ e. tells q ∙ versions_append q journal entry ∙ ap (λ (b : Bool). cond b (versions_of q journal ++ entry.at ∷ []) (versions_of q journal)) e)

  pub back_value : (w : ℕ) (q : List ℕ) → w < lsn entry.at → value_in (history_at q new) w ≡ value_in (history_at q old) w
  back_value w q lt =
      ap (λ (h : History). value_in h w) (has q)
      ∙ by_key entry.key q (λ (b : Bool). value_in (cond b (without_newest (history_at entry.key old)) (history_at q old)) w ≡ value_in (history_at q old) w)
      (λ here. latest_front w (history_at entry.key old).base (history_at entry.key old).changes (versions_of q journal) entry.at (told_here q here) lt ∙ ap (λ (k : List ℕ). value_in (history_at k old) w) here)
      refl

-- ---- the oldest change becomes the value at the floor

module _ (old new : Chains) (journal : List JournalEntry) (entry : JournalEntry) (tells : Tells (entry ∷ journal) old) (has : HasChain old new entry.key (with_base (history_at entry.key old))) where
  told_first : (q : List ℕ) → entry.key ≡ q → ats_of (history_at entry.key old).changes ≡ entry.at ∷ versions_of q journal
  told_first q here =
      tells entry.key ∙ ap (λ (k : List ℕ). versions_of k (entry ∷ journal)) here ∙ ap (λ (b : Bool). cond b (entry.at ∷ versions_of q journal) (versions_of q journal)) (is_key entry.key q here)

  pub front_tells : Tells journal new
  front_tells q =
      ap (λ (h : History). ats_of h.changes) (has q)
      ∙ by_key_is entry.key q (λ (b : Bool). ats_of (cond b (with_base (history_at entry.key old)) (history_at q old)).changes ≡ versions_of q journal)
      (λ here. ats_rest (history_at entry.key old).base (history_at entry.key old).changes (versions_of q journal) entry.at (told_first q here))
      (λ e. tells q ∙ ap (λ (b : Bool). cond b (entry.at ∷ versions_of q journal) (versions_of q journal)) e)

  pub front_value : (w : ℕ) (q : List ℕ) → lsn entry.at ≤ w → value_in (history_at q new) w ≡ value_in (history_at q old) w
  front_value w q le =
      ap (λ (h : History). value_in h w) (has q)
      ∙ by_key entry.key q (λ (b : Bool). value_in (cond b (with_base (history_at entry.key old)) (history_at q old)) w ≡ value_in (history_at q old) w)
      (λ here. latest_rest w (history_at entry.key old).base (history_at entry.key old).changes (versions_of q journal) entry.at (told_first q here) le ∙ ap (λ (k : List ℕ). value_in (history_at k old) w) here)
      refl
