use Rattle.std.proofs.Common.{rules, ◌≡◌, ◌∙◌, ℕ, ◌≤◌, List, [], ◌∷◌, ◌++◌, length, Option, refl, sym, ap}
use Rattle.std.specs.Option.{option_copied}
use Rattle.versioned_store.specs.declared.chain.Change.{Change}
use Rattle.versioned_store.specs.declared.journal.JournalEntry.{JournalEntry}
use Rattle.versioned_store.specs.Stores.{history_at, pairs_at, changed}
use Rattle.versioned_store.specs.SeenBy.{stored}
use Rattle.versioned_store.proofs.Latest.{all_by_place, reach_more}
use Rattle.versioned_store.proofs.Changes.{change_at, chain_reaches}
use Rattle.versioned_store.proofs.Keeping.{reaches_of, put_keeps, put_sees_below, put_sees_from}
use Rattle.versioned_store.proofs.versions.Versions.put_at.Goals as goal

pub push_change-requires : goal.push_change-requires
push_change-requires c =
    let s = stored c.args.self.now in
    let changes = (history_at c.args.key.now s.chains).changes in
    all_by_place change_at (λ (change : Change). change_at change ≤ c.args.v.0) changes
    (reach_more change_at s.top.0 c.args.v.0 changes c.requires (chain_reaches s.top.0 s.journal s.chains c.args.key.now c.args.self.now.sound.tells (reaches_of s.top.0 s.journal c.args.self.now.sound.reaches)))

pub invariant_of-self-2 : goal.invariant_of-self-2
invariant_of-self-2 c =
    let s = stored c.args.self.now in
    let entry : JournalEntry = record { at = c.args.v; key = c.args.key.now; count = c.count_after-count.result } in
    let change : Change = record { at = c.args.v; value = c.in_ok-copy_of.field-0 } in
    let items : c.push_back_reserved.new.self.items ≡ s.journal ++ entry ∷ [] = search rules in
    let value : c.in_ok-copy_of.field-0 ≡ option_copied c.args.value = search rules in
    let counted : entry.count ≡ length (changed c.args.key.now change.value (pairs_at s.chains s.top.0)) = c.count_after-count.ensures ∙ ap (λ (o : Option (List ℕ)). length (changed c.args.key.now o (pairs_at s.chains s.top.0))) (sym value) in
    record { sound = rw items (put_keeps s c.push_change.new.chains.entries entry change c.args.self.now.sound c.requires refl c.in_ok-push_change.ensures.ok c.push_change.ensures.was_ordered c.push_change.ensures.ordered counted) }

pub returns-clause-below : goal.returns-clause-below
returns-clause-below c w lt =
    let s = stored c.args.self.now in
    let entry : JournalEntry = record { at = c.args.v; key = c.args.key.now; count = c.count_after-count.result } in
    let change : Change = record { at = c.args.v; value = c.in_ok-copy_of.field-0 } in
    put_sees_below s c.push_change.new.chains.entries entry change c.args.self.now.sound c.requires refl c.in_ok-push_change.ensures.ok c.push_change.ensures.was_ordered c.push_change.ensures.ordered w lt

pub returns-clause-from : goal.returns-clause-from
returns-clause-from c w le =
    let s = stored c.args.self.now in
    let entry : JournalEntry = record { at = c.args.v; key = c.args.key.now; count = c.count_after-count.result } in
    let change : Change = record { at = c.args.v; value = c.in_ok-copy_of.field-0 } in
    let value : c.in_ok-copy_of.field-0 ≡ option_copied c.args.value = search rules in
    put_sees_from s c.push_change.new.chains.entries entry change c.args.self.now.sound c.requires refl c.in_ok-push_change.ensures.ok c.push_change.ensures.was_ordered c.push_change.ensures.ordered w le
    ∙ ap (λ (o : Option (List ℕ)). changed c.args.key.now o (pairs_at s.chains s.top.0)) value
