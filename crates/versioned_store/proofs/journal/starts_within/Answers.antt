use Rattle.std.proofs.Common.{rules, ◌≡◌, ◌<◌, get_or, ap, arith}
use Rattle.std.proofs.lemmas.List.{get_or_default}
use Rattle.versioned_store.specs.declared.journal.JournalEntry.{JournalEntry}
use Rattle.versioned_store.proofs.journal.starts_within.Goals as goal

pub returns-in-Some-clause-beyond : goal.returns-in-Some-clause-beyond
returns-in-Some-clause-beyond c later k d lt =
    let items = c.args.journal.now.items in
    let first = c.in-Some.first.now in
    let at = λ (entry : JournalEntry). entry.at.0 in
    let is : first ≡ get_or items 0 first = search rules in
    let above : c.args.v.0 < first.at.0 = search rules in
    let rises = c.requires 0 k first (omega arith) (omega (arith, lt)) in
    omega (arith, rises, above, ap at is, ap at (get_or_default items k d first lt))
