use Rattle.std.proofs.Common.{rules, ◌≡◌, ◌≤◌, ◌-◌, length, get_or, ap, arith}
use Rattle.std.proofs.lemmas.List.{get_or_default}
use Rattle.versioned_store.specs.declared.journal.JournalEntry.{JournalEntry}
use Rattle.versioned_store.proofs.journal.ends_above.Goals as goal

pub returns-in-Some-clause-within : goal.returns-in-Some-clause-within
returns-in-Some-clause-within c above k d lt =
    let items = c.args.journal.now.items in
    let last = c.in-Some.last.now in
    let at = λ (entry : JournalEntry). entry.at.0 in
    let is : last ≡ get_or items (length items - 1) last = search rules in
    let below : last.at.0 ≤ c.args.v.0 = search rules in
    let rises = c.requires k (length items - 1) last (omega arith) (omega arith) in
    omega (arith, rises, below, ap at is, ap at (get_or_default items k d last lt))
