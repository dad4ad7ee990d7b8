use Rattle.std.proofs.Common.{refl, sym, length, rules}
use Rattle.std.proofs.lemmas.Option.{slice_get_read, slice_get_past}
use Rattle.txn_table.proofs.Places.{known_here, other_here, none_here}
use Rattle.txn_table.proofs.steps.known_at.Goals as goal

pub returns-then-eq-clause-some : goal.returns-then-eq-clause-some
returns-then-eq-clause-some c =
    let y = c.in_ok-known.ensures.lookup in
    let k = c.in_ok-known.known.now in
    known_here c.args.txn c.args.txns.now c.args.at k c.requires.rise c.requires.place
    (slice_get_read c.args.txns.now (length c.args.txns.now) c.args.at k refl y.3.0 y.1) (sym (c.if-eq.ensures {u = tt}))

pub returns-then-eq-clause-here : goal.returns-then-eq-clause-here
returns-then-eq-clause-here c =
    let y = c.in_ok-known.ensures.lookup in
    let k = c.in_ok-known.known.now in
    (slice_get_read c.args.txns.now (length c.args.txns.now) c.args.at k refl y.3.0 y.1, sym (c.if-eq.ensures {u = tt}))

pub returns-in_err-known-clause-none : goal.returns-in_err-known-clause-none
returns-in_err-known-clause-none c =
    let n = none_here c.args.txn c.args.txns.now c.args.at c.requires.rise c.requires.place (slice_get_past c.args.txns.now c.args.at c.in_err-known.ensures.lookup.3) in
    search rules

pub returns-else-eq-clause-none : goal.returns-else-eq-clause-none
returns-else-eq-clause-none c =
    let y = c.in_ok-known.ensures.lookup in
    let k = c.in_ok-known.known.now in
    other_here c.args.txn c.args.txns.now c.args.at k c.requires.rise c.requires.place
    (slice_get_read c.args.txns.now (length c.args.txns.now) c.args.at k refl y.3.0 y.1) (sym (c.if-eq.ensures {u = tt}))
