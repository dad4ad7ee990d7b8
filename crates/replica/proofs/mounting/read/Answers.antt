use Rattle.std.proofs.Common.{◌≡◌, ◌∙◌, sym, ap, subst, ◌+◌, ◌<◌, take, get_or, length, arith, refl, Option, List}
use Rattle.std.proofs.lemmas.List.{length-take}
use Rattle.rc_base.specs.declared.ids.Lsn.{Lsn}
use Rattle.txn_table.specs.declared.committed.Committed.{Committed}
use Rattle.txn_table.specs.declared.known.Known.{Known}
use Rattle.txn_table.specs.Commits.{fault_in, commit_in}
use Rattle.txn_table.specs.Tables.{State}
use Rattle.txn_table.specs.Log.{known_in}
use Rattle.replica.specs.declared.mounting.Shown.{Shown}
use Rattle.replica.specs.Reading.{IsRead, with_commit}
use Rattle.replica.proofs.Opening.{linked_at, count_few, read_more, known_more, stable_stays}
use Rattle.replica.proofs.mounting.read.Goals as goal

pub take-requires-clause-linked : goal.take-requires-clause-linked
take-requires-clause-linked c =
    let d = c.index-records-at.result in
    ap (λ (ks : List Known). fault_in ks (get_or c.args.records.now c.loop-at.at d).1) c.loop-at.invariant.txns ∙ linked_at c.args.records.now c.loop-at.at d c.requires.log c.loop-at-test.true

pub add-requires : goal.add-requires
add-requires c = omega (arith, count_few c.loop-at.shown (take c.loop-at.at c.args.records.now) c.loop-at.invariant.read, length-take c.loop-at.at c.args.records.now)

pub loop-at-preserved : goal.loop-at-preserved
loop-at-preserved c =
    let d = c.index-records-at.result in
    let log = c.args.records.now in
    let at = c.loop-at.at in
    let shown = c.loop-at.shown in
    let lt : at < length log = c.loop-at-test.true in
    let commit = c.in_ok-commit.ensures.commit ∙ ap (λ (ks : List Known). commit_in ks (get_or log at d).1) c.loop-at.invariant.txns in
    let is : c.add.new.shown ≡ with_commit (at + 1) (commit_in (known_in (take at log)) (get_or log at d).1) shown = c.in_ok-add.ensures ∙ ap (λ (o : Option Committed). with_commit (at + 1) o shown) commit in
    record {
      read = subst (λ (s : Shown). IsRead s (take (at + 1) log)) (sym is) (read_more shown log at d lt c.loop-at.invariant.read);
      stable = ap (λ (s : Shown). s.stable.0) is ∙ ap (λ (l : Lsn). l.0) (stable_stays (at + 1) (commit_in (known_in (take at log)) (get_or log at d).1) shown) ∙ c.loop-at.invariant.stable;
      txns = ap (λ (t : State). t.txns) c.in_ok-commit.ensures.table ∙ known_more log at d (record { 0 = at + 1 }) c.loop-at.table.txns lt refl c.loop-at.invariant.txns;
      last = ap (λ (t : State). t.last.0) c.in_ok-commit.ensures.table;
    }
