use Rattle.std.proofs.Common.{rules}
use Rattle.std.proofs.lemmas.List.Sorted.{IsPartitionPoint-from_clause}
use Rattle.txn_table.specs.declared.known.Known.{Known}
use Rattle.txn_table.specs.Commits.{txn_lt}
use Rattle.txn_table.proofs.Places.{place_from, partitioned}
use Rattle.txn_table.proofs.steps.place_of.Goals as goal

pub returns : goal.returns
returns c =
    let h = IsPartitionPoint-from_clause (λ (k : Known). txn_lt k.txn c.args.txn) c.args.txns.now c.partition_point.result c.partition_point.ensures.partitioned (partitioned c.args.txn c.args.txns.now c.requires) (λ a r f' k. search rules) in
    place_from c.args.txn c.args.txns.now c.partition_point.result c.partition_point.ensures.bound h.0 h.1
