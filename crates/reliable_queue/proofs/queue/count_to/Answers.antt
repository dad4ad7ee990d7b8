use Rattle.std.proofs.Common.{rules, sym, ◌≤◌, length, leb, get_or, arith}
use Rattle.std.proofs.lemmas.Bool.{leb-true, leb-false}
use Rattle.std.proofs.lemmas.List.Sorted.{IsPartitionPoint-from_clause}
use Rattle.rc_base.specs.declared.ids.Lsn.{Lsn}
use Rattle.reliable_queue.proofs.Versions.{rise_from, rise_parted, up_to_point}
use Rattle.reliable_queue.proofs.queue.count_to.Goals as goal

pub returns : goal.returns
returns c =
    let w = c.args.v.0 in
    let ats = c.args.versions.now.items in
    let i = c.partition_point.result in
    let point = IsPartitionPoint-from_clause (λ (at : Lsn). leb at.0 w) ats i c.partition_point.ensures.partitioned (rise_parted w ats (rise_from ats c.requires)) (λ a r q k. search rules) in
    let most : i ≤ length ats = search rules in
    sym (up_to_point w ats i most (λ k d lt. leb-true (get_or ats k d).0 w (point.0 k d (omega arith) lt)) (λ d lt. leb-false (get_or ats i d).0 w (point.1 i d (omega arith) lt)))
