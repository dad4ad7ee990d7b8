use Rattle.std.proofs.Common.{arith}
use Rattle.std.proofs.lemmas.List.Elements.{All-same, All-push}
use Rattle.disk_model.specs.declared.memory.MemDisk.{MemDisk}
use Rattle.disk_model.specs.contracts.memory.MemDiskDisk.TheImpl as memory
use Rattle.shell.specs.Fleet.{IsFresh}
use Rattle.shell.proofs.Disks.{fresh_from}
use Rattle.shell.proofs.memory.nine_disks.Goals as goal

pub loop-preserved : goal.loop-preserved
loop-preserved c =
    let P : MemDisk → Type 0 = IsFresh memory.images-value.it memory.faults-value.it memory.marks-value.it memory.calls_left-value.it in
    let new = c.new.ensures in
    let fresh : P c.new.result =
    fresh_from memory.images-value.it memory.faults-value.it memory.marks-value.it memory.calls_left-value.it c.new.result (memory.seen-value.it c.new.result) new.empty new.only new.faults new.marks new.unarmed in
    record {
      nine = let l = c.in_ok-push.ensures.len in let n = c.loop.invariant.nine in omega (arith, l, n);
      fresh = All-same P _ _ c.in_ok-push.ensures.items (All-push P c.loop.fleet.items c.new.result c.loop.invariant.fresh fresh);
    }
