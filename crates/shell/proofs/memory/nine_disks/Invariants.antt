use Rattle.std.proofs.Common.{◌≡◌, All, vec_len}
use Rattle.disk_model.specs.contracts.memory.MemDiskDisk.TheImpl as memory
use Rattle.shell.specs.Fleet.{IsFresh}
use Rattle.shell.proofs.memory.nine_disks.Given as goal

-- one fresh disk for each turn
abbrev pub invariant-loop : goal.invariant-loop
invariant-loop l = record {
  nine : vec_len l.fleet ≡ l.counter;
  fresh : All (IsFresh memory.images-value.it memory.faults-value.it memory.marks-value.it memory.calls_left-value.it) l.fleet.items;
}
