use Rattle.std.proofs.Common.{Some, ap}
use Rattle.std.proofs.lemmas.Result.{on_ok_weaker}
use Rattle.disk_model.specs.Disk.{Areas}
use Rattle.disk_model.proofs.memory.MemDiskDisk.cut.Goals as goal

pub returns-clause-cut : goal.returns-clause-cut
returns-clause-cut c = on_ok_weaker c.ask.result (λ e. ap (λ (s : Areas). Some s) e) c.ask.ensures.done
