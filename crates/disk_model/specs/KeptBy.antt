-- What a disk in memory keeps.
use Rattle.disk_model.specs.Changes.{held}
use Rattle.disk_model.specs.Kept.{Kept}
use Rattle.disk_model.specs.declared.memory.MemDisk.{MemDisk}

abbrev pub kept_by : MemDisk → Kept
kept_by m = record { shown = held m.shown; synced = held m.synced; pending = m.pending.items; calls_left = m.calls_left; failed = m.failed }
