use Rattle.disk_model.specs.declared.disk.DiskError.{DiskError}
use Rattle.disk_model.specs.declared.disk.DiskError.TheVariants.{Failed, NoMemory as NoMemoryOfDisk}
use Rattle.gated_log.specs.declared.error.LogError.{LogError}
use Rattle.gated_log.specs.declared.error.LogError.TheVariants.{Disk, NoMemory}

-- what a log answers where its disk answered this
abbrev pub log_error : DiskError → LogError
log_error Failed = Disk
log_error NoMemoryOfDisk = NoMemory
