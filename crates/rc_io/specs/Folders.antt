-- The folders of a host in memory.
use Rattle.std.specs.Prelude.{◌≡◌, ◌≢◌, ℕ, zero, suc, List, [], ◌∷◌, Option, Some, None, if◌then◌else◌, nat_eq}
use Rattle.std.specs.Cmp.Lexicographic.{pointwise}
use Rattle.disk_model.specs.Disk.{Areas}
use Rattle.disk_model.specs.declared.memory.MemDisk.{MemDisk}
use Rattle.rc_io.specs.declared.mem_host.Folder.{Folder}

-- the disk of the first folder with this name
abbrev pub disk_in : List Folder → List ℕ → Option MemDisk
disk_in [] name = None
disk_in (folder ∷ folders) name = if pointwise nat_eq folder.name name then Some folder.disk else disk_in folders name

-- the first folder with this name stands at this place
abbrev pub IsAt : List Folder → List ℕ → ℕ → Type 0
IsAt [] name at = ⊥
IsAt (folder ∷ folders) name zero = folder.name ≡ name
IsAt (folder ∷ folders) name (suc at) = (folder.name ≢ name) × IsAt folders name at

-- what a folder has once it was looked for: the disk that it had, or else an empty one
abbrev pub Opens : (MemDisk → Option Areas) → Option MemDisk → Option MemDisk → Type 0
Opens seen (Some disk) now = now ≡ Some disk
Opens seen None now = (disk : MemDisk) × (now ≡ Some disk) × (seen disk ≡ Some (λ _. []))
