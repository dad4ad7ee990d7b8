use Rattle.std.proofs.Common.{◌≡◌, ◌≤◌, ℕ, drop}
use Rattle.disk_model.specs.Changes.{held, room, done, reach}
use Rattle.disk_model.proofs.change.settle.Given as goal

abbrev pub invariant-loop-change : goal.invariant-loop-change
invariant-loop-change l = record { so_far : done (drop l.change-index l.changes) (held l.areas) ≡ done l.fn.changes (held l.fn.areas); fits : (a : ℕ) → reach a (drop l.change-index l.changes) ≤ room l.areas a; grown : (a : ℕ) → room l.fn.areas a ≤ room l.areas a }
