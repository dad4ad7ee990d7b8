use Rattle.std.proofs.Common.{◌≡◌, ◌≤◌, ℕ, drop}
use Rattle.disk_model.specs.Changes.{held, room, left_by, reach}
use Rattle.disk_model.proofs.change.leave.Given as goal

abbrev pub invariant-loop-change : goal.invariant-loop-change
invariant-loop-change l = record { so_far : left_by l.digits (drop l.change-index l.changes) (held l.areas) ≡ left_by l.fn.pick l.fn.changes (held l.fn.areas); fits : (a : ℕ) → reach a (drop l.change-index l.changes) ≤ room l.areas a; grown : (a : ℕ) → room l.fn.areas a ≤ room l.areas a }
