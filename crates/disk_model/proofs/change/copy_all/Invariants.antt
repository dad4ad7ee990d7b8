use Rattle.std.proofs.Common.{◌≡◌, ◌≤◌, ◌<◌, ℕ, length}
use Rattle.disk_model.specs.Changes.{held, room}
use Rattle.disk_model.proofs.change.copy_all.Given as goal

abbrev pub invariant-loop-i : goal.invariant-loop-i
invariant-loop-i l = record { four : length l.to ≡ 4; so_far : (a : ℕ) → a < l.i → held l.to a ≡ held l.from a; grown : (a : ℕ) → room l.fn.to a ≤ room l.to a }
