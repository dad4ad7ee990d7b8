-- The law of apply and undo.
use Rattle.std.specs.Prelude.{◌≡◌, ℕ, ◌<◌, ◌≤◌, max}
use Rattle.coll_model.specs.declared.contents.Contents.{Contents}
use Rattle.provider_law.specs.Views.{SameFrom, Written, Undone, Rests}

-- What was applied at version v, above the top, is taken back by an undo to a version below v that isn't below the floor and
-- the old top: every view is as before.
abbrev pub UndoTakesBack : Type 0
UndoTakesBack =
    (floor top v w : ℕ) (first applied undone : ℕ → Contents) (now : Contents) → Rests top first → Written v floor first applied now → Undone w floor applied undone → floor ≤ w → top ≤ w → w < v
    → SameFrom floor first undone
