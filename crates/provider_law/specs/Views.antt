-- Views: the contents of a collection at each version, from its floor on; and what applies, undoes and merges make of them.
use Rattle.std.specs.Prelude.{◌≡◌, ℕ, ◌<◌, ◌≤◌, min, List, fold}
use Rattle.coll_model.specs.declared.op.Op.{Op}
use Rattle.coll_model.specs.declared.op.Op.TheVariants.{Make, Unmake, Put, Del, Push, Pop}
use Rattle.coll_model.specs.declared.contents.Contents.{Contents}
use Rattle.coll_model.specs.Effect.{put, del, push, pop}

-- What an operation makes of one collection, as if it were of its name. One that makes or unmakes a name changes nothing, nor
-- does one for the other kind.
abbrev pub alone : Contents → Op → Contents
alone contents (Make name kind) = contents
alone contents (Unmake name) = contents
alone contents (Put name key value) = put key value contents
alone contents (Del name key) = del key contents
alone contents (Push name value) = push value contents
alone contents (Pop name) = pop contents

-- several, in order
abbrev pub together : Contents → List Op → Contents
together contents ops = fold alone contents ops

-- the views from the floor on are as before
abbrev pub SameFrom : ℕ → (ℕ → Contents) → (ℕ → Contents) → Type 0
SameFrom floor old new = (w : ℕ) → floor ≤ w → new w ≡ old w

-- From version v on the view is this one. Below it the views from the floor on are as before.
pub record Written (v floor : ℕ) (old new : ℕ → Contents) (now : Contents) : Type 0 where
  pub below : (w : ℕ) → floor ≤ w → w < v → new w ≡ old w
  pub from : (w : ℕ) → v ≤ w → new w ≡ now

-- what came above version v is undone: the view there is the one at v
abbrev pub Undone : ℕ → ℕ → (ℕ → Contents) → (ℕ → Contents) → Type 0
Undone v floor old new = (w : ℕ) → floor ≤ w → new w ≡ old (min w v)

-- the view rests from the top on
abbrev pub Rests : ℕ → (ℕ → Contents) → Type 0
Rests top view = (w : ℕ) → top ≤ w → view w ≡ view top
