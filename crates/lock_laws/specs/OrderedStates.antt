-- States whose entries stand in the order of their keys, each key once, as operations make them.
use Rattle.std.specs.Prelude.{◌≡◌, ℕ, List, Some}
use Rattle.coll_model.specs.declared.contents.Contents.TheVariants.{Dict}
use Rattle.coll_model.specs.Effect.{State, at_key}
use Rattle.coll_laws.specs.Rising.{AreRising}

-- the names rise, and so do the keys of each dictionary
pub record IsOrdered (state : State) : Type 0 where
  pub names : AreRising state
  pub keys : (name : List ℕ) (pairs : List (List ℕ × List ℕ)) → at_key name state ≡ Some (Dict pairs) → AreRising pairs
