-- What only grows, and what only becomes less.
use Rattle.std.specs.Prelude.{◌≡◌, ℕ, ◌<◌, ◌≤◌, length}
use Rattle.fleet_laws.specs.Logs.{Agree}
use Rattle.fleet_laws.specs.Fleets.{Fleet, IsAppointed}
use Rattle.fleet_laws.specs.Choice.{IsChosen, MayBeChosen}

-- g comes after f: histories, acknowledgements and what is chosen only grow, and what may be chosen at an epoch only becomes less once a later one was appointed
pub record ComesAfter {R : Type 0} (f g : Fleet R) : Type 0 where
  pub appointed : (e : ℕ) → IsAppointed f e → IsAppointed g e
  pub latest : f.latest ≤ g.latest
  pub start : (e : ℕ) → IsAppointed f e → g.start e ≡ f.start e
  pub history : (e : ℕ) → IsAppointed f e → Agree (length (f.history e)) (f.history e) (g.history e)
  pub acknowledged : (r e : ℕ) → f.acknowledged r e ≤ g.acknowledged r e
  pub chosen : (e l : ℕ) → IsAppointed f e → IsChosen f e l → IsChosen g e l
  pub may : (e l : ℕ) → IsAppointed f e → e < f.latest → MayBeChosen g e l → MayBeChosen f e l
