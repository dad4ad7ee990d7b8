-- The values of one key by versions.
use Rattle.std.specs.Prelude.{ℕ, nat_le, Option, None, List, [], ◌∷◌, ◌++◌, length, take, ◌-◌, if◌then◌else◌}
use Rattle.versioned_store.specs.declared.chain.Change.{Change}

-- what the last item at or below a version has; where there is none, what was before
abbrev pub latest : {A X : Type 0} → (A → ℕ) → (A → X) → ℕ → X → List A → X
latest at has w before [] = before
latest at has w before (item ∷ items) = latest at has w (if nat_le (at item) w then has item else before) items

-- the value at the floor, or none, and the changes after it
pub record History : Type 0 where
  pub base : Option (List ℕ)
  pub changes : List Change

-- of a key that was never there
abbrev pub no_history : History
no_history = record { base = None; changes = [] }

-- the value at a version: that of the last change at or below it
abbrev pub value_in : History → ℕ → Option (List ℕ)
value_in h w = latest (λ (change : Change). change.at.0) (λ (change : Change). change.value) w h.base h.changes

-- ---- what each step makes of it

abbrev pub with_change : History → Change → History
with_change h change = record h { changes = h.changes ++ change ∷ [] }

abbrev pub without_newest : History → History
without_newest h = record h { changes = take (length h.changes - 1) h.changes }

-- the oldest change becomes the value at the floor
abbrev pub with_base : History → History
with_base h = record { base = first_value h.base h.changes; changes = rest h.changes }
  where
    first_value : Option (List ℕ) → List Change → Option (List ℕ)
    first_value base [] = base
    first_value base (change ∷ changes) = change.value

    rest : List Change → List Change
    rest [] = []
    rest (change ∷ changes) = changes
