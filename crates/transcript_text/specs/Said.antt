-- Which lines stand in a transcript: their numbers have their ranges, and their other words are made of a script's names, keys
-- and values.
use Rattle.std.specs.Prelude.{◌≡◌, ◌<◌, ◌^◌, ℕ, List}
use Rattle.order_machine.specs.declared.observation.Observation.{Observation}
use Rattle.transcript_text.specs.Forms.{AreTagged, FormFields, AreFormFields, row_of}
use Rattle.transcript_text.specs.Lines.{line_text}

abbrev pub IsSaid : Observation → Type 0
IsSaid observation = AreTagged FormFields AreFormFields (row_of observation)

-- the line is that of this number and this observation
pub record Tells (line : List ℕ) (number : ℕ) (observation : Observation) : Type 0 where
  pub text : line ≡ line_text number observation
  pub small : number < 2 ^ 64
  pub said : IsSaid observation

-- a line tells one number and one observation at most
abbrev pub LinesToldOnce : Type 0
LinesToldOnce = (line : List ℕ) (n k : ℕ) (a b : Observation) → Tells line n a → Tells line k b → (n ≡ k) × (a ≡ b)
