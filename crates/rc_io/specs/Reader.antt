-- What a reader of lines stands for.
use Rattle.std.specs.Prelude.{ℕ, List}

-- What it took from its source and hasn't given, how many lines it gave, and how many bytes these are with their ends.
pub record Reading : Type 0 where
  pub ahead : List ℕ
  pub lines : ℕ
  pub given : ℕ
