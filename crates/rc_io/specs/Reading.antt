-- What the calls of a reader of lines answer.
use Rattle.std.specs.Prelude.{◌≡◌, ℕ, ◌+◌, ◌≤◌, List, [], ◌∷◌, ◌++◌, length, take, drop, Some, None}
use Rattle.rc_io.specs.Lines.{raw_lines, line_text}
use Rattle.rc_io.specs.Limits.{before_end, limit_in, limit_of}
use Rattle.rc_io.specs.Reader.{Reading}
use Rattle.rc_io.specs.declared.line_reader.Next.{Next}
use Rattle.rc_io.specs.declared.line_reader.Next.TheVariants.{Line, End, Limit, Failed, NoMemory}

-- The first line of what was to be read is given, and the rest is to be read.
pub record GivesLine (old new : Reading) (input input' text : List ℕ) : Type 0 where
  pub raw : List ℕ
  pub cut : input ≡ raw ++ input'
  pub first : raw_lines input ≡ raw ∷ raw_lines input'
  pub text_is : text ≡ line_text raw
  pub within : limit_in old.lines old.given raw ≡ None
  pub given : new.given ≡ old.given + length raw

-- Nothing is given, and nothing is lost.
pub record Keeps (old new : Reading) (input input' : List ℕ) : Type 0 where
  pub same : input' ≡ input
  pub given : new.given ≡ old.given

-- What a call answers, by the bytes that are to be read before it and behind it: those that the reader took from its
-- source and hasn't given, and those that the source has left. A reader whose source failed holds no whole line.
abbrev pub Answers : Reading → List ℕ → Reading → List ℕ → Next → Type 0
Answers old input new input' (Line number text) = GivesLine old new input input' text
Answers old input new input' End = (input ≡ []) × Keeps old new input input'
Answers old input new input' (Limit which number) = (limit_of old.lines old.given (raw_lines input) ≡ Some which) × Keeps old new input input'
Answers old input new input' Failed = (before_end new.ahead ≡ length new.ahead) × Keeps old new input input'
Answers old input new input' NoMemory = Keeps old new input input'

-- How lines are numbered, whatever the source tells: from 1 on, each by one more. A limit has the number of the line in
-- which it is reached. A line that is given has at most 4,096 bytes.
abbrev pub Numbers : Reading → Reading → Next → Type 0
Numbers old new (Line number text) = (number ≡ old.lines + 1) × (new.lines ≡ number) × (number ≤ 1000000) × (length text ≤ 4096)
Numbers old new End = new.lines ≡ old.lines
Numbers old new (Limit which number) = (number ≡ old.lines + 1) × (new.lines ≡ old.lines)
Numbers old new Failed = new.lines ≡ old.lines
Numbers old new NoMemory = new.lines ≡ old.lines

-- What is held is given up to a place, or memory was wanted and nothing changed.
abbrev pub Gives : Reading → ℕ → Reading → Next → Type 0
Gives old count new (Line number text) = (number ≡ old.lines + 1) × (text ≡ line_text (take count old.ahead)) × (new ≡ record { ahead = drop count old.ahead; lines = old.lines + 1; given = old.given + count })
Gives old count new NoMemory = new ≡ old
Gives old count new End = ⊥
Gives old count new (Limit which number) = ⊥
Gives old count new Failed = ⊥
