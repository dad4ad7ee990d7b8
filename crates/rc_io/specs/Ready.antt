-- What the bytes that a reader holds say of the next line.
use Rattle.std.specs.Prelude.{◌≡◌, ℕ, ◌+◌, ◌≤◌, List, [], ◌∷◌, ◌++◌, length, take, drop, Some, None, ⊤, ◌==◌, if◌then◌else◌}
use Rattle.rc_io.specs.Lines.{raw_lines}
use Rattle.rc_io.specs.Limits.{before_end, limit_in, limit_of}
use Rattle.rc_io.specs.declared.look.Ready.{Ready}
use Rattle.rc_io.specs.declared.look.Ready.TheVariants.{Line, Limit, End}

-- This many bytes of what is held are one line, and reach no limit.
pub record HoldsLine (lines given : ℕ) (ahead : List ℕ) (count : ℕ) : Type 0 where
  pub held : count ≤ length ahead
  pub one : count ≤ before_end ahead + 1
  pub within : limit_in lines given (take count ahead) ≡ None

abbrev pub Holds : ℕ → ℕ → List ℕ → Ready → Type 0
Holds lines given ahead (Line count) = HoldsLine lines given ahead count
Holds lines given ahead (Limit which) = ⊤
Holds lines given ahead End = ⊤

-- what is known of an input, of which a part is held
abbrev pub Is : ℕ → ℕ → List ℕ → List ℕ → Ready → Type 0
Is lines given ahead rest (Line count) = raw_lines (ahead ++ rest) ≡ take count ahead ∷ raw_lines (drop count ahead ++ rest)
Is lines given ahead rest (Limit which) = limit_of lines given (raw_lines (ahead ++ rest)) ≡ Some which
Is lines given ahead rest End = ahead ++ rest ≡ []

-- what is found in what is held, whatever comes behind it
pub record Found (lines given : ℕ) (ahead : List ℕ) (ready : Ready) : Type 0 where
  pub holds : Holds lines given ahead ready
  pub is : (rest : List ℕ) → Is lines given ahead rest ready

-- There is neither an LF nor a limit in what is held.
pub record IsOpen (lines given : ℕ) (ahead : List ℕ) : Type 0 where
  pub no_end : before_end ahead ≡ length ahead
  pub short : length ahead ≤ 4096
  pub within : limit_of lines given (raw_lines ahead) ≡ None

-- what is found at the end of an input, of which so many bytes are held and none is an LF
abbrev pub at_end : ℕ → Ready
at_end held = if held == 0 then End else Line held
