-- Writing fields one after the other.
use Rattle.std.proofs.Common.{◌≡◌, ℕ, List, ◌++◌, Result, Ok, Err, sym, ap, ◌∙◌, append_assoc}
use Rattle.std.specs.Prelude.{OnOk}
use Rattle.log_records.specs.Spelling.{joined}
use Rattle.log_records.proofs.Steps.{joined-append}

pub more : (old out next : List ℕ) (before fields : List (List ℕ)) → out ≡ old ++ joined before → next ≡ out ++ joined fields → next ≡ old ++ joined (before ++ fields)
more old out next before fields e f =
    f ∙ ap (λ (t : List ℕ). t ++ joined fields) e ∙ append_assoc old (joined before) (joined fields) ∙ ap (λ (t : List ℕ). old ++ t) (sym (joined-append before fields))

-- the last call may fail
pub last : {A E : Type 0} (result : Result A E) (old out next : List ℕ) (before fields : List (List ℕ)) → out ≡ old ++ joined before → OnOk result (next ≡ out ++ joined fields) → OnOk result (next ≡ old ++ joined (before ++ fields))
last (Ok x) old out next before fields e f = more old out next before fields e f
last (Err x) old out next before fields e f = tt
