-- What recovery answers.
use Rattle.std.specs.Prelude.{◌≡◌, Result, Ok, Err}
use Rattle.log_store.specs.declared.error.RecoverError.{RecoverError}
use Rattle.log_store.specs.declared.error.RecoverError.TheVariants as errors
use Rattle.log_store.specs.Fold.{Place}

-- A function that was given bytes found what the definition tells, unless memory ran out.
abbrev pub Finds : {X : Type 0} → Result X RecoverError → Result X Place → Type 0
Finds (Ok x) told = told ≡ Ok x
Finds (Err errors.Disk) told = ⊥
Finds (Err errors.NoMemory) told = Unit {0}
Finds (Err (errors.Corrupt area at)) told = told ≡ Err (record { area = area; at = at })
