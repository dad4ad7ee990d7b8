-- A first group of records, for the tests.
use Rattle.std.specs.Prelude.{List, [], ◌∷◌}
use Rattle.rc_base.specs.declared.ids.Epoch.{Epoch}
use Rattle.log_records.specs.declared.record.Record.TheVariants.{Begin, EpochStart}
use Rattle.log_records.specs.declared.record.Physical.{Physical}
use Rattle.log_records.specs.declared.record.Physical.TheVariants.{Logical, Fence}

abbrev pub one : Epoch
one = record { loss = 0; number = 1 }

-- an EpochStart, a Begin of its epoch and a Fence
abbrev pub first_items : List Physical
first_items = Logical (record { 0 = 1 }) one (EpochStart one) ∷ Logical (record { 0 = 2 }) one (Begin (record { epoch = one; n = 1 })) ∷ Fence (record { loss = 0; number = 4 }) ∷ []
