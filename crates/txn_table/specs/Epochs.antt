-- The greater of two epochs.
use Rattle.std.specs.Prelude.{if◌then◌else◌}
use Rattle.rc_base.specs.declared.ids.Epoch.{Epoch}
use Rattle.rc_base.specs.Ids.{epoch_lt}

abbrev pub later : Epoch → Epoch → Epoch
later a b = if epoch_lt a b then b else a
