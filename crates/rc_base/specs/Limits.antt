-- The words of the limits at which a run ends.
use Rattle.std.specs.Prelude.{ℕ, List, codes}
use Rattle.rc_base.specs.declared.limit_name.LimitName.{LimitName}
use Rattle.rc_base.specs.declared.limit_name.LimitName.TheVariants as limits

abbrev pub limit_word : LimitName → List ℕ
limit_word limits.Lines = codes "lines"
limit_word limits.Line = codes "line"
limit_word limits.Bytes = codes "bytes"
limit_word limits.Names = codes "names"
limit_word limits.Epochs = codes "epochs"
limit_word limits.Packets = codes "packets"
limit_word limits.Lsn = codes "lsn"
limit_word limits.Number = codes "number"
