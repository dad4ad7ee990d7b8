use Rattle.log_records.specs.Spelling.{op, logical, physical, OpFits, IsLogical, IsPhysical}
use Rattle.log_records.specs.Reading.{read_op, read_logical, read_physical}
use Rattle.log_records.proofs.OpCodec.{op_again}
use Rattle.log_records.proofs.LogicalCodec.{logical_again}
use Rattle.log_records.proofs.PhysicalCodec.{physical_again}
use Rattle.log_records.proofs.Decoding.{one_spelling_from}
use Rattle.log_records.proofs.law.one_spelling.Goals as goal

pub returns-clause-ops : goal.returns-clause-ops
returns-clause-ops c = one_spelling_from read_op op OpFits op_again

pub returns-clause-records : goal.returns-clause-records
returns-clause-records c = one_spelling_from read_logical logical IsLogical logical_again

pub returns-clause-physical_records : goal.returns-clause-physical_records
returns-clause-physical_records c = one_spelling_from read_physical physical IsPhysical physical_again
