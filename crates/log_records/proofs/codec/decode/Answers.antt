use Rattle.std.proofs.Common.{arith}
use Rattle.log_records.specs.Spelling.{physical, IsPhysical}
use Rattle.log_records.specs.Reading.{read_physical}
use Rattle.log_records.proofs.PhysicalCodec.{physical_takes, physical_again}
use Rattle.log_records.proofs.Decoding.{found_from, only_from}
use Rattle.log_records.proofs.codec.decode.Goals as goal

pub returns-clause-found : goal.returns-clause-found
returns-clause-found c = found_from read_physical physical IsPhysical physical_takes c.front_physical.result c.args.bytes.now (λ i. omega (arith, c.type_inv.bytes i)) c.front_physical.ensures

pub returns-clause-only : goal.returns-clause-only
returns-clause-only c = only_from read_physical physical IsPhysical physical_again c.front_physical.result c.args.bytes.now c.front_physical.ensures
