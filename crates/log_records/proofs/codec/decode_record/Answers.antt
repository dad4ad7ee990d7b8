use Rattle.std.proofs.Common.{arith}
use Rattle.log_records.specs.Spelling.{logical, IsLogical}
use Rattle.log_records.specs.Reading.{read_logical}
use Rattle.log_records.proofs.LogicalCodec.{logical_takes, logical_again}
use Rattle.log_records.proofs.Decoding.{found_from, only_from}
use Rattle.log_records.proofs.codec.decode_record.Goals as goal

pub returns-clause-found : goal.returns-clause-found
returns-clause-found c = found_from read_logical logical IsLogical logical_takes c.front_record.result c.args.bytes.now (λ i. omega (arith, c.type_inv.bytes i)) c.front_record.ensures

pub returns-clause-only : goal.returns-clause-only
returns-clause-only c = only_from read_logical logical IsLogical logical_again c.front_record.result c.args.bytes.now c.front_record.ensures
