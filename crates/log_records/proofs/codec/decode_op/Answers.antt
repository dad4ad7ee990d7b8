use Rattle.std.proofs.Common.{arith}
use Rattle.log_records.specs.Spelling.{op, OpFits}
use Rattle.log_records.specs.Reading.{read_op}
use Rattle.log_records.proofs.OpCodec.{op_takes, op_again}
use Rattle.log_records.proofs.Decoding.{found_from, only_from}
use Rattle.log_records.proofs.codec.decode_op.Goals as goal

pub returns-clause-found : goal.returns-clause-found
returns-clause-found c = found_from read_op op OpFits op_takes c.front_op.result c.args.bytes.now (λ i. omega (arith, c.type_inv.bytes i)) c.front_op.ensures

pub returns-clause-only : goal.returns-clause-only
returns-clause-only c = only_from read_op op OpFits op_again c.front_op.result c.args.bytes.now c.front_op.ensures
