use Rattle.std.proofs.Common.{rules}
use Rattle.script_text.specs.Reading.{texts}
use Rattle.transcript_text.specs.declared.cause.Cause.TheVariants as causes
use Rattle.transcript_text.proofs.Rows.{cause_error}
use Rattle.transcript_text.proofs.parsing.of_cause.Goals as goal

pub returns-in_err-nothing-in-Up : goal.returns-in_err-nothing-in-Up
returns-in_err-nothing-in-Up c = cause_error causes.Up c.args.cause c.in-Up.is (texts c.args.words.now) c.in_err-nothing-in-Up.field-0.0 c.from_residual.result (search rules) c.in_err-nothing-in-Up.ensures

pub returns-in_err-fence-in-OldEpoch : goal.returns-in_err-fence-in-OldEpoch
returns-in_err-fence-in-OldEpoch c = cause_error causes.OldEpoch c.args.cause c.in-OldEpoch.is (texts c.args.words.now) c.in_err-fence-in-OldEpoch.field-0.0 c.from_residual-in_err-fence-in-OldEpoch.result (search rules) c.in_err-fence-in-OldEpoch.ensures
