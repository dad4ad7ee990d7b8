use Rattle.std.proofs.Common.{rules}
use Rattle.script_text.specs.Reading.{texts}
use Rattle.transcript_text.specs.declared.form.Form.TheVariants as forms
use Rattle.transcript_text.proofs.Rows.{form_error, of_form_error}
use Rattle.transcript_text.proofs.parsing.of_form.Goals as goal

pub returns-in_err-one_replica-in-Up : goal.returns-in_err-one_replica-in-Up
returns-in_err-one_replica-in-Up c = form_error forms.Up c.args.form c.in-Up.is (texts c.args.words.now) c.in_err-one_replica-in-Up.field-0.0 c.from_residual.result (search rules) c.in_err-one_replica-in-Up.ensures

pub returns-in_err-t-in-Order : goal.returns-in_err-t-in-Order
returns-in_err-t-in-Order c = form_error forms.Order c.args.form c.in-Order.is (texts c.args.words.now) c.in_err-t-in-Order.field-0.0 c.from_residual-in_err-t-in-Order.result (search rules) c.in_err-t-in-Order.ensures

pub returns-in_err-r-in-View : goal.returns-in_err-r-in-View
returns-in_err-r-in-View c = form_error forms.View c.args.form c.in-View.is (texts c.args.words.now) c.in_err-r-in-View.field-0.0 c.from_residual-in_err-r-in-View.result (search rules) c.in_err-r-in-View.ensures

pub returns-in_err-one_replica-in-Active : goal.returns-in_err-one_replica-in-Active
returns-in_err-one_replica-in-Active c = form_error forms.Active c.args.form c.in-Active.is (texts c.args.words.now) c.in_err-one_replica-in-Active.field-0.0 c.from_residual-in_err-one_replica-in-Active.result (search rules) c.in_err-one_replica-in-Active.ensures

pub returns-in_err-one_txn-in-Committed : goal.returns-in_err-one_txn-in-Committed
returns-in_err-one_txn-in-Committed c = form_error forms.Committed c.args.form c.in-Committed.is (texts c.args.words.now) c.in_err-one_txn-in-Committed.field-0.0 c.from_residual-in_err-one_txn-in-Committed.result (search rules) c.in_err-one_txn-in-Committed.ensures

pub returns-in_err-one_txn-in-Txn : goal.returns-in_err-one_txn-in-Txn
returns-in_err-one_txn-in-Txn c = form_error forms.Txn c.args.form c.in-Txn.is (texts c.args.words.now) c.in_err-one_txn-in-Txn.field-0.0 c.from_residual-in_err-one_txn-in-Txn.result (search rules) c.in_err-one_txn-in-Txn.ensures

pub returns-in_err-nothing-in-Done : goal.returns-in_err-nothing-in-Done
returns-in_err-nothing-in-Done c = form_error forms.Done c.args.form c.in-Done.is (texts c.args.words.now) c.in_err-nothing-in-Done.field-0.0 c.from_residual-in_err-nothing-in-Done.result (search rules) c.in_err-nothing-in-Done.ensures

pub returns-in_err-one_part-in-Refused : goal.returns-in_err-one_part-in-Refused
returns-in_err-one_part-in-Refused c = form_error forms.Refused c.args.form c.in-Refused.is (texts c.args.words.now) c.in_err-one_part-in-Refused.field-0.0 c.from_residual-in_err-one_part-in-Refused.result (search rules) c.in_err-one_part-in-Refused.ensures

pub returns-in_err-one_replica-in-Down : goal.returns-in_err-one_replica-in-Down
returns-in_err-one_replica-in-Down c = form_error forms.Down c.args.form c.in-Down.is (texts c.args.words.now) c.in_err-one_replica-in-Down.field-0.0 c.from_residual-in_err-one_replica-in-Down.result (search rules) c.in_err-one_replica-in-Down.ensures

pub returns-in_err-one_replica-in-NotActive : goal.returns-in_err-one_replica-in-NotActive
returns-in_err-one_replica-in-NotActive c = form_error forms.NotActive c.args.form c.in-NotActive.is (texts c.args.words.now) c.in_err-one_replica-in-NotActive.field-0.0 c.from_residual-in_err-one_replica-in-NotActive.result (search rules) c.in_err-one_replica-in-NotActive.ensures

pub returns-in_err-one_txn-in-Ended : goal.returns-in_err-one_txn-in-Ended
returns-in_err-one_txn-in-Ended c = form_error forms.Ended c.args.form c.in-Ended.is (texts c.args.words.now) c.in_err-one_txn-in-Ended.field-0.0 c.from_residual-in_err-one_txn-in-Ended.result (search rules) c.in_err-one_txn-in-Ended.ensures

pub returns-in_err-one_txn-in-Locked : goal.returns-in_err-one_txn-in-Locked
returns-in_err-one_txn-in-Locked c = form_error forms.Locked c.args.form c.in-Locked.is (texts c.args.words.now) c.in_err-one_txn-in-Locked.field-0.0 c.from_residual-in_err-one_txn-in-Locked.result (search rules) c.in_err-one_txn-in-Locked.ensures

pub returns-in_err-nothing-in-True : goal.returns-in_err-nothing-in-True
returns-in_err-nothing-in-True c = form_error forms.True c.args.form c.in-True.is (texts c.args.words.now) c.in_err-nothing-in-True.field-0.0 c.from_residual-in_err-nothing-in-True.result (search rules) c.in_err-nothing-in-True.ensures

pub returns-in_err-nothing-in-False : goal.returns-in_err-nothing-in-False
returns-in_err-nothing-in-False c = form_error forms.False c.args.form c.in-False.is (texts c.args.words.now) c.in_err-nothing-in-False.field-0.0 c.from_residual-in_err-nothing-in-False.result (search rules) c.in_err-nothing-in-False.ensures

pub returns-in_err-one_value-in-Value : goal.returns-in_err-one_value-in-Value
returns-in_err-one_value-in-Value c = form_error forms.Value c.args.form c.in-Value.is (texts c.args.words.now) c.in_err-one_value-in-Value.field-0.0 c.from_residual-in_err-one_value-in-Value.result (search rules) c.in_err-one_value-in-Value.ensures

pub returns-in_err-nothing-in-Missing : goal.returns-in_err-nothing-in-Missing
returns-in_err-nothing-in-Missing c = form_error forms.Missing c.args.form c.in-Missing.is (texts c.args.words.now) c.in_err-nothing-in-Missing.field-0.0 c.from_residual-in_err-nothing-in-Missing.result (search rules) c.in_err-nothing-in-Missing.ensures

pub returns-in_err-nothing-in-Absent : goal.returns-in_err-nothing-in-Absent
returns-in_err-nothing-in-Absent c = form_error forms.Absent c.args.form c.in-Absent.is (texts c.args.words.now) c.in_err-nothing-in-Absent.field-0.0 c.from_residual-in_err-nothing-in-Absent.result (search rules) c.in_err-nothing-in-Absent.ensures

pub returns-in_err-nothing-in-WrongKind : goal.returns-in_err-nothing-in-WrongKind
returns-in_err-nothing-in-WrongKind c = form_error forms.WrongKind c.args.form c.in-WrongKind.is (texts c.args.words.now) c.in_err-nothing-in-WrongKind.field-0.0 c.from_residual-in_err-nothing-in-WrongKind.result (search rules) c.in_err-nothing-in-WrongKind.ensures

pub returns-in_err-one_replica-in-Fault : goal.returns-in_err-one_replica-in-Fault
returns-in_err-one_replica-in-Fault c = form_error forms.Fault c.args.form c.in-Fault.is (texts c.args.words.now) c.in_err-one_replica-in-Fault.field-0.0 c.from_residual-in_err-one_replica-in-Fault.result (search rules) c.in_err-one_replica-in-Fault.ensures

pub returns-in_err-ignored-in-Ignored : goal.returns-in_err-ignored-in-Ignored
returns-in_err-ignored-in-Ignored c = of_form_error forms.Ignored c.args.form c.in-Ignored.is (texts c.args.words.now) c.in_err-ignored-in-Ignored.field-0.0 c.from_residual-in_err-ignored-in-Ignored.result (search rules) c.in_err-ignored-in-Ignored.ensures

pub returns-in_err-r-in-Progress : goal.returns-in_err-r-in-Progress
returns-in_err-r-in-Progress c = form_error forms.Progress c.args.form c.in-Progress.is (texts c.args.words.now) c.in_err-r-in-Progress.field-0.0 c.from_residual-in_err-r-in-Progress.result (search rules) c.in_err-r-in-Progress.ensures

pub returns-in_err-r-in-State : goal.returns-in_err-r-in-State
returns-in_err-r-in-State c = form_error forms.State c.args.form c.in-State.is (texts c.args.words.now) c.in_err-r-in-State.field-0.0 c.from_residual-in_err-r-in-State.result (search rules) c.in_err-r-in-State.ensures

pub returns-in_err-row_words-in-Rows : goal.returns-in_err-row_words-in-Rows
returns-in_err-row_words-in-Rows c = form_error forms.Rows c.args.form c.in-Rows.is (texts c.args.words.now) c.in_err-row_words-in-Rows.field-0.0 c.from_residual-in_err-row_words-in-Rows.result (search rules) c.in_err-row_words-in-Rows.ensures
