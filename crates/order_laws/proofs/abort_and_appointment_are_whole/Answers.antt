use Rattle.order_laws.proofs.OneAbort.{one_abort_is_whole}
use Rattle.order_laws.proofs.OneAppointment.{one_appointment_is_whole}
use Rattle.order_laws.proofs.abort_and_appointment_are_whole.Goals as goal

pub returns : goal.returns
returns c = record { aborted = one_abort_is_whole; appointed = one_appointment_is_whole }
