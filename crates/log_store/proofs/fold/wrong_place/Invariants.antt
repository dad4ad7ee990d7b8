use Rattle.log_store.proofs.Walking.{IsReached}
use Rattle.log_store.proofs.fold.wrong_place.Given as goal

abbrev pub invariant-loop-i : goal.invariant-loop-i
invariant-loop-i l = IsReached l.rows l.i l.table
