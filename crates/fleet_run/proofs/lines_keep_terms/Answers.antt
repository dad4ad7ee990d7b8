use Rattle.fleet_run.proofs.MachineLines.{lines_same}
use Rattle.fleet_run.proofs.lines_keep_terms.Goals as goal

pub returns : goal.returns
returns c p lines = let is = lines_same p lines in (is.terms, is.config)
