use Rattle.replica_laws.proofs.Surveys as steps
use Rattle.replica_laws.proofs.surveys_agree.Goals as goal

pub returns : goal.returns
returns g c = steps.surveys_agree (g.D.Disk.images c.args.before.now) (g.D.Disk.images c.args.disk.now)
