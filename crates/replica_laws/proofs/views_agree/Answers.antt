use Rattle.replica_laws.proofs.Views as views
use Rattle.replica_laws.proofs.views_agree.Goals as goal

pub returns : goal.returns
returns g c = views.views_agree (g.D.Disk.images c.args.disk.now)
