use Rattle.rc_io.proofs.DiskIn.{pushed_same, pushed_other}
use Rattle.rc_io.proofs.mem_host.MemHost.add.Goals as goal

pub returns-clause-there : goal.returns-clause-there
returns-clause-there c = pushed_same c.push.result c.args.self.now.folders.items c.push.new.folders.items c.args.folder.now c.args.disk c.push.ensures.ok c.requires

pub returns-clause-elsewhere : goal.returns-clause-elsewhere
returns-clause-elsewhere c = λ other n. pushed_other c.push.result c.args.self.now.folders.items c.push.new.folders.items c.args.folder.now other c.args.disk c.push.ensures.ok c.push.ensures.err n
