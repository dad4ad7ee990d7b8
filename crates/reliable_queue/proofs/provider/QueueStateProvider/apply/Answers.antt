use Rattle.std.proofs.lemmas.Result.{on_ok_weaker}
use Rattle.reliable_queue.specs.SeenBy.{versioned}
use Rattle.reliable_queue.proofs.Keeping.{written_by}
use Rattle.reliable_queue.proofs.provider.QueueStateProvider.apply.Goals as goal

pub returns-clause-views : goal.returns-clause-views
returns-clause-views c =
    let q = versioned c.args.self.now in
    on_ok_weaker c.operate.result (λ new. written_by q c.args.v c.args.op.now (versioned c.operate.new.self) c.args.self.now.sound c.requires new) c.operate.ensures.ok
