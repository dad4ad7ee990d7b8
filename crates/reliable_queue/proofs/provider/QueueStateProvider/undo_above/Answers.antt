use Rattle.std.proofs.Common.{◌∙◌, ap}
use Rattle.coll_model.specs.declared.contents.Contents.TheVariants as contents
use Rattle.reliable_queue.specs.Queues.{Versioned, values_at}
use Rattle.reliable_queue.specs.SeenBy.{versioned}
use Rattle.reliable_queue.proofs.Keeping.{cut_values}
use Rattle.reliable_queue.proofs.provider.QueueStateProvider.undo_above.Goals as goal

pub returns-clause-views : goal.returns-clause-views
returns-clause-views c w le =
    let q = versioned c.args.self.now in
    ap contents.Queue (ap (λ (n : Versioned). values_at n w) c.cut.ensures ∙ cut_values q c.args.v w)
