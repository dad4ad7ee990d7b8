use Rattle.std.proofs.Common.{rules, ◌≡◌, ◌∙◌, ap, sym}
use Rattle.coll_model.specs.declared.rows.Rows.TheVariants.{Values}
use Rattle.provider_law.specs.Replies.{contents_of}
use Rattle.reliable_queue.specs.SeenBy.{versioned}
use Rattle.reliable_queue.proofs.Keeping.{load_views}
use Rattle.reliable_queue.proofs.provider.QueueStateProvider.load.Goals as goal

pub returns-in_ok-of_values-in-Values-clause-view : goal.returns-in_ok-of_values-in-Values-clause-view
returns-in_ok-of_values-in-Values-clause-view c w le =
    let q = c.in_ok-of_values-in-Values.field-0 in
    let rows : c.args.rows.now ≡ Values c.as_slice.result.now = search rules in
    load_views c.args.v c.as_slice.result.now w (versioned q) q.sound c.in_ok-of_values-in-Values.ensures le ∙ sym (ap contents_of rows)
