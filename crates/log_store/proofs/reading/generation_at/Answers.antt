use Rattle.std.proofs.Common.{sym, ◌∙◌}
use Rattle.log_store.proofs.Payloads.{generation_found}
use Rattle.log_store.proofs.reading.generation_at.Goals as goal

pub returns-in-Ok : goal.returns-in-Ok
returns-in-Ok c = c.generation_named.ensures ∙ sym (generation_found c.args.payload.now (c.in-Ok.item, c.in-Ok.field-0-1) c.in-Ok.ensures.found)
