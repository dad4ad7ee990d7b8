use Rattle.std.proofs.Common.{◌∙◌, Option, sym, ap}
use Rattle.std.specs.Option.{unwrap_or}
use Rattle.versioned_store.specs.Chains.{History, no_history, value_in}
use Rattle.versioned_store.proofs.Pairs.{found_pairs}
use Rattle.versioned_store.proofs.versions.Versions.get_at.Goals as goal

pub returns-in-Some : goal.returns-in-Some
returns-in-Some c =
    let w = c.args.v.0 in
    c.value_at.ensures ∙ ap (λ (o : Option History). value_in (unwrap_or o no_history) w) c.in-Some.ensures.value ∙ sym (found_pairs c.args.key.now c.args.self.now.chains.entries w c.len.ensures.ordered)

pub returns-in-None : goal.returns-in-None
returns-in-None c =
    let w = c.args.v.0 in
    ap (λ (o : Option History). value_in (unwrap_or o no_history) w) c.in-None.ensures.value ∙ sym (found_pairs c.args.key.now c.args.self.now.chains.entries w c.len.ensures.ordered)
