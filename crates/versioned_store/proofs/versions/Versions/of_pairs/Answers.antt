use Rattle.std.proofs.Common.{◌∙◌, ap}
use Rattle.versioned_store.specs.Stores.{Chains, pairs_at}
use Rattle.versioned_store.proofs.Based.{based_keeps, pairs_based}
use Rattle.versioned_store.proofs.versions.Versions.of_pairs.Goals as goal

pub invariant_of-result : goal.invariant_of-result
invariant_of-result c = record { sound = rw (c.in_ok-base_chains.ensures, c.new.ensures.items) (based_keeps c.args.from.now c.args.v) }

pub returns-clause-pairs : goal.returns-clause-pairs
returns-clause-pairs c w = ap (λ (es : Chains). pairs_at es w) c.in_ok-base_chains.ensures ∙ pairs_based c.args.from.now w
