use Rattle.std.proofs.Common.{rules, ◌≡◌, ◌∙◌, ℕ, ◌<◌, List, [], Some, length, map, take, ap}
use Rattle.coll_model.specs.Effect.{with_key}
use Rattle.versioned_store.specs.Chains.{History}
use Rattle.versioned_store.specs.Stores.{Chains, based}
use Rattle.versioned_store.proofs.Based.{based_more}
use Rattle.versioned_store.proofs.steps.base_chains.Goals as goal

pub loop-key-preserved : goal.loop-key-preserved
loop-key-preserved c =
    let pairs = c.args.pairs.now in
    let i = c.loop-key.key-index in
    let item = c.loop-key-item.result in
    let lt : i < length pairs = c.loop-key-test.true in
    let chain : History = record { base = Some item.1; changes = [] } in
    let inserted : c.insert.new.self.entries ≡ with_key item.0 chain c.loop-key.chains.entries = search rules in
    inserted
    ∙ ap (λ (es : Chains). with_key item.0 chain es) c.loop-key.invariant
    ∙ ap (λ (p : List ℕ × List ℕ). with_key p.0 (record { base = Some p.1; changes = [] }) (map based (take i pairs))) c.loop-key-item.is
    ∙ based_more pairs i item lt c.requires
