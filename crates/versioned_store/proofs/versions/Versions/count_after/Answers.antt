use Rattle.std.proofs.Common.{rules, ◌≡◌, ◌∙◌, ℕ, ◌+◌, ◌<◌, ◌^◌, true, false, is_some, length, sym, ap, arith}
use Rattle.coll_model.specs.Effect.{at_key}
use Rattle.versioned_store.specs.Stores.{pairs_at}
use Rattle.versioned_store.proofs.Pairs.{pairs_rising, length_pairs, count_with, count_without}
use Rattle.versioned_store.proofs.versions.Versions.count_after.Goals as goal

pub overflow_add-result : goal.overflow_add-result
overflow_add-result c =
    let few = length_pairs c.args.self.now.chains.entries c.args.self.now.top.0 in
    let small : length c.args.self.now.chains.entries < 2 ^ 63 = search rules in
    omega (arith, c.count_at-count.ensures, few, small)

pub returns-then-had : goal.returns-then-had
returns-then-had c =
    let pairs = pairs_at c.args.self.now.chains.entries c.args.self.now.top.0 in
    let had : is_some (at_key c.args.key.now pairs) ≡ true = search rules in
    rw c.in-Some.is (c.count_at-count.ensures ∙ sym (count_with c.args.key.now c.in-Some.field-0.now pairs true (pairs_rising c.args.self.now.chains.entries c.args.self.now.top.0 c.len.ensures.ordered) had))

pub returns-else-had : goal.returns-else-had
returns-else-had c =
    let pairs = pairs_at c.args.self.now.chains.entries c.args.self.now.top.0 in
    let had : is_some (at_key c.args.key.now pairs) ≡ false = search rules in
    rw c.in-Some.is (ap (λ (n : ℕ). n + 1) c.count_at-count.ensures ∙ sym (count_with c.args.key.now c.in-Some.field-0.now pairs false (pairs_rising c.args.self.now.chains.entries c.args.self.now.top.0 c.len.ensures.ordered) had))

pub returns-then-had-2 : goal.returns-then-had-2
returns-then-had-2 c =
    let pairs = pairs_at c.args.self.now.chains.entries c.args.self.now.top.0 in
    let had : is_some (at_key c.args.key.now pairs) ≡ true = search rules in
    rw c.in-None.is (omega (arith, c.count_at-count.ensures, count_without c.args.key.now pairs true had))

pub returns-else-had-2 : goal.returns-else-had-2
returns-else-had-2 c =
    let pairs = pairs_at c.args.self.now.chains.entries c.args.self.now.top.0 in
    let had : is_some (at_key c.args.key.now pairs) ≡ false = search rules in
    rw c.in-None.is (omega (arith, c.count_at-count.ensures, count_without c.args.key.now pairs false had))
