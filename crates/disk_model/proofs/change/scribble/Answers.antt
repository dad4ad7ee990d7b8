use Rattle.std.proofs.Common.{◌≡◌, ◌+◌, ◌-◌, ℕ, length, take, drop, replicate, ap, ◌∙◌, arith, rules}
use Rattle.std.proofs.lemmas.List.{length-replicate, length-take, length-drop, length-append}
use Rattle.disk_model.proofs.Bytes.{overwritten}
use Rattle.disk_model.proofs.change.scribble.Goals as goal

pub returns-clause-items : goal.returns-clause-items
returns-clause-items c =
    let bytes = c.fill_up.new.bytes in
    let size : length (take (c.args.at + c.args.count - c.args.at) (drop c.args.at c.deref_mut.result.now)) ≡ c.args.count =
    omega (arith, length-take (c.args.at + c.args.count - c.args.at) (drop c.args.at c.deref_mut.result.now), length-drop c.args.at c.deref_mut.result.now, ap length c.deref_mut.ensures.value, ap length c.fill_up.ensures.items, length-append c.args.bytes.now.items (replicate {A = ℕ} (c.args.at + c.args.count - length c.args.bytes.now.items) 165), length-replicate {A = ℕ} (c.args.at + c.args.count - length c.args.bytes.now.items) 165) in
    let filled : c.fill.new.self ≡ replicate {A = ℕ} c.args.count 165 = c.fill.ensures.after (λ y is. search rules) ∙ ap (λ (n : ℕ). replicate {A = ℕ} n 165) size in
    overwritten c.args.bytes.now.items bytes.items c.deref_mut.result.now c.fill.new.self (replicate {A = ℕ} c.args.count 165) c.args.at (c.args.at + c.args.count) bytes.len c.fill_up.ensures.items c.deref_mut.ensures.value filled (omega (arith, length-replicate {A = ℕ} c.args.count 165)) bytes.ok.0
