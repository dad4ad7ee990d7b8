use Rattle.std.proofs.Common.{◌≡◌, ◌∙◌, sym, ap, subst, ℕ, List, [], ◌∷◌, length, arith, IfOk}
use Rattle.config_rule.specs.Rule.{after_boot}
use Rattle.world.proofs.starting.first_rule.Goals as goal

pub new-requires : goal.new-requires
new-requires c = λ none.
    let counts = ap length (sym c.in_ok-members.ensures ∙ none) in
    omega (arith, counts)

pub returns : goal.returns
returns c =
    let alone : c.in_ok-members.members ≡ 0 ∷ [] = c.in_ok-members.ensures ∙ ap (λ (n : ℕ). n ∷ []) c.requires.first in
    subst (λ (members : List ℕ). IfOk c.new.result (λ rule. rule ≡ after_boot members)) alone c.new.ensures
