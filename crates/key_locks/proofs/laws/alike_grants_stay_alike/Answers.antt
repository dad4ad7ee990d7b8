use Rattle.std.proofs.Common.{◌∙◌, refl, sym}
use Rattle.key_locks.proofs.Flat.{alike_answers, alike_granted, alike_released}
use Rattle.key_locks.proofs.laws.alike_grants_stay_alike.Goals as goal

pub returns-clause-answers : goal.returns-clause-answers
returns-clause-answers c = alike_answers

pub returns-clause-grant : goal.returns-clause-grant
returns-clause-grant c = alike_granted

pub returns-clause-release : goal.returns-clause-release
returns-clause-release c = alike_released

pub returns-clause-equivalence : goal.returns-clause-equivalence
returns-clause-equivalence c = (λ a name. refl, λ a b h name. sym (h name), λ a b d h k name. h name ∙ k name)
