use Rattle.std.proofs.Common.{[], ◌≡◌, Bool, true, false, Result, Ok, Err, sym, subst}
use Rattle.std.specs.Prelude.{IfOk}
use Rattle.std.proofs.lemmas.Bool.{false≢true}
use Rattle.rc_base.specs.declared.no_memory.NoMemory.{NoMemory}
use Rattle.log_store.proofs.fold.is_in_place.Goals as goal
use Rattle.log_store.proofs.fold.is_in_place.Goals.{in-Ok, in-Err-BadLink, in-Err-NoMemory}

if_yes : (P : Type 0) (result : Result Bool NoMemory) → result ≡ Ok true → P → IfOk result (λ b. b ≡ true → P)
if_yes P result is p = subst (λ (r : Result Bool NoMemory). IfOk r (λ b. b ≡ true → P)) (sym is) (λ yes. p)

if_no : (P : Type 0) (result : Result Bool NoMemory) → result ≡ Ok false → IfOk result (λ b. b ≡ true → P)
if_no P result is = subst (λ (r : Result Bool NoMemory). IfOk r (λ b. b ≡ true → P)) (sym is) (λ yes. absurd (false≢true yes))

if_neither : (P : Type 0) (result : Result Bool NoMemory) (e : NoMemory) → result ≡ Err e → IfOk result (λ b. b ≡ true → P)
if_neither P result e is = subst (λ (r : Result Bool NoMemory). IfOk r (λ b. b ≡ true → P)) (sym is) tt

pub returns-clause-stands : goal.returns-clause-stands
returns-clause-stands c records s =
    elim c.match-take.branch [
      | in-Ok w ↦ if_yes _ c.match-take.result w.result-is (w.in-Ok.ensures.stands [] records s)
      | in-Err-BadLink w ↦ if_no _ c.match-take.result w.result-is
      | in-Err-NoMemory w ↦ if_neither _ c.match-take.result _ w.result-is
    ]
