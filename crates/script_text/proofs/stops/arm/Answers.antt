use Rattle.std.proofs.Common.{◌≡◌, ℕ, ◌<◌, ◌^◌, List, [], ◌∷◌, codes, decimal, get_or, arith}
use Rattle.std.specs.Borrow.{Bor}
use Rattle.events.specs.declared.event.Event.{Event}
use Rattle.events.specs.declared.event.Event.TheVariants.{Arm}
use Rattle.script_text.specs.Reading.{texts, IsSentence}
use Rattle.script_text.proofs.Numbers.{same_number}
use Rattle.script_text.proofs.stops.arm.Goals as goal

-- a call of number 0 isn't asked for
no_zeroth : (operands : List (Bor (List ℕ))) (other : Bor (List ℕ)) (n : ℕ) → (get_or operands 1 other).now ≡ decimal n → n < 2 ^ 64 → n ≡ 0 → (event : Event) → IsSentence (codes "arm" ∷ texts operands) event → ⊥
no_zeroth (r ∷ calls ∷ []) other n is small zero (Arm s k) sentence =
    let text : calls.now ≡ decimal k = cc (sentence.spelled) in
    let same : n ≡ k = same_number calls.now n k is text small sentence.built.2 in
    omega (arith, sentence.built.1)
no_zeroth operands other n is small zero event sentence = grind (arith, sentence.spelled)

pub returns-then-calls-eq0 : goal.returns-then-calls-eq0
returns-then-calls-eq0 c = no_zeroth c.args.operands.now _ c.in_ok-calls.calls c.in_ok-calls.ensures.some.1 c.in_ok-calls.ensures.some.0 c.if-calls-eq0.true
