-- No two replicas have the role of one epoch.
use Rattle.std.proofs.Common.{◌≡◌, ℕ, ◌≤◌, ◌⊎◌, sym, ◌∙◌, arith, inl, inr}
use Rattle.std.proofs.lemmas.Bool.{both_ways}
use Rattle.fleet_laws.specs.Fleets.{Fleet, put, empty_fleet}
use Rattle.fleet_laws.specs.Invariant.{Invariant}
use Rattle.fleet_laws.specs.Moves.{Move, Run, IsReached}
use Rattle.fleet_laws.specs.Moves.Move.{boot, change, copy, acknowledge, grow, answer, appoint, activate}
use Rattle.fleet_laws.specs.Moves.Run.{rests, moves}
use Rattle.fleet_laws.proofs.Puts.{put_split}
use Rattle.fleet_laws.proofs.Changing.{role_cases}
use Rattle.fleet_laws.proofs.Runs.{empty_invariant, run_keeps}

-- each epoch stands at one replica alone
abbrev AreApart : (ℕ → ℕ) → Type 0
AreApart roles = (r q e : ℕ) → 1 ≤ e → roles r ≡ e → roles q ≡ e → r ≡ q

-- roles end, and none is passed on
stay_apart : (roles now : ℕ → ℕ) → ((q : ℕ) → (now q ≡ 0) ⊎ (now q ≡ roles q)) → AreApart roles → AreApart now
stay_apart roles now cases apart r q e one a b = elim (cases r) [
  | inl none ↦ absurd (omega (arith, none, a, one))
  | inr x ↦ elim (cases q) [
    | inl none ↦ absurd (omega (arith, none, b, one))
    | inr y ↦ apart r q e one (sym x ∙ a) (sym y ∙ b)
  ]
]

-- a role is given that nobody had
given_apart : (roles : ℕ → ℕ) (p e : ℕ) → ((q : ℕ) → roles q ≡ e → ⊥) → AreApart roles → AreApart (put p e roles)
given_apart roles p e nobody apart r q d one a b = elim (put_split (λ x. x ≡ d) p e roles r a) [
  | inl x ↦ elim (put_split (λ x. x ≡ d) p e roles q b) [
    | inl y ↦ x.0 ∙ sym y.0
    | inr y ↦ absurd (nobody q (y.1 ∙ sym x.1))
  ]
  | inr x ↦ elim (put_split (λ x. x ≡ d) p e roles q b) [
    | inl y ↦ absurd (nobody r (x.1 ∙ sym y.1))
    | inr y ↦ apart r q d one x.1 y.1
  ]
]

move_apart : {R : Type 0} (f g : Fleet R) → Invariant f → AreApart f.role → Move f g → AreApart g.role
move_apart f g i apart (boot e p members a) = given_apart f.role p e
    (λ q is. both_ways (f.appointed (f.role q)) (a.first (f.role q)) (i.primaries q (omega (arith, is, a.positive)))) apart
move_apart f g i apart (change r values role copying a) = stay_apart f.role g.role (role_cases f r values role copying i a) apart
move_apart f g i apart (copy r e n head c a) = apart
move_apart f g i apart (acknowledge r e l v a) = apart
move_apart f g i apart (grow r e entries a) = apart
move_apart f g i apart (answer e r v a) = apart
move_apart f g i apart (appoint e p v members a) = given_apart f.role p e
    (λ q is. omega (arith, is, a.above, i.appointments.latest (f.role q) (i.primaries q (omega (arith, is, a.above))))) apart
move_apart f g i apart (activate a) = apart

run_apart : {R : Type 0} (f g : Fleet R) → Invariant f → AreApart f.role → Run f g → AreApart g.role
run_apart f g i apart rests = apart
run_apart f g i apart (moves {g = h} run move) = move_apart h g (run_keeps f h i run) (run_apart f h i apart run) move

pub one_primary : {R : Type 0} (f : Fleet R) → IsReached f → (r q e : ℕ) → 1 ≤ e → f.role r ≡ e → f.role q ≡ e → r ≡ q
one_primary f run = run_apart empty_fleet f empty_invariant (λ r q e one a b. absurd (omega (arith, one, a))) run
