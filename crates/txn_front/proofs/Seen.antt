-- What a transaction sees at a key, by the newest of its own operations there.
use Rattle.std.proofs.Common.{◌≡◌, ◌∙◌, ℕ, List, Option, Some, None, refl, sym, ap, subst}
use Rattle.coll_model.specs.declared.op.Op.{Op}
use Rattle.coll_model.specs.declared.op.Op.TheVariants.{Make, Unmake, Put, Del, Push, Pop}
use Rattle.coll_model.specs.Effect.{State, folded}
use Rattle.key_locks.specs.declared.lock_name.LockName.TheVariants.{Key}
use Rattle.lock_laws.specs.OrderedStates.{IsOrdered}
use Rattle.lock_laws.specs.OwnOperations.{AreEffective, newest}
use Rattle.lock_laws.specs.Protected.{value_at}
use Rattle.lock_laws.proofs.OwnOperations.{value_by, value_own}

pub value_from : (n k name key : List ℕ) (state : State) (ops : List Op) → n ≡ name → k ≡ key → IsOrdered state → AreEffective state ops
    → (o : Option Op) → o ≡ newest (Key n k) ops → (value : Option (List ℕ)) → value ≡ value_by o (value_at name key state) → value ≡ value_at name key (folded state ops)
value_from n k name key state ops e f ordered effective o g value h =
    let same : o ≡ newest (Key name key) ops = subst (λ (m : List ℕ). o ≡ newest (Key m key) ops) e (subst (λ (m : List ℕ). o ≡ newest (Key n m) ops) f g) in
    h ∙ ap (λ (p : Option Op). value_by p (value_at name key state)) same ∙ sym (value_own name key state ops ordered effective)

-- what puts no value leaves none
pub nothing_left : (op : Op) (before : Option (List ℕ)) → ((name key value : List ℕ) → op ≡ Put name key value → ⊥) → None ≡ value_by (Some op) before
nothing_left (Make name kind) before h = refl
nothing_left (Unmake name) before h = refl
nothing_left (Put name key value) before h = absurd (h name key value refl)
nothing_left (Del name key) before h = refl
nothing_left (Push name value) before h = refl
nothing_left (Pop name) before h = refl
