-- What stands under a name after an operation, and that names stay in order.
use Rattle.std.proofs.Common.{◌≡◌, ◌≢◌, ℕ, Bool, true, false, List, [], ◌∷◌, Option, Some, None, is_some, cond, refl}
use Rattle.coll_model.specs.declared.op.Kind.{Kind}
use Rattle.coll_model.specs.declared.op.Op.{Op}
use Rattle.coll_model.specs.declared.op.Op.TheVariants.{Make, Unmake, Put, Del, Push, Pop}
use Rattle.coll_model.specs.declared.contents.Contents.{Contents}
use Rattle.coll_model.specs.Effect.{State, at_key, fresh, put, del, push, pop, effect, folded, with_key}
use Rattle.coll_laws.specs.Rising.{AreRising}
use Rattle.coll_laws.specs.Effects.{name_of, after}
use Rattle.coll_laws.proofs.Entries.{at_with_same, at_with_other, at_without_same, at_without_other, at_changed_same, at_changed_other, rising_with, rising_without, rising_changed}

-- ---- what stands under a name after an operation

pub at_effect_other : (state : State) (op : Op) (name : List ℕ) → name ≢ name_of op → at_key name (effect state op) ≡ at_key name state
at_effect_other state (Make made kind) name apart = by (is_some (at_key made state))
  where
    by : (b : Bool) → at_key name (cond b state (with_key made (fresh kind) state)) ≡ at_key name state
    by true = refl
    by false = at_with_other name made (fresh kind) state apart
at_effect_other state (Unmake other) name apart = at_without_other name other state apart
at_effect_other state (Put other key value) name apart = at_changed_other name other (put key value) state apart
at_effect_other state (Del other key) name apart = at_changed_other name other (del key) state apart
at_effect_other state (Push other value) name apart = at_changed_other name other (push value) state apart
at_effect_other state (Pop other) name apart = at_changed_other name other pop state apart

made_here : (state : State) (name : List ℕ) (kind : Kind) (o : Option Contents) → at_key name state ≡ o → at_key name (cond (is_some o) state (with_key name (fresh kind) state)) ≡ after (Make name kind) o
made_here state name kind None e = at_with_same name (fresh kind) state
made_here state name kind (Some contents) e = e

pub at_effect_own : (state : State) (op : Op) → AreRising state → at_key (name_of op) (effect state op) ≡ after op (at_key (name_of op) state)
at_effect_own state (Make name kind) rising = made_here state name kind (at_key name state) refl
at_effect_own state (Unmake name) rising = at_without_same name state rising
at_effect_own state (Put name key value) rising = at_changed_same name (put key value) state
at_effect_own state (Del name key) rising = at_changed_same name (del key) state
at_effect_own state (Push name value) rising = at_changed_same name (push value) state
at_effect_own state (Pop name) rising = at_changed_same name pop state

-- ---- names stay in order

pub rising_effect : (state : State) (op : Op) → AreRising state → AreRising (effect state op)
rising_effect state (Make name kind) rising = by (is_some (at_key name state))
  where
    by : (b : Bool) → AreRising (cond b state (with_key name (fresh kind) state))
    by true = rising
    by false = rising_with name (fresh kind) state rising
rising_effect state (Unmake name) rising = rising_without name state rising
rising_effect state (Put name key value) rising = rising_changed name (put key value) state rising
rising_effect state (Del name key) rising = rising_changed name (del key) state rising
rising_effect state (Push name value) rising = rising_changed name (push value) state rising
rising_effect state (Pop name) rising = rising_changed name pop state rising

pub rising_folded : (state : State) (ops : List Op) → AreRising state → AreRising (folded state ops)
rising_folded state [] rising = rising
rising_folded state (op ∷ ops) rising = rising_folded (effect state op) ops (rising_effect state op rising)
