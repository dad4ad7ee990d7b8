-- The later of two epochs, and the epoch of a record that may follow.
use Rattle.std.proofs.Common.{◌≡◌, inl, inr, Bool, true, false, sym, ap, ◌∙◌}
use Rattle.std.specs.Prelude.{if◌then◌else◌}
use Rattle.std.proofs.lemmas.Bool.{cases_Bool}
use Rattle.rc_base.specs.declared.ids.Epoch.{Epoch}
use Rattle.txn_table.specs.Epochs.{later}
use Rattle.rc_base.specs.Ids.{epoch_lt}
use Rattle.rc_base.proofs.EpochOrder.{epoch_lt_asym, epoch_lt_not_lt, epoch_not_lt_lt, epoch_same_from_neither}

pub later_is : (a b : Epoch) (t : Bool) → epoch_lt a b ≡ t → later a b ≡ (if t then b else a)
later_is a b t is = ap (λ (u : Bool). if u then b else a) is

later_comm : (e l : Epoch) → later e l ≡ later l e
later_comm e l = elim (cases_Bool (epoch_lt e l)) [
  | inl up ↦ later_is e l true up ∙ sym (later_is l e false (epoch_lt_asym e l up))
  | inr down ↦ elim (cases_Bool (epoch_lt l e)) [
    | inl up ↦ later_is e l false down ∙ sym (later_is l e true up)
    | inr same ↦ later_is e l false down ∙ epoch_same_from_neither e l down same ∙ sym (later_is l e false same)
  ]
]

pub later_swap : (f e l : Epoch) → later (later f e) l ≡ later (later f l) e
later_swap f e l = elim (cases_Bool (epoch_lt f e)) [
  | inl e_up ↦ elim (cases_Bool (epoch_lt f l)) [
    | inl l_up ↦ ap (λ (x : Epoch). later x l) (later_is f e true e_up) ∙ later_comm e l ∙ sym (ap (λ (x : Epoch). later x e) (later_is f l true l_up))
    | inr l_down ↦ ap (λ (x : Epoch). later x l) (later_is f e true e_up) ∙ later_is e l false (epoch_not_lt_lt f e l e_up l_down) ∙ sym (ap (λ (x : Epoch). later x e) (later_is f l false l_down) ∙ later_is f e true e_up)
  ]
  | inr e_down ↦ elim (cases_Bool (epoch_lt f l)) [
    | inl l_up ↦ ap (λ (x : Epoch). later x l) (later_is f e false e_down) ∙ later_is f l true l_up ∙ sym (ap (λ (x : Epoch). later x e) (later_is f l true l_up) ∙ later_is l e false (epoch_not_lt_lt f l e l_up e_down))
    | inr l_down ↦ ap (λ (x : Epoch). later x l) (later_is f e false e_down) ∙ later_is f l false l_down ∙ sym (ap (λ (x : Epoch). later x e) (later_is f l false l_down) ∙ later_is f e false e_down)
  ]
]

-- the greater of the two covers the other
pub later_over : (f l e : Epoch) → epoch_lt e l ≡ false → later (later f l) e ≡ later f e
later_over f l e down = elim (cases_Bool (epoch_lt f l)) [
  | inl up ↦ later_comm_over up
  | inr low ↦ ap (λ (x : Epoch). later x e) (later_is f l false low)
]
  where
    later_comm_over : epoch_lt f l ≡ true → later (later f l) e ≡ later f e
    later_comm_over up =
        ap (λ (x : Epoch). later x e) (later_is f l true up) ∙ later_comm l e ∙ later_is e l false down ∙ sym (later_is f e true (epoch_lt_not_lt f l e up down))
