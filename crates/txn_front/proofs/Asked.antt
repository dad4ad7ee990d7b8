-- A call of a transaction that goes on, in the steps of the code.
use Rattle.std.proofs.Common.{◌≡◌, ◌∙◌, ℕ, Bool, true, false, not, List, [], ◌∷◌, ◌++◌, Option, Some, None, refl, sym, ap, subst}
use Rattle.std.specs.Prelude.{option_and_then}
use Rattle.std.specs.Ordering.{nat_cmp}
use Rattle.std.specs.Map.{set_value}
use Rattle.std.specs.BTreeMap.{is_at}
use Rattle.std.proofs.lemmas.Bool.{cond-true}
use Rattle.std.proofs.lemmas.Map.Steps.{set_value_same}
use Rattle.rc_base.specs.declared.ids.Epoch.{Epoch}
use Rattle.rc_base.specs.declared.ids.TxnId.{TxnId}
use Rattle.rc_base.specs.Ids.{is_epoch}
use Rattle.coll_model.specs.declared.op.Op.{Op}
use Rattle.coll_model.specs.Effect.{State, folded}
use Rattle.key_locks.specs.Grants.{Grant, Alike}
use Rattle.events.specs.declared.call.Call.{Call}
use Rattle.events.specs.declared.answer.Reply.{Reply}
use Rattle.events.specs.Locking.{locks_at, taken}
use Rattle.events.specs.Calls.{txn_named}
use Rattle.events.specs.Answers.{live_reply}
use Rattle.txn_front.specs.Front.{Going, Fronted, numbered, going_of, AreAlike, told, operated, called}
use Rattle.txn_front.specs.Index.{noted}
use Rattle.txn_front.proofs.Entries.{AreRising, entry_there}
use Rattle.txn_front.proofs.Fronts.{told_live, called_live}

pub same_epoch : (b : Bool) → not b ≡ false → b ≡ true
same_epoch true e = refl
same_epoch false e = sym e

module _ (epoch : Epoch) (begins : ℕ) (live : List (ℕ × Going)) (grants : List Grant) (state : State) (t : TxnId) (call : Call) (going : Going) where
  front : Fronted
  front = record { epoch = epoch; begins = begins; live = live; grants = grants }

  found : is_epoch t.epoch epoch ≡ true → numbered t.n live ≡ Some going → going_of front t ≡ Some going
  unfolding front
  found e h = cond-true (is_epoch t.epoch epoch) (numbered t.n live) None e ∙ h

  written : (o : Option Op) (locks gs : List Grant) → AreRising live → numbered t.n live ≡ Some going → Alike locks gs
      → AreAlike (record { epoch = epoch; begins = begins; live = set_value (is_at (nat_cmp t.n)) live (noted going o); grants = locks })
      (operated t.n going o (record { epoch = epoch; begins = begins; live = live; grants = gs }))
  written None locks gs rising h alike = record {
    same = ap (λ (l : List (ℕ × Going)). record { epoch = epoch; begins = begins; live = l; grants = locks }) (set_value_same (is_at (nat_cmp t.n)) live going h);
    grants = alike;
  }
  written (Some op) locks gs rising h alike = record {
    same = ap (λ (l : List (ℕ × Going)). record { epoch = epoch; begins = begins; live = l; grants = locks })
        (entry_there t.n (record going { ops = going.ops ++ op ∷ [] }) going live rising (sym h));
    grants = alike;
  }

  pub asked_told : is_epoch t.epoch epoch ≡ true → numbered t.n live ≡ Some going → txn_named call ≡ Some t → (reply : Option Reply) → reply ≡ live_reply grants (folded state going.ops) t call
      → reply ≡ told (record { epoch = epoch; begins = begins; live = live; grants = grants }) state call
  unfolding front
  asked_told e h name reply is = is ∙ sym (told_live front state call t going name (found e h))

  pub asked_kept : is_epoch t.epoch epoch ≡ true → numbered t.n live ≡ Some going → txn_named call ≡ Some t → AreRising live
      → (reply : Option Reply) → reply ≡ live_reply grants (folded state going.ops) t call
      → (locks : List Grant) → Alike locks (taken grants t (locks_at (folded state going.ops) call))
      → (now : Going) → now ≡ noted going (option_and_then (λ answered. answered.op) reply)
      → (after : List (ℕ × Going)) → after ≡ set_value (is_at (nat_cmp t.n)) live now
      → AreAlike (record { epoch = epoch; begins = begins; live = after; grants = locks }) (called (record { epoch = epoch; begins = begins; live = live; grants = grants }) state call)
  unfolding front
  asked_kept e h name rising reply is locks alike now note after wrote =
      let o : Option Op = option_and_then (λ answered. answered.op) (live_reply grants (folded state going.ops) t call) in
      let last : now ≡ noted going o = note ∙ ap (λ (r : Option Reply). noted going (option_and_then (λ answered. answered.op) r)) is in
      let all : after ≡ set_value (is_at (nat_cmp t.n)) live (noted going o) = wrote ∙ ap (set_value (is_at (nat_cmp t.n)) live) last in
      subst (λ (l : List (ℕ × Going)). AreAlike (record { epoch = epoch; begins = begins; live = l; grants = locks }) (called front state call)) (sym all)
      (subst (λ (f : Fronted). AreAlike (record { epoch = epoch; begins = begins; live = set_value (is_at (nat_cmp t.n)) live (noted going o); grants = locks }) f)
      (sym (called_live front state call t going name (found e h)))
      (written o locks (taken grants t (locks_at (folded state going.ops) call)) rising h alike))
