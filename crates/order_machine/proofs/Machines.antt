-- The machine at its start, once a role has ended, and without one.
use Rattle.std.proofs.Common.{◌≡◌, ◌∙◌, ℕ, ◌≤◌, true, false, eqb, List, [], ◌∷◌, replicate, get_or, Option, Some, None, cond, refl, sym, ap, subst, inl, inr}
use Rattle.std.specs.Prelude.{option_map, option_and_then}
use Rattle.std.specs.List.{list_all}
use Rattle.std.specs.Option.{option_map_or}
use Rattle.std.specs.Map.{lookup}
use Rattle.std.proofs.lemmas.Bool.{false≢true, cases_Bool, cond-true, cond-false, cases_lt}
use Rattle.std.proofs.lemmas.Option.{none-some, same_Some}
use Rattle.std.proofs.lemmas.List.{get_or-replicate, get_or_past, length-replicate}
use Rattle.rc_base.specs.declared.ids.TxnId.{TxnId}
use Rattle.rc_base.specs.Ids.{is_txn}
use Rattle.order_machine.specs.Machine.{Machine, Txn, never_opened, role_of, appointment_of, configs_of, is_alone, ended_at}

-- no replica was ever opened
pub never_put : (r : ℕ) → get_or (replicate 9 never_opened) r never_opened ≡ never_opened
never_put r =
    elim (cases_lt r 9) [
      | inl lt ↦ get_or-replicate 9 r never_opened never_opened lt
      | inr le ↦ get_or_past (replicate 9 never_opened) r never_opened (subst (λ n. n ≤ r) (sym (length-replicate 9 never_opened)) le)
    ]

-- what is known of a transaction once nothing goes on at r
abbrev pub ended : ℕ → Txn → Txn
ended r x = cond (eqb x.home r) (record x { live = false }) x

pub lookup_ended : (r : ℕ) (txns : List (TxnId × Txn)) (t : TxnId) → lookup (is_txn t) (ended_at r txns) ≡ option_map (ended r) (lookup (is_txn t) txns)
lookup_ended r [] t = refl
lookup_ended r (entry ∷ txns) t =
    elim (cases_Bool (is_txn t entry.0)) [
      | inl same ↦ cond-true (is_txn t entry.0) (Some (ended r entry.1)) (lookup (is_txn t) (ended_at r txns)) same ∙ sym (ap (option_map (ended r)) (cond-true (is_txn t entry.0) (Some entry.1) (lookup (is_txn t) txns) same))
      | inr other ↦ cond-false (is_txn t entry.0) (Some (ended r entry.1)) (lookup (is_txn t) (ended_at r txns)) other ∙ (lookup_ended r txns t ∙ sym (ap (option_map (ended r)) (cond-false (is_txn t entry.0) (Some entry.1) (lookup (is_txn t) txns) other)))
    ]

-- a transaction that is known then was known before
pub known_before : (r : ℕ) (txns : List (TxnId × Txn)) (t : TxnId) (y : Txn) → lookup (is_txn t) (ended_at r txns) ≡ Some y → (x : Txn) × (lookup (is_txn t) txns ≡ Some x) × (ended r x ≡ y)
known_before r txns t y known = before (lookup (is_txn t) txns) refl
  where
    before : (o : Option Txn) → lookup (is_txn t) txns ≡ o → (x : Txn) × (lookup (is_txn t) txns ≡ Some x) × (ended r x ≡ y)
    before None e = absurd (none-some y (sym (lookup_ended r txns t ∙ ap (option_map (ended r)) e) ∙ known))
    before (Some x) e = (x, e, same_Some (ended r x) y (sym (lookup_ended r txns t ∙ ap (option_map (ended r)) e) ∙ known))

-- a replica without a role isn't alone
pub not_alone : (m : Machine) (r : ℕ) → role_of m r ≡ None → is_alone m r ≡ true → ⊥
not_alone m r none h =
    false≢true (sym (ap (λ o. option_map_or (λ a. list_all (λ c. list_all (λ member. eqb member r) c) (configs_of a)) (option_and_then (λ role. appointment_of m role.epoch) o) false) none) ∙ h)
