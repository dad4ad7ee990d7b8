-- Epochs and their numbers, and logs as the replication laws see them.
use Rattle.std.proofs.Common.{◌≡◌, ◌∙◌, ℕ, suc, ◌<◌, ◌≤◌, true, false, List, [], ◌∷◌, ◌++◌, length, map, take, get_or, refl, sym, ap, inl, inr, arith}
use Rattle.std.proofs.lemmas.Bool.{cases_Bool, or_cases, and_parts, ltb-true, eqb-true}
use Rattle.std.proofs.lemmas.List.{length-map, take-map, length-take-le}
use Rattle.rc_base.specs.declared.ids.Epoch.{Epoch}
use Rattle.rc_base.specs.Ids.{epoch_lt, no_epoch}
use Rattle.rc_base.proofs.EpochOrder.{epoch_same_from_neither}
use Rattle.log_records.specs.declared.record.Record.{Record}
use Rattle.txn_table.specs.Log.{Items, last_from}
use Rattle.fleet_laws.specs.Epochs.{IsEpochBelow}
use Rattle.fleet_laws.specs.Logs.{Entry, epoch_at, last_epoch, no_entry}
use Rattle.fleet_laws.proofs.Agreement.{agree_epoch, agree_take}
use Rattle.fleet_laws.proofs.Numbering.{codes_keep_order}
use Rattle.fleet_run.specs.Kernel.{IsCoded, code, entry_of}

-- ---- epochs

pub below : (a b : Epoch) → epoch_lt a b ≡ true → IsEpochBelow a.loss a.number b.loss b.number
below a b lt = elim (or_cases _ _ lt) [
  | inl less ↦ inl (ltb-true a.loss b.loss less)
  | inr both ↦ let parts = and_parts _ _ both in inr (eqb-true a.loss b.loss parts.0, ltb-true a.number b.number parts.1)
]

pub code_less : (a b : Epoch) → IsCoded a → IsCoded b → epoch_lt a b ≡ true → code a < code b
code_less a b x y lt = (codes_keep_order a.loss a.number b.loss b.number x y).1 (below a b lt)

pub code_not_less : (a b : Epoch) → IsCoded a → IsCoded b → epoch_lt a b ≡ false → code b ≤ code a
code_not_less a b x y ge = elim (cases_Bool (epoch_lt b a)) [
  | inl lt ↦ omega (arith, code_less b a y x lt)
  | inr ge' ↦ let same : a ≡ b = epoch_same_from_neither a b ge ge' in omega (arith, ap code same)
]

pub less_code : (a b : Epoch) → IsCoded a → IsCoded b → code a < code b → epoch_lt a b ≡ true
less_code a b x y lt = elim (cases_Bool (epoch_lt a b)) [
  | inl is ↦ is
  | inr ge ↦ absurd (omega (arith, code_not_less a b x y ge, lt))
]

pub not_less_code : (a b : Epoch) → IsCoded a → IsCoded b → code b ≤ code a → epoch_lt a b ≡ false
not_less_code a b x y le = elim (cases_Bool (epoch_lt a b)) [
  | inl lt ↦ absurd (omega (arith, code_less a b x y lt, le))
  | inr ge ↦ ge
]

pub same_code : (a b : Epoch) → IsCoded a → IsCoded b → code a ≡ code b → a ≡ b
same_code a b x y e = epoch_same_from_neither a b (not_less_code a b x y (omega (arith, e))) (not_less_code b a y x (omega (arith, e)))

pub no_epoch_coded : IsCoded no_epoch
no_epoch_coded = omega arith

-- ---- logs

last_step : (e : Epoch) (item : Epoch × Record) (log : Items) → code (last_from e (item ∷ log)) ≡ (get_or (map entry_of (item ∷ log)) (length log) no_entry).epoch
last_step e item [] = refl
last_step e item (next ∷ log) = last_step item.0 next log

-- the epoch of the last record
pub last_code : (log : Items) → code (last_from no_epoch log) ≡ last_epoch (map entry_of log)
unfolding epoch_at
last_code [] = refl
last_code (item ∷ log) = last_step no_epoch item log ∙ ap (λ (n : ℕ). epoch_at (map entry_of (item ∷ log)) (suc n)) (sym (length-map log entry_of))

-- that of the record at a place
pub place_code : (log : Items) (n : ℕ) → n ≤ length log → code (last_from no_epoch (take n log)) ≡ epoch_at (map entry_of log) n
place_code log n w =
    let within : n ≤ length (map entry_of log) = omega (arith, length-map log entry_of, w) in
    let cut : map entry_of (take n log) ≡ take n (map entry_of log) = sym (take-map entry_of n log) in
    let size : length (map entry_of (take n log)) ≡ n = ap length cut ∙ length-take-le n (map entry_of log) within in
    last_code (take n log) ∙ ap (epoch_at (map entry_of (take n log))) size ∙ ap (λ (l : List (Entry Record)). epoch_at l n) cut ∙ agree_epoch n n (take n (map entry_of log)) (map entry_of log) (omega arith) (agree_take n n (map entry_of log) (omega arith) within)

pub last_append : (e : Epoch) (xs ys : Items) → last_from e (xs ++ ys) ≡ last_from (last_from e xs) ys
last_append e [] ys = refl
last_append e (x ∷ xs) ys = last_append x.0 xs ys

-- records that are logged in the epoch
abbrev pub in_epoch : Epoch → List Record → Items
in_epoch e [] = []
in_epoch e (body ∷ bodies) = (e, body) ∷ in_epoch e bodies

pub last_in_epoch : (e : Epoch) (bodies : List Record) → last_from e (in_epoch e bodies) ≡ e
last_in_epoch e [] = refl
last_in_epoch e (body ∷ bodies) = last_in_epoch e bodies
