-- A run in which a transaction is aborted that had locked another one out.
use Rattle.std.proofs.Common.{◌≡◌, ℕ, Bool, true, false, List, [], ◌∷◌, drop, replicate, Some, None, refl, subst}
use Rattle.std.specs.List.{AllByRecursion}
use Rattle.rc_base.specs.declared.ids.TxnId.{TxnId}
use Rattle.coll_model.specs.declared.op.Kind.TheVariants as kinds
use Rattle.coll_model.specs.declared.op.Op.TheVariants as ops
use Rattle.key_locks.specs.declared.lock_name.LockName.TheVariants.{Name, Key}
use Rattle.key_locks.specs.declared.lock_mode.LockMode.TheVariants.{Shared, Exclusive}
use Rattle.key_locks.specs.Grants.{Grant}
use Rattle.events.specs.declared.event.Event.TheVariants.{Client}
use Rattle.events.specs.declared.call.Call.TheVariants.{Begin, Make, OnKey, Abort}
use Rattle.events.specs.declared.call.KeyCall.TheVariants.{Get, Set}
use Rattle.events.specs.declared.answer.Answer.TheVariants as answers
use Rattle.events.specs.Calls.{CallRecord}
use Rattle.order_machine.specs.declared.observation.Observation.TheVariants as says
use Rattle.order_machine.specs.Order.{empty_order}
use Rattle.order_machine.specs.Machine.{Machine, Replica, Txn, never_opened, empty_machine}
use Rattle.order_machine.specs.Transitions.{HoldsBehind, first_epoch}
use Rattle.order_machine.specs.Legal.{IsWhole, AreWhole, moved}
use Rattle.order_laws.specs.Laws.{first_txn, second_txn, one_abort}
use Rattle.order_laws.proofs.OneCommit.{holds_behind, none_pending, whole_boot, begun_machine, whole_begin}

-- ---- the machines of the run, in which replica 0 is the active primary of the first epoch and nothing is committed

abbrev primary : ℕ → List Grant → Replica
primary begins grants = record { up = true; show = 0; loss = 0; role = Some (record { epoch = first_epoch; active = true; begins = begins; idle = [] }); grants = grants; surveys = [] }

abbrev at : ℕ → List Grant → List (TxnId × Txn) → Machine
at begins grants txns = record {
  orders = empty_order ∷ [];
  acknowledged = [];
  replicas = primary begins grants ∷ replicate 8 never_opened;
  txns = txns;
  appointments = record { epoch = first_epoch; primary = 0; previous = 0 ∷ []; current = 0 ∷ []; dropped = false; was_active = true } ∷ [];
  config = 0 ∷ [];
  answers = [];
}

abbrev with_calls : List CallRecord → Bool → Txn
with_calls calls live = record { home = 0; shown_at_begin = 0; calls = calls; live = live; asked = false }

holds_at : (begins : ℕ) (grants : List Grant) (txns : List (TxnId × Txn)) → AllByRecursion (λ entry. entry.1.asked ≡ false) txns → HoldsBehind (at begins grants txns)
holds_at begins grants txns unasked = holds_behind (at begins grants txns) (primary begins grants) refl refl (none_pending (at begins grants txns) unasked)

-- ---- the calls

abbrev make_call : CallRecord
make_call = record { call = Make first_txn (100 ∷ []) kinds.Dict; answer = answers.True; op = Some (ops.Make (100 ∷ []) kinds.Dict) }

abbrev set_call : CallRecord
set_call = record { call = OnKey first_txn (100 ∷ []) (107 ∷ []) (Set (118 ∷ [])); answer = answers.Done; op = Some (ops.Put (100 ∷ []) (107 ∷ []) (118 ∷ [])) }

abbrev locked_call : CallRecord
locked_call = record { call = OnKey second_txn (100 ∷ []) (107 ∷ []) Get; answer = answers.Locked first_txn; op = None }

abbrev abort_call : CallRecord
abort_call = record { call = Abort first_txn; answer = answers.Done; op = None }

abbrev absent_call : CallRecord
absent_call = record { call = OnKey second_txn (100 ∷ []) (107 ∷ []) Get; answer = answers.Absent; op = None }

-- ---- a dictionary is made

abbrev name_grant : Grant
name_grant = record { txn = first_txn; name = Name (100 ∷ []); mode = Exclusive }

abbrev made_txns : List (TxnId × Txn)
made_txns = (first_txn, with_calls (make_call ∷ []) true) ∷ (first_txn, with_calls [] true) ∷ []

abbrev made : Machine
made = at 1 (name_grant ∷ []) made_txns

whole_make : IsWhole begun_machine (Client 0 (Make first_txn (100 ∷ []) kinds.Dict)) (says.True ∷ [])
whole_make = record {
  may = (record { named = refl; in_rank = refl; next = refl; goes_on = refl; row = (refl, refl) }, tt);
  complete = record { opened = refl; grown = refl; mounted = refl; told = refl; answered = refl };
  holds = holds_at 1 (name_grant ∷ []) made_txns (refl, (refl, tt));
}

-- ---- a value is written

abbrev both_grants : List Grant
both_grants = name_grant ∷ record { txn = first_txn; name = Key (100 ∷ []) (107 ∷ []); mode = Exclusive } ∷ []

abbrev written_txns : List (TxnId × Txn)
written_txns = (first_txn, with_calls (make_call ∷ set_call ∷ []) true) ∷ made_txns

abbrev written : Machine
written = at 1 both_grants written_txns

whole_set : IsWhole made (Client 0 (OnKey first_txn (100 ∷ []) (107 ∷ []) (Set (118 ∷ [])))) (says.Done ∷ [])
whole_set = record {
  may = (record { named = refl; in_rank = refl; next = refl; goes_on = refl; row = (refl, refl) }, tt);
  complete = record { opened = refl; grown = refl; mounted = refl; told = refl; answered = refl };
  holds = holds_at 1 both_grants written_txns (refl, (refl, (refl, tt)));
}

-- ---- another transaction

abbrev second_txns : List (TxnId × Txn)
second_txns = (second_txn, with_calls [] true) ∷ written_txns

abbrev both : Machine
both = at 2 both_grants second_txns

whole_second : IsWhole written (Client 0 Begin) (says.Txn second_txn ∷ [])
whole_second = record {
  may = (record { named = refl; in_rank = refl; next = refl; goes_on = refl; row = (refl, refl) }, tt);
  complete = record { opened = refl; grown = refl; mounted = refl; told = refl; answered = refl };
  holds = holds_at 2 both_grants second_txns (refl, (refl, (refl, (refl, tt))));
}

-- ---- it is locked out

abbrev locked_txns : List (TxnId × Txn)
locked_txns = (second_txn, with_calls (locked_call ∷ []) true) ∷ second_txns

abbrev locked : Machine
locked = at 2 both_grants locked_txns

whole_locked : IsWhole both (Client 0 (OnKey second_txn (100 ∷ []) (107 ∷ []) Get)) (says.Locked first_txn ∷ [])
whole_locked = record {
  may = (record { named = refl; in_rank = refl; next = refl; goes_on = refl; row = (refl, refl) }, tt);
  complete = record { opened = refl; grown = refl; mounted = refl; told = refl; answered = refl };
  holds = holds_at 2 both_grants locked_txns (refl, (refl, (refl, (refl, (refl, tt)))));
}

-- ---- the first is aborted

abbrev aborted_txns : List (TxnId × Txn)
aborted_txns = (first_txn, with_calls (make_call ∷ set_call ∷ abort_call ∷ []) false) ∷ (first_txn, with_calls (make_call ∷ set_call ∷ []) false) ∷ locked_txns

abbrev aborted : Machine
aborted = at 2 [] aborted_txns

whole_abort : IsWhole locked (Client 0 (Abort first_txn)) (says.Done ∷ [])
whole_abort = record {
  may = (record { named = refl; in_rank = refl; next = refl; goes_on = refl; row = (refl, refl) }, tt);
  complete = record { opened = refl; grown = refl; mounted = refl; told = refl; answered = refl };
  holds = holds_at 2 [] aborted_txns (refl, (refl, (refl, (refl, (refl, (refl, (refl, tt)))))));
}

-- ---- nothing is there

abbrev read_grants : List Grant
read_grants = record { txn = second_txn; name = Name (100 ∷ []); mode = Shared } ∷ []

abbrev read_txns : List (TxnId × Txn)
read_txns = (second_txn, with_calls (locked_call ∷ absent_call ∷ []) true) ∷ aborted_txns

abbrev read : Machine
read = at 2 read_grants read_txns

whole_read : IsWhole aborted (Client 0 (OnKey second_txn (100 ∷ []) (107 ∷ []) Get)) (says.Absent ∷ [])
whole_read = record {
  may = (record { named = refl; in_rank = refl; next = refl; goes_on = refl; row = (refl, refl) }, tt);
  complete = record { opened = refl; grown = refl; mounted = refl; told = refl; answered = refl };
  holds = holds_at 2 read_grants read_txns (refl, (refl, (refl, (refl, (refl, (refl, (refl, (refl, tt))))))));
}

-- ---- one after another

abbrev From : Machine → ℕ → Type 0
From m n = AreWhole [] m (drop n one_abort)

from_aborted : From aborted 7
from_aborted = (whole_read, tt)

from_locked : From locked 6
from_locked = let e : aborted ≡ moved locked (Client 0 (Abort first_txn)) (says.Done ∷ []) = refl in (whole_abort, subst (λ (m : Machine). From m 7) e from_aborted)

from_both : From both 5
from_both = let e : locked ≡ moved both (Client 0 (OnKey second_txn (100 ∷ []) (107 ∷ []) Get)) (says.Locked first_txn ∷ []) = refl in (whole_locked, subst (λ (m : Machine). From m 6) e from_locked)

from_written : From written 4
from_written = let e : both ≡ moved written (Client 0 Begin) (says.Txn second_txn ∷ []) = refl in (whole_second, subst (λ (m : Machine). From m 5) e from_both)

from_made : From made 3
from_made = let e : written ≡ moved made (Client 0 (OnKey first_txn (100 ∷ []) (107 ∷ []) (Set (118 ∷ [])))) (says.Done ∷ []) = refl in (whole_set, subst (λ (m : Machine). From m 4) e from_written)

from_begun : From begun_machine 2
from_begun = let e : made ≡ moved begun_machine (Client 0 (Make first_txn (100 ∷ []) kinds.Dict)) (says.True ∷ []) = refl in (whole_make, subst (λ (m : Machine). From m 3) e from_made)

pub one_abort_is_whole : AreWhole [] empty_machine one_abort
one_abort_is_whole = (whole_boot, (whole_begin, from_begun))
