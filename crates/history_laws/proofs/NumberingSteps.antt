-- The names of transactions count on.
use Rattle.std.proofs.Common.{◌≡◌, ◌∙◌, ℕ, ◌+◌, ◌≤◌, Bool, true, false, cond, List, [], ◌∷◌, find, Option, Some, None, option_map, refl, sym, ap, subst, le_of_eq, arith}
use Rattle.std.specs.Option.{option_map_or}
use Rattle.std.specs.Map.{lookup}
use Rattle.std.proofs.lemmas.Option.{none-some, same_Some}
use Rattle.rc_base.specs.declared.ids.Epoch.{Epoch}
use Rattle.rc_base.specs.declared.ids.TxnId.{TxnId}
use Rattle.rc_base.specs.Ids.{is_epoch, is_txn}
use Rattle.rc_base.proofs.SameIds.{is_txn-true}
use Rattle.key_locks.specs.Grants.{released}
use Rattle.events.specs.Locking.{locks_at, taken}
use Rattle.events.proofs.Lists.{at_each, at_each_other}
use Rattle.lock_laws.proofs.ProtectedCalls.{note_of}
use Rattle.order_machine.specs.Machine.{Machine, Replica, Role, Txn, Appointment, never_opened, replica, put_replica, put_txn, txn_of, grants_of, put_grants, role_of, is_active, ended_at}
use Rattle.order_machine.specs.Clients.{next_txn, new_txn, one_more_begun, begun, seen}
use Rattle.order_machine.specs.Transitions.{going_at, asking_commit, acknowledging}
use Rattle.order_machine.proofs.Machines.{never_put, known_before}
use Rattle.history_laws.specs.Invariant.Numbering.{RoleNumbering, ReplicaNumbering, Numbering}
use Rattle.history_laws.specs.Laws.{EmptyIsNumbered, CallsKeepNumbering, ChangesKeepNumbering}
use Rattle.history_laws.proofs.QuietSuffixes.{same_home}
use Rattle.history_laws.proofs.CallCases.{live_at, role_there, up_there, with_call, aborted, CallCases, after_answer}
use Rattle.history_laws.proofs.SettledSteps.{put_there}

-- ---- one replica changes

pub numbering_replica : (m : Machine) (r : ℕ) (new : Replica) → ReplicaNumbering m.txns m.appointments r new → Numbering m → Numbering (put_replica m r new)
numbering_replica m r new here n = record { replicas = at_each (ReplicaNumbering m.txns m.appointments) m.replicas r new never_opened n.replicas here; home = n.home }

-- with the same role, open or closed as before
pub numbering_beside : (m : Machine) (r : ℕ) (new : Replica) → new.up ≡ (replica m r).up → new.role ≡ (replica m r).role → Numbering m → Numbering (put_replica m r new)
numbering_beside m r new up role n =
    numbering_replica m r new (record { closed = λ down. role ∙ (n.replicas r).closed (sym up ∙ down); role = λ held e. (n.replicas r).role held (sym role ∙ e) }) n

-- ---- one transaction is put

-- one that is known, with the same home
module _ (txns : List (TxnId × Txn)) (appointments : List Appointment) (t : TxnId) (x new : Txn) (known : lookup (is_txn t) txns ≡ Some x) where
  -- what is known now was known before
  was_known : (u : TxnId) (y : Txn) → lookup (is_txn u) ((t, new) ∷ txns) ≡ Some y → (w : Txn) × (lookup (is_txn u) txns ≡ Some w)
  was_known u y found = by (is_txn u t) refl found
    where
      by : (b : Bool) → is_txn u t ≡ b → cond b (Some new) (lookup (is_txn u) txns) ≡ Some y → (w : Txn) × (lookup (is_txn u) txns ≡ Some w)
      by true same e = (x, subst (λ (v : TxnId). lookup (is_txn v) txns ≡ Some x) (sym (is_txn-true u t same)) known)
      by false other e = (y, e)

  role_put : (r : ℕ) (role : Role) → RoleNumbering txns appointments r role → RoleNumbering ((t, new) ∷ txns) appointments r role
  role_put r role old = record {
    appointment = old.appointment;
    appointed = old.appointed;
    primary = old.primary;
    counted = λ u y found epoch. let w = was_known u y found in old.counted u w.0 w.1 epoch;
  }

pub numbering_put : (m : Machine) (t : TxnId) (x new : Txn) → txn_of m t ≡ Some x → new.home ≡ x.home → Numbering m → Numbering (put_txn m t new)
numbering_put m t x new known home n = record {
  replicas = λ r. record { closed = (n.replicas r).closed; role = λ role e. role_put m.txns m.appointments t x new known r role ((n.replicas r).role role e) };
  home = λ u y found. by u y (is_txn u t) refl found;
}
  where
    by : (u : TxnId) (y : Txn) (b : Bool) → is_txn u t ≡ b → cond b (Some new) (lookup (is_txn u) m.txns) ≡ Some y → (a : Appointment) × (find (λ a. is_epoch u.epoch a.epoch) m.appointments ≡ Some a) × (a.primary ≡ y.home)
    by u y true same e =
        let a = n.home t x known in
        (a.0, ap (λ (v : TxnId). find (λ b. is_epoch v.epoch b.epoch) m.appointments) (is_txn-true u t same) ∙ a.1, a.2 ∙ (sym home ∙ ap (λ (w : Txn). w.home) (same_Some new y e)))
    by u y false other e = n.home u y e

-- ---- a begin

-- an epoch has one primary
one_primary : (txns : List (TxnId × Txn)) (appointments : List Appointment) (q r : ℕ) (a b : Role) → RoleNumbering txns appointments q a → RoleNumbering txns appointments r b → a.epoch ≡ b.epoch → q ≡ r
one_primary txns appointments q r a b k l same =
    sym k.primary
    ∙ (ap (λ (x : Appointment). x.primary) (same_Some k.appointment l.appointment (sym k.appointed ∙ (ap (λ (e : Epoch). find (λ x. is_epoch e x.epoch) appointments) same ∙ l.appointed))) ∙ l.primary)

abbrev next_of : Role → TxnId
next_of role = record { epoch = role.epoch; n = role.begins + 1 }

module _ (m : Machine) (r : ℕ) (n : Numbering m) (role : Role) (has : role_of m r ≡ Some role) (active : is_active m r ≡ true) where
  -- at another replica
  begun_other : (q : ℕ) → (q ≡ r → ⊥) → (other : Role) → RoleNumbering m.txns m.appointments q other → RoleNumbering ((next_of role, new_txn m r) ∷ m.txns) m.appointments q other
  begun_other q apart other old = record {
    appointment = old.appointment;
    appointed = old.appointed;
    primary = old.primary;
    counted = λ u y found epoch. by u y epoch (is_txn u (next_of role)) refl found;
  }
    where
      by : (u : TxnId) (y : Txn) → u.epoch ≡ other.epoch → (b : Bool) → is_txn u (next_of role) ≡ b → cond b (Some (new_txn m r)) (lookup (is_txn u) m.txns) ≡ Some y → u.n ≤ other.begins
      by u y epoch true same e =
          absurd (apart (one_primary m.txns m.appointments q r other role old ((n.replicas r).role role has) (sym epoch ∙ ap (λ (v : TxnId). v.epoch) (is_txn-true u (next_of role) same))))
      by u y epoch false off e = old.counted u y e epoch

  begun_own : RoleNumbering ((next_of role, new_txn m r) ∷ m.txns) m.appointments r (one_more_begun role)
  begun_own = let old = (n.replicas r).role role has in record {
    appointment = old.appointment;
    appointed = old.appointed;
    primary = old.primary;
    counted = λ u y found epoch. by u y epoch (is_txn u (next_of role)) refl found;
  }
    where
      by : (u : TxnId) (y : Txn) → u.epoch ≡ role.epoch → (b : Bool) → is_txn u (next_of role) ≡ b → cond b (Some (new_txn m r)) (lookup (is_txn u) m.txns) ≡ Some y → u.n ≤ role.begins + 1
      by u y epoch true same e = le_of_eq (ap (λ (v : TxnId). v.n) (is_txn-true u (next_of role) same))
      by u y epoch false off e = let most = ((n.replicas r).role role has).counted u y e epoch in omega arith

  begun_home : (u : TxnId) (y : Txn) (b : Bool) → is_txn u (next_of role) ≡ b → cond b (Some (new_txn m r)) (lookup (is_txn u) m.txns) ≡ Some y → (a : Appointment) × (find (λ a. is_epoch u.epoch a.epoch) m.appointments ≡ Some a) × (a.primary ≡ y.home)
  begun_home u y true same e =
      let old = (n.replicas r).role role has in
      (old.appointment, ap (λ (v : TxnId). find (λ b. is_epoch v.epoch b.epoch) m.appointments) (is_txn-true u (next_of role) same) ∙ old.appointed, old.primary ∙ ap (λ (w : Txn). w.home) (same_Some (new_txn m r) y e))
  begun_home u y false off e = n.home u y e

  numbering_begun : Numbering (begun m r (next_of role))
  numbering_begun = record {
    replicas = at_each_other (ReplicaNumbering ((next_of role, new_txn m r) ∷ m.txns) m.appointments) m.replicas r (record (replica m r) { role = option_map one_more_begun (role_of m r) }) never_opened
        (λ q apart. record { closed = (n.replicas q).closed; role = λ other e. begun_other q apart other ((n.replicas q).role other e) })
        (λ past. record { closed = λ down. refl; role = λ other e. absurd (none-some other e) })
        (record {
          closed = λ down. absurd (up_there m r n active down);
          role = λ other e.
              subst (RoleNumbering ((next_of role, new_txn m r) ∷ m.txns) m.appointments r) (same_Some (one_more_begun role) other (sym (ap (option_map one_more_begun) has) ∙ e)) begun_own;
        });
    home = λ u y found. begun_home u y (is_txn u (next_of role)) refl found;
  }

-- ---- calls

pub numbering_cases : (m : Machine) (r : ℕ) → Numbering m → CallCases Numbering m r
numbering_cases m r n = record {
  same = n;
  quiet = λ t x c known quiet. numbering_put m t x (with_call x c) known refl n;
  begins = λ t next active none.
      let has = role_there m r active in
      subst (λ (u : TxnId). Numbering (begun m r u)) (sym (next ∙ ap next_txn has.1)) (numbering_begun m r n has.0 has.1 active);
  locks = λ t x call reply at e.
      let grants = taken (grants_of m r) t (locks_at (seen m r x) call) in
      numbering_put (put_grants m r grants) t x (with_call x (note_of call reply)) at.known refl (numbering_beside m r (record (replica m r) { grants = grants }) refl refl n);
  aborts = λ t x c at quiet.
      let free : Machine = put_grants m r (released (grants_of m r) t) in
      let over : Numbering (put_txn free t (aborted x)) = numbering_put free t x (aborted x) at.known refl (numbering_beside m r (record (replica m r) { grants = released (grants_of m r) t }) refl refl n) in
      numbering_put (put_txn free t (aborted x)) t (aborted x) (with_call (aborted x) c) (put_there m.txns t (aborted x)) refl over;
}

-- ---- the end of a role

numbering_ended : (m : Machine) (r : ℕ) (new : Replica) → new.role ≡ None → Numbering m → Numbering (record (put_replica m r new) { txns = ended_at r m.txns })
numbering_ended m r new none n = record {
  replicas = at_each (ReplicaNumbering (ended_at r m.txns) m.appointments) m.replicas r new never_opened
      (λ q. record { closed = (n.replicas q).closed; role = λ role e. role_ended q role ((n.replicas q).role role e) })
      (record { closed = λ down. none; role = λ role e. absurd (none-some role (sym none ∙ e)) });
  home = λ t y known.
      let was = known_before r m.txns t y known in
      let a = n.home t was.0 was.1 in
      (a.0, a.1, a.2 ∙ (sym (same_home r was.0) ∙ ap (λ (w : Txn). w.home) was.2));
}
  where
    role_ended : (q : ℕ) (role : Role) → RoleNumbering m.txns m.appointments q role → RoleNumbering (ended_at r m.txns) m.appointments q role
    role_ended q role old = record {
      appointment = old.appointment;
      appointed = old.appointed;
      primary = old.primary;
      counted = λ t y known epoch. let was = known_before r m.txns t y known in old.counted t was.0 was.1 epoch;
    }

-- ---- the laws

pub empty_is_numbered : EmptyIsNumbered
empty_is_numbered = record {
  replicas = λ r. subst (ReplicaNumbering [] [] r) (sym (never_put r)) (record { closed = λ down. refl; role = λ role e. absurd (none-some role e) });
  home = λ t x known. absurd (none-some x known);
}

pub calls_keep_numbering : CallsKeepNumbering
calls_keep_numbering m r call reply n is = after_answer Numbering m r (numbering_cases m r n) call reply n is

request_numbering : (m : Machine) (r : ℕ) (t : TxnId) → Numbering m → Numbering (asking_commit m r t)
request_numbering m r t n = by (going_at m r t) refl
  where
    by : (o : Option Txn) → going_at m r t ≡ o → Numbering (option_map_or (λ x. put_txn m t (record x { live = false; asked = true })) o m)
    by None e = n
    by (Some x) e = numbering_put m t x (record x { live = false; asked = true }) (live_at m r t x e).known refl n

acknowledged_numbering : (m : Machine) (r : ℕ) (t : TxnId) → Numbering m → Numbering (acknowledging m r t)
acknowledged_numbering m r t n =
    let k = numbering_beside m r (record (replica m r) { grants = released (grants_of m r) t }) refl refl n in
    record { replicas = k.replicas; home = k.home }

pub changes_keep_numbering : ChangesKeepNumbering
changes_keep_numbering = record {
  request = request_numbering;
  view = λ m r shown n. numbering_beside m r (record (replica m r) { show = shown }) refl refl n;
  acknowledgement = acknowledged_numbering;
  role_end = λ m r n.
      (numbering_ended m r (record (replica m r) { role = None; grants = [] }) refl n, numbering_ended m r (record (replica m r) { up = false; role = None; grants = [] }) refl n);
}
