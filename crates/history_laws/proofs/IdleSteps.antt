-- Where nothing goes on: after the end of a role, and as long as a replica isn't an active primary.
use Rattle.std.proofs.Common.{◌≡◌, ◌∙◌, ℕ, false, eqb, List, [], set, get_or, Some, None, refl, sym, ap, subst, inl, inr}
use Rattle.std.specs.Map.{lookup}
use Rattle.std.proofs.lemmas.Bool.{false≢true, cond_both, cases_eq, eq-eqb}
use Rattle.rc_base.specs.declared.ids.TxnId.{TxnId}
use Rattle.rc_base.specs.Ids.{is_txn}
use Rattle.events.proofs.Lists.{at_written}
use Rattle.order_machine.specs.Machine.{Machine, Replica, Txn, never_opened, replica, put_txn, is_active, ended_at}
use Rattle.order_machine.specs.Transitions.{new_role}
use Rattle.order_machine.proofs.Machines.{known_before}
use Rattle.history_laws.specs.LockGuards.{IdleReplica}
use Rattle.history_laws.specs.Laws.{after_call, EndedRolesAreIdle, CallsKeepIdle}
use Rattle.history_laws.proofs.QuietSuffixes.{same_home}
use Rattle.history_laws.proofs.CallCases.{with_call, CallCases, after_answer}
use Rattle.history_laws.proofs.Elsewhere.{Elsewhere, idle_elsewhere, quiet_elsewhere, elsewhere_cases}

-- ---- the end of a role

-- no transaction of its home is live
none_live : (r : ℕ) (txns : List (TxnId × Txn)) (t : TxnId) (x : Txn) → lookup (is_txn t) (ended_at r txns) ≡ Some x → x.home ≡ r → x.live ≡ false
none_live r txns t x known home =
    let was = known_before r txns t x known in
    let w : Txn = was.0 in
    let at : w.home ≡ r = sym (same_home r w) ∙ (ap (λ (y : Txn). y.home) was.2 ∙ home) in
    subst (λ (y : Txn). y.live ≡ false) was.2
    (cond_both (eqb w.home r) (record w { live = false }) w (λ (y : Txn). y.live ≡ false) (λ e. refl) (λ e. absurd (false≢true (sym e ∙ eq-eqb w.home r at))))

-- no lock is granted at a replica that is put so
no_grants : (replicas : List Replica) (r : ℕ) (new : Replica) → new.grants ≡ [] → (get_or (set replicas r new) r never_opened).grants ≡ []
no_grants replicas r new free = at_written (λ (rep : Replica). rep.grants ≡ []) replicas r new never_opened refl free

pub ended_roles_are_idle : EndedRolesAreIdle
ended_roles_are_idle m r = (
  record { free = no_grants m.replicas r without refl; over = λ t x known home. none_live r m.txns t x known home },
  record { free = no_grants m.replicas r (record (replica m r) { up = false; role = None; grants = [] }) refl; over = λ t x known home. none_live r m.txns t x known home },
  λ e members. record {
    free = no_grants (set m.replicas r without) r (record (get_or (set m.replicas r without) r never_opened) { role = Some (new_role e) }) (no_grants m.replicas r without refl);
    over = λ t x known home. none_live r m.txns t x known home;
  },
)
  where
    without : Replica
    without = record (replica m r) { role = None; grants = [] }

-- ---- calls

-- at a replica that isn't an active primary
inactive_cases : (m : Machine) (r : ℕ) → is_active m r ≡ false → IdleReplica m r → CallCases (λ now. IdleReplica now r) m r
inactive_cases m r inactive idle = record {
  same = idle;
  quiet = λ t x c known quiet. idle_elsewhere r m (put_txn m t (with_call x c)) (quiet_elsewhere r m t x c known quiet) idle;
  begins = λ t next active none. absurd (false≢true (sym inactive ∙ active));
  locks = λ t x call reply at e. absurd (false≢true (sym inactive ∙ at.active));
  aborts = λ t x c at quiet. absurd (false≢true (sym inactive ∙ at.active));
}

pub calls_keep_idle : CallsKeepIdle
calls_keep_idle m r call reply numbering is q inactive idle =
    elim (cases_eq q r) [
      | inl e ↦ subst (λ (k : ℕ). IdleReplica (after_call m r call reply) k) (sym e) (after_answer (λ now. IdleReplica now r) m r (inactive_cases m r (inactive e) (subst (IdleReplica m) e idle)) call reply numbering is)
      | inr apart ↦ idle_elsewhere q m (after_call m r call reply) (after_answer (Elsewhere q m) m r (elsewhere_cases m r q apart) call reply numbering is) idle
    ]
