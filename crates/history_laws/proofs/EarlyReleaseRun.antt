-- The run in which locks are let go as their commit is logged.
use Rattle.std.proofs.Common.{◌≡◌, ◌∙◌, Bool, true, false, cond, List, [], ◌∷◌, Some, None, refl, sym, ap, subst}
use Rattle.std.specs.List.{IsDistinct}
use Rattle.std.specs.Map.{lookup}
use Rattle.std.proofs.lemmas.Bool.{false≢true}
use Rattle.std.proofs.lemmas.Option.{none-some, same_Some}
use Rattle.std.proofs.lemmas.List.Elements.{All-nil, All-cons, All-head}
use Rattle.rc_base.specs.declared.ids.TxnId.{TxnId}
use Rattle.rc_base.specs.Ids.{is_txn}
use Rattle.coll_model.specs.declared.contents.Contents.TheVariants.{Dict}
use Rattle.coll_model.specs.Effect.{State}
use Rattle.key_locks.specs.declared.lock_name.LockName.TheVariants.{Name}
use Rattle.key_locks.specs.declared.lock_mode.LockMode.TheVariants.{Exclusive}
use Rattle.key_locks.specs.Grants.{Grant}
use Rattle.events.specs.declared.answer.Answer.TheVariants as answers
use Rattle.events.specs.declared.answer.Reply.{Reply}
use Rattle.events.specs.Answers.{plain}
use Rattle.events.specs.Locking.{Lock}
use Rattle.events.specs.Replay.{Replays}
use Rattle.lock_laws.specs.Protected.{HasLock, AreProtected}
use Rattle.lock_laws.proofs.ProtectedGrants.{AreExclusive-nil, AreExclusive-granted}
use Rattle.lock_laws.proofs.ProtectedStates.{IsOrdered-nil}
use Rattle.order_machine.specs.Machine.{Machine, Txn}
use Rattle.order_machine.specs.Transitions.{asking_commit}
use Rattle.history_laws.specs.Texts.{IsText}
use Rattle.history_laws.specs.LockGuards.{PendingCommit, ReplicaGuard}
use Rattle.history_laws.specs.Laws.{after_call}
use Rattle.history_laws.specs.EarlyRelease.{maker, reader, make_call, read_call, maker_commit, reader_commit, with_lock, without_lock, EarlyReleaseIsRefused}

abbrev maker_txn : Txn
maker_txn = record { home = 0; shown_at_begin = 0; calls = make_call ∷ []; live = false; asked = true }

abbrev reader_txn : Txn
reader_txn = record { home = 0; shown_at_begin = 0; calls = []; live = true; asked = false }

abbrev name_lock : Lock
name_lock = record { name = Name (100 ∷ []); mode = Exclusive }

abbrev locks : List Grant
locks = record { txn = maker; name = Name (100 ∷ []); mode = Exclusive } ∷ []

-- ---- with the lock

maker_protected : AreProtected locks maker [] (make_call ∷ [])
maker_protected = ((All-cons (HasLock locks maker) name_lock [] (record { mode = Exclusive; held = refl; enough = refl }) (All-nil (HasLock locks maker)), refl), tt)

live_protected : (t : TxnId) (x : Txn) → lookup (is_txn t) with_lock.txns ≡ Some x → x.live ≡ true → AreProtected locks t [] x.calls
live_protected t x known live = by (is_txn t maker) (is_txn t reader) known
  where
    by : (a b : Bool) → cond a (Some maker_txn) (cond b (Some reader_txn) None) ≡ Some x → AreProtected locks t [] x.calls
    by true b e = absurd (false≢true (ap (λ (w : Txn). w.live) (same_Some maker_txn x e) ∙ live))
    by false true e = subst (λ (w : Txn). AreProtected locks t [] w.calls) (same_Some reader_txn x e) tt
    by false false e = absurd (none-some x e)

guarded : ReplicaGuard with_lock 0 (maker_commit ∷ [])
unfolding IsDistinct
guarded = record {
  ordered = IsOrdered-nil;
  exclusive = AreExclusive-granted [] maker (Name (100 ∷ [])) Exclusive refl AreExclusive-nil;
  live = λ t x known home live. live_protected t x known live;
  unshown = All-cons (PendingCommit with_lock.txns locks 0 []) maker_commit []
      (record { txn = maker_txn; known = refl; requested = refl; ended = refl; home = refl; whole = refl; protected = maker_protected })
      (All-nil (PendingCommit with_lock.txns locks 0 []));
  once = (tt, tt);
}

-- ---- without it

no_lock : HasLock [] maker name_lock → ⊥
no_lock has = none-some has.mode has.held

unguarded : ReplicaGuard without_lock 0 (maker_commit ∷ []) → ⊥
unguarded g =
    let p = All-head (PendingCommit without_lock.txns [] 0 []) maker_commit [] g.unshown in
    let protected : AreProtected [] maker [] (make_call ∷ []) = subst (λ (w : Txn). AreProtected [] maker [] w.calls) (sym (same_Some maker_txn p.txn p.known)) p.protected in
    no_lock (All-head (HasLock [] maker) name_lock [] protected.0.0)

abbrev last : Machine
last = asking_commit (after_call without_lock 0 read_call (plain answers.Absent)) 0 reader

abbrev read_txn : Txn
read_txn = record { home = 0; shown_at_begin = 0; calls = record { call = read_call; answer = answers.Absent; op = None } ∷ []; live = false; asked = true }

-- the state after the maker's commit
abbrev made : State
made = (100 ∷ [], Dict []) ∷ []

other_answer : answers.Missing ≡ answers.Absent → ⊥
other_answer e = cc

no_text : IsText last.txns [] (maker_commit ∷ reader_commit ∷ []) → ⊥
no_text text =
    let s = text.serial.1.0 in
    let replays : Replays made read_txn.calls = subst (λ (w : Txn). Replays made w.calls) (sym (same_Some read_txn s.txn s.known)) s.replays in
    other_answer (ap (λ (reply : Reply). reply.answer) (same_Some (plain answers.Missing) (plain answers.Absent) replays.0))

pub early_release_is_refused : EarlyReleaseIsRefused
early_release_is_refused = record { guarded = guarded; locked = refl; unguarded = unguarded; absent = refl; no_text = no_text }
