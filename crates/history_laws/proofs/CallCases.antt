-- What an answered call changes: nothing but a quiet call that is noted, or a transaction that is begun, locks and one more
-- call of a live one, or the end of a live one by its abort.
use Rattle.std.proofs.Common.{◌≡◌, ◌∙◌, ℕ, ◌+◌, ◌≤◌, Bool, true, false, not, ◌&&◌, eqb, cond, [], ◌∷◌, ◌++◌, Option, Some, None, refl, sym, ap, subst, arith}
use Rattle.std.specs.Option.{option_map_or}
use Rattle.std.specs.Map.{lookup}
use Rattle.std.proofs.lemmas.Bool.{false≢true, and_parts, eqb-true, cond-true}
use Rattle.std.proofs.lemmas.Option.{none-some, same_Some}
use Rattle.rc_base.specs.declared.ids.TxnId.{TxnId}
use Rattle.rc_base.specs.Ids.{is_txn}
use Rattle.rc_base.proofs.SameIds.{is_txn_same}
use Rattle.key_locks.specs.Grants.{released}
use Rattle.events.specs.declared.call.Call.{Call}
use Rattle.events.specs.declared.call.Call.TheVariants.{Begin, Make, OnKey, Commit, Abort}
use Rattle.events.specs.declared.answer.Answer.TheVariants as answers
use Rattle.events.specs.declared.answer.Reply.{Reply}
use Rattle.events.specs.Calls.{CallRecord, txn_named}
use Rattle.events.specs.Locking.{locks_at, taken}
use Rattle.events.specs.Answers.{plain, live_reply}
use Rattle.events.proofs.Lists.{passed}
use Rattle.lock_laws.proofs.ProtectedCalls.{note_of}
use Rattle.order_machine.specs.Machine.{Machine, Role, Txn, replica, role_of, txn_of, put_txn, grants_of, put_grants, is_active, is_live, live_txn}
use Rattle.order_machine.specs.Clients.{answer, served, seen, next_txn, noted, begun, begun_by, answered_at}
use Rattle.order_machine.specs.Transitions.{going_at, asking, asking_locks, asking_abort}
use Rattle.history_laws.specs.QuietCalls.{QuietCall}
use Rattle.history_laws.specs.Invariant.Numbering.{Numbering}

-- ---- a live transaction

-- the transaction is live at r, an active primary
pub record LiveAt (m : Machine) (r : ℕ) (t : TxnId) (x : Txn) : Type 0 where
  pub known : txn_of m t ≡ Some x
  pub live : x.live ≡ true
  pub home : x.home ≡ r
  pub active : is_active m r ≡ true

pub live_at : (m : Machine) (r : ℕ) (t : TxnId) (x : Txn) → going_at m r t ≡ Some x → LiveAt m r t x
live_at m r t x going = by_active (is_active m r) refl going
  where
    by_live : is_active m r ≡ true → (b : Bool) → is_live m r t ≡ b → cond b (txn_of m t) None ≡ Some x → LiveAt m r t x
    by_live active true live e =
        let both : (x.live && eqb x.home r) ≡ true = sym (ap (λ (o : Option Txn). option_map_or (λ y. y.live && eqb y.home r) o false) e) ∙ live in
        let parts = and_parts x.live (eqb x.home r) both in
        record { known = e; live = parts.0; home = eqb-true x.home r parts.1; active = active }
    by_live active false live e = absurd (none-some x e)

    by_active : (a : Bool) → is_active m r ≡ a → cond a (live_txn m r t) None ≡ Some x → LiveAt m r t x
    by_active true active e = by_live active (is_live m r t) refl e
    by_active false active e = absurd (none-some x e)

-- an active primary has a role
pub role_there : (m : Machine) (r : ℕ) → is_active m r ≡ true → (role : Role) × (role_of m r ≡ Some role) × (role.active ≡ true)
role_there m r active = passed (λ (role : Role). role.active) (role_of m r) active

-- and is open
pub up_there : (m : Machine) (r : ℕ) → Numbering m → is_active m r ≡ true → (replica m r).up ≡ false → ⊥
up_there m r numbering active down =
    let has = role_there m r active in
    none-some has.0 (sym ((numbering.replicas r).closed down) ∙ has.1)

-- ---- the next transaction is new

next_is_new : (m : Machine) (r : ℕ) → Numbering m → is_active m r ≡ true → txn_of m (next_txn (role_of m r)) ≡ None
next_is_new m r numbering active = subst (λ (o : Option Role). txn_of m (next_txn o) ≡ None) (sym has.1) (by (txn_of m next) refl)
  where
    has : (role : Role) × (role_of m r ≡ Some role) × (role.active ≡ true)
    has = role_there m r active

    next : TxnId
    next = next_txn (Some has.0)

    by : (o : Option Txn) → txn_of m next ≡ o → o ≡ None
    by None e = refl
    by (Some x) e = let most : has.0.begins + 1 ≤ has.0.begins = ((numbering.replicas r).role has.0 has.1).counted next x e refl in absurd (omega arith)

-- ---- the cases

abbrev pub with_call : Txn → CallRecord → Txn
with_call x c = record x { calls = x.calls ++ c ∷ [] }

abbrev pub aborted : Txn → Txn
aborted x = record x { live = false }

-- it holds of each machine that an answered call at r may leave
pub record CallCases (P : Machine → Type 0) (m : Machine) (r : ℕ) : Type 0 where
  pub same : P m
  pub quiet : (t : TxnId) (x : Txn) (c : CallRecord) → txn_of m t ≡ Some x → QuietCall c → P (put_txn m t (with_call x c))
  pub begins : (t : TxnId) → t ≡ next_txn (role_of m r) → is_active m r ≡ true → txn_of m t ≡ None → P (begun m r t)
  pub locks : (t : TxnId) (x : Txn) (call : Call) (reply : Reply) → LiveAt m r t x → live_reply (grants_of m r) (seen m r x) t call ≡ Some reply
      → P (put_txn (put_grants m r (taken (grants_of m r) t (locks_at (seen m r x) call))) t (with_call x (note_of call reply)))
  pub aborts : (t : TxnId) (x : Txn) (c : CallRecord) → LiveAt m r t x → QuietCall c
      → P (put_txn (put_txn (put_grants m r (released (grants_of m r) t)) t (aborted x)) t (with_call (aborted x) c))

-- the two refusals of the replica
abbrev refusals : Machine → ℕ → Bool → Bool → Option Reply → Option Reply
refusals m r up active reply = cond (not up) (Some (plain (answers.Down r))) (cond (not active) (Some (plain (answers.NotActive r))) reply)

module _ (m : Machine) (r : ℕ) (call : Call) (reply : Reply) (numbering : Numbering m) (is : answer m r call ≡ Some reply) where
  -- a call of a transaction that isn't live there is quiet
  quiet_there : (t : TxnId) → txn_named call ≡ Some t → going_at m r t ≡ None → QuietCall (note_of call reply)
  quiet_there t named none = by (replica m r).up (is_active m r) refl is
    where
      refused : (told : Reply) → QuietCall (note_of call told) → Some told ≡ Some reply → QuietCall (note_of call reply)
      refused told quiet e = subst (λ (z : Reply). QuietCall (note_of call z)) (same_Some told reply e) quiet

      over : live_txn m r t ≡ None → served m r call ≡ Some (plain (answers.Ended t))
      over e =
          ap (λ (o : Option TxnId). option_map_or (λ u. option_map_or (λ x. live_reply (grants_of m r) (seen m r x) u call) (live_txn m r u) (Some (plain (answers.Ended u)))) o (Some (plain (answers.Txn (next_txn (role_of m r)))))) named
          ∙ ap (λ (o : Option Txn). option_map_or (λ x. live_reply (grants_of m r) (seen m r x) t call) o (Some (plain (answers.Ended t)))) e

      by : (up active : Bool) → is_active m r ≡ active → refusals m r up active (served m r call) ≡ Some reply → QuietCall (note_of call reply)
      by false active same e = refused (plain (answers.Down r)) (record { passed = refl; unlogged = refl }) e
      by true false same e = refused (plain (answers.NotActive r)) (record { passed = refl; unlogged = refl }) e
      by true true same e =
          let gone : live_txn m r t ≡ None = sym (cond-true (is_active m r) (live_txn m r t) None same) ∙ none in
          refused (plain (answers.Ended t)) (record { passed = refl; unlogged = refl }) (sym (over gone) ∙ e)

  -- one of a live transaction has its answer
  live_there : (t : TxnId) (x : Txn) → txn_named call ≡ Some t → LiveAt m r t x → live_txn m r t ≡ Some x → live_reply (grants_of m r) (seen m r x) t call ≡ Some reply
  live_there t x named at live = by (replica m r).up (is_active m r) refl refl is
    where
      answered : served m r call ≡ live_reply (grants_of m r) (seen m r x) t call
      answered =
          ap (λ (o : Option TxnId). option_map_or (λ u. option_map_or (λ y. live_reply (grants_of m r) (seen m r y) u call) (live_txn m r u) (Some (plain (answers.Ended u)))) o (Some (plain (answers.Txn (next_txn (role_of m r)))))) named
          ∙ ap (λ (o : Option Txn). option_map_or (λ y. live_reply (grants_of m r) (seen m r y) t call) o (Some (plain (answers.Ended t)))) live

      by : (up active : Bool) → (replica m r).up ≡ up → is_active m r ≡ active → refusals m r up active (served m r call) ≡ Some reply → live_reply (grants_of m r) (seen m r x) t call ≡ Some reply
      by false active down same e = absurd (up_there m r numbering at.active down)
      by true false up same e = absurd (false≢true (sym same ∙ at.active))
      by true true up same e = sym answered ∙ e

live_txn_there : (m : Machine) (r : ℕ) (t : TxnId) (x : Txn) → going_at m r t ≡ Some x → live_txn m r t ≡ Some x
live_txn_there m r t x going = sym (cond-true (is_active m r) (live_txn m r t) None (live_at m r t x going).active) ∙ going

module _ (P : Machine → Type 0) (m : Machine) (r : ℕ) (cases : CallCases P m r) where
  -- a quiet call is noted, where its transaction is known
  noted_quiet : (t : TxnId) (c : CallRecord) → QuietCall c → P (noted m t c)
  noted_quiet t c quiet = by (txn_of m t) refl
    where
      by : (o : Option Txn) → txn_of m t ≡ o → P (option_map_or (λ x. put_txn m t (with_call x c)) o m)
      by None e = cases.same
      by (Some x) e = cases.quiet t x c e quiet

  begun_there : (reply : Reply) → Numbering m → answer m r Begin ≡ Some reply → P (begun_by m r reply.answer)
  begun_there reply numbering is = by (replica m r).up (is_active m r) refl is
    where
      by : (up active : Bool) → is_active m r ≡ active → refusals m r up active (served m r Begin) ≡ Some reply → P (begun_by m r reply.answer)
      by false active same e = subst (λ (z : Reply). P (begun_by m r z.answer)) (same_Some (plain (answers.Down r)) reply e) cases.same
      by true false same e = subst (λ (z : Reply). P (begun_by m r z.answer)) (same_Some (plain (answers.NotActive r)) reply e) cases.same
      by true true same e =
          subst (λ (z : Reply). P (begun_by m r z.answer)) (same_Some (plain (answers.Txn (next_txn (role_of m r)))) reply e)
          (cases.begins (next_txn (role_of m r)) refl same (next_is_new m r numbering same))

  -- a call on a collection
  locks_there : (t : TxnId) (call : Call) (reply : Reply) → Numbering m → txn_named call ≡ Some t → answer m r call ≡ Some reply → P (noted (asking_locks m r t call) t (note_of call reply))
  locks_there t call reply numbering named is = by (going_at m r t) refl
    where
      ask : Txn → Machine
      ask x = put_grants m r (taken (grants_of m r) t (locks_at (seen m r x) call))

      by : (o : Option Txn) → going_at m r t ≡ o → P (noted (option_map_or (λ x. put_grants m r (taken (grants_of m r) t (locks_at (seen m r x) call))) o m) t (note_of call reply))
      by None e = noted_quiet t (note_of call reply) (quiet_there m r call reply numbering is t named e)
      by (Some x) e =
          let at = live_at m r t x e in
          let now : Machine = put_grants m r (taken (grants_of m r) t (locks_at (seen m r x) call)) in
          subst (λ (o : Option Txn). P (option_map_or (λ y. put_txn now t (with_call y (note_of call reply))) o now)) (sym at.known)
          (cases.locks t x call reply at (live_there m r call reply numbering is t x named at (live_txn_there m r t x e)))

  aborts_there : (t : TxnId) (reply : Reply) → Numbering m → answer m r (Abort t) ≡ Some reply → P (noted (asking_abort m r t) t (note_of (Abort t) reply))
  aborts_there t reply numbering is = by (going_at m r t) refl
    where
      by : (o : Option Txn) → going_at m r t ≡ o → P (noted (option_map_or (λ x. put_txn (put_grants m r (released (grants_of m r) t)) t (aborted x)) o m) t (note_of (Abort t) reply))
      by None e = noted_quiet t (note_of (Abort t) reply) (quiet_there m r (Abort t) reply numbering is t refl e)
      by (Some x) e =
          let at = live_at m r t x e in
          let now : Machine = put_txn (put_grants m r (released (grants_of m r) t)) t (aborted x) in
          let c : CallRecord = note_of (Abort t) reply in
          let done : plain answers.Done ≡ reply = same_Some (plain answers.Done) reply (live_there m r (Abort t) reply numbering is t x refl at (live_txn_there m r t x e)) in
          let quiet : QuietCall c = subst (λ (z : Reply). QuietCall (note_of (Abort t) z)) done (record { passed = refl; unlogged = refl }) in
          subst (λ (b : Bool). P (option_map_or (λ y. put_txn now t (with_call y c)) (cond b (Some (aborted x)) (lookup (is_txn t) m.txns)) now)) (sym (is_txn_same t))
          (cases.aborts t x c at quiet)

  -- a commit that is answered is of a transaction that isn't live there
  commit_there : (t : TxnId) (reply : Reply) → Numbering m → answer m r (Commit t) ≡ Some reply → P (noted (asking m r (Commit t)) t (note_of (Commit t) reply))
  commit_there t reply numbering is = by (going_at m r t) refl
    where
      by : (o : Option Txn) → going_at m r t ≡ o → P (noted (option_map_or (λ x. put_txn m t (record x { live = false; asked = true })) o m) t (note_of (Commit t) reply))
      by None e = noted_quiet t (note_of (Commit t) reply) (quiet_there m r (Commit t) reply numbering is t refl e)
      by (Some x) e = absurd (none-some reply (live_there m r (Commit t) reply numbering is t x refl (live_at m r t x e) (live_txn_there m r t x e)))

  -- all of them
  pub after_answer : (call : Call) (reply : Reply) → Numbering m → answer m r call ≡ Some reply → P (answered_at (asking m r call) r call reply)
  after_answer Begin reply numbering is = begun_there reply numbering is
  after_answer (Make t name kind) reply numbering is = locks_there t (Make t name kind) reply numbering refl is
  after_answer (OnKey t name key asked) reply numbering is = locks_there t (OnKey t name key asked) reply numbering refl is
  after_answer (Commit t) reply numbering is = commit_there t reply numbering is
  after_answer (Abort t) reply numbering is = aborts_there t reply numbering is
