-- What each change of the machine leaves of the transactions that were requested and have ended: so texts stay texts.
use Rattle.std.proofs.Common.{◌≡◌, ◌∙◌, ℕ, Bool, true, false, cond, List, ◌∷◌, Option, Some, None, refl, sym, ap, subst}
use Rattle.std.specs.Option.{option_map_or}
use Rattle.std.specs.Map.{lookup}
use Rattle.std.proofs.lemmas.Bool.{false≢true}
use Rattle.std.proofs.lemmas.Option.{none-some, same_Some}
use Rattle.rc_base.specs.declared.ids.TxnId.{TxnId}
use Rattle.rc_base.specs.Ids.{is_txn}
use Rattle.rc_base.proofs.SameIds.{is_txn_same}
use Rattle.events.specs.Calls.{CallRecord}
use Rattle.order_machine.specs.Machine.{Machine, Txn, put_txn}
use Rattle.order_machine.specs.Clients.{new_txn}
use Rattle.order_machine.specs.Transitions.{going_at, asking_commit}
use Rattle.history_laws.specs.QuietCalls.{QuietCall, QuietSuffix, SettledStay}
use Rattle.history_laws.specs.Laws.{BeginningsAreTexts, CallsKeepTexts, RequestsKeepTexts, RoleEndsKeepTexts}
use Rattle.history_laws.proofs.QuietSuffixes.{QuietSuffix-one, SettledStay-put, SettledStay-itself, SettledStay-trans, SettledStay-ended}
use Rattle.history_laws.proofs.TextSteps.{IsText-settled, IsText-front}
use Rattle.history_laws.proofs.CallCases.{live_at, with_call, aborted, CallCases, after_answer}

-- the last one that was put is found
pub put_there : (txns : List (TxnId × Txn)) (t : TxnId) (x : Txn) → lookup (is_txn t) ((t, x) ∷ txns) ≡ Some x
put_there txns t x = ap (λ (b : Bool). cond b (Some x) (lookup (is_txn t) txns)) (is_txn_same t)

-- a quiet call is noted of one that is known
settled_quiet : (txns : List (TxnId × Txn)) (t : TxnId) (x : Txn) (c : CallRecord) → lookup (is_txn t) txns ≡ Some x → QuietCall c → SettledStay txns ((t, with_call x c) ∷ txns)
settled_quiet txns t x c known quiet =
    SettledStay-put txns t (with_call x c) (λ y there asked ended. subst (λ (w : Txn). QuietSuffix w (with_call x c)) (same_Some x y (sym known ∙ there)) (QuietSuffix-one x c quiet))

-- a live one changes
pub settled_live : (txns : List (TxnId × Txn)) (t : TxnId) (x new : Txn) → lookup (is_txn t) txns ≡ Some x → x.live ≡ true → SettledStay txns ((t, new) ∷ txns)
settled_live txns t x new known live =
    SettledStay-put txns t new (λ y there asked ended. absurd (false≢true (sym ended ∙ (ap (λ (w : Txn). w.live) (sym (same_Some x y (sym known ∙ there))) ∙ live))))

-- a new one is begun
settled_new : (txns : List (TxnId × Txn)) (t : TxnId) (new : Txn) → lookup (is_txn t) txns ≡ None → SettledStay txns ((t, new) ∷ txns)
settled_new txns t new none = SettledStay-put txns t new (λ y there asked ended. absurd (none-some y (sym none ∙ there)))

pub settled_cases : (m : Machine) (r : ℕ) → CallCases (λ now. SettledStay m.txns now.txns) m r
settled_cases m r = record {
  same = SettledStay-itself m.txns;
  quiet = λ t x c known quiet. settled_quiet m.txns t x c known quiet;
  begins = λ t next active none. settled_new m.txns t (new_txn m r) none;
  locks = λ t x call reply at e. settled_live m.txns t x (with_call x (record { call = call; answer = reply.answer; op = reply.op })) at.known at.live;
  aborts = λ t x c at quiet.
      let mid : List (TxnId × Txn) = (t, aborted x) ∷ m.txns in
      SettledStay-trans m.txns mid ((t, with_call (aborted x) c) ∷ mid) (settled_live m.txns t x (aborted x) at.known at.live) (settled_quiet mid t (aborted x) c (put_there m.txns t (aborted x)) quiet);
}

pub settled_request : (m : Machine) (r : ℕ) (t : TxnId) → SettledStay m.txns (asking_commit m r t).txns
settled_request m r t = by (going_at m r t) refl
  where
    by : (o : Option Txn) → going_at m r t ≡ o → SettledStay m.txns (option_map_or (λ x. put_txn m t (record x { live = false; asked = true })) o m).txns
    by None e = SettledStay-itself m.txns
    by (Some x) e = let at = live_at m r t x e in settled_live m.txns t x (record x { live = false; asked = true }) at.known at.live

-- ---- the laws

pub beginnings_are_texts : BeginningsAreTexts
beginnings_are_texts txns start first later text = IsText-front txns start first later text

pub calls_keep_texts : CallsKeepTexts
calls_keep_texts m r call reply numbering is start commits text =
    IsText-settled m.txns _ (after_answer (λ now. SettledStay m.txns now.txns) m r (settled_cases m r) call reply numbering is) start commits text

pub requests_keep_texts : RequestsKeepTexts
requests_keep_texts m r t start commits text = IsText-settled m.txns (asking_commit m r t).txns (settled_request m r t) start commits text

pub role_ends_keep_texts : RoleEndsKeepTexts
role_ends_keep_texts start commits m r =
    let keeps = IsText-settled m.txns _ (SettledStay-ended r m.txns) start commits in
    (keeps, keeps, λ e members. keeps)
