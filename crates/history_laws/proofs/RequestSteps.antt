-- What is requested is among the commits, between events.
use Rattle.std.proofs.Common.{◌≡◌, ◌∙◌, ℕ, Bool, true, false, eqb, cond, List, [], ◌∷◌, ◌++◌, Option, Some, refl, sym, ap, subst}
use Rattle.std.specs.Option.{option_map_or}
use Rattle.std.specs.Map.{lookup}
use Rattle.std.proofs.lemmas.Bool.{false≢true, cond_both, or_left, or_right}
use Rattle.std.proofs.lemmas.Option.{none-some, same_Some}
use Rattle.std.proofs.lemmas.List.Folds.{list_any-append}
use Rattle.rc_base.specs.declared.ids.Epoch.{Epoch}
use Rattle.rc_base.specs.declared.ids.TxnId.{TxnId}
use Rattle.rc_base.specs.Ids.{is_txn}
use Rattle.rc_base.proofs.SameIds.{is_txn-true, is_txn_same}
use Rattle.txn_table.specs.declared.committed.Committed.{Committed}
use Rattle.order_machine.specs.Machine.{Machine, Txn, put_txn, ended_at, appointment_of}
use Rattle.order_machine.specs.Clients.{new_txn}
use Rattle.order_machine.proofs.Machines.{ended, known_before}
use Rattle.history_laws.specs.Texts.{has_commit}
use Rattle.history_laws.specs.LockGuards.{ContainsRequests}
use Rattle.history_laws.specs.Laws.{commit_of, CallsKeepRequests, RequestsAreContained, RoleEndsKeepRequests, NothingIsRequestedBefore}
use Rattle.history_laws.proofs.QuietSuffixes.{same_home}
use Rattle.history_laws.proofs.CallCases.{live_at, with_call, aborted, CallCases, after_answer}
use Rattle.history_laws.proofs.SettledSteps.{put_there}

-- ---- one transaction is put

requests_put : (txns : List (TxnId × Txn)) (q : ℕ) (e : Epoch) (commits : List Committed) (t : TxnId) (new : Txn) → (new.home ≡ q → t.epoch ≡ e → new.asked ≡ true → has_commit commits t ≡ true) → ContainsRequests txns q e commits → ContainsRequests ((t, new) ∷ txns) q e commits
requests_put txns q e commits t new here all u x known home epoch asked = by (is_txn u t) refl known
  where
    by : (b : Bool) → is_txn u t ≡ b → cond b (Some new) (lookup (is_txn u) txns) ≡ Some x → has_commit commits u ≡ true
    by true same found =
        let is : new ≡ x = same_Some new x found in
        let name : u ≡ t = is_txn-true u t same in
        subst (λ (v : TxnId). has_commit commits v ≡ true) (sym name)
        (here (ap (λ (w : Txn). w.home) is ∙ home) (ap (λ (v : TxnId). v.epoch) (sym name) ∙ epoch) (ap (λ (w : Txn). w.asked) is ∙ asked))
    by false other found = all u x found home epoch asked

-- of a transaction that is known, with the same home and no new request
requests_same : (txns : List (TxnId × Txn)) (q : ℕ) (e : Epoch) (commits : List Committed) (t : TxnId) (x new : Txn) → lookup (is_txn t) txns ≡ Some x → new.home ≡ x.home → new.asked ≡ x.asked → ContainsRequests txns q e commits → ContainsRequests ((t, new) ∷ txns) q e commits
requests_same txns q e commits t x new known same_home same_asked all =
    requests_put txns q e commits t new (λ home epoch asked. all t x known (sym same_home ∙ home) epoch (sym same_asked ∙ asked)) all

request_cases : (m : Machine) (r q : ℕ) (e : Epoch) (commits : List Committed) → ContainsRequests m.txns q e commits → CallCases (λ now. ContainsRequests now.txns q e commits) m r
request_cases m r q e commits all = record {
  same = all;
  quiet = λ t x c known quiet. requests_same m.txns q e commits t x (with_call x c) known refl refl all;
  begins = λ t next active none. requests_put m.txns q e commits t (new_txn m r) (λ home epoch asked. absurd (false≢true asked)) all;
  locks = λ t x call reply at is. requests_same m.txns q e commits t x (with_call x (record { call = call; answer = reply.answer; op = reply.op })) at.known refl refl all;
  aborts = λ t x c at quiet.
      let mid : List (TxnId × Txn) = (t, aborted x) ∷ m.txns in
      requests_same mid q e commits t (aborted x) (with_call (aborted x) c) (put_there m.txns t (aborted x)) refl refl (requests_same m.txns q e commits t x (aborted x) at.known refl refl all);
}

-- ---- more commits

more_commits : (commits later : List Committed) (t : TxnId) → has_commit commits t ≡ true → has_commit (commits ++ later) t ≡ true
more_commits commits later t has = list_any-append (λ (c : Committed). is_txn t c.txn) commits later ∙ or_left (has_commit commits t) (has_commit later t) has

last_commit : (commits : List Committed) (c : Committed) → has_commit (commits ++ c ∷ []) c.txn ≡ true
last_commit commits c =
    list_any-append (λ (d : Committed). is_txn c.txn d.txn) commits (c ∷ [])
    ∙ or_right (has_commit commits c.txn) (has_commit (c ∷ []) c.txn) (or_left (is_txn c.txn c.txn) false (is_txn_same c.txn))

-- ---- the laws

pub calls_keep_requests : CallsKeepRequests
calls_keep_requests m r call reply numbering is q e commits all =
    after_answer (λ now. ContainsRequests now.txns q e commits) m r (request_cases m r q e commits all) call reply numbering is

abbrev requested : Machine → TxnId → Option Txn → Machine
requested m t o = option_map_or (λ x. put_txn m t (record x { live = false; asked = true })) o m

pub requests_are_contained : RequestsAreContained
requests_are_contained m r t x q e commits going all =
    let at = live_at m r t x going in
    let done : Txn = record x { live = false; asked = true } in
    let more : ContainsRequests m.txns q e (commits ++ commit_of t x ∷ []) = λ u y known home epoch asked. more_commits commits (commit_of t x ∷ []) u (all u y known home epoch asked) in (
      subst (λ (o : Option Txn). ContainsRequests (requested m t o).txns q e (commits ++ commit_of t x ∷ [])) (sym going)
          (requests_put m.txns q e (commits ++ commit_of t x ∷ []) t done (λ home epoch asked. last_commit commits (commit_of t x)) more),
      λ apart. subst (λ (o : Option Txn). ContainsRequests (requested m t o).txns q e commits) (sym going)
          (requests_put m.txns q e commits t done (λ home epoch asked. absurd (apart (sym home ∙ at.home))) all),
    )

requests_ended : (r q : ℕ) (e : Epoch) (commits : List Committed) (txns : List (TxnId × Txn)) → ContainsRequests txns q e commits → ContainsRequests (ended_at r txns) q e commits
requests_ended r q e commits txns all t x known home epoch asked =
    let was = known_before r txns t x known in
    let w : Txn = was.0 in
    let same_asked : (ended r w).asked ≡ w.asked = cond_both (eqb w.home r) (record w { live = false }) w (λ (y : Txn). y.asked ≡ w.asked) (λ _. refl) (λ _. refl) in
    all t w was.1 (sym (same_home r w) ∙ (ap (λ (y : Txn). y.home) was.2 ∙ home)) epoch (sym same_asked ∙ (ap (λ (y : Txn). y.asked) was.2 ∙ asked))

pub role_ends_keep_requests : RoleEndsKeepRequests
role_ends_keep_requests q e commits m r =
    let keeps = requests_ended r q e commits m.txns in
    (keeps, keeps, λ of members. keeps)

pub nothing_is_requested_before : NothingIsRequestedBefore
nothing_is_requested_before m r e commits numbering none t x known home epoch asked =
    let a = numbering.home t x known in
    absurd (none-some a.0 (sym none ∙ (ap (appointment_of m) (sym epoch) ∙ a.1)))
