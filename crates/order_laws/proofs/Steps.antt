-- Each line of an event keeps what machines keep, and what holds at its place among the lines.
use Rattle.std.proofs.Common.{◌≡◌, ◌∙◌, ℕ, ◌≤◌, Bool, true, false, not, ◌||◌, ◌&&◌, cond, List, [], ◌∷◌, Option, Some, None, refl, sym, ap, subst, le_of_lt, eqb, drop, inl, inr}
use Rattle.std.specs.Prelude.{find, is_some, is_none, option_map, option_and_then}
use Rattle.std.specs.Option.{option_map_or}
use Rattle.std.specs.Map.{lookup}
use Rattle.std.proofs.lemmas.Bool.{false≢true, and_parts, cond_both, not-true, eqb-true}
use Rattle.std.proofs.lemmas.Option.{none-some, same_Some}
use Rattle.rc_base.specs.declared.ids.Epoch.{Epoch}
use Rattle.rc_base.specs.declared.ids.TxnId.{TxnId}
use Rattle.coll_model.specs.declared.op.Op.{Op}
use Rattle.events.specs.declared.event.Event.{Event}
use Rattle.events.specs.declared.event.Event.TheVariants.{Boot, Client, Arm, Crash, Reboot, Inspect, Survey, Appoint, Activate}
use Rattle.events.specs.declared.call.Call.{Call}
use Rattle.order_machine.specs.declared.observation.Observation.{Observation}
use Rattle.order_machine.specs.declared.observation.Observation.TheVariants as says
use Rattle.events.specs.declared.answer.Answer.{Answer}
use Rattle.events.specs.declared.answer.Answer.TheVariants as answers
use Rattle.events.specs.declared.answer.Reply.{Reply}
use Rattle.config_rule.specs.declared.answers.SurveyAnswer.{SurveyAnswer}
use Rattle.config_rule.specs.Rule.{with_answer}
use Rattle.rc_base.specs.Ids.{is_epoch, is_txn}
use Rattle.order_machine.specs.Order.{length_of}
use Rattle.order_machine.specs.Machine.{Machine, Txn, Appointment, never_opened, replica, put_replica, put_role, role_of, is_active, ended_at, without_role, closed}
use Rattle.events.specs.Answers.{plain}
use Rattle.order_machine.specs.Clients.{answer, begun_by, noted, next_txn}
use Rattle.events.specs.Calls.{txn_named}
use Rattle.order_machine.specs.Transitions.{Position, first_epoch, is_boot, is_call, is_opening, is_reconfiguration, May, MayTellProgress, MayIgnoreOldEpoch, MayFail, MayFailFirst, logs, after, MayBeDone, failed, with_survey, surveyed, acknowledging, is_asked_commit, answering, answered_by, new_role, with_first_role, showing, activated, up_again}
use Rattle.events.proofs.Lists.{at_written, some_of, none_of, passed}
use Rattle.order_machine.proofs.Machines.{known_before}
use Rattle.order_laws.proofs.Kept.{Kept, OfRole, order_is, kept_put, kept_without_role, kept_showing, kept_ordering, kept_acknowledging, kept_noted, kept_closed, ended_asked, kept_surveyed, kept_begun, kept_activated, kept_role_ended, stays_noting}

-- ---- what holds at a place among the lines of an event

-- during a boot nothing was begun, and its primary is that of the first epoch
pub record IsBooting (txns : List (TxnId × Txn)) (appointments : List Appointment) (primary : ℕ) : Type 0 where
  pub none : txns ≡ []
  pub appointment : Appointment
  pub appointed : find (λ a. is_epoch first_epoch a.epoch) appointments ≡ Some appointment
  pub first : appointment.primary ≡ primary

-- The answer to a call: to a begin it is that of the machine, and no call of a transaction logs anything once its commit
-- was asked.
pub record IsCalling (m : Machine) (r : ℕ) (call : Call) (client : Option Reply) : Type 0 where
  pub begins : txn_named call ≡ None → client ≡ answer m r call
  pub logs : (t : TxnId) (x : Txn) → txn_named call ≡ Some t → lookup (is_txn t) m.txns ≡ Some x → x.asked ≡ true → option_and_then (λ reply. reply.op) client ≡ None

-- A replica that is being opened has no role; and until a call is answered, its answer is that of the machine.
pub record KeptAt (p : Position) : Type 0 where
  pub machine : Kept p.machine
  pub opening : (r : ℕ) → p.opening ≡ Some r → (replica p.machine r).role ≡ None
  pub booting : (primary : ℕ) (members : List ℕ) → p.event ≡ Boot primary members → IsBooting p.machine.txns p.machine.appointments primary
  pub calling : (r : ℕ) (call : Call) → p.event ≡ Client r call → p.answered ≡ false → IsCalling p.machine r call p.client

-- a begin is answered at once
answer_is : (m : Machine) (r : ℕ) (call : Call) → txn_named call ≡ None → answer m r call ≡ cond (not (replica m r).up) (Some (plain (answers.Down r))) (cond (not (is_active m r)) (Some (plain (answers.NotActive r))) (Some (plain (answers.Txn (next_txn (role_of m r))))))
answer_is m r call none = rw none refl

some_answer : (up active : Bool) (a b c : Reply) → cond (not up) (Some a) (cond (not active) (Some b) (Some c)) ≡ None → ⊥
some_answer false active a b c h = cc
some_answer true false a b c h = cc
some_answer true true a b c h = cc

-- a call without an answer of its own goes on as it began
calling_on : (m n : Machine) (r : ℕ) (call : Call) (client : Option Reply) → is_none client ≡ true → IsCalling m r call client → IsCalling n r call client
calling_on m n r call client none k =
    let is : client ≡ None = none_of client (not-true (is_some client) none) in
    record {
      begins = λ e. absurd (some_answer (replica m r).up (is_active m r) (plain (answers.Down r)) (plain (answers.NotActive r)) (plain (answers.Txn (next_txn (role_of m r)))) (sym (answer_is m r call e) ∙ (sym (k.begins e) ∙ is)));
      logs = λ t x e known asked. ap (option_and_then (λ reply. reply.op)) is;
    }

-- a call is no boot, and opens nothing
no_boot : {P : Type 0} (event : Event) (r : ℕ) (members : List ℕ) → is_call event ≡ true → event ≡ Boot r members → P
no_boot event r members call e = absurd (false≢true (sym (ap is_call e) ∙ call))

no_call : {P : Type 0} (event : Event) (r : ℕ) (call : Call) → is_opening event ≡ true → event ≡ Client r call → P
no_call event r call opens e = absurd (false≢true (sym (ap is_opening e) ∙ opens))

-- no more do the events whose steps may lengthen an order
no_boot_grows : {P : Type 0} (event : Event) (client : Option Reply) (r : ℕ) (members : List ℕ) → ((is_call event && is_none client) || is_reconfiguration event) ≡ true → event ≡ Boot r members → P
no_boot_grows event client r members h e = absurd (false≢true (subst (λ x. ((is_call x && is_none client) || is_reconfiguration x) ≡ true) e h))

-- a call that has such a line has no answer of its own
or_nothing : (b : Bool) → (b || false) ≡ true → b ≡ true
or_nothing true h = refl
or_nothing false h = h

unanswered_order : (event : Event) (client : Option Reply) (r : ℕ) (call : Call) → event ≡ Client r call → ((is_call event && is_none client) || is_reconfiguration event) ≡ true → is_none client ≡ true
unanswered_order event client r call e h = or_nothing (is_none client) (subst (λ x. ((is_call x && is_none client) || is_reconfiguration x) ≡ true) e h)

unanswered_view : (event : Event) (client : Option Reply) (r : ℕ) (call : Call) → event ≡ Client r call → (is_opening event || ((is_call event && is_none client) || is_reconfiguration event)) ≡ true → is_none client ≡ true
unanswered_view event client r call e h = or_nothing (is_none client) (subst (λ x. (is_opening x || ((is_call x && is_none client) || is_reconfiguration x)) ≡ true) e h)

unanswered_active : (event : Event) (client : Option Reply) (r : ℕ) (call : Call) → event ≡ Client r call → (is_boot event || ((is_call event && is_none client) || is_reconfiguration event)) ≡ true → is_none client ≡ true
unanswered_active event client r call e h = or_nothing (is_none client) (subst (λ x. (is_boot x || ((is_call x && is_none client) || is_reconfiguration x)) ≡ true) e h)

pub not_open : {P : Type 0} (o : Option ℕ) (r : ℕ) → is_none o ≡ true → o ≡ Some r → P
not_open o r none e = absurd (none-some r (sym (none_of o (not-true (is_some o) none)) ∙ e))

-- ---- up

kept_up : (p : Position) (r : ℕ) → KeptAt p → May p (says.Up r) → KeptAt (after p (says.Up r))
kept_up p r k h =
    let new = up_again (replica p.machine r) in
    record {
      machine = kept_without_role p.machine k.machine r new (k.machine.replicas r).loss (k.machine.replicas r).within refl;
      opening = λ q e. subst (λ x. (replica (put_replica p.machine r new) x).role ≡ None) (same_Some r q e) (at_written (λ x. x.role ≡ None) p.machine.replicas r new never_opened refl refl);
      booting = k.booting;
      calling = λ q call e _. no_call p.event q call h.named e;
    }

-- ---- order

kept_order : (p : Position) (t : TxnId) (ops : List Op) → KeptAt p → May p (says.Order t ops) → KeptAt (after p (says.Order t ops))
kept_order p t ops k h = record {
  machine = kept_ordering p.machine k.machine (p.primary) t ops h.row.txn h.row.known h.row.new h.row.asked h.row.whole;
  opening = λ q e. not_open p.opening q h.next e;
  booting = λ q members e. no_boot_grows p.event p.client q members h.named e;
  calling = λ q call e unanswered. calling_on p.machine (after p (says.Order t ops)).machine q call p.client (unanswered_order p.event p.client q call e h.named) (k.calling q call e unanswered);
}

-- ---- view

-- the first role, of an epoch in which nothing was begun
kept_new_role : (m : Machine) (k : Kept m) (r : ℕ) → IsBooting m.txns m.appointments r → Kept (put_role m r (Some (new_role first_epoch)))
kept_new_role m k r booting = kept_put m k r (record (replica m r) { role = Some (new_role first_epoch) }) (record {
  loss = (k.replicas r).loss;
  within = (k.replicas r).within;
  role = λ role e. subst (OfRole k.order m.acknowledged m.txns m.appointments r (replica m r).show) (same_Some (new_role first_epoch) role e) (record {
    appointment = booting.appointment;
    appointed = booting.appointed;
    primary = booting.first;
    counted = λ t x epoch known. absurd (none-some x (ap (λ txns. lookup (is_txn t) txns) (sym booting.none) ∙ known));
    shows = λ active. absurd (false≢true active);
  });
})

kept_first_role : (m : Machine) (k : Kept m) (event : Event) (mounts : List ℕ) → ((r : ℕ) (members : List ℕ) → event ≡ Boot r members → IsBooting m.txns m.appointments r) → Kept (with_first_role m event mounts)
kept_first_role m k (Boot r members) [] booting = cond_both (replica m r).up (put_role m r (Some (new_role first_epoch))) m Kept (λ _. kept_new_role m k r (booting r members refl)) (λ _. k)
kept_first_role m k (Boot r members) (q ∷ mounts) booting = k
kept_first_role m k (Client r call) mounts booting = k
kept_first_role m k (Arm r calls) mounts booting = k
kept_first_role m k (Crash r pick) mounts booting = k
kept_first_role m k (Reboot r) mounts booting = k
kept_first_role m k (Inspect r) mounts booting = k
kept_first_role m k (Survey r e) mounts booting = k
kept_first_role m k (Appoint e p members) mounts booting = k
kept_first_role m k (Activate e) mounts booting = k

pub booting_first_role : (m : Machine) (event : Event) (mounts : List ℕ) (r : ℕ) → IsBooting m.txns m.appointments r → IsBooting (with_first_role m event mounts).txns (with_first_role m event mounts).appointments r
booting_first_role m (Boot p members) [] r b = cond_both (replica m p).up (put_role m p (Some (new_role first_epoch))) m (λ x. IsBooting x.txns x.appointments r) (λ _. b) (λ _. b)
booting_first_role m (Boot p members) (q ∷ mounts) r b = b
booting_first_role m (Client p call) mounts r b = b
booting_first_role m (Arm p calls) mounts r b = b
booting_first_role m (Crash p pick) mounts r b = b
booting_first_role m (Reboot p) mounts r b = b
booting_first_role m (Inspect p) mounts r b = b
booting_first_role m (Survey p e) mounts r b = b
booting_first_role m (Appoint e p members) mounts r b = b
booting_first_role m (Activate e) mounts r b = b

-- behind `up`
kept_opened_view : (p : Position) (r n rank : ℕ) → KeptAt p → May p (says.View r n) → (q : ℕ) → p.opening ≡ Some q → KeptAt (record p { machine = with_first_role (showing p.machine r n) p.event p.mounts; opening = None; rank = rank })
kept_opened_view p r n rank k h q is =
    let m = p.machine in
    let same : q ≡ r = eqb-true q r (ap (λ o. option_map_or (λ opening. eqb opening r) o true) (sym is) ∙ h.next) in
    let none : (replica m r).role ≡ None = subst (λ x. (replica m x).role ≡ None) same (k.opening q is) in
    let shown : Kept (showing m r n) = kept_without_role m k.machine r (record (replica m r) { show = n }) (k.machine.replicas r).loss (subst (λ o. n ≤ length_of o) (order_is m k.machine r) h.row.within) none in
    record {
      machine = kept_first_role (showing m r n) shown p.event p.mounts k.booting;
      opening = λ x e. absurd (none-some x e);
      booting = λ x members e. booting_first_role (showing m r n) p.event p.mounts x (k.booting x members e);
      calling = λ x call e unanswered. calling_on m (with_first_role (showing m r n) p.event p.mounts) x call p.client (unanswered_view p.event p.client x call e h.named) (k.calling x call e unanswered);
    }

-- a primary's
kept_later_view : (p : Position) (r n rank : ℕ) → KeptAt p → May p (says.View r n) → p.opening ≡ None → KeptAt (record p { machine = showing p.machine r n; growing = false; rose = r ∷ p.rose; rank = rank })
kept_later_view p r n rank k h none = record {
  machine = kept_showing p.machine k.machine r n (le_of_lt (h.row.more none)) (subst (λ o. n ≤ length_of o) (order_is p.machine k.machine r) h.row.within);
  opening = λ q e. absurd (none-some q (sym none ∙ e));
  booting = k.booting;
  calling = λ q call e unanswered. calling_on p.machine (showing p.machine r n) q call p.client (unanswered_view p.event p.client q call e h.named) (k.calling q call e unanswered);
}

kept_view : (p : Position) (r n : ℕ) → KeptAt p → May p (says.View r n) → KeptAt (after p (says.View r n))
kept_view p r n k h =
    by_opening (is_some p.opening) refl
  where
    by_opening : (b : Bool) → is_some p.opening ≡ b → KeptAt (record (cond b (record p { machine = with_first_role (showing p.machine r n) p.event p.mounts; opening = None }) (record p { machine = showing p.machine r n; growing = false; rose = r ∷ p.rose })) { rank = cond b 0 3 })
    by_opening true is = let o = some_of p.opening is in kept_opened_view p r n 0 k h o.0 o.1
    by_opening false is = kept_later_view p r n 3 k h (none_of p.opening is)

-- ---- active

kept_active : (p : Position) (r : ℕ) → KeptAt p → May p (says.Active r) → KeptAt (after p (says.Active r))
kept_active p r k h =
    let m = p.machine in
    let role = h.row.role in
    let active : KeptAt (record p { machine = activated m r role; rose = r ∷ p.rose; rank = 4 }) = record {
      machine = kept_activated m k.machine r role h.row.has h.row.shows;
      opening = λ q e. not_open p.opening q (and_parts (is_none p.opening) (not p.growing) h.next).0 e;
      booting = λ q members e. let b = k.booting q members e in let a = stays_noting role.epoch m.appointments first_epoch b.appointment b.appointed in record {
        none = b.none;
        appointment = a.0;
        appointed = a.1;
        first = a.2 ∙ b.first;
      };
      calling = λ q call e unanswered. calling_on m (activated m r role) q call p.client (unanswered_active p.event p.client q call e h.named) (k.calling q call e unanswered);
    } in
    subst (λ o. KeptAt (record p { machine = option_map_or (activated m r) o m; rose = r ∷ p.rose; rank = 4 })) (sym h.row.has) active

-- ---- committed

kept_committed : (p : Position) (t : TxnId) → KeptAt p → May p (says.Committed t) → KeptAt (after p (says.Committed t))
kept_committed p t k h = record {
  machine = kept_acknowledging p.machine k.machine (p.primary) t h.row.shown h.row.elsewhere;
  opening = λ q e. not_open p.opening q (and_parts (is_none p.opening) (not p.growing) h.next).0 e;
  booting = λ q members e. no_boot_grows p.event p.client q members h.named e;
  calling = λ q call e answered. calling_on p.machine (acknowledging p.machine p.primary t) q call p.client (unanswered_order p.event p.client q call e h.named) (k.calling q call e (unanswered p.answered (is_asked_commit p.event t) answered));
}
  where
    unanswered : (a b : Bool) → (a || b) ≡ false → a ≡ false
    unanswered true b h = absurd (false≢true (sym h))
    unanswered false b h = refl

-- ---- answers

-- a begin that is answered by a transaction is served, by an active primary's next one
served_begin : (up active : Bool) (r : ℕ) (next t : TxnId) → option_map (λ reply. reply.answer) (cond (not up) (Some (plain (answers.Down r))) (cond (not active) (Some (plain (answers.NotActive r))) (Some (plain (answers.Txn next))))) ≡ Some (answers.Txn t) → (active ≡ true) × (next ≡ t)
served_begin false active r next t h = absurd (cc)
served_begin true false r next t h = absurd (cc)
served_begin true true r next t h = (refl, cc)

kept_begin : (m : Machine) (k : Kept m) (r : ℕ) (call : Call) (told : Answer) → txn_named call ≡ None → option_map (λ reply. reply.answer) (answer m r call) ≡ Some told → Kept (begun_by m r told)
kept_begin m k r call (answers.Txn t) none h =
    let served = served_begin (replica m r).up (is_active m r) r (next_txn (role_of m r)) t (ap (option_map (λ reply. reply.answer)) (sym (answer_is m r call none)) ∙ h) in
    let role = passed (λ role. role.active) (role_of m r) served.0 in
    subst (λ u. Kept (begun_by m r (answers.Txn u))) (ap next_txn (sym role.1) ∙ served.1) (kept_begun m k r role.0 role.1)
kept_begin m k r call answers.Done none h = k
kept_begin m k r call answers.True none h = k
kept_begin m k r call answers.False none h = k
kept_begin m k r call (answers.Value value) none h = k
kept_begin m k r call answers.Missing none h = k
kept_begin m k r call answers.Absent none h = k
kept_begin m k r call answers.WrongKind none h = k
kept_begin m k r call (answers.Ended t) none h = k
kept_begin m k r call (answers.Locked t) none h = k
kept_begin m k r call (answers.NotActive q) none h = k
kept_begin m k r call (answers.Down q) none h = k
kept_begin m k r call (answers.Refused part) none h = k
kept_begin m k r call (answers.Progress q e last) none h = k
kept_begin m k r call answers.IgnoredUp none h = k
kept_begin m k r call (answers.IgnoredOldEpoch fence e) none h = k

kept_answered : (m : Machine) (k : Kept m) (event : Event) (client : Option Reply) → ((r : ℕ) (call : Call) → event ≡ Client r call → IsCalling m r call client) → Kept (option_map_or (answered_by m event) client m)
kept_answered m k event None calling = k
kept_answered m k (Boot p members) (Some reply) calling = k
kept_answered m k (Arm r calls) (Some reply) calling = k
kept_answered m k (Crash r pick) (Some reply) calling = k
kept_answered m k (Reboot r) (Some reply) calling = k
kept_answered m k (Inspect r) (Some reply) calling = k
kept_answered m k (Survey r e) (Some reply) calling = k
kept_answered m k (Appoint e p members) (Some reply) calling = k
kept_answered m k (Activate e) (Some reply) calling = k
kept_answered m k (Client r call) (Some reply) calling = by_name (txn_named call) refl
  where
    by_name : (named : Option TxnId) → txn_named call ≡ named → Kept (option_map_or (λ t. noted m t (record { call = call; answer = reply.answer; op = reply.op })) named (begun_by m r reply.answer))
    by_name None e = kept_begin m k r call reply.answer e (ap (option_map (λ x. x.answer)) (sym ((calling r call refl).begins e)))
    by_name (Some t) e = kept_noted m k t (record { call = call; answer = reply.answer; op = reply.op }) (λ x known asked. (calling r call refl).logs t x e known asked)

pub booting_answered : (m : Machine) (event : Event) (client : Option Reply) (primary : ℕ) (members : List ℕ) → event ≡ Boot primary members → IsBooting m.txns m.appointments primary
    → IsBooting (option_map_or (answered_by m event) client m).txns (option_map_or (answered_by m event) client m).appointments primary
booting_answered m event None primary members e b = b
booting_answered m (Boot p others) (Some reply) primary members e b = b
booting_answered m (Client r call) (Some reply) primary members e b = absurd (cc)
booting_answered m (Arm r calls) (Some reply) primary members e b = b
booting_answered m (Crash r pick) (Some reply) primary members e b = b
booting_answered m (Reboot r) (Some reply) primary members e b = b
booting_answered m (Inspect r) (Some reply) primary members e b = b
booting_answered m (Survey r epoch) (Some reply) primary members e b = b
booting_answered m (Appoint epoch p others) (Some reply) primary members e b = b
booting_answered m (Activate epoch) (Some reply) primary members e b = b

kept_answering : (p : Position) (rank : ℕ) → KeptAt p → (is_none p.opening && not p.growing) ≡ true → p.answered ≡ false → KeptAt (record (answering p) { rank = rank })
kept_answering p rank k next unanswered = record {
  machine = kept_answered p.machine k.machine p.event p.client (λ r call e. k.calling r call e unanswered);
  opening = λ q e. not_open p.opening q (and_parts (is_none p.opening) (not p.growing) next).0 e;
  booting = λ q members e. booting_answered p.machine p.event p.client q members e (k.booting q members e);
  calling = λ q call e still. absurd (false≢true (sym still));
}

-- `ok`, to a call or another event
done_unanswered : (p : Position) (event : Event) → MayBeDone p event → p.answered ≡ false
done_unanswered p (Boot r members) done = done.2
done_unanswered p (Client r call) done = done.1
done_unanswered p (Arm r calls) done = done
done_unanswered p (Crash r pick) done = done
done_unanswered p (Reboot r) done = absurd done
done_unanswered p (Inspect r) done = absurd done
done_unanswered p (Survey r epoch) done = absurd done
done_unanswered p (Appoint epoch r members) done = done
done_unanswered p (Activate epoch) done = done

-- ---- a fault

-- one in the first step of a call is no begin's, which logs nothing
begin_logs : (m n : Machine) (r : ℕ) (call : Call) (client : Option Reply) → txn_named call ≡ None → client ≡ answer m r call → logs n call client ≡ true → ⊥
begin_logs m n r call client none is h = plain_logs (replica m r).up (is_active m r) (ap (logs n call) (sym (is ∙ answer_is m r call none)) ∙ h)
  where
    plain_logs : (up active : Bool) → logs n call (cond (not up) (Some (plain (answers.Down r))) (cond (not active) (Some (plain (answers.NotActive r))) (Some (plain (answers.Txn (next_txn (role_of m r))))))) ≡ true → ⊥
    plain_logs false active e = false≢true e
    plain_logs true false e = false≢true e
    plain_logs true true e = false≢true e

calling_closed : (m : Machine) (q r : ℕ) (call : Call) (client : Option Reply) → logs m call client ≡ true → IsCalling m r call client → IsCalling (closed m q) r call client
calling_closed m q r call client h k = record {
  begins = λ e. absurd (begin_logs m m r call client e (k.begins e) h);
  logs = λ t y e known asked. let x = known_before q m.txns t y known in k.logs t x.0 e x.1 (sym (ended_asked q x.0) ∙ (ap (λ z. z.asked) x.2 ∙ asked));
}

booting_closed : (m : Machine) (q primary : ℕ) → IsBooting m.txns m.appointments primary → IsBooting (closed m q).txns (closed m q).appointments primary
booting_closed m q primary b = record { none = ap (ended_at q) b.none; appointment = b.appointment; appointed = b.appointed; first = b.first }

-- the event is a call that logs, or it is answered, or it is none
fault_calling : (p : Position) (r q : ℕ) (call : Call) → MayFail p r → p.event ≡ Client q call → p.answered ≡ false → logs p.machine call p.client ≡ true
fault_calling p r q call (inl first) e unanswered = (subst (λ event. MayFailFirst p event r) e first).2
fault_calling p r q call (inr second) e unanswered = absurd (false≢true (sym unanswered ∙ second.answered))

kept_failed : (m : Machine) (k : Kept m) (event : Event) (r : ℕ) → Kept (failed m event r)
kept_failed m k (Boot p members) r = kept_closed m k r
kept_failed m k (Client p call) r = kept_closed m k r
kept_failed m k (Arm p calls) r = kept_closed m k r
kept_failed m k (Crash p pick) r = kept_closed m k r
kept_failed m k (Reboot p) r = kept_closed m k r
kept_failed m k (Inspect p) r = kept_closed m k r
kept_failed m k (Survey p e) r = kept_surveyed (closed m r) (kept_closed m k r) r e true
kept_failed m k (Appoint e p members) r = kept_closed m k r
kept_failed m k (Activate e) r = kept_closed m k r

pub booting_failed : (m : Machine) (event : Event) (r q : ℕ) (members : List ℕ) → event ≡ Boot q members → IsBooting m.txns m.appointments q → IsBooting (failed m event r).txns (failed m event r).appointments q
booting_failed m event r q members e b = subst (λ x. IsBooting (failed m x r).txns (failed m x r).appointments q) (sym e) (booting_closed m r q b)

kept_fault : (p : Position) (r : ℕ) → KeptAt p → May p (says.Fault r) → KeptAt (after p (says.Fault r))
kept_fault p r k h =
    let m = failed p.machine p.event r in
    let mounts = drop 1 p.mounts in
    let first : (q : ℕ) (members : List ℕ) → p.event ≡ Boot q members → IsBooting m.txns m.appointments q = λ q members e. booting_failed p.machine p.event r q members e (k.booting q members e) in
    record {
      machine = kept_first_role m (kept_failed p.machine k.machine p.event r) p.event mounts first;
      opening = λ q e. not_open p.opening q (and_parts (is_none p.opening) (not p.growing) h.next).0 e;
      booting = λ q members e. booting_first_role m p.event mounts q (first q members e);
      calling = λ q call e unanswered. subst (λ n. IsCalling n q call p.client) (sym (no_first_role p.machine p.event mounts q call e)) (calling_closed p.machine r q call p.client (fault_calling p r q call h.row e unanswered) (k.calling q call e unanswered));
    }
  where
    no_first_role : (m : Machine) (event : Event) (mounts : List ℕ) (q : ℕ) (call : Call) → event ≡ Client q call → with_first_role (failed m event r) event mounts ≡ closed m r
    no_first_role m event mounts q call e = subst (λ x. with_first_role (failed m x r) x mounts ≡ closed m r) (sym e) refl

-- ---- a survey

-- what is kept of answers to surveys is none of this
kept_with_answers : (m : Machine) (k : Kept m) (told : List SurveyAnswer) → Kept (record m { answers = told })
kept_with_answers m k told = record {
  order = k.order;
  one = k.one;
  replicas = k.replicas;
  held = k.held;
  once = k.once;
  asked = k.asked;
  unbooted = k.unbooted;
  named = k.named;
  unasked = k.unasked;
}

kept_progress : (p : Position) (r : ℕ) (last_epoch : Epoch) (last : ℕ) → KeptAt p → May p (says.Progress r last_epoch last) → KeptAt (after p (says.Progress r last_epoch last))
kept_progress p r last_epoch last k h = record {
  machine = by_event p.event h.row;
  opening = λ q e. not_open p.opening q (and_parts (is_none p.opening) (not p.growing) h.next).0 e;
  booting = λ q members e. absurd (subst (λ event. MayTellProgress p event r last_epoch last) e h.row);
  calling = λ q call e still. absurd (false≢true (sym still));
}
  where
    by_event : (event : Event) → MayTellProgress p event r last_epoch last → Kept (surveyed p.machine event r last_epoch last)
    by_event (Survey at e) row =
        kept_with_answers (with_survey (without_role p.machine r) r e false) (kept_surveyed (without_role p.machine r) (kept_role_ended p.machine k.machine r) r e false) (with_answer (record { epoch = e; from = r; last_epoch = last_epoch; last = record { 0 = last } }) p.machine.answers)
    by_event (Boot q members) row = absurd row
    by_event (Client q call) row = absurd row
    by_event (Arm q calls) row = absurd row
    by_event (Crash q pick) row = absurd row
    by_event (Reboot q) row = absurd row
    by_event (Inspect q) row = absurd row
    by_event (Appoint e q members) row = absurd row
    by_event (Activate e) row = absurd row

old_epoch_unanswered : (p : Position) (event : Event) (fence e : Epoch) → MayIgnoreOldEpoch p event fence e → p.answered ≡ false
old_epoch_unanswered p (Survey at surveyed) fence e row = row.3
old_epoch_unanswered p (Boot q members) fence e row = absurd row
old_epoch_unanswered p (Client q call) fence e row = absurd row
old_epoch_unanswered p (Arm q calls) fence e row = absurd row
old_epoch_unanswered p (Crash q pick) fence e row = absurd row
old_epoch_unanswered p (Reboot q) fence e row = absurd row
old_epoch_unanswered p (Inspect q) fence e row = absurd row
old_epoch_unanswered p (Appoint epoch q members) fence e row = absurd row
old_epoch_unanswered p (Activate epoch) fence e row = absurd row

-- ---- an inspection

kept_state : (p : Position) (r n : ℕ) → KeptAt p → May p (says.State r n) → KeptAt (after p (says.State r n))
kept_state p r n k h = record {
  machine = k.machine;
  opening = k.opening;
  booting = k.booting;
  calling = λ q call e still. absurd (false≢true (sym still));
}

kept_rows : (p : Position) (words : List (List ℕ)) → KeptAt p → KeptAt (after p (says.Rows words))
kept_rows p words k = record { machine = k.machine; opening = k.opening; booting = k.booting; calling = k.calling }

-- ---- each line

pub kept_line : (p : Position) (o : Observation) → KeptAt p → May p o → KeptAt (after p o)
kept_line p (says.Up r) k h = kept_up p r k h
kept_line p (says.Order t ops) k h = kept_order p t ops k h
kept_line p (says.View r n) k h = kept_view p r n k h
kept_line p (says.Active r) k h = kept_active p r k h
kept_line p (says.Committed t) k h = kept_committed p t k h
kept_line p says.Done k h = kept_answering p 6 k h.next (done_unanswered p p.event h.row)
kept_line p (says.Refused part) k h = absurd h.row
kept_line p (says.Txn t) k h = kept_answering p 6 k h.next h.row.1
kept_line p (says.Down r) k h = kept_answering p 6 k h.next h.row.1
kept_line p (says.NotActive r) k h = kept_answering p 6 k h.next h.row.1
kept_line p (says.Ended t) k h = kept_answering p 6 k h.next h.row.1
kept_line p says.True k h = kept_answering p 6 k h.next h.row.1
kept_line p says.False k h = kept_answering p 6 k h.next h.row.1
kept_line p (says.Value value) k h = kept_answering p 6 k h.next h.row.1
kept_line p says.Missing k h = kept_answering p 6 k h.next h.row.1
kept_line p says.Absent k h = kept_answering p 6 k h.next h.row.1
kept_line p says.WrongKind k h = kept_answering p 6 k h.next h.row.1
kept_line p (says.Fault r) k h = kept_fault p r k h
kept_line p says.IgnoredUp k h = absurd h.row
kept_line p (says.State r n) k h = kept_state p r n k h
kept_line p (says.Rows words) k h = kept_rows p words k
kept_line p (says.Locked t) k h = kept_answering p 6 k h.next h.row.1
kept_line p (says.IgnoredOldEpoch fence e) k h = kept_answering p 6 k h.next (old_epoch_unanswered p p.event fence e h.row)
kept_line p (says.Progress r e last) k h = kept_progress p r e last k h
