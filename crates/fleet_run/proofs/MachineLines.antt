-- What the lines of an event change of the appointments, roles and answers to surveys that the machine keeps.
use Rattle.std.proofs.Common.{◌≡◌, ◌∙◌, ℕ, true, false, Bool, cond, ◌⊎◌, List, [], ◌∷◌, ◌++◌, map, drop, get_or, length, inl, inr, Option, Some, None, is_some, refl, sym, ap, ap₂, subst}
use Rattle.std.specs.Prelude.{◌&&◌, option_map}
use Rattle.std.specs.Option.{option_map_or}
use Rattle.std.specs.List.{list_any}
use Rattle.std.proofs.lemmas.Bool.{cases_Bool, cases_eq, cases_lt, or_cases, or_left, or_right, and_parts, and_from, eq-eqb, false≢true}
use Rattle.std.proofs.lemmas.List.{get_or-set_same, get_or-set_other, set_past}
use Rattle.rc_base.specs.declared.ids.Epoch.{Epoch}
use Rattle.rc_base.specs.declared.ids.TxnId.{TxnId}
use Rattle.rc_base.specs.Ids.{is_epoch}
use Rattle.rc_base.proofs.SameIds.{is_epoch-true}
use Rattle.events.specs.declared.call.Call.{Call}
use Rattle.events.specs.declared.answer.Answer.{Answer}
use Rattle.events.specs.declared.answer.Answer.TheVariants as answers
use Rattle.events.specs.declared.answer.Reply.{Reply}
use Rattle.events.specs.Calls.{CallRecord, txn_named}
use Rattle.events.specs.declared.event.Event.{Event}
use Rattle.events.specs.declared.event.Event.TheVariants.{Boot, Client, Arm, Crash, Reboot, Inspect, Survey, Appoint, Activate}
use Rattle.order_machine.specs.declared.observation.Observation.{Observation}
use Rattle.order_machine.specs.declared.observation.Observation.TheVariants as says
use Rattle.order_machine.specs.Machine.{Machine, Appointment, Replica, Role, Txn, replica, role_of, txn_of, put_txn, put_replica, has_role, never_opened, closed, without_role}
use Rattle.order_machine.specs.Clients.{noted, begun_by, one_more_begun}
use Rattle.order_machine.specs.Transitions.{Position, changed, after, with_first_role, showing, failed, surveyed, activated, noting_active, answered_by, first_epoch, is_boot, with_survey}
use Rattle.order_machine.specs.Legal.{behind}
use Rattle.fleet_run.specs.Kernel.{Term, term_of, terms_of}
use Rattle.fleet_run.specs.Sound.{has_begun}
use Rattle.fleet_run.specs.Laws.{is_survey}

-- whether a role is of the epoch
abbrev pub is_role_of : Epoch → Option Role → Bool
is_role_of e x = option_map_or (λ role. is_epoch e role.epoch) x false

-- whether one of the appointments is of the epoch, and its primary was active
abbrev pub begun_in : Epoch → List Appointment → Bool
begun_in e ones = list_any (λ a. is_epoch e a.epoch && a.was_active) ones

-- a boot gives the role of the first epoch
abbrev pub IsFirst : Event → Epoch → Type 0
IsFirst event e = (is_boot event ≡ true) × (e ≡ first_epoch)

-- What a machine has of an earlier one: the same appointments and configuration; no roles but those of before, or the first one in a boot; and of the
-- primaries that were active and of the answers to surveys only what is said.
pub record Follows (event : Event) (rises : Epoch → Type 0) (tells : Type 0) (old new : Machine) : Type 0 where
  pub terms : terms_of new ≡ terms_of old
  pub config : new.config ≡ old.config
  pub roles : (q : ℕ) (e : Epoch) → has_role new q e ≡ true → (has_role old q e ≡ true) ⊎ IsFirst event e
  pub begun : (e : Epoch) → has_begun new e ≡ true → (has_begun old e ≡ true) ⊎ rises e
  pub answers : (new.answers ≡ old.answers) ⊎ tells

pub itself : (event : Event) (rises : Epoch → Type 0) (tells : Type 0) (m : Machine) → Follows event rises tells m m
itself event rises tells m = record { terms = refl; config = refl; roles = λ q e h. inl h; begun = λ e h. inl h; answers = inl refl }

both_answers : (tells : Type 0) (a b c : Machine) → (b.answers ≡ a.answers) ⊎ tells → (c.answers ≡ b.answers) ⊎ tells → (c.answers ≡ a.answers) ⊎ tells
both_answers tells a b c (inl x) (inl y) = inl (y ∙ x)
both_answers tells a b c (inr x) y = inr x
both_answers tells a b c (inl x) (inr y) = inr y

pub after_both : (event : Event) (rises : Epoch → Type 0) (tells : Type 0) (a b c : Machine) → Follows event rises tells a b → Follows event rises tells b c → Follows event rises tells a c
after_both event rises tells a b c x y = record {
  terms = y.terms ∙ x.terms;
  config = y.config ∙ x.config;
  roles = λ q e h. elim (y.roles q e h) [ inl k ↦ x.roles q e k | inr first ↦ inr first ];
  begun = λ e h. elim (y.begun e h) [ inl k ↦ x.begun e k | inr z ↦ inr z ];
  answers = both_answers tells a b c x.answers y.answers;
}

-- ---- one replica

-- one of the replicas is another, whose role is one of before, or of the first epoch in a boot
pub replaced : (event : Event) (rises : Epoch → Type 0) (tells : Type 0) (m : Machine) (r : ℕ) (x : Replica) → ((e : Epoch) → is_role_of e x.role ≡ true → (is_role_of e (replica m r).role ≡ true) ⊎ IsFirst event e)
    → Follows event rises tells m (put_replica m r x)
replaced event rises tells m r x same = record {
  terms = refl;
  config = refl;
  roles = λ q e h. elim (cases_eq q r) [
    | inr ne ↦ inl (subst (λ (y : Replica). is_role_of e y.role ≡ true) (get_or-set_other m.replicas r q x never_opened ne) h)
    | inl is ↦ elim (cases_lt r (length m.replicas)) [
      | inl lt ↦
          let at : is_role_of e (replica (put_replica m r x) r).role ≡ true = subst (λ (n : ℕ). is_role_of e (replica (put_replica m r x) n).role ≡ true) is h in
          let new : is_role_of e x.role ≡ true = subst (λ (y : Replica). is_role_of e y.role ≡ true) (get_or-set_same m.replicas r x never_opened lt) at in
          elim (same e new) [
            | inl k ↦ inl (subst (λ (n : ℕ). is_role_of e (replica m n).role ≡ true) (sym is) k)
            | inr first ↦ inr first
          ]
      | inr past ↦ inl (subst (λ (ys : List Replica). is_role_of e (get_or ys q never_opened).role ≡ true) (set_past m.replicas r x past) h)
    ]
  ];
  begun = λ e h. inl h;
  answers = inl refl;
}

pub no_role : (event : Event) (r : ℕ) (m : Machine) (e : Epoch) → is_role_of e None ≡ true → (is_role_of e (replica m r).role ≡ true) ⊎ IsFirst event e
no_role event r m e h = absurd (false≢true h)

pub same_role : (event : Event) (r : ℕ) (m : Machine) (e : Epoch) → is_role_of e (replica m r).role ≡ true → (is_role_of e (replica m r).role ≡ true) ⊎ IsFirst event e
same_role event r m e h = inl h

-- other transactions, orders and acknowledgements
abbrev pub only_replicas : Machine → Machine → Type 0
only_replicas a b = (b.replicas ≡ a.replicas) × (b.appointments ≡ a.appointments) × (b.config ≡ a.config) × (b.answers ≡ a.answers)

pub beside : (event : Event) (rises : Epoch → Type 0) (tells : Type 0) (a b c : Machine) → Follows event rises tells a b → only_replicas b c → Follows event rises tells a c
beside event rises tells a b c x y = record {
  terms = ap (λ (ones : List Appointment). map term_of ones) y.1 ∙ x.terms;
  config = y.2 ∙ x.config;
  roles = λ q e h. x.roles q e (subst (λ (rs : List Replica). is_role_of e (get_or rs q never_opened).role ≡ true) y.0 h);
  begun = λ e h. x.begun e (subst (λ (ones : List Appointment). begun_in e ones ≡ true) y.1 h);
  answers = elim x.answers [ inl z ↦ inl (y.3 ∙ z) | inr z ↦ inr z ];
}

-- ---- parts of lines

module _ (rises : Epoch → Type 0) (tells : Type 0) where
  first_role : (m : Machine) (p : ℕ) (members : List ℕ) → Follows (Boot p members) rises tells m (with_first_role m (Boot p members) [])
  first_role m p members = elim (cases_Bool (replica m p).up) [
    | inl up ↦ rw (up) (replaced (Boot p members) rises tells m p _ (λ e h. inr (refl, is_epoch-true e first_epoch h)))
    | inr down ↦ rw (down) (itself (Boot p members) rises tells m)
  ]

  first_role_same : (m : Machine) (event : Event) (mounts : List ℕ) → Follows event rises tells m (with_first_role m event mounts)
  first_role_same m (Boot p members) [] = first_role m p members
  first_role_same m (Boot p members) (r ∷ rs) = itself _ rises tells m
  first_role_same m (Client r call) mounts = itself _ rises tells m
  first_role_same m (Arm r calls) mounts = itself _ rises tells m
  first_role_same m (Crash r pick) mounts = itself _ rises tells m
  first_role_same m (Reboot r) mounts = itself _ rises tells m
  first_role_same m (Inspect r) mounts = itself _ rises tells m
  first_role_same m (Survey r e) mounts = itself _ rises tells m
  first_role_same m (Appoint e p members) mounts = itself _ rises tells m
  first_role_same m (Activate e) mounts = itself _ rises tells m

  pub closed_same : (m : Machine) (event : Event) (r : ℕ) (b : Machine) → only_replicas (put_replica m r (record (replica m r) { up = false; role = None; grants = [] })) b → Follows event rises tells m b
  closed_same m event r b is = beside event rises tells m _ b (replaced event rises tells m r _ (no_role event r m)) is

  failed_same : (m : Machine) (event : Event) (r : ℕ) → Follows event rises tells m (failed m event r)
  failed_same m (Boot p members) r = closed_same m _ r _ (refl, refl, refl, refl)
  failed_same m (Client q call) r = closed_same m _ r _ (refl, refl, refl, refl)
  failed_same m (Arm q calls) r = closed_same m _ r _ (refl, refl, refl, refl)
  failed_same m (Crash q pick) r = closed_same m _ r _ (refl, refl, refl, refl)
  failed_same m (Reboot q) r = closed_same m _ r _ (refl, refl, refl, refl)
  failed_same m (Inspect q) r = closed_same m _ r _ (refl, refl, refl, refl)
  failed_same m (Survey q e) r =
      after_both (Survey q e) rises tells m (closed m r) (failed m (Survey q e) r) (closed_same m (Survey q e) r (closed m r) (refl, refl, refl, refl)) (replaced (Survey q e) rises tells (closed m r) r _ (same_role (Survey q e) r (closed m r)))
  failed_same m (Appoint e p members) r = closed_same m _ r _ (refl, refl, refl, refl)
  failed_same m (Activate e) r = closed_same m _ r _ (refl, refl, refl, refl)

  ended_same : (m : Machine) (event : Event) (r : ℕ) (b : Machine) → only_replicas (put_replica m r (record (replica m r) { role = None; grants = [] })) b → Follows event rises tells m b
  ended_same m event r b is = beside event rises tells m _ b (replaced event rises tells m r _ (no_role event r m)) is

  told_also : (m a b : Machine) (event : Event) → tells → Follows event rises tells m a → (b.replicas ≡ a.replicas) × (b.appointments ≡ a.appointments) × (b.config ≡ a.config) → Follows event rises tells m b
  told_also m a b event tells x y = record {
    terms = ap (λ (ones : List Appointment). map term_of ones) y.1 ∙ x.terms;
    config = y.2 ∙ x.config;
    roles = λ q e h. x.roles q e (subst (λ (rs : List Replica). is_role_of e (get_or rs q never_opened).role ≡ true) y.0 h);
    begun = λ e h. x.begun e (subst (λ (ones : List Appointment). begun_in e ones ≡ true) y.1 h);
    answers = inr tells;
  }

  surveyed_same : (m : Machine) (event : Event) (r : ℕ) (e : Epoch) (last : ℕ) → tells ⊎ (is_survey event ≡ false) → Follows event rises tells m (surveyed m event r e last)
  surveyed_same m (Boot p members) r e last may = itself _ rises tells m
  surveyed_same m (Client q call) r e last may = itself _ rises tells m
  surveyed_same m (Arm q calls) r e last may = itself _ rises tells m
  surveyed_same m (Crash q pick) r e last may = itself _ rises tells m
  surveyed_same m (Reboot q) r e last may = itself _ rises tells m
  surveyed_same m (Inspect q) r e last may = itself _ rises tells m
  surveyed_same m (Survey q x) r e last (inl is) =
      told_also m (with_survey (without_role m r) r x false) (surveyed m (Survey q x) r e last) (Survey q x) is
      (after_both (Survey q x) rises tells m (without_role m r) (with_survey (without_role m r) r x false) (ended_same m (Survey q x) r (without_role m r) (refl, refl, refl, refl)) (replaced (Survey q x) rises tells (without_role m r) r _ (same_role (Survey q x) r (without_role m r))))
      (refl, refl, refl)
  surveyed_same m (Survey q x) r e last (inr isnt) = absurd (false≢true (sym isnt))
  surveyed_same m (Appoint x p members) r e last may = itself _ rises tells m
  surveyed_same m (Activate x) r e last may = itself _ rises tells m

  counted : (e : Epoch) (x : Option Role) → is_role_of e (option_map one_more_begun x) ≡ true → is_role_of e x ≡ true
  counted e None h = h
  counted e (Some role) h = h

  begun_same : (m : Machine) (event : Event) (r : ℕ) (answer : Answer) → Follows event rises tells m (begun_by m r answer)
  begun_same m event r (answers.Txn t) = beside event rises tells m _ _ (replaced event rises tells m r _ (λ e h. inl (counted e (role_of m r) h))) (refl, refl, refl, refl)
  begun_same m event r answers.Done = itself event rises tells m
  begun_same m event r answers.True = itself event rises tells m
  begun_same m event r answers.False = itself event rises tells m
  begun_same m event r (answers.Value value) = itself event rises tells m
  begun_same m event r answers.Missing = itself event rises tells m
  begun_same m event r answers.Absent = itself event rises tells m
  begun_same m event r answers.WrongKind = itself event rises tells m
  begun_same m event r (answers.Ended t) = itself event rises tells m
  begun_same m event r (answers.Locked t) = itself event rises tells m
  begun_same m event r (answers.NotActive q) = itself event rises tells m
  begun_same m event r (answers.Down q) = itself event rises tells m
  begun_same m event r (answers.Refused part) = itself event rises tells m
  begun_same m event r (answers.Progress q e last) = itself event rises tells m
  begun_same m event r answers.IgnoredUp = itself event rises tells m
  begun_same m event r (answers.IgnoredOldEpoch fence e) = itself event rises tells m

  noted_same : (m : Machine) (event : Event) (t : TxnId) (call : CallRecord) (x : Option Txn) → Follows event rises tells m (option_map_or (λ (x : Txn). put_txn m t (record x { calls = x.calls ++ call ∷ [] })) x m)
  noted_same m event t call None = itself event rises tells m
  noted_same m event t call (Some x) = beside event rises tells m m _ (itself event rises tells m) (refl, refl, refl, refl)

  named_same : (m : Machine) (event : Event) (r : ℕ) (call : Call) (reply : Reply) (t : Option TxnId)
      → Follows event rises tells m (option_map_or (λ (t : TxnId). noted m t (record { call = call; answer = reply.answer; op = reply.op })) t (begun_by m r reply.answer))
  named_same m event r call reply None = begun_same m event r reply.answer
  named_same m event r call reply (Some t) = noted_same m event t (record { call = call; answer = reply.answer; op = reply.op }) (txn_of m t)

  answered_same : (m : Machine) (event : Event) (reply : Reply) → Follows event rises tells m (answered_by m event reply)
  answered_same m (Boot p members) reply = itself _ rises tells m
  answered_same m (Client r call) reply = named_same m (Client r call) r call reply (txn_named call)
  answered_same m (Arm q calls) reply = itself _ rises tells m
  answered_same m (Crash q pick) reply = itself _ rises tells m
  answered_same m (Reboot q) reply = itself _ rises tells m
  answered_same m (Inspect q) reply = itself _ rises tells m
  answered_same m (Survey q x) reply = itself _ rises tells m
  answered_same m (Appoint x p members) reply = itself _ rises tells m
  answered_same m (Activate x) reply = itself _ rises tells m

  client_same : (m : Machine) (event : Event) (client : Option Reply) → Follows event rises tells m (option_map_or (answered_by m event) client m)
  client_same m event None = itself event rises tells m
  client_same m event (Some reply) = answered_same m event reply

  view_same : (p : Position) (r n : ℕ) (b : Bool) → is_some p.opening ≡ b → Follows p.event rises tells p.machine (changed p (says.View r n)).machine
  view_same p r n true is =
      rw (is) (after_both p.event rises tells p.machine (showing p.machine r n) _ (replaced p.event rises tells p.machine r _ (same_role p.event r p.machine)) (first_role_same (showing p.machine r n) p.event p.mounts))
  view_same p r n false is = rw (is) (replaced p.event rises tells p.machine r _ (same_role p.event r p.machine))

  -- ---- a primary becomes active

  noted_term : (a : Appointment) (b : Bool) → term_of (cond b (record a { was_active = true }) a) ≡ term_of a
  noted_term a true = refl
  noted_term a false = refl

  noted_terms : (e : Epoch) (ones : List Appointment) → map term_of (noting_active e ones) ≡ map term_of ones
  noted_terms e [] = refl
  noted_terms e (a ∷ ones) = ap₂ (λ (t : Term) (ts : List Term). t ∷ ts) (noted_term a (is_epoch e a.epoch)) (noted_terms e ones)

  one_begun : (x e : Epoch) (a : Appointment) (b : Bool) → is_epoch x a.epoch ≡ b → (is_epoch e (cond b (record a { was_active = true }) a).epoch && (cond b (record a { was_active = true }) a).was_active) ≡ true
      → ((is_epoch e a.epoch && a.was_active) ≡ true) ⊎ (e ≡ x)
  one_begun x e a true is h = inr (is_epoch-true e a.epoch (and_parts _ _ h).0 ∙ sym (is_epoch-true x a.epoch is))
  one_begun x e a false is h = inl h

  noted_begun : (x e : Epoch) (ones : List Appointment) → begun_in e (noting_active x ones) ≡ true → (begun_in e ones ≡ true) ⊎ (e ≡ x)
  noted_begun x e [] h = inl h
  noted_begun x e (a ∷ ones) h = elim (or_cases _ _ h) [
    | inl one ↦ elim (one_begun x e a (is_epoch x a.epoch) refl one) [
      | inl old ↦ inl (or_left _ _ old)
      | inr is ↦ inr is
    ]
    | inr others ↦ elim (noted_begun x e ones others) [
      | inl old ↦ inl (or_right _ _ old)
      | inr is ↦ inr is
    ]
  ]

  role_self : (x : Option Role) (role : Role) → x ≡ Some role → is_role_of role.epoch x ≡ true
  role_self x role is = ap (is_role_of role.epoch) is ∙ and_from _ _ (eq-eqb role.epoch.loss role.epoch.loss refl) (eq-eqb role.epoch.number role.epoch.number refl)

  active_at : (m : Machine) (event : Event) (r : ℕ) (x : Option Role) → role_of m r ≡ x → ((e : Epoch) → has_role m r e ≡ true → rises e) → Follows event rises tells m (option_map_or (activated m r) x m)
  active_at m event r None is may = itself event rises tells m
  active_at m event r (Some role) is may =
      let put = replaced event rises tells m r (record (replica m r) { role = Some (record role { active = true }) }) (λ e h. inl (ap (is_role_of e) is ∙ h)) in
      record {
        terms = noted_terms role.epoch m.appointments;
        config = refl;
        roles = put.roles;
        begun = λ e h. elim (noted_begun role.epoch e m.appointments h) [
          | inl old ↦ inl old
          | inr same ↦ inr (may e (subst (λ (x : Epoch). has_role m r x ≡ true) (sym same) (role_self (role_of m r) role is)))
        ];
        answers = inl refl;
      }

  -- ---- one line, and several

  -- the line may come, by what it says of an active primary or of a survey
  abbrev pub May : Event → Machine → Observation → Type 0
  May event m (says.Active r) = (e : Epoch) → (has_role m r e ≡ true) ⊎ IsFirst event e → rises e
  May event m (says.Progress r e last) = tells ⊎ (is_survey event ≡ false)
  May event m _ = Unit {0}

  line_follows : (p : Position) (o : Observation) → May p.event p.machine o → Follows p.event rises tells p.machine (changed p o).machine
  line_follows p (says.Up r) may = replaced p.event rises tells p.machine r _ (no_role p.event r p.machine)
  line_follows p (says.Order t ops) may = beside p.event rises tells p.machine p.machine _ (itself p.event rises tells p.machine) (refl, refl, refl, refl)
  line_follows p (says.View r n) may = view_same p r n (is_some p.opening) refl
  line_follows p (says.Active r) may = active_at p.machine p.event r (role_of p.machine r) refl (λ e h. may e (inl h))
  line_follows p (says.Committed t) may = beside p.event rises tells p.machine _ _ (replaced p.event rises tells p.machine p.primary _ (same_role p.event p.primary p.machine)) (refl, refl, refl, refl)
  line_follows p (says.Txn t) may = client_same p.machine p.event p.client
  line_follows p says.Done may = client_same p.machine p.event p.client
  line_follows p (says.Refused part) may = client_same p.machine p.event p.client
  line_follows p (says.Down r) may = client_same p.machine p.event p.client
  line_follows p (says.NotActive r) may = client_same p.machine p.event p.client
  line_follows p (says.Ended t) may = client_same p.machine p.event p.client
  line_follows p (says.Locked t) may = client_same p.machine p.event p.client
  line_follows p says.True may = client_same p.machine p.event p.client
  line_follows p says.False may = client_same p.machine p.event p.client
  line_follows p (says.Value value) may = client_same p.machine p.event p.client
  line_follows p says.Missing may = client_same p.machine p.event p.client
  line_follows p says.Absent may = client_same p.machine p.event p.client
  line_follows p says.WrongKind may = client_same p.machine p.event p.client
  line_follows p (says.Fault r) may =
      after_both p.event rises tells p.machine (failed p.machine p.event r) _ (failed_same p.machine p.event r) (first_role_same (failed p.machine p.event r) p.event (drop 1 p.mounts))
  line_follows p says.IgnoredUp may = client_same p.machine p.event p.client
  line_follows p (says.IgnoredOldEpoch fence e) may = client_same p.machine p.event p.client
  line_follows p (says.Progress r e last) may = surveyed_same p.machine p.event r e last may
  line_follows p (says.State r k) may = itself p.event rises tells p.machine
  line_follows p (says.Rows words) may = itself p.event rises tells p.machine

  -- a line that might come at an earlier machine may come
  still : (event : Event) (a b : Machine) (o : Observation) → Follows event rises tells a b → May event a o → May event b o
  still event a b (says.Active r) x may = λ e h. elim h [
    | inl role ↦ may e (x.roles r e role)
    | inr first ↦ may e (inr first)
  ]
  still event a b (says.Up r) x may = tt
  still event a b (says.Order t ops) x may = tt
  still event a b (says.View r n) x may = tt
  still event a b (says.Committed t) x may = tt
  still event a b (says.Txn t) x may = tt
  still event a b says.Done x may = tt
  still event a b (says.Refused part) x may = tt
  still event a b (says.Down r) x may = tt
  still event a b (says.NotActive r) x may = tt
  still event a b (says.Ended t) x may = tt
  still event a b (says.Locked t) x may = tt
  still event a b says.True x may = tt
  still event a b says.False x may = tt
  still event a b (says.Value value) x may = tt
  still event a b says.Missing x may = tt
  still event a b says.Absent x may = tt
  still event a b says.WrongKind x may = tt
  still event a b (says.Fault r) x may = tt
  still event a b says.IgnoredUp x may = tt
  still event a b (says.IgnoredOldEpoch fence e) x may = tt
  still event a b (says.Progress r e last) x may = may
  still event a b (says.State r k) x may = tt
  still event a b (says.Rows words) x may = tt

  -- each of the lines may come at the machine
  abbrev pub MayEach : Event → Machine → List Observation → Type 0
  MayEach event m [] = Unit {0}
  MayEach event m (o ∷ lines) = May event m o × MayEach event m lines

  pub each_append : (event : Event) (m : Machine) (xs ys : List Observation) → MayEach event m xs → MayEach event m ys → MayEach event m (xs ++ ys)
  each_append event m [] ys a b = b
  each_append event m (x ∷ xs) ys a b = (a.0, each_append event m xs ys a.1 b)

view_event : (p : Position) (r n : ℕ) (b : Bool) → is_some p.opening ≡ b → (changed p (says.View r n)).event ≡ p.event
view_event p r n true is = rw (is) refl
view_event p r n false is = rw (is) refl

pub event_same : (p : Position) (o : Observation) → (after p o).event ≡ p.event
event_same p (says.Up r) = refl
event_same p (says.Order t ops) = refl
event_same p (says.View r n) = view_event p r n (is_some p.opening) refl
event_same p (says.Active r) = refl
event_same p (says.Committed t) = refl
event_same p (says.Txn t) = refl
event_same p says.Done = refl
event_same p (says.Refused part) = refl
event_same p (says.Down r) = refl
event_same p (says.NotActive r) = refl
event_same p (says.Ended t) = refl
event_same p (says.Locked t) = refl
event_same p says.True = refl
event_same p says.False = refl
event_same p (says.Value value) = refl
event_same p says.Missing = refl
event_same p says.Absent = refl
event_same p says.WrongKind = refl
event_same p (says.Fault r) = refl
event_same p says.IgnoredUp = refl
event_same p (says.IgnoredOldEpoch fence e) = refl
event_same p (says.Progress r e last) = refl
event_same p (says.State r k) = refl
event_same p (says.Rows words) = refl

pub behind_event : (p : Position) (lines : List Observation) → (behind p lines).event ≡ p.event
behind_event p [] = refl
behind_event p (o ∷ lines) = behind_event (after p o) lines ∙ event_same p o

module _ (rises : Epoch → Type 0) (tells : Type 0) where
  pub lines_follow : (m : Machine) (event : Event) (p : Position) (lines : List Observation) → p.event ≡ event → Follows event rises tells m p.machine → MayEach rises tells event m lines → Follows event rises tells m (behind p lines).machine
  lines_follow m event p [] is x may = x
  lines_follow m event p (o ∷ lines) is x may =
      let now : May rises tells p.event p.machine o = subst (λ (e : Event). May rises tells e p.machine o) (sym is) (still rises tells event m p.machine o x may.0) in
      let next : Follows event rises tells p.machine (after p o).machine = subst (λ (e : Event). Follows e rises tells p.machine (after p o).machine) is (line_follows rises tells p o now) in
      lines_follow m event (after p o) lines (event_same p o ∙ is) (after_both event rises tells m p.machine (after p o).machine x next) may.1

any_line : (event : Event) (m : Machine) (o : Observation) → May (λ e. Unit {0}) (Unit {0}) event m o
any_line event m (says.Active r) = λ e h. tt
any_line event m (says.Progress r e last) = inl tt
any_line event m (says.Up r) = tt
any_line event m (says.Order t ops) = tt
any_line event m (says.View r n) = tt
any_line event m (says.Committed t) = tt
any_line event m (says.Txn t) = tt
any_line event m says.Done = tt
any_line event m (says.Refused part) = tt
any_line event m (says.Down r) = tt
any_line event m (says.NotActive r) = tt
any_line event m (says.Ended t) = tt
any_line event m (says.Locked t) = tt
any_line event m says.True = tt
any_line event m says.False = tt
any_line event m (says.Value value) = tt
any_line event m says.Missing = tt
any_line event m says.Absent = tt
any_line event m says.WrongKind = tt
any_line event m (says.Fault r) = tt
any_line event m says.IgnoredUp = tt
any_line event m (says.IgnoredOldEpoch fence e) = tt
any_line event m (says.State r k) = tt
any_line event m (says.Rows words) = tt

any_lines : (event : Event) (m : Machine) (lines : List Observation) → MayEach (λ e. Unit {0}) (Unit {0}) event m lines
any_lines event m [] = tt
any_lines event m (o ∷ lines) = (any_line event m o, any_lines event m lines)

-- whatever the lines are
pub lines_same : (p : Position) (lines : List Observation) → Follows p.event (λ e. Unit {0}) (Unit {0}) p.machine (behind p lines).machine
lines_same p lines = lines_follow (λ e. Unit {0}) (Unit {0}) p.machine p.event p lines refl (itself p.event (λ e. Unit {0}) (Unit {0}) p.machine) (any_lines p.event p.machine lines)
