-- A previous configuration that is dropped changes no more of a state than its appointment.
use Rattle.std.proofs.Common.{◌≡◌, ◌∙◌, sym, ap, ap₂, subst, refl, ℕ, Bool, true, false, cond, ◌||◌, List, [], ◌∷◌, Option, Some, None, inl, inr, ⊎_elim}
use Rattle.std.specs.Prelude.{All}
use Rattle.std.specs.List.{list_any}
use Rattle.std.proofs.lemmas.List.Elements.{All-nil, All-cons, All-head, All-tail, All-weaker}
use Rattle.rc_base.specs.declared.ids.Epoch.{Epoch}
use Rattle.rc_base.specs.Ids.{is_epoch}
use Rattle.coll_model.specs.Effect.{State}
use Rattle.disk_model.specs.Disk.{Areas}
use Rattle.log_store.specs.declared.kept.Kept.{Kept as Log}
use Rattle.order_machine.specs.Order.{Entry}
use Rattle.order_machine.specs.Machine.{Machine, Appointment, Txn}
use Rattle.order_machine.specs.Transitions.{HoldsBehind, dropping}
use Rattle.rc_base.specs.declared.ids.TxnId.{TxnId}
use Rattle.txn_front.specs.Front.{Fronted}
use Rattle.replica_model.specs.declared.role.Role.{Role}
use Rattle.replica_model.specs.declared.role.Role.TheVariants.{Other, Primary}
use Rattle.replica.specs.Open.{Open}
use Rattle.world.specs.Course.{IsOurs, IsCourse, ArePast, IsLogged, is_appointed}
use Rattle.world.specs.Running.{Runs}
use Rattle.world.specs.Standing.{Course, resting, shut}
use Rattle.world.specs.World.{AsReplica, AsRole, IsSound}
use Rattle.world.proofs.States.NothingPending.{holds_behind}
use Rattle.world.proofs.States.RoleEnd.{holds_without_role}

-- ---- the course

abbrev pub dropped_one : Epoch → Appointment → Appointment
dropped_one e a = cond (is_epoch e a.epoch) (record a { dropped = true }) a

abbrev pub dropped_in : Epoch → Course → Course
dropped_in e course = record course { first = dropped_one e course.first; later = dropping e course.later }

abbrev pub dropped_at : Epoch → Machine → Machine
dropped_at e m = record m { appointments = dropping e m.appointments }

ours_by : (b : Bool) (latest : Epoch) (a : Appointment) → IsOurs latest a → IsOurs latest (cond b (record a { dropped = true }) a)
ours_by true latest a h = record { primary = h.primary; current = h.current; within = h.within }
ours_by false latest a h = h

ours_dropped : (e latest : Epoch) (xs : List Appointment) → All (IsOurs latest) xs → All (IsOurs latest) (dropping e xs)
ours_dropped e latest [] all = All-nil (IsOurs latest)
ours_dropped e latest (a ∷ xs) all =
    All-cons (IsOurs latest) (dropped_one e a) (dropping e xs) (ours_by (is_epoch e a.epoch) latest a (All-head (IsOurs latest) a xs all)) (ours_dropped e latest xs (All-tail (IsOurs latest) a xs all))

epoch_by : (b : Bool) (a : Appointment) → (cond b (record a { dropped = true }) a).epoch ≡ a.epoch
epoch_by true a = refl
epoch_by false a = refl

appointed_dropped : (e f : Epoch) (xs : List Appointment) → list_any (λ a. is_epoch f a.epoch) (dropping e xs) ≡ list_any (λ a. is_epoch f a.epoch) xs
appointed_dropped e f [] = refl
appointed_dropped e f (a ∷ xs) = ap₂ (λ (x y : Bool). x || y) (ap (λ (z : Epoch). is_epoch f z) (epoch_by (is_epoch e a.epoch) a)) (appointed_dropped e f xs)

is_appointed_dropped : (e f : Epoch) (course : Course) → is_appointed (dropped_in e course) f ≡ is_appointed course f
is_appointed_dropped e f course = appointed_dropped e f (course.first ∷ course.later)

course_dropped : (e : Epoch) (course : Course) → IsCourse course → IsCourse (dropped_in e course)
course_dropped e course c = record { each = ours_dropped e course.latest (course.first ∷ course.later) c.each; latest = is_appointed_dropped e course.latest course ∙ c.latest }

logged_dropped : (e : Epoch) (course : Course) (log : Log) → IsLogged course log → IsLogged (dropped_in e course) log
logged_dropped e course log logged = ⊎_elim (λ there. inl (is_appointed_dropped e _ course ∙ there)) (λ none. inr none) logged

past_dropped : (e : Epoch) (course : Course) (entries : List Entry) (acknowledged : List TxnId) (txns : List (TxnId × Txn)) → ArePast course entries acknowledged txns → ArePast (dropped_in e course) entries acknowledged txns
past_dropped e course entries acknowledged txns p = record { each = p.each; held = p.held; held_within = p.held_within }

sound_dropped : (e : Epoch) (entries : List Entry) (txns : List (TxnId × Txn)) (course : Course) (last : ℕ) (log : Log) → IsSound entries txns course last log → IsSound entries txns (dropped_in e course) last log
sound_dropped e entries txns course last log s = record { more = s.more; holds = s.holds; follow = s.follow; hidden = s.hidden; shows = s.shows; fence = s.fence; logged = logged_dropped e course log s.logged; short = s.short }

-- ---- world and disk stand for the state with it

runs_dropped : (e : Epoch) (front : Fronted) (shown : ℕ) (contents : State) (m : Machine) → Runs front shown contents m → Runs front shown contents (dropped_at e m)
runs_dropped e front shown contents m h = record {
  entries = h.entries;
  acknowledged = h.acknowledged;
  txns = h.txns;
  grants = h.grants;
  course = dropped_in e h.course;
  is = ap (dropped_at e) h.is;
  epoch = h.epoch;
  alike = h.alike;
  exclusive = h.exclusive;
  all_shown = h.all_shown;
  sees = h.sees;
  each = λ t x known.
      let k = h.each t x known in
      record { home = k.home; within = k.within; begun = k.begun; on = k.on; here = k.here; asked = k.asked; not_held = k.not_held; not_acknowledged = k.not_acknowledged; logged = k.logged; protected = k.protected };
  live_known = h.live_known;
  held = h.held;
  held_within = h.held_within;
  held_begun = h.held_begun;
}

role_dropped : (e : Epoch) (role : Role) (last : ℕ) (r : Open) (images : Areas → Type 0) (m : Machine) → AsRole role last r images m → AsRole role last r images (dropped_at e m)
unfolding runs_dropped
role_dropped e Other last r images m s = record {
  entries = s.entries;
  rests = record {
    acknowledged = s.rests.acknowledged;
    txns = s.rests.txns;
    course = dropped_in e s.rests.course;
    is = ap (dropped_at e) s.rests.is;
    ruled = course_dropped e s.rests.course s.rests.ruled;
    past = past_dropped e s.rests.course s.entries s.rests.acknowledged s.rests.txns s.rests.past;
  };
  log = s.log;
  is_open = s.is_open;
  sound = sound_dropped e s.entries s.rests.txns s.rests.course last s.log s.sound;
  hidden = s.hidden;
  shows = s.shows;
  few = s.few;
}
role_dropped e (Primary epoch active) last r images m s = record {
  runs = runs_dropped e r.front r.shown r.contents m s.runs;
  ruled = course_dropped e s.runs.course s.ruled;
  log = s.log;
  is_open = s.is_open;
  epoch = s.epoch;
  fence = s.fence;
  commits = s.commits;
  short = s.short;
  few = s.few;
  recorded = s.recorded;
}

pub replica_dropped : (e : Epoch) (o : Option Open) (last : ℕ) (images : Areas → Type 0) (m : Machine) → AsReplica o last images m → AsReplica o last images (dropped_at e m)
replica_dropped e None last images m s = record {
  entries = s.entries;
  is_shut = record {
    acknowledged = s.is_shut.acknowledged;
    txns = s.is_shut.txns;
    course = dropped_in e s.is_shut.course;
    shown = s.is_shut.shown;
    is = ap (dropped_at e) s.is_shut.is;
    ruled = course_dropped e s.is_shut.course s.is_shut.ruled;
    past = past_dropped e s.is_shut.course s.entries s.is_shut.acknowledged s.is_shut.txns s.is_shut.past;
  };
  sound = λ c is. let l = s.sound c is in (l.0, l.1, sound_dropped e s.entries s.is_shut.txns s.is_shut.course last l.0 l.2);
}
replica_dropped e (Some r) last images m s = role_dropped e r.role last r images m s

-- ---- what holds of each such state

pub holds_role : (role : Role) (last : ℕ) (r : Open) (images : Areas → Type 0) (m : Machine) → AsRole role last r images m → HoldsBehind m
holds_role Other last r images m s = subst HoldsBehind (sym s.rests.is) (holds_without_role s.entries s.rests.acknowledged (resting s.rests.course r.shown) s.rests.txns s.rests.course refl)
holds_role (Primary epoch active) last r images m s = holds_behind r.front r.shown r.contents m s.runs

pub holds_replica : (o : Option Open) (last : ℕ) (images : Areas → Type 0) (m : Machine) → AsReplica o last images m → HoldsBehind m
holds_replica None last images m s = subst HoldsBehind (sym s.is_shut.is) (holds_without_role s.entries s.is_shut.acknowledged (shut s.is_shut.course s.is_shut.shown) s.is_shut.txns s.is_shut.course refl)
holds_replica (Some r) last images m s = holds_role r.role last r images m s

-- each appointment is of replica 0 alone
abbrev pub AreAlone : Machine → Type 0
AreAlone m = (m.config ≡ 0 ∷ []) × All (λ a. a.current ≡ 0 ∷ []) m.appointments

alone_course : (course : Course) → IsCourse course → All (λ a. a.current ≡ 0 ∷ []) (course.first ∷ course.later)
alone_course course c = All-weaker (IsOurs course.latest) (λ a. a.current ≡ 0 ∷ []) (λ a h. h.current) (course.first ∷ course.later) c.each

alone_role : (role : Role) (last : ℕ) (r : Open) (images : Areas → Type 0) (m : Machine) → AsRole role last r images m → AreAlone m
alone_role Other last r images m s = subst AreAlone (sym s.rests.is) (refl, alone_course s.rests.course s.rests.ruled)
alone_role (Primary epoch active) last r images m s = subst AreAlone (sym s.runs.is) (refl, alone_course s.runs.course s.ruled)

pub alone_replica : (o : Option Open) (last : ℕ) (images : Areas → Type 0) (m : Machine) → AsReplica o last images m → AreAlone m
alone_replica None last images m s = subst AreAlone (sym s.is_shut.is) (refl, alone_course s.is_shut.course s.is_shut.ruled)
alone_replica (Some r) last images m s = alone_role r.role last r images m s
