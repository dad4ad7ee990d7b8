-- What a change of the machine at one replica leaves of a served fleet.
use Rattle.std.proofs.Common.{◌≡◌, ◌∙◌, ℕ, true, false, Bool, ◌⊎◌, List, [], ◌∷◌, ◌++◌, length, set, get_or, Option, Some, None, MatchOption, MatchBool, cond, refl, sym, ap, subst, inl, inr, ◌<◌}
use Rattle.std.specs.Prelude.{Contains, is_some, option_map, ◌&&◌, ◌==◌}
use Rattle.std.specs.Option.{option_map_or}
use Rattle.std.proofs.lemmas.Bool.{cases_eq, ne_eqb}
use Rattle.std.proofs.lemmas.Option.{none-some, same_Some}
use Rattle.std.proofs.lemmas.List.{get_or-set_same, get_or-set_other}
use Rattle.rc_base.specs.declared.ids.Epoch.{Epoch}
use Rattle.rc_base.specs.declared.ids.TxnId.{TxnId}
use Rattle.rc_base.specs.Ids.{no_epoch}
use Rattle.coll_model.specs.declared.op.Op.{Op}
use Rattle.key_locks.specs.Grants.{Alike}
use Rattle.txn_table.specs.declared.committed.Committed.{Committed}
use Rattle.txn_table.specs.Whole.{Whole, epoch_of}
use Rattle.events.specs.declared.event.Event.{Event}
use Rattle.events.specs.declared.answer.Answer.{Answer}
use Rattle.events.proofs.Lists.{at_each_other}
use Rattle.order_machine.specs.declared.observation.Observation.{Observation}
use Rattle.order_machine.specs.AnswerLines.{line_of_answer}
use Rattle.order_machine.specs.Order.{Order, empty_order, first_of}
use Rattle.order_machine.specs.Machine.{Machine, Replica, Txn, empty_machine, replica, order_of, txn_of, live_txn, ops_of}
use Rattle.order_machine.specs.Transitions.{refusal, opened}
use Rattle.order_machine.specs.Legal.{Step, IsServed, IsWhole, AreWhole, behind, moved, moved_all}
use Rattle.order_laws.proofs.Kept.{Kept}
use Rattle.order_laws.proofs.Runs.{legal_from_whole, kept_world}
use Rattle.history_laws.specs.Texts.{IsText}
use Rattle.history_laws.specs.LockGuards.{ContainsRequests, ReplicaGuard, ShownCommits}
use Rattle.history_laws.specs.QuietCalls.{HomeStays, QuietSuffix}
use Rattle.history_laws.specs.Invariant.Numbering.{Numbering}
use Rattle.history_laws.proofs.QuietSuffixes.{quiet_home, quiet_live, quiet_same_ops, quiet_asked}
use Rattle.history_laws.proofs.Elsewhere.{Elsewhere, guard_elsewhere, idle_elsewhere}
use Rattle.history_laws.proofs.NumberingLines.{runs_keep_numbering}
use Rattle.txn_front.specs.Front.{Fronted}
use Rattle.replica_model.specs.OpenReplica.{OpenReplica, Leading, shown_commits, unshown_commits}
use Rattle.fleet_run.specs.Scenes.{FleetReplica, FleetState, Scene, replica_at, held_by, entered, left, empty_whole}
use Rattle.fleet_run.specs.Scenes.FleetReplica.{Open, Closed}
use Rattle.fleet_run.specs.Acts.{Goes}
use Rattle.fleet_run.specs.Plans.{GoesBy, plan}
use Rattle.fleet_rows.specs.Served.{Served, IsBehindRun, IsLogOf, BeginsOrder, IsReplicaOf, IsClosedOf, IsBystander, IsPrimaryOf, IsFrontOf, IsWaiting, is_appointed, is_surveyed, commits_of, told_commits}
use Rattle.fleet_rows.specs.Laws.{AreServed}

-- ---- the run

run_more : (m : Machine) (steps : List Step) (step : Step) → AreWhole [] m steps → IsWhole (moved_all m steps) step.event step.lines → AreWhole [] m (steps ++ step ∷ [])
run_more m [] step all whole = (whole, tt)
run_more m (s ∷ steps) step all whole = (all.0, run_more (moved m s.event s.lines) steps step all.1 whole)

run_moved : (m : Machine) (steps : List Step) (step : Step) → moved_all m (steps ++ step ∷ []) ≡ moved (moved_all m steps) step.event step.lines
run_moved m [] step = refl
run_moved m (s ∷ steps) step = run_moved (moved m s.event s.lines) steps step

pub run_then : (m n : Machine) (event : Event) (lines : List Observation) → IsBehindRun m → IsWhole m event lines → n ≡ moved m event lines → IsBehindRun n
run_then m n event lines run whole is =
    let step : Step = record { number = 0; event = event; lines = lines } in
    record {
      steps = run.steps ++ step ∷ [];
      whole = run_more empty_machine run.steps step run.whole (subst (λ (k : Machine). IsWhole k event lines) (sym run.is) whole);
      is = run_moved empty_machine run.steps step ∙ ap (λ (k : Machine). moved k event lines) run.is ∙ sym is;
    }

-- what each legal run keeps
pub kept_there : (m : Machine) → IsBehindRun m → Kept m
kept_there m run = subst Kept run.is (kept_world [] run.steps (legal_from_whole [] empty_machine run.steps run.whole))

pub numbered_there : (m : Machine) → IsBehindRun m → Numbering m
numbered_there m run = subst Numbering run.is (runs_keep_numbering [] run.steps (legal_from_whole [] empty_machine run.steps run.whole))

-- ---- logs

-- the orders are the same, texts stay texts, and epochs that are known stay so
pub record KeepsLogs (m n : Machine) : Type 0 where
  pub orders : n.orders ≡ m.orders
  pub texts : (commits : List Committed) → IsText m.txns [] commits → IsText n.txns [] commits
  pub appointed : (e : Epoch) → is_appointed m e ≡ true → is_appointed n e ≡ true
  pub surveyed : (r : ℕ) (e : Epoch) → is_surveyed m r e ≡ true → is_surveyed n r e ≡ true

pub begins_kept : (m n : Machine) (commits : List Committed) → n.orders ≡ m.orders → BeginsOrder m commits → BeginsOrder n commits
begins_kept m n commits same b = record { later = b.later; entries = b.entries; one = same ∙ b.one; is = b.is }

fence_kept : (m n : Machine) (e : Epoch) → KeepsLogs m n → (e ≡ no_epoch) ⊎ ((is_appointed m e ≡ true) ⊎ ((r : ℕ) × (is_surveyed m r e ≡ true))) → (e ≡ no_epoch) ⊎ ((is_appointed n e ≡ true) ⊎ ((r : ℕ) × (is_surveyed n r e ≡ true)))
fence_kept m n e k (inl none) = inl none
fence_kept m n e k (inr (inl appointed)) = inr (inl (k.appointed e appointed))
fence_kept m n e k (inr (inr surveyed)) = inr (inr (surveyed.0, k.surveyed surveyed.0 e surveyed.1))

last_kept : (m n : Machine) (w : Whole) → KeepsLogs m n → (w.log ≡ []) ⊎ (is_appointed m (epoch_of w) ≡ true) → (w.log ≡ []) ⊎ (is_appointed n (epoch_of w) ≡ true)
last_kept m n w k (inl none) = inl none
last_kept m n w k (inr appointed) = inr (k.appointed (epoch_of w) appointed)

pub log_kept : (m n : Machine) (w : Whole) → KeepsLogs m n → IsLogOf m w → IsLogOf n w
log_kept m n w k l = record {
  rules = l.rules;
  text = k.texts (commits_of w) l.text;
  shown = begins_kept m n (told_commits w) k.orders l.shown;
  last = last_kept m n w k l.last;
  fence = fence_kept m n w.fence k l.fence;
}

-- where one replica is another, each log is one of it, or one of before at another replica
pub logs_after : (m n : Machine) (replicas : List FleetReplica) (r : ℕ) (x : FleetReplica) → KeepsLogs m n → ((q : ℕ) (w : Whole) → Contains (held_by (replica_at replicas q)) w → IsLogOf m w) → ((w : Whole) → Contains (held_by x) w → IsLogOf n w)
    → (q : ℕ) (w : Whole) → Contains (held_by (replica_at (set replicas r x) q)) w → IsLogOf n w
logs_after m n replicas r x k old new =
    at_each_other (λ (q : ℕ) (y : FleetReplica). (w : Whole) → Contains (held_by y) w → IsLogOf n w) replicas r x (Closed (empty_whole ∷ []))
    (λ q apart w there. log_kept m n w k (old q w there))
    (λ past w there. log_kept m n w k (old r w (subst (λ (y : FleetReplica). Contains (held_by y) w) (sym past) there)))
    new

-- ---- replicas

-- Where the transactions of home q stay, so does what is read of each of them and of none of the others.
pub home_stays : {A : Type 0} (F : Option Txn → A) (q : ℕ) (m n : Machine) → HomeStays q m.txns n.txns → ((a b : Txn) → QuietSuffix a b → F (Some b) ≡ F (Some a)) → ((x : Txn) → (x.home ≡ q → ⊥) → F (Some x) ≡ F None)
    → (t : TxnId) → F (txn_of n t) ≡ F (txn_of m t)
home_stays {A} F q m n stays same gone t = by (txn_of m t) (txn_of n t) refl refl
  where
    by : (a b : Option Txn) → txn_of m t ≡ a → txn_of n t ≡ b → F b ≡ F a
    by None None x y = refl
    by None (Some b) x y = gone b (λ home. let was = stays.known t b y home in none-some was.0 (sym x ∙ was.1))
    by (Some a) None x y = sym (gone a (λ home. let now = stays.kept t a x home in none-some now.0 (sym y ∙ now.1)))
    by (Some a) (Some b) x y = elim (cases_eq a.home q) [
      | inl home ↦ let now = stays.kept t a x home in same a b (subst (λ (z : Txn). QuietSuffix a z) (same_Some now.0 b (sym now.1 ∙ y)) now.2)
      | inr apart ↦
          gone b (λ home. let was = stays.known t b y home in apart (sym (ap (λ (z : Txn). z.home) (same_Some was.0 a (sym was.1 ∙ x))) ∙ (sym (quiet_home was.0 b was.2) ∙ home)))
          ∙ sym (gone a apart)
    ]

pub off : (a b : Bool) → b ≡ false → (a && b) ≡ false
off true b none = none
off false b none = refl

-- what is live at a replica stays so, with the same operations
pub live_stays : (q : ℕ) (m n : Machine) → HomeStays q m.txns n.txns → (t : TxnId) → option_map (λ (x : Txn). ops_of x) (live_txn n q t) ≡ option_map (λ (x : Txn). ops_of x) (live_txn m q t)
live_stays q m n stays t = home_stays (λ (o : Option Txn). option_map (λ (x : Txn). ops_of x) (cond (option_map_or (λ (x : Txn). x.live && (x.home == q)) o false) o None)) q m n stays same gone t
  where
    gone : (x : Txn) → (x.home ≡ q → ⊥) → option_map (λ (y : Txn). ops_of y) (cond (x.live && (x.home == q)) (Some x) None) ≡ None
    gone x apart = ap (λ (b : Bool). option_map (λ (y : Txn). ops_of y) (cond b (Some x) None)) (off x.live (x.home == q) (ne_eqb x.home q apart))

    each : (a b : Txn) → QuietSuffix a b → (c : Bool) → option_map (λ (y : Txn). ops_of y) (cond c (Some b) None) ≡ option_map (λ (y : Txn). ops_of y) (cond c (Some a) None)
    each a b quiet true = ap (λ (ops : List Op). Some ops) (quiet_same_ops a b quiet)
    each a b quiet false = refl

    same : (a b : Txn) → QuietSuffix a b → option_map (λ (y : Txn). ops_of y) (cond (b.live && (b.home == q)) (Some b) None) ≡ option_map (λ (y : Txn). ops_of y) (cond (a.live && (a.home == q)) (Some a) None)
    same a b quiet =
        ap (λ (live : Bool). option_map (λ (y : Txn). ops_of y) (cond (live && (b.home == q)) (Some b) None)) (quiet_live a b quiet)
        ∙ ap (λ (home : ℕ). option_map (λ (y : Txn). ops_of y) (cond (a.live && (home == q)) (Some b) None)) (quiet_home a b quiet)
        ∙ each a b quiet (a.live && (a.home == q))

-- and so does what was requested there
pub asked_stays : (q : ℕ) (m n : Machine) → HomeStays q m.txns n.txns → (t : TxnId) → option_map_or (λ (x : Txn). x.asked && (x.home == q)) (txn_of n t) false ≡ option_map_or (λ (x : Txn). x.asked && (x.home == q)) (txn_of m t) false
asked_stays q m n stays t =
    home_stays (λ (o : Option Txn). option_map_or (λ (x : Txn). x.asked && (x.home == q)) o false) q m n stays
    (λ a b quiet. ap (λ (asked : Bool). asked && (b.home == q)) (quiet_asked a b quiet) ∙ ap (λ (home : ℕ). a.asked && (home == q)) (quiet_home a b quiet))
    (λ x apart. off x.asked (x.home == q) (ne_eqb x.home q apart)) t

pub front_elsewhere : (q : ℕ) (m n : Machine) (f : Fronted) → Elsewhere q m n → IsFrontOf m q f → IsFrontOf n q f
front_elsewhere q m n f e front = record {
  grants = subst (λ (rep : Replica). Alike rep.grants f.grants) (sym e.same) front.grants;
  going = λ t. live_stays q m n e.stays t ∙ front.going t;
  rising = front.rising;
  recorded = front.recorded;
}

pub requests_stay : (q : ℕ) (m n : Machine) (epoch : Epoch) (commits : List Committed) → HomeStays q m.txns n.txns → ContainsRequests m.txns q epoch commits → ContainsRequests n.txns q epoch commits
requests_stay q m n epoch commits stays requests t y known home of asked =
    let was = stays.known t y known home in
    requests t was.0 was.1 (sym (quiet_home was.0 y was.2) ∙ home) of (sym (quiet_asked was.0 y was.2) ∙ asked)

guard_by : (q : ℕ) (m n : Machine) (o : OpenReplica) (l : Leading) (b : Bool) → Elsewhere q m n → MatchBool b (ReplicaGuard m q (unshown_commits o)) (IsWaiting m q o l) → MatchBool b (ReplicaGuard n q (unshown_commits o)) (IsWaiting n q o l)
guard_by q m n o l true e g = guard_elsewhere q m n e (unshown_commits o) g
guard_by q m n o l false e w = record { idle = idle_elsewhere q m n e w.idle; all = w.all }

pub bystander_elsewhere : (q : ℕ) (m n : Machine) → Elsewhere q m n → IsBystander m q → IsBystander n q
bystander_elsewhere q m n e b = record { no_role = ap (λ (rep : Replica). rep.role) e.same ∙ b.no_role; idle = idle_elsewhere q m n e b.idle }

pub primary_elsewhere : (q : ℕ) (m n : Machine) (o : OpenReplica) (l : Leading) → Elsewhere q m n → IsPrimaryOf m q o l → IsPrimaryOf n q o l
primary_elsewhere q m n o l e p = record {
  role = p.role;
  has = ap (λ (rep : Replica). rep.role) e.same ∙ p.has;
  epoch = p.epoch;
  active = p.active;
  begins = p.begins;
  front_epoch = p.front_epoch;
  front = front_elsewhere q m n o.front e p.front;
  logged = p.logged;
  requests = requests_stay q m n l.epoch (commits_of o.disk) e.stays p.requests;
  guard = guard_by q m n o l l.active e p.guard;
}

role_elsewhere : (q : ℕ) (m n : Machine) (o : OpenReplica) (x : Option Leading) → Elsewhere q m n → MatchOption x (IsBystander m q) (IsPrimaryOf m q o) → MatchOption x (IsBystander n q) (IsPrimaryOf n q o)
role_elsewhere q m n o None e b = bystander_elsewhere q m n e b
role_elsewhere q m n o (Some l) e p = primary_elsewhere q m n o l e p

pub shows_elsewhere : (q : ℕ) (m n : Machine) (commits : List Committed) → replica n q ≡ replica m q → n.orders ≡ m.orders → ShownCommits m q [] commits → ShownCommits n q [] commits
shows_elsewhere q m n commits same orders s =
    let order : order_of n q ≡ order_of m q = ap (λ (rep : Replica). get_or n.orders rep.loss empty_order) same ∙ ap (λ (os : List Order). get_or os (replica m q).loss empty_order) orders in
    record {
      start_is = ap (λ (o : Order). o.start) order ∙ s.start_is;
      entries = ap (λ (o : Order). first_of o (replica n q).show) order ∙ ap (λ (rep : Replica). first_of (order_of m q) rep.show) same ∙ s.entries;
    }

pub replica_elsewhere : (q : ℕ) (m n : Machine) (x : FleetReplica) → Elsewhere q m n → IsReplicaOf m q x → IsReplicaOf n q x
replica_elsewhere q m n (Open o) e is = record {
  up = ap (λ (rep : Replica). rep.up) e.same ∙ is.up;
  view = ap (λ (rep : Replica). rep.show) e.same ∙ is.view;
  shows = shows_elsewhere q m n (shown_commits o) e.same e.orders is.shows;
  role = role_elsewhere q m n o o.leading e is.role;
}
replica_elsewhere q m n (Closed ws) e is = record { down = ap (λ (rep : Replica). rep.up) e.same ∙ is.down; bystander = bystander_elsewhere q m n e is.bystander }

-- what holds of each replica, where one of them is another
pub at_each_in : {X : Type 0} (P : ℕ → X → Type 0) (xs : List X) (i : ℕ) (new d : X) → i < length xs → ((k : ℕ) → (k ≡ i → ⊥) → P k (get_or xs k d)) → P i new → (k : ℕ) → P k (get_or (set xs i new) k d)
at_each_in {X} P xs i new d lt others here k = elim (cases_eq k i) [
  | inl e ↦ subst (λ (j : ℕ). P j (get_or (set xs i new) j d)) (sym e) (subst (λ (x : X). P i x) (sym (get_or-set_same xs i new d lt)) here)
  | inr apart ↦ subst (λ (x : X). P k x) (sym (get_or-set_other xs i k new d apart)) (others k apart)
]

-- where one replica is another, and the others are as they were
pub replicas_after : (m n : Machine) (replicas : List FleetReplica) (r : ℕ) (x : FleetReplica) → ((q : ℕ) → (q ≡ r → ⊥) → Elsewhere q m n) → ((q : ℕ) → IsReplicaOf m q (replica_at replicas q))
    → (replica_at replicas r ≡ Closed (empty_whole ∷ []) → IsClosedOf n r) → IsReplicaOf n r x → (q : ℕ) → IsReplicaOf n q (replica_at (set replicas r x) q)
replicas_after m n replicas r x elsewhere old past new =
    at_each_other (λ (q : ℕ) (y : FleetReplica). IsReplicaOf n q y) replicas r x (Closed (empty_whole ∷ []))
    (λ q apart. replica_elsewhere q m n (replica_at replicas q) (elsewhere q apart) (old q)) past new

-- ---- the event

-- an event is refused, or its acts are done
abbrev Went : Option Answer → FleetState → Event → List Observation → FleetState → Type 0
Went o s event lines t = MatchOption o ((scene : Scene) × Goes (entered s event) (plan s event) lines scene [] × (t ≡ left scene)) (λ refused. (lines ≡ line_of_answer refused ∷ []) × (t ≡ s))

-- the event isn't refused, and its acts were done so
pub record Done (s : FleetState) (event : Event) (lines : List Observation) (t : FleetState) : Type 0 where
  pub free : refusal s.machine event ≡ None
  pub scene : Scene
  pub goes : Goes (entered s event) (plan s event) lines scene []
  pub ends : t ≡ left scene

pub whole_if : (m : Machine) (event : Event) (lines : List Observation) → refusal m event ≡ None → IsServed (opened m event) lines → IsWhole m event lines
whole_if m event lines free served = subst (λ (o : Option Answer). MatchOption o (IsServed (opened m event) lines) (λ refused. lines ≡ line_of_answer refused ∷ [])) (sym free) served

pub moved_if : (m : Machine) (event : Event) (lines : List Observation) → refusal m event ≡ None → moved m event lines ≡ (behind (opened m event) lines).machine
moved_if m event lines free = ap (λ (o : Option Answer). cond (is_some o) m (behind (opened m event) lines).machine) free

refused_served : (s t : FleetState) (event : Event) (lines : List Observation) (answer : Answer) → Served s → refusal s.machine event ≡ Some answer → (lines ≡ line_of_answer answer ∷ []) × (t ≡ s) → AreServed s event lines t
refused_served s t event lines answer v is went =
    let whole : IsWhole s.machine event lines = subst (λ (o : Option Answer). MatchOption o (IsServed (opened s.machine event) lines) (λ refused. lines ≡ line_of_answer refused ∷ [])) (sym is) went.0 in
    let same : moved s.machine event lines ≡ s.machine = ap (λ (o : Option Answer). cond (is_some o) s.machine (behind (opened s.machine event) lines).machine) is in
    record { whole = whole; moved = ap (λ (x : FleetState). x.machine) went.1 ∙ sym same; served = subst Served (sym went.1) v }

went_by : (s t : FleetState) (event : Event) (lines : List Observation) (o : Option Answer) → refusal s.machine event ≡ o → Went o s event lines t → Served s → AreServed s event lines t ⊎ Done s event lines t
went_by s t event lines None is went v = inr (record { free = is; scene = went.0; goes = went.1; ends = went.2 })
went_by s t event lines (Some answer) is went v = inl (refused_served s t event lines answer v is went)

-- a refused event is served, and another one was done
pub goes_by : (s t : FleetState) (event : Event) (lines : List Observation) → Served s → GoesBy s event lines t → AreServed s event lines t ⊎ Done s event lines t
goes_by s t event lines v went = went_by s t event lines (refusal s.machine event) refl went v

-- what is left to show of an event that was done, where the order stays
pub record Shows (s : FleetState) (event : Event) (lines : List Observation) (t : FleetState) : Type 0 where
  pub served : IsServed (opened s.machine event) lines
  pub orders : t.machine.orders ≡ s.machine.orders
  pub nine : length t.machine.replicas ≡ 9
  pub replicas : (q : ℕ) → IsReplicaOf t.machine q (replica_at t.replicas q)
  pub logs : (q : ℕ) (w : Whole) → Contains (held_by (replica_at t.replicas q)) w → IsLogOf t.machine w
