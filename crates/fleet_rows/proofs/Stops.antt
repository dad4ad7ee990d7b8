-- A replica is closed by a crash, and opened again by a reboot.
use Rattle.std.proofs.Common.{◌≡◌, ◌∙◌, ℕ, ◌+◌, ◌-◌, ◌≤◌, ◌<◌, true, false, Bool, List, [], ◌∷◌, ◌++◌, length, map, take, set, get_or, cond, eqb, Some, None, refl, sym, ap, subst, inl, inr, arith}
use Rattle.std.specs.Prelude.{Contains}
use Rattle.std.proofs.lemmas.Bool.{cases_lt, false≢true, eq-eqb}
use Rattle.std.proofs.lemmas.List.{get_or-set_same, set_past, length-set, length-map, length-append}
use Rattle.std.proofs.lemmas.Option.{none-some}
use Rattle.txn_table.specs.declared.base.Base.{Base}
use Rattle.txn_table.specs.declared.committed.Committed.{Committed}
use Rattle.txn_table.specs.Log.{no_base}
use Rattle.txn_table.specs.Whole.{Whole}
use Rattle.events.specs.declared.event.Event.{Event}
use Rattle.events.specs.declared.event.Event.TheVariants.{Crash, Reboot}
use Rattle.events.specs.declared.answer.Answer.TheVariants as answers
use Rattle.events.proofs.Lists.{at_written}
use Rattle.order_machine.specs.declared.observation.Observation.{Observation}
use Rattle.order_machine.specs.declared.observation.Observation.TheVariants as says
use Rattle.order_machine.specs.Order.{Order, Entry, empty_order, first_of, length_of}
use Rattle.order_machine.specs.Machine.{Machine, Replica, never_opened, replica, put_replica, order_of, role_of, closed, is_booted}
use Rattle.order_machine.specs.Transitions.{HoldsBehind, opened, up_again, showing}
use Rattle.order_machine.specs.Legal.{IsServed, behind}
use Rattle.history_laws.specs.LockGuards.{IdleReplica, ShownCommits, entry_of}
use Rattle.history_laws.proofs.Elsewhere.{Elsewhere, other_replica}
use Rattle.history_laws.proofs.QuietSuffixes.{HomeStays-itself}
use Rattle.order_laws.proofs.Kept.{Kept}
use Rattle.replica_model.specs.OpenReplica.{OpenReplica, opened_over, view_of}
use Rattle.fleet_run.specs.Scenes.{FleetReplica, FleetState, Scene, replica_at, held_by, entered, left, empty_whole}
use Rattle.fleet_run.specs.Scenes.FleetReplica.{Open, Closed}
use Rattle.fleet_run.specs.Acts.{Act, How, Goes, left_behind, changed_at, opening_lines}
use Rattle.fleet_run.specs.Acts.Act.{Opens, Closes, Says}
use Rattle.fleet_run.specs.Plans.{plan, done}
use Rattle.fleet_run.specs.Sound.{IsKept}
use Rattle.fleet_laws.proofs.Puts.{only_member}
use Rattle.fleet_rows.specs.Served.{Served, IsLogOf, BeginsOrder, IsReplicaOf, IsOpenOf, IsClosedOf, told_commits}
use Rattle.fleet_run.specs.Laws.{EventsKeepSound}
use Rattle.fleet_rows.specs.Laws.{CrashesAreServed, RebootsAreServed}
use Rattle.fleet_rows.proofs.Forward.{First, first_act, no_act, closed_is, opening, Mounted, Unmounted}
use Rattle.fleet_rows.proofs.Keeping.{Done, Shows, KeepsLogs, log_kept, logs_after, replica_elsewhere, replicas_after, at_each_in, kept_there}
use Rattle.fleet_rows.proofs.Serving.{serves, shows_as, says_only, holds_there}
use Rattle.fleet_rows.proofs.RoleEnds.{holds_without, surveyed_put, closed_elsewhere, closed_own, closed_logs, closed_holds}

-- ---- a replica that is closed

-- behind the closing of replica r all is as the closed machine knows it
pub closed_shows : (s : FleetState) (r : ℕ) (event : Event) (lines : List Observation) (ws : List Whole) → Served s → ((w : Whole) → Contains ws w → IsLogOf s.machine w) → IsServed (opened s.machine event) lines
    → Shows s event lines (record { machine = closed s.machine r; replicas = set s.replicas r (Closed ws) })
closed_shows s r event lines ws v held served = record {
  served = served;
  orders = refl;
  nine = length-set s.machine.replicas r (record (replica s.machine r) { up = false; role = None; grants = [] }) ∙ v.nine;
  replicas = replicas_after s.machine (closed s.machine r) s.replicas r (Closed ws) (closed_elsewhere s.machine r) v.replicas (λ past. closed_own s.machine r) (closed_own s.machine r);
  logs = logs_after s.machine (closed s.machine r) s.replicas r (Closed ws) (closed_logs s.machine r) v.logs (λ w there. log_kept s.machine (closed s.machine r) w (closed_logs s.machine r) (held w there));
}

-- ---- a crash

plan_crash : (s : FleetState) (r pick : ℕ) → plan s (Crash r pick) ≡ Closes r ∷ Says done ∷ []
unfolding plan
plan_crash s r pick = refl

crash_served : (m : Machine) (r pick : ℕ) → HoldsBehind m → IsServed (opened m (Crash r pick)) done
crash_served m r pick holds = record {
  may = (record { named = refl; in_rank = refl; next = refl; goes_on = refl; row = refl }, tt);
  complete = record { opened = refl; grown = refl; mounted = refl; told = refl; answered = refl };
  holds = closed_holds m r holds;
}

crash_shows : (r pick : ℕ) (s t : FleetState) (lines : List Observation) → Served s → Done s (Crash r pick) lines t → Shows s (Crash r pick) lines t
crash_shows r pick s t lines v d =
    let at : Scene = entered s (Crash r pick) in
    let f = first_act at (Closes r) (Says done ∷ []) lines d.scene (subst (λ (acts : List Act). Goes at acts lines d.scene []) (plan_crash s r pick) d.goes) in
    let k = closed_is at r f.how f.first f.mid f.done in
    let says = says_only f.mid done f.later d.scene (subst (λ (h : How). Goes f.mid (left_behind (Crash r pick) (Closes r) h (Says done ∷ [])) f.later d.scene []) k.0 f.goes) in
    let told : lines ≡ done = f.lines_are ∙ ap (λ (ls : List Observation). ls ++ f.later) k.1 ∙ says.0 in
    let ends : d.scene ≡ record (changed_at at r (Closed (held_by (replica_at s.replicas r))) []) { position = behind at.position done } = says.1 ∙ ap (λ (x : Scene). let y : Scene = record x { position = behind x.position done } in y) k.2 in
    shows_as s t (record { machine = closed s.machine r; replicas = set s.replicas r (Closed (held_by (replica_at s.replicas r))) }) (Crash r pick) lines done told (d.ends ∙ ap left ends)
    (closed_shows s r (Crash r pick) done (held_by (replica_at s.replicas r)) v (v.logs r) (crash_served s.machine r pick (holds_there s.machine v.run)))

pub crashes_are_served : EventsKeepSound → CrashesAreServed
crashes_are_served keep r pick = serves keep (Crash r pick) tt (crash_shows r pick)

-- ---- a mount

-- the machine with replica r open, showing so much
abbrev pub open_at : Machine → ℕ → ℕ → Machine
open_at m r n = showing (put_replica m r (up_again (replica m r))) r n

abbrev pub open_one : Replica → ℕ → Replica
open_one x n = record { up = true; show = n; loss = x.loss; role = None; grants = []; surveys = x.surveys }

first_opened : (m : Machine) (r : ℕ) → r < length m.replicas → replica (put_replica m r (up_again (replica m r))) r ≡ up_again (replica m r)
first_opened m r lt = get_or-set_same m.replicas r (up_again (replica m r)) never_opened lt

-- so it is, where it is one of the replicas
opened_there : (m : Machine) (r n : ℕ) → r < length m.replicas → replica (open_at m r n) r ≡ open_one (replica m r) n
opened_there m r n lt =
    let m1 : Machine = put_replica m r (up_again (replica m r)) in
    get_or-set_same m1.replicas r (record (replica m1 r) { show = n }) never_opened (omega (arith, lt, length-set m.replicas r (up_again (replica m r))))
    ∙ ap (λ (x : Replica). let y : Replica = record x { show = n } in y) (first_opened m r lt)

-- and where it is none nothing changed
opened_past : (m : Machine) (r n : ℕ) → length m.replicas ≤ r → open_at m r n ≡ m
opened_past m r n past =
    let m1 : Machine = put_replica m r (up_again (replica m r)) in
    let first : m1 ≡ m = ap (λ (xs : List Replica). let k : Machine = record m { replicas = xs } in k) (set_past m.replicas r (up_again (replica m r)) past) in
    ap (λ (k : Machine). showing k r n) first ∙ ap (λ (xs : List Replica). let k : Machine = record m { replicas = xs } in k) (set_past m.replicas r (record (replica m r) { show = n }) past)

open_elsewhere : (m : Machine) (r n q : ℕ) → (q ≡ r → ⊥) → Elsewhere q m (open_at m r n)
open_elsewhere m r n q apart =
    let m1 : Machine = put_replica m r (up_again (replica m r)) in
    record {
      same = other_replica m1 q r (record (replica m1 r) { show = n }) apart ∙ other_replica m q r (up_again (replica m r)) apart;
      orders = refl;
      stays = HomeStays-itself q m.txns;
    }

-- what begins the order is shown by its length
take_map : (first later : List Committed) → take (length first) (map entry_of (first ++ later)) ≡ map entry_of first
take_map [] later = refl
take_map (c ∷ first) later = ap (λ (es : List Entry). entry_of c ∷ es) (take_map first later)

pub the_order : (m : Machine) (r : ℕ) (commits : List Committed) → (replica m r).loss ≡ 0 → m.orders ≡ record { base = 0; start = []; entries = map entry_of commits } ∷ [] → order_of m r ≡ record { base = 0; start = []; entries = map entry_of commits }
the_order m r commits loss one = ap (λ (l : ℕ). get_or m.orders l empty_order) loss ∙ ap (λ (os : List Order). get_or os 0 empty_order) one

pub shows_begin : (m : Machine) (r : ℕ) (commits : List Committed) → (replica m r).loss ≡ 0 → (replica m r).show ≡ length commits → BeginsOrder m commits → ShownCommits m r [] commits
shows_begin m r commits loss show b =
    let order = the_order m r b.entries loss b.one in
    let all : length commits - 0 ≡ length commits = omega arith in
    record {
      start_is = ap (λ (o : Order). o.start) order;
      entries =
          ap (λ (o : Order). first_of o (replica m r).show) order
          ∙ ap (λ (n : ℕ). take (n - 0) (map entry_of b.entries)) show
          ∙ ap (λ (n : ℕ). take n (map entry_of b.entries)) all
          ∙ ap (λ (cs : List Committed). take (length commits) (map entry_of cs)) b.is
          ∙ take_map commits b.later;
    }

begins_within : (m : Machine) (r : ℕ) (commits : List Committed) → (replica m r).loss ≡ 0 → BeginsOrder m commits → length commits ≤ length_of (order_of m r)
begins_within m r commits loss b =
    let size = ap length_of (the_order m r b.entries loss b.one) in
    omega (arith, size, length-map b.entries entry_of, ap (λ (cs : List Committed). length cs) b.is, length-append commits b.later)

-- how much a replica shows that is opened over a disk
view_told : (r : ℕ) (w : Whole) → w.start ≡ no_base → view_of (opened_over r w) ≡ length (told_commits w)
view_told r w start =
    let none : 0 + length (told_commits w) ≡ length (told_commits w) = omega arith in
    ap (λ (b : Base). b.count + length (told_commits w)) start ∙ none

open_no_role : (m : Machine) (r n : ℕ) → role_of (open_at m r n) r ≡ None
open_no_role m r n =
    let m1 : Machine = put_replica m r (up_again (replica m r)) in
    at_written (λ (x : Replica). x.role ≡ None) m1.replicas r (record (replica m1 r) { show = n }) never_opened refl
    (at_written (λ (x : Replica). x.role ≡ None) m.replicas r (up_again (replica m r)) never_opened refl refl)

-- ---- a reboot

plan_reboot : (s : FleetState) (r : ℕ) → plan s (Reboot r) ≡ Opens r ∷ []
unfolding plan
plan_reboot s r = refl

-- one that isn't refused is of a replica that is closed
was_down : (booted up : Bool) → cond booted (cond up (Some answers.IgnoredUp) None) (Some (answers.Refused 9)) ≡ None → up ≡ false
was_down true true is = absurd (none-some answers.IgnoredUp (sym is))
was_down true false is = refl
was_down false up is = absurd (none-some (answers.Refused 9) (sym is))

itself : (r : ℕ) → eqb r r ≡ true
itself r = eq-eqb r r refl

reboot_served : (m : Machine) (r n : ℕ) → Kept m → (replica m r).up ≡ false → ((k : Machine) → (replica k r).loss ≡ 0 → k.orders ≡ m.orders → n ≤ length_of (order_of k r)) → HoldsBehind m → IsServed (opened m (Reboot r)) (says.Up r ∷ says.View r n ∷ [])
reboot_served m r n kept down within holds =
    let m1 : Machine = put_replica m r (up_again (replica m r)) in
    let loss : (replica m1 r).loss ≡ 0 = at_written (λ (x : Replica). x.loss ≡ 0) m.replicas r (up_again (replica m r)) never_opened refl (kept.replicas r).loss in
    record {
      may = (
        record { named = refl; in_rank = refl; next = refl; goes_on = refl; row = (down, ([], refl)) },
        (
          record {
            named = refl;
            in_rank = refl;
            next = itself r;
            goes_on = refl;
            row = record {
              within = within m1 loss refl;
              all_that_grew = λ grew. absurd (false≢true grew);
              grew_here = λ grew. refl;
              more = λ none. absurd (none-some r (sym none));
              primary = λ none. absurd (none-some r (sym none));
              acts = itself r;
            };
          },
          tt,
        ),
      );
      complete = record { opened = refl; grown = refl; mounted = refl; told = refl; answered = refl };
      holds = holds_without m (open_at m r n) r (open_elsewhere m r n) refl refl (open_no_role m r n) holds;
    }

open_logs : (m : Machine) (r n : ℕ) → KeepsLogs m (open_at m r n)
open_logs m r n =
    let m1 : Machine = put_replica m r (up_again (replica m r)) in
    record {
      orders = refl;
      texts = λ commits text. text;
      appointed = λ e is. is;
      surveyed = λ q e was. surveyed_put m1 r (record (replica m1 r) { show = n }) (λ e was. was) q e (surveyed_put m r (up_again (replica m r)) (λ e was. was) q e was);
    }

idle_opened : (m : Machine) (r n : ℕ) → r < length m.replicas → IdleReplica m r → IdleReplica (open_at m r n) r
idle_opened m r n lt idle = record { free = ap (λ (x : Replica). x.grants) (opened_there m r n lt); over = idle.over }

open_own : (m : Machine) (r : ℕ) (w : Whole) → Kept m → r < length m.replicas → IsClosedOf m r → IsKept w → BeginsOrder m (told_commits w) → IsOpenOf (open_at m r (view_of (opened_over r w))) r (opened_over r w)
open_own m r w kept lt closed is begins =
    let n = view_of (opened_over r w) in
    let there = opened_there m r n lt in
    record {
      up = ap (λ (x : Replica). x.up) there;
      view = ap (λ (x : Replica). x.show) there;
      shows = shows_begin (open_at m r n) r (told_commits w) (ap (λ (x : Replica). x.loss) there ∙ (kept.replicas r).loss) (ap (λ (x : Replica). x.show) there ∙ view_told r w is.start) (record { later = begins.later; entries = begins.entries; one = begins.one; is = begins.is });
      role = record { no_role = ap (λ (x : Replica). x.role) there; idle = idle_opened m r n lt closed.bystander.idle };
    }

closed_is_closed : (m : Machine) (r : ℕ) (x : FleetReplica) (ws : List Whole) → x ≡ Closed ws → IsReplicaOf m r x → IsClosedOf m r
closed_is_closed m r x ws same is = subst (λ (y : FleetReplica). IsReplicaOf m r y) same is

module _ (r : ℕ) (s t : FleetState) (lines : List Observation) (v : Served s) (d : Done s (Reboot r) lines t) where
  abbrev at : Scene
  at = entered s (Reboot r)

  first : First at (Opens r) [] lines d.scene []
  first = first_act at (Opens r) [] lines d.scene (subst (λ (acts : List Act). Goes at acts lines d.scene []) (plan_reboot s r) d.goes)

  is_down : (replica s.machine r).up ≡ false
  is_down = was_down (is_booted s.machine) (replica s.machine r).up d.free

  opened_in : (n : ℕ) (o : OpenReplica) → r < length s.machine.replicas → IsOpenOf (open_at s.machine r n) r o → (q : ℕ) → IsReplicaOf (open_at s.machine r n) q (replica_at (set s.replicas r (Open o)) q)
  opened_in n o lt own =
      at_each_in (λ (q : ℕ) (y : FleetReplica). IsReplicaOf (open_at s.machine r n) q y) s.replicas r (Open o) (Closed (empty_whole ∷ [])) (omega (arith, lt, v.nine, v.sound.nine))
      (λ q apart. replica_elsewhere q s.machine (open_at s.machine r n) (replica_at s.replicas q) (open_elsewhere s.machine r n q apart) (v.replicas q)) own

  opened_out : (n : ℕ) (o : OpenReplica) → length s.machine.replicas ≤ r → (q : ℕ) → IsReplicaOf (open_at s.machine r n) q (replica_at (set s.replicas r (Open o)) q)
  opened_out n o past q =
      subst (λ (k : Machine). IsReplicaOf k q (replica_at (set s.replicas r (Open o)) q)) (sym (opened_past s.machine r n past))
      (subst (λ (xs : List FleetReplica). IsReplicaOf s.machine q (replica_at xs q)) (sym (set_past s.replicas r (Open o) (omega (arith, past, v.nine, v.sound.nine)))) (v.replicas q))

  mounted : (ws : List Whole) → replica_at s.replicas r ≡ Closed ws → Mounted at r first.how first.first first.mid ws → Shows s (Reboot r) lines t
  mounted ws down k =
      let none = no_act first.mid first.later d.scene (subst (λ (h : How). Goes first.mid (left_behind (Reboot r) (Opens r) h []) first.later d.scene []) k.how_is first.goes) in
      let o = opened_over r k.value in
      let told : lines ≡ opening_lines r o = first.lines_are ∙ ap (λ (ls : List Observation). ls ++ first.later) k.lines_are ∙ ap (λ (ls : List Observation). opening_lines r o ++ ls) none.0 in
      let m = s.machine in
      let kept = kept_there m v.run in
      let log : IsLogOf m k.value = v.logs r k.value (subst (λ (x : FleetReplica). Contains (held_by x) k.value) (sym down) k.there) in
      let whole : IsKept k.value = v.sound.kept r k.value (subst (λ (x : FleetReplica). Contains (held_by x) k.value) (sym down) k.there) in
      let n = view_of o in
      let size : n ≡ length (told_commits k.value) = view_told r k.value whole.start in
      shows_as s t (record { machine = open_at m r n; replicas = set s.replicas r (Open o) }) (Reboot r) lines (opening_lines r o) told (d.ends ∙ ap left (none.1 ∙ k.scene_is)) (record {
        served = reboot_served m r n kept is_down (λ j loss orders. let b : BeginsOrder j (told_commits k.value) = record { later = log.shown.later; entries = log.shown.entries; one = orders ∙ log.shown.one; is = log.shown.is } in omega (arith, begins_within j r (told_commits k.value) loss b, size)) (holds_there m v.run);
        orders = refl;
        nine =
            let m1 : Machine = put_replica m r (up_again (replica m r)) in
            length-set m1.replicas r (record (replica m1 r) { show = n }) ∙ length-set m.replicas r (up_again (replica m r)) ∙ v.nine;
        replicas = elim (cases_lt r (length m.replicas)) [
          | inl lt ↦ opened_in n o lt (open_own m r k.value kept lt (closed_is_closed m r (replica_at s.replicas r) ws down (v.replicas r)) whole log.shown)
          | inr past ↦ opened_out n o past
        ];
        logs = logs_after m (open_at m r n) s.replicas r (Open o) (open_logs m r n) v.logs (λ w there. log_kept m (open_at m r n) w (open_logs m r n) (v.logs r w (subst (λ (x : FleetReplica). Contains (held_by x) w) (sym down) (subst (λ (y : Whole). Contains ws y) (sym (only_member k.value w there)) k.there))));
      })

  unmounted : (ws : List Whole) → replica_at s.replicas r ≡ Closed ws → Unmounted at r first.how first.first first.mid ws → Shows s (Reboot r) lines t
  unmounted ws down k =
      let none = no_act first.mid first.later d.scene (subst (λ (h : How). Goes first.mid (left_behind (Reboot r) (Opens r) h []) first.later d.scene []) k.how_is first.goes) in
      let told : lines ≡ says.Fault r ∷ [] = first.lines_are ∙ ap (λ (ls : List Observation). ls ++ first.later) k.lines_are ∙ ap (λ (ls : List Observation). says.Fault r ∷ ls) none.0 in
      shows_as s t (record { machine = closed s.machine r; replicas = set s.replicas r (Closed ws) }) (Reboot r) lines (says.Fault r ∷ []) told (d.ends ∙ ap left (none.1 ∙ k.scene_is))
      (closed_shows s r (Reboot r) (says.Fault r ∷ []) ws v (λ w there. v.logs r w (subst (λ (x : FleetReplica). Contains (held_by x) w) (sym down) there)) (record {
        may = (record { named = refl; in_rank = refl; next = refl; goes_on = refl; row = inl (is_down, ([], refl)) }, tt);
        complete = record { opened = refl; grown = refl; mounted = refl; told = refl; answered = refl };
        holds = closed_holds s.machine r (holds_there s.machine v.run);
      }))

  reboot_shows : Shows s (Reboot r) lines t
  reboot_shows = let k = opening at r first.how first.first first.mid first.done in elim k.went [
    | inl fine ↦ mounted k.values k.down fine
    | inr failed ↦ unmounted k.values k.down failed
  ]

pub reboots_are_served : EventsKeepSound → RebootsAreServed
reboots_are_served keep r = serves keep (Reboot r) tt (λ s t lines v d. reboot_shows r s t lines v d)
