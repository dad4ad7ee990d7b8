-- The boot of replica 0 over a disk without a log.
use Rattle.std.specs.Prelude.{if◌then◌else◌}
use Rattle.std.proofs.Common.{max, ◌≡◌, ◌∙◌, sym, ap, subst, refl, ℕ, ◌+◌, ◌≤◌, Bool, true, false, List, [], ◌∷◌, ◌++◌, length, map, flat_map, Option, Some, None, is_some, Ok, arith, inl, inr, ◌⊎◌, ⊎_elim, suc}
use Rattle.std.specs.Option.{ForSome, IsSome, IfSome}
use Rattle.std.proofs.lemmas.Bool.{false≢true}
use Rattle.std.proofs.lemmas.List.Elements.{All-from_recursion}
use Rattle.std.proofs.lemmas.Option.{none-some}
use Rattle.config_rule.specs.declared.appointments.Appointment.{Appointment}
use Rattle.config_rule.specs.Rule.{Known, after_boot, after_active}
use Rattle.rc_base.specs.Ids.{no_epoch, epoch_lt}
use Rattle.key_locks.specs.declared.lock_mode.LockMode.TheVariants.{Exclusive}
use Rattle.coll_model.specs.Effect.{folded}
use Rattle.disk_model.specs.Disk.{Areas, Follows}
use Rattle.txn_table.specs.Log.{commits_in}
use Rattle.log_store.specs.declared.kept.Kept.{Kept as Log}
use Rattle.log_store.specs.Durable.{durable, StandFor}
use Rattle.txn_table.specs.Epochs.{later}
use Rattle.log_store.specs.Fold.{no_log}
use Rattle.log_store.specs.Growth.{new_log}
use Rattle.log_store.specs.Store.{KeepsOrBegins}
use Rattle.events.specs.declared.event.Event.TheVariants.{Boot}
use Rattle.order_machine.specs.declared.observation.Observation.{Observation}
use Rattle.order_machine.specs.declared.observation.Observation.TheVariants as says
use Rattle.order_machine.specs.Machine.{Machine, empty_machine}
use Rattle.order_machine.specs.Legal.{IsWhole, moved}
use Rattle.order_machine.specs.Transitions.{first_epoch}
use Rattle.txn_front.specs.Front.{Fronted, nothing, going_of}
use Rattle.replica_model.specs.declared.role.Role.TheVariants.{Other}
use Rattle.replica_model.specs.declared.step.StepEvent.{StepEvent}
use Rattle.replica_model.specs.declared.step.StepEvent.TheVariants as steps
use Rattle.replica.specs.Open as opens
use Rattle.replica.specs.Open.{Open, AreSame, AgreesWith, commits_to}
use Rattle.txn_table.specs.Whole.{stable_in}
use Rattle.replica.specs.Step.{MayStep}
use Rattle.world.specs.Fleet.{faults_in, TellsZero}
use Rattle.world.specs.Course.{IsCourse, IsOurs, ArePast, IsFence}
use Rattle.world.specs.Standing.{Course, first_course}
use Rattle.world.specs.declared.effects.EventEffects.{EventEffects}
use Rattle.world.specs.Steps.{first_appointment, effects_started, told_start, finished, log_once, log_twice, log_behind, HoldsSome}
use Rattle.world.specs.Disks.{as_commit}
use Rattle.world.specs.Kept.{Kept, no_events, has_booted}
use Rattle.world.specs.Running.{running, RunsWith}
use Rattle.world.specs.World.{StandsFor, AsReplica, Serving, IsOpen, IsSound, IsRuled, Serves, StillHolds}
use Rattle.world.proofs.Calls.OneTxn.{runs_alike}
use Rattle.world.proofs.States.Later.{new_of, as_replica, replica_later, ruled_as}
use Rattle.world.proofs.Exits.FaultCounts.{fault_first}
use Rattle.world.proofs.Mounts.BootLines.{mounted, boot_lines, boot_serves, boot_mount_faults, boot_start_faults, boot_barrier_faults}
use Rattle.world.proofs.Mounts.Readable.{an_image}
use Rattle.world.proofs.Mounts.Reboot.{AreSound, sound_all, sound_follows, same_log}
use Rattle.world.proofs.Epochs.StartMachines.{nothing_going}

abbrev pub first_start : StepEvent
first_start = steps.Appoint first_appointment

-- ---- the log that an opening begins

pub log_is_new : (r : Open) (log : Log) (images now : Areas → Type 0) (seen : Option Areas) → StandFor no_log images → Follows (KeepsOrBegins 0) images now → IsSome seen → ForSome seen now → IsOpen r log now → log ≡ new_log 0
log_is_new r log images now seen empty follows told shown o =
    let there = an_image seen now told shown in
    let c = there.0 in
    let from = follows c there.1 in
    ⊎_elim
    (λ kept. absurd (none-some r.log.identity (ap (λ (l : Log). l.identity) (sym (same_log log no_log (sym (o.stands c there.1) ∙ (kept ∙ empty from.0 from.1)))) ∙ o.agrees.identity)))
    (λ begun. same_log log (new_log 0) (sym (o.stands c there.1) ∙ begun.1))
    from.2.0

-- what a replica keeps that was opened over it
pub record IsFresh (r : Open) : Type 0 where
  pub id : r.id ≡ 0
  pub fence : r.fence ≡ no_epoch
  pub epoch : r.epoch ≡ no_epoch
  pub last : r.last.0 ≡ 0
  pub shown : r.shown ≡ 0
  pub contents : r.contents ≡ []
  pub ahead : r.ahead ≡ []
  pub role : r.role ≡ Other
  pub front : r.front ≡ nothing no_epoch

pub fresh_over_new : (r : Open) (log : Log) (now : Areas → Type 0) → log ≡ new_log 0 → IsOpen r log now → r.stable.0 ≡ stable_in log.records → r.role ≡ Other → r.front ≡ nothing no_epoch → IsFresh r
fresh_over_new r log now new o stable role front =
    let agrees : AgreesWith r (new_log 0) = subst (AgreesWith r) new o.agrees in
    let zero_stable : r.stable.0 ≡ 0 = stable ∙ ap (λ (l : Log). stable_in l.records) new in
    let none : commits_to r.stable.0 [] ≡ [] = ap (λ (n : ℕ). commits_to n []) zero_stable in
    record {
      id = o.first;
      fence = sym agrees.fence;
      epoch = sym agrees.epoch;
      last = sym agrees.last;
      shown = sym agrees.shown ∙ ap length none;
      contents = sym agrees.contents ∙ ap opens.state_of none;
      ahead = sym (agrees.commits ∙ ap (λ cs. cs ++ r.ahead) none);
      role = role;
      front = front;
    }

pub fresh_may_start : (r : Open) → IsFresh r → MayStep r first_start
fresh_may_start r f = record {
  above = ap (λ e. epoch_lt e first_epoch) f.epoch;
  own = sym f.id;
  alone = ap (λ n. n ∷ []) (sym f.id);
  alone_before = ap (λ n. n ∷ []) (sym f.id);
}

pub start_told : (r : Open) → IsFresh r → told_start 0 r ≡ says.Active 0 ∷ []
start_told r f = rw (f.ahead, f.shown, f.id) refl

-- the lines of the opening
abbrev pub opened_lines : ℕ → List Observation
opened_lines shown = says.Up 0 ∷ says.View 0 shown ∷ []

-- an opening over a disk without a log, and its lines
pub record IsOverNew (r : Open) (now : Areas → Type 0) (lines : List Observation) : Type 0 where
  pub log : Log
  pub is_new : log ≡ new_log 0
  pub is_open : IsOpen r log now
  pub fresh : IsFresh r
  pub told : lines ≡ opened_lines r.shown

pub over_new : (o : Option Open) (r : Open) (images now : Areas → Type 0) (seen : Option Areas) (begun lines : List Observation) → begun ≡ [] → o ≡ Some r → StandFor no_log images → Follows (KeepsOrBegins 0) images now → IsSome seen → ForSome seen now →
    IfSome o (λ r. (log : Log) × IsOpen r log now × (r.stable.0 ≡ stable_in log.records)) → IfSome o (λ r. (r.role ≡ Other) × (r.front ≡ nothing no_epoch)) → IfSome o (λ r. lines ≡ begun ++ opened_lines r.shown) → IsOverNew r now lines
over_new o r images now seen begun lines untold some empty follows told shown opened fresh lines_are =
    let at = subst (λ w. IfSome w (λ r. (log : Log) × IsOpen r log now × (r.stable.0 ≡ stable_in log.records))) some opened in
    let new = log_is_new r at.0 images now seen empty follows told shown at.1 in
    let first = subst (λ w. IfSome w (λ r. (r.role ≡ Other) × (r.front ≡ nothing no_epoch))) some fresh in
    let all = subst (λ w. IfSome w (λ r. lines ≡ begun ++ opened_lines r.shown)) some lines_are in
    record { log = at.0; is_new = new; is_open = at.1; fresh = fresh_over_new r at.0 now new at.1 at.2 first.0 first.1; told = all ∙ ap (λ ls. ls ++ opened_lines r.shown) untold }

-- ---- the boot

-- what the rule knows after a boot whose primary became active or not
abbrev pub booted_rule : Bool → Known
booted_rule active = if active then after_active (after_boot (0 ∷ [])) first_epoch else after_boot (0 ∷ [])

-- the lines, the state after them, and what the rule knows then
abbrev pub Boots : Option Open → (Areas → Type 0) → EventEffects → Type 0
Boots o now effects =
    IsWhole empty_machine (Boot 0 (0 ∷ [])) effects.lines
    × AsReplica o 1 now (moved empty_machine (Boot 0 (0 ∷ [])) effects.lines)
    × IsRuled (record no_events { rule = Some (booted_rule effects.active); order = effects.order }) (moved empty_machine (Boot 0 (0 ∷ [])) effects.lines)

-- a boot with these lines, whose primary became active or not
abbrev pub boot_effects : Bool → List Observation → EventEffects
boot_effects active lines = record { order = 0; active = active; lines = lines }

-- ---- the first appointment

course_first : (was_active : Bool) → IsCourse (first_course was_active)
course_first was_active = record {
  each = All-from_recursion (IsOurs first_epoch) ((first_course was_active).first ∷ []) (record { primary = refl; current = refl; within = refl }, tt);
  latest = refl;
}

past_first : (was_active : Bool) → ArePast (first_course was_active) [] [] []
past_first was_active = record {
  each = λ t x e. absurd (none-some x e);
  held = λ t e. absurd (false≢true e);
  held_within = λ t e. absurd (false≢true e);
}

-- all of the boot
pub started_effects : (a : Appointment) (r : Open) (opened effects : EventEffects) → a ≡ first_appointment → IsFresh r → opened ≡ boot_effects false (opened_lines r.shown) → effects ≡ effects_started opened a r → effects ≡ boot_effects true boot_lines
started_effects a r opened effects first f is all =
    let none : r.shown + length r.ahead ≡ 0 = rw (f.shown, f.ahead) refl in
    all ∙ ap (λ (b : Appointment). effects_started opened b r) first ∙ (ap (λ (d : EventEffects). effects_started d first_appointment r) (is ∙ ap (λ (n : ℕ). boot_effects false (opened_lines n)) f.shown)
    ∙ (ap (λ (n : ℕ). record (effects_started (boot_effects false (opened_lines 0)) first_appointment r) { order = max 0 n }) none
    ∙ ap (λ ls. boot_effects true ((opened_lines 0 ++ ls) ++ says.Done ∷ [])) (start_told r f)))

-- nothing goes on in the first epoch
started_first : (r : Open) → IsFresh r → RunsWith [] (first_course true) (nothing first_epoch) (r.shown + length r.ahead) (folded r.contents (flat_map (λ c. c.ops) r.ahead)) (running [] [] [] 0 [] (first_course true))
started_first r f = (
  record {
    entries = [];
    acknowledged = [];
    txns = [];
    grants = [];
    course = first_course true;
    is = refl;
    epoch = refl;
    alike = λ name. refl;
    exclusive = λ name t u mode other held also. absurd (none-some Exclusive held);
    all_shown = rw (f.shown, f.ahead) refl;
    sees = rw (f.contents, f.ahead) refl;
    each = λ t x e. absurd (none-some x e);
    live_known = λ t going e. absurd (none-some going (sym (nothing_going first_epoch t) ∙ e));
    held = λ t e. absurd (false≢true e);
    held_within = λ t e. absurd (false≢true e);
    held_begun = λ t e. absurd (false≢true e);
  },
  (refl, refl),
)

pub boots_whole : (a : Appointment) (r x : Open) (log : Log) (now : Areas → Type 0) (opened effects : EventEffects) → a ≡ first_appointment → IsFresh r → log ≡ new_log 0 → AreSame x (record (finished r (steps.Appoint a)) { log = x.log }) → IsOpen x (log_behind r (steps.Appoint a) log) now →
    opened ≡ boot_effects false (opened_lines r.shown) → effects ≡ effects_started opened a r → Boots (Some x) now effects
boots_whole a r x log now opened effects first f new kept_so open_so is all =
    let kept : AreSame x (record (finished r first_start) { log = x.log }) = subst (λ (b : Appointment). AreSame x (record (finished r (steps.Appoint b)) { log = x.log })) first kept_so in
    let o : IsOpen x (log_behind r first_start log) now = subst (λ (b : Appointment). IsOpen x (log_behind r (steps.Appoint b) log) now) first open_so in
    let n : Machine = moved empty_machine (Boot 0 (0 ∷ [])) boot_lines in
    let y : Open = record (finished r first_start) { log = x.log; front = x.front } in
    let runs = runs_alike [] (first_course true) (nothing first_epoch) x.front (r.shown + length r.ahead) (folded r.contents (flat_map (λ c. c.ops) r.ahead)) n kept.front (started_first r f) in
    let course : first_course true ≡ runs.0.course = sym runs.1.1 in
    let served : Serving 1 y now n = record {
      runs = runs.0;
      ruled = subst IsCourse course (course_first true);
      log = log_behind r first_start log;
      is_open = subst (λ (z : Open). IsOpen z (log_behind r first_start log) now) kept.same o;
      epoch = ap (λ (c : Course). c.latest) course;
      fence = subst (λ (c : Course). IsFence c y.fence) course (subst (λ e. IsFence (first_course true) (later (later e first_epoch) first_epoch)) (sym f.fence) (inl refl));
      commits = ap (map as_commit) runs.1.0 ∙ subst (λ (l : Log). [] ≡ commits_in (log_behind r first_start l).records) (sym new) refl;
      short = subst (λ (l : Log). length (log_behind r first_start l).records ≤ 3) (sym new) (omega arith);
      few = let none : x.front.begins ≡ 0 = ap (λ (g : Fronted). g.begins) kept.front.same in omega (arith, none);
      recorded = λ t going e. absurd (none-some going (sym (ap (λ (g : Fronted). going_of g t) kept.front.same ∙ nothing_going first_epoch t) ∙ e));
    } in
    subst (Boots (Some x) now) (sym (started_effects a r opened effects first f is all)) (
      boot_serves.0,
      subst (λ (z : Open). AsReplica (Some z) 1 now n) (sym kept.same) served,
      record { known = booted_rule true; rule = refl; appointed = (record { epoch = refl; members = refl; active = refl }, tt); current = refl; answers = refl; order = refl },
    )

-- ---- its faults

-- the disk failed as the replica was opened
pub boots_unopened : (images now : Areas → Type 0) (effects : EventEffects) → StandFor no_log images → Follows (KeepsOrBegins 0) images now → effects ≡ boot_effects false (says.Fault 0 ∷ []) → Boots None now effects
boots_unopened images now effects empty follows is =
    let sound : AreSound [] [] (first_course false) 1 images = λ c there. (no_log, empty c there, sound_all [] [] (first_course false) 1 no_log refl (inl refl) (inr refl) (omega arith)) in
    subst (Boots None now) (sym is) (
      boot_mount_faults.0,
      record {
        entries = [];
        is_shut = record { acknowledged = []; txns = []; course = first_course false; shown = 0; is = boot_mount_faults.1; ruled = course_first false; past = past_first false };
        sound = sound_follows [] [] (first_course false) 1 images now follows sound;
      },
      record { known = after_boot (0 ∷ []); rule = refl; appointed = (record { epoch = refl; members = refl; active = refl }, tt); current = refl; answers = refl; order = refl },
    )

-- each of the three logs is sound
sound_start : (was_active : Bool) (r : Open) (log : Log) (now : Areas → Type 0) → log ≡ new_log 0 → HoldsSome r first_start log now → AreSound [] [] (first_course was_active) 1 now
sound_start was_active r log now new holds =
    let course = first_course was_active in
    λ c is. ⊎_elim
    (λ (before : durable c ≡ Ok log). (log, before, subst (IsSound [] [] course 1) (sym new) (sound_all [] [] course 1 (new_log 0) refl (inl refl) (inr refl) (omega arith))))
    (λ more. ⊎_elim
    (λ (once : durable c ≡ Ok (log_once r first_start log)). (log_once r first_start log, once, subst (λ (l : Log). IsSound [] [] course 1 (log_once r first_start l)) (sym new) (sound_all [] [] course 1 (log_once r first_start (new_log 0)) refl (inl refl) (inl refl) (omega arith))))
    (λ twice. (log_twice r first_start log, twice.1, subst (λ (l : Log). IsSound [] [] course 1 (log_twice r first_start l)) (sym new) (sound_all [] [] course 1 (log_twice r first_start (new_log 0)) refl (inl refl) (inl refl) (omega arith))))
    more)
    (holds c is)

-- the fault is told after the opening, or after all of the boot
abbrev pub IsBootFault : EventEffects → Type 0
IsBootFault effects = (effects ≡ boot_effects false (mounted ++ says.Fault 0 ∷ [])) ⊎ (effects ≡ boot_effects true (boot_lines ++ says.Fault 0 ∷ []))

-- with the line of the fault
abbrev pub faulted_with : EventEffects → EventEffects
faulted_with effects = record effects { lines = effects.lines ++ says.Fault 0 ∷ [] }

pub boot_cut : {S : Type 0} (a : Appointment) (r : Open) (opened before : EventEffects) → a ≡ first_appointment → IsFresh r → opened ≡ boot_effects false (opened_lines r.shown) → ((before ≡ opened) × S) ⊎ (before ≡ effects_started opened a r) → IsBootFault (faulted_with before)
boot_cut a r opened before first f is (inl none) = inl (ap faulted_with (none.0 ∙ (is ∙ ap (λ (n : ℕ). boot_effects false (opened_lines n)) f.shown)))
boot_cut a r opened before first f is (inr all) = inr (ap faulted_with (started_effects a r opened before first f is all))

-- it failed as the epoch was started
pub boots_unstarted : (a : Appointment) (r : Open) (log : Log) (now : Areas → Type 0) (effects : EventEffects) → a ≡ first_appointment → log ≡ new_log 0 → HoldsSome r (steps.Appoint a) log now → IsBootFault effects → Boots None now effects
boots_unstarted a r log now effects first new holds_so cut = ⊎_elim
    (λ (at_first : effects ≡ boot_effects false (mounted ++ says.Fault 0 ∷ [])). subst (Boots None now) (sym at_first) (
      boot_start_faults.0,
      record {
        entries = [];
        is_shut = record { acknowledged = []; txns = []; course = first_course false; shown = 0; is = boot_start_faults.1; ruled = course_first false; past = past_first false };
        sound = sound_start false r log now new (subst (λ (b : Appointment). HoldsSome r (steps.Appoint b) log now) first holds_so);
      },
      record { known = after_boot (0 ∷ []); rule = refl; appointed = (record { epoch = refl; members = refl; active = refl }, tt); current = refl; answers = refl; order = refl },
    ))
    (λ (behind_all : effects ≡ boot_effects true (boot_lines ++ says.Fault 0 ∷ [])). subst (Boots None now) (sym behind_all) (
      boot_barrier_faults.0,
      record {
        entries = [];
        is_shut = record { acknowledged = []; txns = []; course = first_course true; shown = 0; is = boot_barrier_faults.1; ruled = course_first true; past = past_first true };
        sound = sound_start true r log now new (subst (λ (b : Appointment). HoldsSome r (steps.Appoint b) log now) first holds_so);
      },
      record { known = booted_rule true; rule = refl; appointed = (record { epoch = refl; members = refl; active = refl }, tt); current = refl; answers = refl; order = refl },
    ))
    cut

-- and tells one fault
pub one_fault : (effects : EventEffects) → IsBootFault effects → faults_in 0 effects.lines ≡ 1
one_fault effects (inl is) = ap (λ (d : EventEffects). faults_in 0 d.lines) is
one_fault effects (inr is) = ap (λ (d : EventEffects). faults_in 0 d.lines) is

-- ---- a world that boots

-- and no fault of another replica
pub fault_of_zero : (effects : EventEffects) → IsBootFault effects → TellsZero effects.lines
fault_of_zero effects (inl is) q = ap (λ (d : EventEffects). faults_in (suc q) d.lines) is ∙ fault_first q
fault_of_zero effects (inr is) q = ap (λ (d : EventEffects). faults_in (suc q) d.lines) is ∙ fault_first q

pub boot_does : (k new : Kept) (images now : Areas → Type 0) (o : Option Open) (effects : EventEffects) → has_booted k ≡ false → 1 ≤ new.last → new.rule ≡ Some (booted_rule effects.active) → new.order ≡ effects.order → new.replica ≡ o → Boots o now effects → Serves k new images now (Boot 0 (0 ∷ [])) (Ok effects.lines)
boot_does k new images now o effects fresh some rule order is boots = λ m s.
    let n = new_of k images m fresh s in
    let last : Machine = moved empty_machine (Boot 0 (0 ∷ [])) effects.lines in
    let ruled : IsRuled new last = ruled_as (record no_events { rule = Some (booted_rule effects.active); order = effects.order }) new last rule order boots.2 in
    subst (λ x. IsWhole x (Boot 0 (0 ∷ [])) effects.lines × StandsFor new now (moved x (Boot 0 (0 ∷ [])) effects.lines) × StillHolds x now) (sym n.is)
    (boots.0, as_replica new now last (ap is_some rule) (subst (λ w. AsReplica w new.last now last) (sym is) (replica_later o 1 new.last now last some boots.1)) ruled, λ b. absurd (false≢true b))
