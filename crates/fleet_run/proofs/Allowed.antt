-- The steps that a plan names may be taken.
use Rattle.std.proofs.Common.{◌≡◌, ◌∙◌, ℕ, ◌<◌, true, false, Bool, not, List, [], length, map, refl, sym, ap, subst, inl, inr, arith, Option, Some, None}
use Rattle.std.specs.Prelude.{All, Contains, ◌≢◌, ◌&&◌, nat_lt}
use Rattle.std.proofs.lemmas.Bool.{cases_Bool, cases_lt, or_cases, false≢true, le-ltb, both_ways}
use Rattle.std.proofs.lemmas.List.{length-map, nil_from_length}
use Rattle.rc_base.specs.declared.ids.Epoch.{Epoch}
use Rattle.rc_base.specs.Ids.{epoch_lt, no_epoch}
use Rattle.log_records.specs.declared.record.Record.{Record}
use Rattle.txn_table.specs.declared.base.Base.{Base}
use Rattle.txn_table.specs.Log.{Items, no_base, last_epoch_from}
use Rattle.txn_table.specs.Whole.{epoch_of}
use Rattle.events.specs.declared.event.Event.TheVariants.{Boot, Appoint}
use Rattle.order_machine.specs.Transitions.{refusal, first_epoch, in_order}
use Rattle.replica_model.specs.declared.step.StepEvent.TheVariants as steps
use Rattle.replica_model.specs.OpenReplica.{OpenReplica, Leading, is_active, view_of}
use Rattle.replica_model.specs.Quorums.{looked, quorum_number, is_active_at}
use Rattle.replica_model.specs.Steps.{MayStep, written, step_result, step_outcome, has_risen}
use Rattle.fleet_laws.specs.Logs.{last_epoch, epoch_at}
use Rattle.fleet_laws.specs.Fleets.{Fleet, IsAppointed}
use Rattle.fleet_laws.proofs.Tree.{epoch_at-zero}
use Rattle.fleet_laws.proofs.Runs.{reached_invariant}
use Rattle.fleet_run.specs.Scenes.{FleetState, replica_at}
use Rattle.fleet_run.specs.Scenes.FleetReplica.{Open}
use Rattle.fleet_run.specs.Plans.{boot_appointment, later_appointment}
use Rattle.fleet_run.specs.Kernel.{IsCoded, code, entry_of, value_of, terms_of}
use Rattle.fleet_run.specs.Sound.{Sound}
use Rattle.fleet_run.specs.Laws.{AppointmentsAreAllowed, BarriersAreAllowed}
use Rattle.fleet_run.proofs.Codes.{less_code}
use Rattle.fleet_run.proofs.Looking.{looked_none, looked_rests, looked_rises, whole_epoch}
use Rattle.fleet_run.proofs.Members.{member_in_order}
use Rattle.fleet_run.proofs.Moved.{term_there}
use Rattle.fleet_run.proofs.Stepping.{IsThere, kept_epoch, value_there}
use Rattle.fleet_run.proofs.Ruling.{boot_is_fine, appoint_is_fine, members_fit, empty_logs, latest_below, latest_appointed}
use Rattle.fleet_run.proofs.Taking.{there_early}

some_list : {A : Type 0} (xs : List A) (x : A) → Contains xs x → xs ≢ []
some_list xs x c none = omega (arith, c.1, ap length none)

module _ (s : FleetState) (f : Fleet Record) (p : ℕ) (members : List ℕ) (o : OpenReplica) (sound : Sound s.machine s.replicas f) (up : replica_at s.replicas p ≡ Open o) where
  abbrev there : IsThere f p o
  there = there_early s.machine s.replicas f p o sound up

  boot_allowed : refusal s.machine (Boot p members) ≡ None → All (λ r. r < 9) members → MayStep o (steps.Appoint (boot_appointment p members))
  boot_allowed none within =
      let fine = boot_is_fine s.machine p members none in
      let fits = members_fit members p fine.members_fit in
      let empty : map entry_of o.disk.log ≡ [] = empty_logs s.machine f p sound.reached sound.matches.rule fine.unbooted (value_of o.stable o.disk) (value_there f p o there) in
      let log : o.disk.log ≡ [] = nil_from_length o.disk.log (sym (length-map o.disk.log entry_of) ∙ ap length empty) in
      let epoch : epoch_of o.disk ≡ no_epoch = ap (λ (b : Base). last_epoch_from b o.disk.log) there.kept.start ∙ ap (λ (l : Items). last_epoch_from no_base l) log in
      let member = member_in_order members p fits.once within fits.has in
      record {
        above = ap (λ (e : Epoch). epoch_lt e first_epoch) epoch;
        own = sym there.standing.number;
        member = subst (λ (k : ℕ). Contains (in_order members) k) (sym there.standing.number) member;
        before = some_list (in_order members) p member;
      }

  later_allowed : (e : Epoch) → refusal s.machine (Appoint e p members) ≡ None → IsCoded e → All (λ r. r < 9) members → MayStep o (steps.Appoint (later_appointment s.machine e p members))
  later_allowed e none coded within =
      let fine = appoint_is_fine s.machine e p members none in
      let fits = members_fit members p fine.members_fit in
      let v = value_of o.stable o.disk in
      let i = reached_invariant f sound.reached in
      let below : f.latest < code e = latest_below s.machine f e p members v sound.reached sound.matches.rule fine coded there.values in
      let last : code (epoch_of o.disk) ≡ last_epoch (map entry_of o.disk.log) = whole_epoch o.disk there.kept.start in
      let low : code (epoch_of o.disk) < code e = elim (cases_lt 0 (length (map entry_of o.disk.log))) [
        | inr empty ↦
            let at : length (map entry_of o.disk.log) ≡ 0 = omega (arith, empty) in
            omega (arith, below, last, ap (epoch_at (map entry_of o.disk.log)) at, epoch_at-zero (map entry_of o.disk.log))
        | inl some ↦
            let c = (i.values p v (value_there f p o there)).canonical (length (map entry_of o.disk.log)) some (omega arith) in
            let at : epoch_at (map entry_of o.disk.log) (length (map entry_of o.disk.log)) ≡ c.0 = c.1.is in
            omega (arith, below, last, at, i.appointments.latest c.0 c.1.appointed)
      ] in
      let active : IsAppointed f f.active = i.appointments.activated f.active (i.appointments.is_active f.latest (latest_appointed s.machine f e p members v sound.reached sound.matches.rule fine coded there.values)) in
      let x = sound.matches.rule.only f.active active in
      let t = term_there x.0 (terms_of s.machine) (sym (sound.matches.rule.appointed x.0 x.1) ∙ ap f.appointed x.2 ∙ active) in
      let config : s.machine.config ≡ t.0.current = sym sound.matches.rule.active ∙ ap f.current (sym x.2 ∙ ap code t.2) ∙ (sound.matches.rule.members t.0 t.1).0 in
      record {
        above = less_code (epoch_of o.disk) e (kept_epoch o.disk there.kept) coded low;
        own = sym there.standing.number;
        member = subst (λ (k : ℕ). Contains (in_order members) k) (sym there.standing.number) (member_in_order members p fits.once within fits.has);
        before = λ nothing. omega (arith, sound.matches.rule.some_member t.0 t.1, ap length (sym config ∙ nothing));
      }

pub appointments_are_allowed : AppointmentsAreAllowed
appointments_are_allowed s f e p members o sound up = (
  λ none spelled. boot_allowed s f p members o sound up none spelled,
  λ none spelled. later_allowed s f p members o sound up e none spelled.0 spelled.1,
)

-- ---- Barriers

pub never_both : (b : Bool) → (b && not b) ≡ true → ⊥
never_both true h = false≢true h
never_both false h = false≢true h

pub still_risen : (x : OpenReplica) → has_risen x x ≡ true → ⊥
still_risen x h = elim (or_cases (nat_lt (view_of x) (view_of x)) (is_active x && not (is_active x)) h) [
  | inl more ↦ both_ways (nat_lt (view_of x) (view_of x)) (le-ltb (view_of x) (view_of x) (omega arith)) more
  | inr both ↦ never_both (is_active x) both
]

rested : (x : OpenReplica) → looked x ≡ x → has_risen x (looked x) ≡ true → is_active (looked x) ≡ true
rested x same h = absurd (still_risen x (subst (λ (y : OpenReplica). has_risen x y ≡ true) same h))

risen_active : (x : OpenReplica) (y : Option Leading) → x.leading ≡ y → has_risen x (looked x) ≡ true → is_active (looked x) ≡ true
risen_active x None none h = rested x (looked_none x none) h
risen_active x (Some l) lead h = elim (cases_Bool (is_active_at x l (quorum_number x l))) [
  | inl rises ↦ let z = looked_rises x l lead rises in ap is_active z.1
  | inr waits ↦ rested x (looked_rests x l lead waits) h
]

pub barriers_are_allowed : BarriersAreAllowed
unfolding step_result step_outcome
barriers_are_allowed o event due = risen_active (written o event) (written o event).leading refl due
