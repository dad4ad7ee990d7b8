-- The count of appointments that the rule knows tells whether a lawful one reaches the limit.
use Rattle.std.proofs.Common.{◌≡◌, ◌∙◌, sym, ap, subst, refl, ℕ, ◌+◌, ◌-◌, Bool, true, false, cond, ◌&&◌, List, [], ◌∷◌, length, Option, Some, None, Err, is_some, nat_le, arith}
use Rattle.std.specs.Prelude.{is_none, nat_lt}
use Rattle.std.proofs.lemmas.Bool.Decides.{nat_tests}
use Rattle.std.proofs.lemmas.List.{length-map, length-append}
use Rattle.std.proofs.lemmas.Option.{same_Some}
use Rattle.rc_base.specs.declared.ids.Epoch.{Epoch}
use Rattle.rc_base.specs.declared.limit_name.LimitName.TheVariants.{Epochs}
use Rattle.disk_model.specs.Disk.{Areas, Marks}
use Rattle.config_rule.specs.declared.appointments.Appointed.{Appointed}
use Rattle.config_rule.specs.Rule.{Known, after_appointment}
use Rattle.events.specs.declared.answer.Answer.{Answer}
use Rattle.events.specs.declared.event.Event.TheVariants.{Appoint}
use Rattle.order_machine.specs.declared.observation.Observation.{Observation}
use Rattle.order_machine.specs.Legal.{IsBegun}
use Rattle.order_machine.specs.Machine.{Machine, Appointment, as_appointed}
use Rattle.order_machine.specs.Transitions.{refusal}
use Rattle.replica.specs.Open.{Open}
use Rattle.world.specs.declared.error.WorldError.TheVariants as errors
use Rattle.world.specs.Course.{AreNoted}
use Rattle.world.specs.Handling.{Handles, is_past_limit}
use Rattle.world.specs.Kept.{Kept}
use Rattle.world.specs.Limits.{limit_reached, most_appointments, appointments_made, IsServable}
use Rattle.world.specs.World.{StandsFor, IsAppointed}
use Rattle.world.proofs.Epochs.Appointment.{all_lines, appoint_serves}
use Rattle.world.proofs.Epochs.Rule.{noted_counts}
use Rattle.world.proofs.Epochs.StartExits.{appointed_up, may_of}
use Rattle.world.proofs.Epochs.StartWorld.{appoints, counted_before}
use Rattle.world.proofs.Exits.FaultCounts.{rose_none}
use Rattle.world.proofs.Exits.Limits.{servable}
use Rattle.world.proofs.States.HeldOrder.{stands_still}
use Rattle.world.proofs.States.Later.{ruled_of, some_of}

-- the rule, which has noted the new appointment too, has one more than the machine
test_by : (made noted : ℕ) → noted ≡ made + 1 → (b : Bool) → nat_lt (most_appointments + 1) noted ≡ b → nat_le most_appointments (made - 1) ≡ b
test_by made noted e true h = grind (arith, nat_tests)
test_by made noted e false h = grind (arith, nat_tests)

counts_same : (known : List Appointed) (made : List Appointment) → AreNoted known made → length known ≡ length made
counts_same known made h = noted_counts known made h ∙ length-map made as_appointed

-- what the machine says of an appointment that the rule has taken: it is lawful, and it has whole lines
pub record StoodFor (m : Machine) (e : Epoch) : Type 0 where
  pub unrefused : refusal m (Appoint e 0 (0 ∷ [])) ≡ None
  pub begun : IsBegun m (Appoint e 0 (0 ∷ [])) []

stood : (before old : Kept) (images : Areas → Type 0) (e : Epoch) → IsAppointed before old e → (m : Machine) → StandsFor before images m → StoodFor m e
stood before old images e a m s =
    let there = some_of old.replica (appointed_up before old e a) in
    let r : Open = there.0 in
    let h = appoints before images m r a.known e (may_of before old e r a there.1) s in
    let counted = counted_before before images m r e h (ruled_of before images m (ap is_some a.rule) s) in
    record { unrefused = h.unrefused; begun = (all_lines before.order r, (appoint_serves before.last r images m e before.order h counted).0) }

limit_is : (before old : Kept) (images : Areas → Type 0) (e : Epoch) → IsAppointed before old e → (b : Bool) → is_past_limit old ≡ b → (m : Machine) → StandsFor before images m → limit_reached m (Appoint e 0 (0 ∷ [])) ≡ cond b (Some Epochs) None
limit_is before old images e a b past m s =
    let ruled = ruled_of before images m (ap is_some a.rule) s in
    let same : ruled.known ≡ a.known = same_Some ruled.known a.known (sym ruled.rule ∙ a.rule) in
    let new : List Appointed = (after_appointment a.known e 0 (0 ∷ [])).appointed in
    let noted : nat_lt (most_appointments + 1) (length new) ≡ b = ap is_past_limit (sym a.now_is) ∙ past in
    let counts : length a.known.appointed ≡ length m.appointments = ap (λ (w : Known). length w.appointed) (sym same) ∙ counts_same ruled.known.appointed m.appointments ruled.appointed in
    let one_more : length new ≡ length m.appointments + 1 = omega (arith, counts, length-append a.known.appointed (record { epoch = e; primary = Some 0; pc = a.known.current; cc = 0 ∷ []; active = false; activated = false } ∷ [])) in
    ap (λ (o : Option Answer). cond (is_none o && nat_le most_appointments (appointments_made m)) (Some Epochs) None) (stood before old images e a m s).unrefused
    ∙ ap (λ (t : Bool). cond t (Some Epochs) None) (test_by (length m.appointments) (length new) one_more b noted)

-- there is room for it
pub has_room : (before old : Kept) (images : Areas → Type 0) (e : Epoch) → IsAppointed before old e → is_past_limit old ≡ false → (m : Machine) → StandsFor before images m → IsServable m (Appoint e 0 (0 ∷ []))
has_room before old images e a past m s = servable m (Appoint e 0 (0 ∷ [])) (limit_is before old images e a false past m s)

-- there is none
pub limit_handles : {M : Type 0} (images : M → Areas → Type 0) (faults : M → ℕ) (marks : M → Marks) (before old new : Kept) (disk : M) (number : ℕ) (e : Epoch) (given : List Observation) → IsAppointed before old e → is_past_limit old ≡ true → given ≡ [] → Handles images faults marks before new disk disk number (Appoint e 0 (0 ∷ [])) (Err (errors.Limit Epochs given))
limit_handles images faults marks before old new disk number e given a past none =
    subst (λ (ls : List Observation). Handles images faults marks before new disk disk number (Appoint e 0 (0 ∷ [])) (Err (errors.Limit Epochs ls))) (sym none)
    (record {
      serves = λ m s. (limit_is before old (images disk) e a true past m s, refl, (stood before old (images disk) e a m s).begun, stands_still before (images disk) m s);
      servable = tt;
      last = tt;
      others = tt;
      counted = rose_none (faults disk) (faults disk) (omega arith) 0 refl;
      armed = refl;
    })
