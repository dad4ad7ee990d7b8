-- A world that appoints replica 0, alone, where it is open.
use Rattle.std.proofs.Common.{◌≡◌, ◌∙◌, sym, ap, subst, refl, ℕ, ◌+◌, ◌-◌, ◌*◌, ◌≤◌, ◌<◌, max, nat_lt, Bool, true, false, cond, List, [], ◌∷◌, ◌++◌, length, map, drop, get_or, Option, Some, None, is_some, Ok, arith, append_assoc, length-append}
use Rattle.std.specs.Option.{option_map}
use Rattle.std.proofs.lemmas.Option.{same_Some}
use Rattle.rc_base.specs.declared.ids.Epoch.{Epoch}
use Rattle.rc_base.specs.declared.ids.TxnId.{TxnId}
use Rattle.config_rule.specs.declared.appointments.Appointed.{Appointed}
use Rattle.config_rule.specs.Rule.{Known, is_above, are_members, has_quorum, has_answered_last, tells_most, first_broken, broken_appointment, after_appointment, after_active}
use Rattle.config_rule.proofs.Rising.{first_holds}
use Rattle.disk_model.specs.Disk.{Areas}
use Rattle.txn_table.specs.declared.committed.Committed.{Committed}
use Rattle.log_store.specs.declared.kept.Kept.{Kept as Log}
use Rattle.log_store.specs.Durable.{StandForOneOf}
use Rattle.events.specs.declared.event.Event.TheVariants.{Appoint}
use Rattle.order_machine.specs.declared.observation.Observation.{Observation}
use Rattle.order_machine.specs.declared.observation.Observation.TheVariants as says
use Rattle.order_machine.specs.Order.{Entry, empty_order, length_of}
use Rattle.order_machine.specs.Machine.{Machine, Replica, Txn, replica, is_booted, known_of, order_of, without_role, ended_at}
use Rattle.order_machine.specs.Transitions.{refusal}
use Rattle.replica.specs.Open.{Open, AreSame}
use Rattle.replica.specs.Step.{MayStep}
use Rattle.world.specs.Course.{AreNoted}
use Rattle.world.specs.Fleet.{faults_in}
use Rattle.world.specs.Kept.{Kept, has_booted}
use Rattle.world.specs.Standing.{Course, standing, serving, shut}
use Rattle.world.specs.Steps.{finished, told_rise, order_line, cons_if, log_once, log_behind, HoldsSome}
use Rattle.world.specs.World.{StandsFor, AsReplica, AsRole, IsRuled, IsOpen, Serves, StillHolds}
use Rattle.world.proofs.Epochs.Appointment.{Appoints, course_of, course_then, course_now, entries_now, above_course, may_start, shown_now, all_lines, appoint_serves, appoint_faults_behind, appoint_faults_first}
use Rattle.world.proofs.States.Later.{ruled_of, open_of, as_replica, booted_stands, up_role}
use Rattle.world.proofs.States.Roleless.{rests_ended}
use Rattle.world.proofs.Epochs.Rule.{above_same, appointment_same, noted_appointment, noted_active}
use Rattle.world.proofs.Epochs.StartLines.{appointment_to, with_more, as_entry}
use Rattle.world.proofs.Epochs.StartLogs.{start}
use Rattle.world.proofs.Epochs.StartStates.{loss_same, start_still, start_serving, start_closed_first, start_closed_behind}
use Rattle.events.specs.declared.answer.Answer.TheVariants as answers

-- ---- no fault is told

faultless_orders : (q : ℕ) (cs : List Committed) (lines : List Observation) → faults_in q (map order_line cs ++ lines) ≡ faults_in q lines
faultless_orders q [] lines = refl
faultless_orders q (c ∷ cs) lines = faultless_orders q cs lines

faultless_rise : (q id n : ℕ) (b : Bool) (more : List Observation) → faults_in q (((cons_if b (says.View id n) ++ says.Active id ∷ []) ++ says.Done ∷ []) ++ more) ≡ faults_in q more
faultless_rise q id n true more = refl
faultless_rise q id n false more = refl

-- and no fault
pub faultless_all : (q order : ℕ) (r : Open) (more : List Observation) → faults_in q (all_lines order r ++ more) ≡ faults_in q more
faultless_all q order r more =
    let n = r.shown + length r.ahead in
    let cs = drop (order - r.shown) r.ahead in
    let rise = told_rise r.id r.shown false n true in
    ap (faults_in q) (ap (λ ls. ls ++ more) (append_assoc (map order_line cs) rise (says.Done ∷ [])) ∙ append_assoc (map order_line cs) (rise ++ says.Done ∷ []) more)
    ∙ (faultless_orders q cs ((rise ++ says.Done ∷ []) ++ more) ∙ faultless_rise q r.id n (nat_lt r.shown n) more)

-- ---- a lawful appointment

pub six_hold : (a b c d f up : Bool) → first_broken 1 (a ∷ b ∷ c ∷ d ∷ f ∷ up ∷ []) ≡ None → (a ≡ true) × (up ≡ true)
six_hold a b c d f up e =
    let one = first_holds 1 a (b ∷ c ∷ d ∷ f ∷ up ∷ []) e in
    let two = first_holds 2 b (c ∷ d ∷ f ∷ up ∷ []) one.1 in
    let three = first_holds 3 c (d ∷ f ∷ up ∷ []) two.1 in
    let four = first_holds 4 d (f ∷ up ∷ []) three.1 in
    let five = first_holds 5 f (up ∷ []) four.1 in
    (one.0, (first_holds 6 up [] five.1).0)

-- its epoch is above each appointed, and the primary is up
pub lawful_parts : (known : Known) (e : Epoch) (up : Bool) → broken_appointment known e 0 (0 ∷ []) up ≡ None → (is_above known.appointed e ≡ true) × (up ≡ true)
lawful_parts known e up lawful = six_hold (is_above known.appointed e) (are_members (0 ∷ []) 0) (has_quorum known.answers known.current e) (has_answered_last known.answers e 0) (tells_most known.answers e 0) up lawful

-- what the world knows of it
pub record MayAppoint (k : Kept) (r : Open) (known : Known) (e : Epoch) : Type 0 where
  pub rule : k.rule ≡ Some known
  pub some : k.replica ≡ Some r
  pub lawful : broken_appointment known e 0 (0 ∷ []) true ≡ None

booted_by : (k : Kept) (known : Known) → k.rule ≡ Some known → has_booted k ≡ true
booted_by k known rule = ap is_some rule

known_same : (k : Kept) (m : Machine) (known : Known) (ruled : IsRuled k m) → k.rule ≡ Some known → ruled.known ≡ known
known_same k m known ruled rule = same_Some ruled.known known (sym ruled.rule ∙ rule)

refuses_none : (m : Machine) (e : Epoch) → is_booted m ≡ true → (replica m 0).up ≡ true → broken_appointment (known_of m) e 0 (0 ∷ []) true ≡ None → refusal m (Appoint e 0 (0 ∷ [])) ≡ None
refuses_none m e booted is_up lawful =
    ap (λ (b : Bool). cond b (option_map answers.Refused (broken_appointment (known_of m) e 0 (0 ∷ []) (replica m 0).up)) (Some (answers.Refused 9))) booted
    ∙ (ap (λ (b : Bool). option_map answers.Refused (broken_appointment (known_of m) e 0 (0 ∷ []) b)) is_up ∙ ap (option_map answers.Refused) lawful)

pub appoints : (k : Kept) (images : Areas → Type 0) (m : Machine) (r : Open) (known : Known) (e : Epoch) → MayAppoint k r known e → StandsFor k images m → Appoints k.last r images m e
appoints k images m r known e a s =
    let booted = booted_by k known a.rule in
    let role : AsRole r.role k.last r images m = open_of k images m r booted a.some s in
    let ruled = ruled_of k images m booted s in
    let same = known_same k m known ruled a.rule in
    let lawful : broken_appointment ruled.known e 0 (0 ∷ []) true ≡ None = ap (λ (w : Known). broken_appointment w e 0 (0 ∷ []) true) same ∙ a.lawful in
    record {
      rests = rests_ended r.role k.last r images m refl role;
      above = sym (above_same ruled.known.appointed m.appointments ruled.appointed e) ∙ (lawful_parts ruled.known e true lawful).0;
      unrefused = refuses_none m e (booted_stands k images m booted s) (up_role r.role k.last r images m role) (sym (appointment_same k m ruled e 0 (0 ∷ []) true) ∙ lawful);
    }

-- ---- the order that it keeps

order_ended : (m : Machine) → order_of (without_role m 0) 0 ≡ order_of m 0
order_ended m = ap (λ (k : ℕ). get_or m.orders k empty_order) (loss_same m.replicas)

pub counted_before : (k : Kept) (images : Areas → Type 0) (m : Machine) (r : Open) (e : Epoch) (h : Appoints k.last r images m e) → IsRuled k m → k.order ≡ length h.rests.entries
counted_before k images m r e h ruled =
    let there : length_of (order_of m 0) ≡ 0 + length h.rests.entries = ap length_of (sym (order_ended m)) ∙ ap (λ (n : Machine). length_of (order_of n 0)) h.rests.rests.is in
    let order = ruled.order in
    omega (arith, order, there)

-- ---- what the rule knows then

abbrev appointed_known : Known → Epoch → Known
appointed_known known e = after_appointment known e 0 (0 ∷ [])

abbrev active_known : Known → Epoch → Known
active_known known e = after_active (after_appointment known e 0 (0 ∷ [])) e

noted_then : (k : Kept) (images : Areas → Type 0) (m : Machine) (r : Open) (known : Known) (e : Epoch) (h : Appoints k.last r images m e) → IsRuled k m → k.rule ≡ Some known → AreNoted (appointed_known known e).appointed ((course_then h).first ∷ (course_then h).later)
noted_then k images m r known e h ruled rule =
    let new : Appointed = record { epoch = e; primary = Some 0; pc = known.current; cc = 0 ∷ []; active = false; activated = false } in
    let before : AreNoted known.appointed ((course_of h).first ∷ (course_of h).later) =
    subst (λ xs. AreNoted known.appointed xs) (ap (λ (n : Machine). n.appointments) h.rests.rests.is)
    (subst (λ (w : Known). AreNoted w.appointed m.appointments) (known_same k m known ruled rule) ruled.appointed) in
    noted_appointment known.appointed ((course_of h).first ∷ (course_of h).later) new (appointment_to e) before (record { epoch = refl; members = refl; active = refl })

noted_now : (k : Kept) (images : Areas → Type 0) (m : Machine) (r : Open) (known : Known) (e : Epoch) (h : Appoints k.last r images m e) → IsRuled k m → k.rule ≡ Some known → AreNoted (active_known known e).appointed ((course_now h).first ∷ (course_now h).later)
noted_now k images m r known e h ruled rule =
    noted_active (appointed_known known e).appointed ((course_of h).first ∷ (course_of h).later) (appointment_to e) e (noted_then k images m r known e h ruled rule) (above_course k.last r images m e h) refl

-- the rest stays as the machine has it
ruled_by : (k new : Kept) (images : Areas → Type 0) (m : Machine) (r : Open) (known then : Known) (e : Epoch) (h : Appoints k.last r images m e) (entries : List Entry) (first : Replica) (txns : List (TxnId × Txn)) (course : Course) → IsRuled k m → k.rule ≡ Some known → new.rule ≡ Some then →
    then.current ≡ known.current → then.answers ≡ known.answers → AreNoted then.appointed (course.first ∷ course.later) → course.answers ≡ (course_of h).answers → first.loss ≡ 0 → new.order ≡ length entries → IsRuled new (standing entries h.rests.rests.acknowledged first txns course)
ruled_by k new images m r known then e h entries first txns course ruled rule new_rule current answers noted told loss order =
    let same = known_same k m known ruled rule in
    record {
      known = then;
      rule = new_rule;
      appointed = noted;
      current = current ∙ (ap (λ (w : Known). w.current) (sym same) ∙ (ruled.current ∙ ap (λ (n : Machine). n.config) h.rests.rests.is));
      answers = answers ∙ (ap (λ (w : Known). w.answers) (sym same) ∙ (ruled.answers ∙ (ap (λ (n : Machine). n.answers) h.rests.rests.is ∙ sym told)));
      order = subst (λ (l : ℕ). new.order ≡ length_of (get_or (record { base = 0; start = []; entries = entries } ∷ []) l empty_order)) (sym loss) (omega (arith, order));
    }

-- ---- what the event promises

-- the world behind it
pub record IsNow (new : Kept) (number many : ℕ) (known : Known) (o : Option Open) : Type 0 where
  pub last : new.last ≡ number
  pub rule : new.rule ≡ Some known
  pub order : new.order ≡ many
  pub replica : new.replica ≡ o

stands_now : (new : Kept) (number order : ℕ) (rule : Known) (o : Option Open) (now : Areas → Type 0) (n : Machine) → IsNow new number order rule o → AsReplica o number now n → IsRuled new n → StandsFor new now n
stands_now new number order rule o now n i there ruled =
    as_replica new now n (ap is_some i.rule) (subst (λ w. AsReplica w new.last now n) (sym i.replica) (subst (λ (l : ℕ). AsReplica o l now n) (sym i.last) there)) ruled

more_many : (entries : List Entry) (more : List Committed) → length entries ≤ length (with_more entries more)
more_many entries [] = omega arith
more_many entries (c ∷ more) = omega (arith, length-append entries (as_entry c ∷ []))

-- the order has grown to what is shown
grown_order : (k : Kept) (images : Areas → Type 0) (m : Machine) (r : Open) (e : Epoch) (h : Appoints k.last r images m e) → k.order ≡ length h.rests.entries → max k.order (r.shown + length r.ahead) ≡ length (entries_now h)
grown_order k images m r e h counted =
    let n = shown_now k.last r images m e h in
    let grows = more_many h.rests.entries h.rests.sound.more in
    grind (arith, n, counted, grows)

pub start_does : (k new : Kept) (images now : Areas → Type 0) (number : ℕ) (r x : Open) (known : Known) (e : Epoch) (lines : List Observation) → MayAppoint k r known e → k.last < number → AreSame x (record (finished r (start e)) { log = x.log }) →
    ((log : Log) → IsOpen r log images → IsOpen x (log_behind r (start e) log) now) → ((log : Log) → IsOpen r log images → HoldsSome r (start e) log now) → lines ≡ all_lines k.order r →
    IsNow new number (max k.order (r.shown + length r.ahead)) (active_known known e) (Some x) → Serves k new images now (Appoint e 0 (0 ∷ [])) (Ok lines)
start_does k new images now number r x known e lines a rising kept stands holds told i =
    subst (λ ls. Serves k new images now (Appoint e 0 (0 ∷ [])) (Ok ls)) (sym told)
    (λ m s.
    let h = appoints k images m r known e a s in
    let ruled = ruled_of k images m (booted_by k known a.rule) s in
    let counted = counted_before k images m r e h ruled in
    let serves = appoint_serves k.last r images m e k.order h counted in
    let there = start_serving k.last number r x images now m e k.order h counted rising kept (stands h.rests.log h.rests.is_open) in
    let rules = ruled_by k new images m r known (active_known known e) e h (entries_now h) (serving (course_now h) (length (entries_now h)) 0 []) h.rests.rests.txns (course_now h) ruled a.rule i.rule refl refl (noted_now k images m r known e h ruled a.rule) refl refl (i.order ∙ grown_order k images m r e h counted) in
    (serves.0, stands_now new number _ (active_known known e) (Some x) now _ i there (subst (IsRuled new) (sym serves.1) rules), start_still k.last r images now m e h (holds h.rests.log h.rests.is_open)))

-- the disk failed behind all lines
pub start_fails_behind : (k new : Kept) (images now : Areas → Type 0) (number : ℕ) (r : Open) (known : Known) (e : Epoch) (lines : List Observation) → MayAppoint k r known e → k.last < number →
    ((log : Log) → IsOpen r log images → HoldsSome r (start e) log now) → lines ≡ all_lines k.order r ++ says.Fault 0 ∷ [] →
    IsNow new number (max k.order (r.shown + length r.ahead)) (active_known known e) None → Serves k new images now (Appoint e 0 (0 ∷ [])) (Ok lines)
start_fails_behind k new images now number r known e lines a rising holds told i =
    subst (λ ls. Serves k new images now (Appoint e 0 (0 ∷ [])) (Ok ls)) (sym told)
    (λ m s.
    let h = appoints k images m r known e a s in
    let ruled = ruled_of k images m (booted_by k known a.rule) s in
    let counted = counted_before k images m r e h ruled in
    let some = holds h.rests.log h.rests.is_open in
    let fails = appoint_faults_behind k.last r images m e k.order h counted in
    let there = start_closed_behind k.last number r images now m e k.order h counted rising some in
    let rules = ruled_by k new images m r known (active_known known e) e h (entries_now h) (shut (course_now h) (length (entries_now h))) (ended_at 0 h.rests.rests.txns) (course_now h) ruled a.rule i.rule refl refl (noted_now k images m r known e h ruled a.rule) refl refl (i.order ∙ grown_order k images m r e h counted) in
    (fails.0, stands_now new number _ (active_known known e) None now _ i there (subst (IsRuled new) (sym fails.1) rules), start_still k.last r images now m e h some))

-- the disk failed before each line
pub start_fails_first : (k new : Kept) (images now : Areas → Type 0) (number : ℕ) (r : Open) (known : Known) (e : Epoch) (lines : List Observation) → MayAppoint k r known e → k.last < number →
    ((log : Log) → IsOpen r log images → HoldsSome r (start e) log now) → ((log : Log) → IsOpen r log images → StandForOneOf log (log_once r (start e) log) now) → lines ≡ says.Fault 0 ∷ [] →
    IsNow new number k.order (appointed_known known e) None → Serves k new images now (Appoint e 0 (0 ∷ [])) (Ok lines)
start_fails_first k new images now number r known e lines a rising holds one told i =
    subst (λ ls. Serves k new images now (Appoint e 0 (0 ∷ [])) (Ok ls)) (sym told)
    (λ m s.
    let h = appoints k images m r known e a s in
    let ruled = ruled_of k images m (booted_by k known a.rule) s in
    let fails = appoint_faults_first k.last r images m e h in
    let there = start_closed_first k.last number r images now m e h rising (one h.rests.log h.rests.is_open) in
    let rules = ruled_by k new images m r known (appointed_known known e) e h h.rests.entries (shut (course_then h) r.shown) (ended_at 0 h.rests.rests.txns) (course_then h) ruled a.rule i.rule refl refl (noted_then k images m r known e h ruled a.rule) refl refl (i.order ∙ counted_before k images m r e h ruled) in
    (fails.0, stands_now new number k.order (appointed_known known e) None now _ i there (subst (IsRuled new) (sym fails.1) rules), start_still k.last r images now m e h (holds h.rests.log h.rests.is_open)))

-- memory was wanted
pub start_short : (k : Kept) (images now : Areas → Type 0) (r : Open) (known : Known) (e : Epoch) → MayAppoint k r known e → ((log : Log) → IsOpen r log images → HoldsSome r (start e) log now) → (m : Machine) → StandsFor k images m → StillHolds m now
start_short k images now r known e a holds = λ m s.
    let h = appoints k images m r known e a s in
    start_still k.last r images now m e h (holds h.rests.log h.rests.is_open)

-- ---- what the start of the epoch asks for

pub start_room : (k : Kept) (images : Areas → Type 0) (m : Machine) (r : Open) (known : Known) (e : Epoch) → MayAppoint k r known e → StandsFor k images m → ((log : Log) × IsOpen r log images) × MayStep r (start e) × (r.last.0 ≤ 3 * k.last) × (r.front.begins ≤ k.last)
start_room k images m r known e a s =
    let h = appoints k images m r known e a s in
    let long = h.rests.is_open.agrees.last in
    let short = h.rests.sound.short in
    ((h.rests.log, h.rests.is_open), may_start k.last r images m e h, omega (arith, long, short), h.rests.few)
