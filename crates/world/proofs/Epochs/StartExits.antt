-- What the handler of a lawful appointment promises, by what the start of the epoch did.
use Rattle.std.proofs.Common.{◌≡◌, ◌∙◌, sym, ap, subst, refl, ℕ, suc, ◌*◌, ◌≤◌, ◌<◌, Bool, true, cond, List, [], ◌∷◌, ◌++◌, Option, Some, None, is_some, Result, Ok, Err, IfOk, OnOk, OnErr, append-nil, inl, inr, ◌⊎◌, rules}
use Rattle.std.specs.Option.{option_map}
use Rattle.std.proofs.lemmas.Option.{same_Some}
use Rattle.world.proofs.Exits.OneLine.{no_memory}
use Rattle.rc_base.specs.Counts.{Rose}
use Rattle.rc_base.specs.Members.{AreMembers}
use Rattle.rc_base.specs.declared.ids.Epoch.{Epoch}
use Rattle.config_rule.specs.declared.appointments.Appointment.{Appointment}
use Rattle.config_rule.specs.Rule.{Known, is_above, are_members, has_quorum, has_answered_last, tells_most, broken_appointment, after_appointment, after_active}
use Rattle.config_rule.proofs.Rising.{same_members}
use Rattle.disk_model.specs.Disk.{Areas, Marks}
use Rattle.log_store.specs.declared.kept.Kept.{Kept as Log}
use Rattle.log_store.specs.Durable.{StandForOneOf}
use Rattle.events.specs.declared.event.Event.{Event}
use Rattle.events.specs.declared.event.Event.TheVariants.{Appoint}
use Rattle.order_machine.specs.declared.observation.Observation.{Observation}
use Rattle.order_machine.specs.declared.observation.Observation.TheVariants as says
use Rattle.order_machine.specs.Machine.{Machine, replica, known_of}
use Rattle.order_machine.specs.Transitions.{refusal}
use Rattle.replica.specs.Open.{Open, AreSame}
use Rattle.replica.specs.Step.{MayStep}
use Rattle.world.specs.declared.error.WorldError.{WorldError}
use Rattle.world.specs.declared.error.WorldError.TheVariants as errors
use Rattle.world.specs.Fleet.{faults_in, fault_lines, RoseBy, TellsZero}
use Rattle.world.specs.Kept.{Kept, has_booted}
use Rattle.world.specs.declared.effects.EventEffects.{EventEffects}
use Rattle.world.specs.Handling.{Handles, rule_active}
use Rattle.world.specs.Limits.{IsServable}
use Rattle.world.specs.Steps.{appointment_alone, no_effects, effects_started, finished, log_once, log_behind, HoldsSome}
use Rattle.world.specs.World.{StandsFor, AsReplica, IsOpen, IsAppointed, Serves, StillHolds}
use Rattle.world.proofs.Epochs.Appointment.{all_lines}
use Rattle.world.proofs.Exits.FaultCounts.{rose_none, rose_one, fault_first}
use Rattle.world.proofs.Exits.Limits.{on_ok}
use Rattle.world.proofs.Exits.Common.{last_of_kept, marks_same, marks_same_after}
use Rattle.world.proofs.States.Later.{ruled_of, replica_of, booted_stands, up_role}
use Rattle.world.proofs.Epochs.Rule.{appointment_same}
use Rattle.world.proofs.Epochs.Previous.{alone_replica}
use Rattle.world.proofs.States.Alone.{alone_members}
use Rattle.world.proofs.Epochs.StartLogs.{start}
use Rattle.world.proofs.Epochs.StartWorld.{MayAppoint, six_hold, faultless_all, start_does, start_fails_behind, start_fails_first, start_short, start_room}
use Rattle.events.specs.declared.answer.Answer.TheVariants as answers

-- ---- what it begins with

pub may_of : (before old : Kept) (e : Epoch) (r : Open) (a : IsAppointed before old e) → old.replica ≡ Some r → MayAppoint before r a.known e
may_of before old e r a is =
    let some : before.replica ≡ Some r = sym (ap (λ (k : Kept). k.replica) a.now_is) ∙ is in
    record { rule = a.rule; some = some; lawful = subst (λ o. broken_appointment a.known e 0 (0 ∷ []) (is_some o) ≡ None) some a.lawful }

order_same : (before old : Kept) (e : Epoch) → IsAppointed before old e → old.order ≡ before.order
order_same before old e a = ap (λ (k : Kept). k.order) a.now_is

last_same : (before old : Kept) (e : Epoch) → IsAppointed before old e → old.last ≡ before.last
last_same before old e a = ap (λ (k : Kept). k.last) a.now_is

earlier : (before old : Kept) (e : Epoch) (number : ℕ) → IsAppointed before old e → old.last < number → before.last < number
earlier before old e number a rising = subst (λ (l : ℕ). l < number) (last_same before old e a) rising

-- what the start of the epoch asks for
pub room_of : (before old : Kept) (images : Areas → Type 0) (m : Machine) (e : Epoch) (r : Open) → IsAppointed before old e → StandsFor before images m → old.replica ≡ Some r → ((log : Log) × IsOpen r log images) × MayStep r (start e) × (r.last.0 ≤ 3 * old.last) × (r.front.begins ≤ old.last)
room_of before old images m e r a s is =
    let room = start_room before images m r a.known e (may_of before old e r a is) s in
    let same = sym (last_same before old e a) in
    (room.0, room.1, subst (λ (l : ℕ). r.last.0 ≤ 3 * l) same room.2, subst (λ (l : ℕ). r.front.begins ≤ l) same room.3)

-- ---- the rule

-- the rule notes the primary of the epoch as active
noted_active : (before old : Kept) (e : Epoch) (a : IsAppointed before old e) → rule_active e true old.rule ≡ Some (after_active (after_appointment a.known e 0 (0 ∷ [])) e)
noted_active before old e a = ap (λ (k : Kept). option_map (λ known. after_active known e) k.rule) a.now_is

-- ---- what it promises

-- what the start of the epoch does
abbrev pub all_effects : ℕ → Open → Epoch → EventEffects
all_effects order r e = effects_started (no_effects order) (appointment_alone e) r

-- all went well
pub ok_serves : (before old new : Kept) (images now : Areas → Type 0) (number : ℕ) (r x : Open) (e : Epoch) (effects : EventEffects) → IsAppointed before old e → old.replica ≡ Some r → old.last < number → AreSame x (record (finished r (start e)) { log = x.log }) →
    ((log : Log) → IsOpen r log images → IsOpen x (log_behind r (start e) log) now) → ((log : Log) → IsOpen r log images → HoldsSome r (start e) log now) → effects ≡ all_effects old.order r e →
    new.last ≡ number → new.rule ≡ rule_active e effects.active old.rule → new.order ≡ effects.order → new.replica ≡ Some x → Serves before new images now (Appoint e 0 (0 ∷ [])) (Ok effects.lines)
ok_serves before old new images now number r x e effects a is rising kept stands holds told last rule order replica =
    let all : effects ≡ all_effects before.order r e = told ∙ ap (λ (n : ℕ). all_effects n r e) (order_same before old e a) in
    start_does before new images now number r x a.known e effects.lines (may_of before old e r a is) (earlier before old e number a rising) kept stands holds (ap (λ (d : EventEffects). d.lines) all)
    (record {
      last = last;
      rule = rule ∙ (ap (λ (d : EventEffects). rule_active e d.active old.rule) all ∙ noted_active before old e a);
      order = order ∙ ap (λ (d : EventEffects). d.order) all;
      replica = replica;
    })

-- what was done before a fault, where this was done before: nothing more, or all
abbrev pub IsCutAt : EventEffects → Open → Epoch → EventEffects → (Areas → Type 0) → (Areas → Type 0) → Type 0
IsCutAt old r e effects images now = ((effects ≡ old) × ((log : Log) → IsOpen r log images → StandForOneOf log (log_once r (start e) log) now)) ⊎ (effects ≡ effects_started old (appointment_alone e) r)

-- the disk failed
pub cut_serves : (before old new : Kept) (images now : Areas → Type 0) (number : ℕ) (r : Open) (e : Epoch) (effects : EventEffects) → IsAppointed before old e → old.replica ≡ Some r → old.last < number →
    ((log : Log) → IsOpen r log images → HoldsSome r (start e) log now) → IsCutAt (no_effects old.order) r e effects images now →
    new.last ≡ number → new.rule ≡ rule_active e effects.active old.rule → new.order ≡ effects.order → new.replica ≡ None → Serves before new images now (Appoint e 0 (0 ∷ [])) (Ok (effects.lines ++ says.Fault 0 ∷ []))
cut_serves before old new images now number r e effects a is rising holds (inl first) last rule order replica =
    start_fails_first before new images now number r a.known e (effects.lines ++ says.Fault 0 ∷ []) (may_of before old e r a is) (earlier before old e number a rising) holds first.1 (ap (λ (d : EventEffects). d.lines ++ says.Fault 0 ∷ []) first.0)
    (record {
      last = last;
      rule = rule ∙ (ap (λ (d : EventEffects). rule_active e d.active old.rule) first.0 ∙ ap (λ (k : Kept). k.rule) a.now_is);
      order = order ∙ (ap (λ (d : EventEffects). d.order) first.0 ∙ order_same before old e a);
      replica = replica;
    })
cut_serves before old new images now number r e effects a is rising holds (inr told) last rule order replica =
    let all : effects ≡ all_effects before.order r e = told ∙ ap (λ (n : ℕ). all_effects n r e) (order_same before old e a) in
    start_fails_behind before new images now number r a.known e (effects.lines ++ says.Fault 0 ∷ []) (may_of before old e r a is) (earlier before old e number a rising) holds (ap (λ (d : EventEffects). d.lines ++ says.Fault 0 ∷ []) all)
    (record {
      last = last;
      rule = rule ∙ (ap (λ (d : EventEffects). rule_active e d.active old.rule) all ∙ noted_active before old e a);
      order = order ∙ ap (λ (d : EventEffects). d.order) all;
      replica = replica;
    })

-- memory was wanted
pub short_serves : (before old : Kept) (images now : Areas → Type 0) (r : Open) (e : Epoch) → IsAppointed before old e → old.replica ≡ Some r → ((log : Log) → IsOpen r log images → HoldsSome r (start e) log now) → (m : Machine) → StandsFor before images m → StillHolds m now
short_serves before old images now r e a is holds = start_short before images now r a.known e (may_of before old e r a is) holds

-- ---- by the result

pub result_serves : (old new kept_so : Kept) (before now : Areas → Type 0) (event : Event) (given : List Observation) (result : Result (List Observation) WorldError) → IfOk result (λ lines. lines ≡ given) → OnOk result (new ≡ kept_so) → OnErr result (result ≡ Err errors.NoMemory) → ((m : Machine) → StandsFor old before m → StillHolds m now) → Serves old kept_so before now event (Ok given) → Serves old new before now event result
result_serves old new kept_so before now event given (Ok lines) told kept memory still serves = subst (λ k. Serves old k before now event (Ok lines)) (sym kept) (subst (λ ls. Serves old kept_so before now event (Ok ls)) (sym told) serves)
result_serves old new kept_so before now event given (Err e) told kept memory still serves = no_memory old new before now event e still memory

-- ---- faults

pub others_all : (order : ℕ) (r : Open) (lines : List Observation) → lines ≡ all_lines order r → TellsZero lines
others_all order r lines told q = ap (faults_in (suc q)) (told ∙ sym (append-nil (all_lines order r))) ∙ faultless_all (suc q) order r []

pub rise_all : (order : ℕ) (r : Open) (lines : List Observation) (before now : ℕ) → lines ≡ all_lines order r → before ≤ now → RoseBy (faults_in 0 lines) before now
rise_all order r lines before now told later = rose_none before now later (faults_in 0 lines) (ap (faults_in 0) (told ∙ sym (append-nil (all_lines order r))) ∙ faultless_all 0 order r [])

cut_faults : (q order : ℕ) (r : Open) (e : Epoch) (effects : EventEffects) (images now : Areas → Type 0) → IsCutAt (no_effects order) r e effects images now → faults_in q (effects.lines ++ says.Fault 0 ∷ []) ≡ faults_in q (says.Fault 0 ∷ [])
cut_faults q order r e effects images now (inl first) = ap (λ (d : EventEffects). faults_in q (d.lines ++ says.Fault 0 ∷ [])) first.0
cut_faults q order r e effects images now (inr told) = ap (λ (d : EventEffects). faults_in q (d.lines ++ says.Fault 0 ∷ [])) told ∙ faultless_all q order r (says.Fault 0 ∷ [])

pub others_cut_at : (order : ℕ) (r : Open) (e : Epoch) (effects : EventEffects) (images now : Areas → Type 0) (result : Result (List Observation) WorldError) → IsCutAt (no_effects order) r e effects images now → IfOk result (λ given. given ≡ effects.lines ++ says.Fault 0 ∷ []) → IfOk result TellsZero
others_cut_at order r e effects images now (Ok given) cut is = λ q. ap (faults_in (suc q)) is ∙ (cut_faults (suc q) order r e effects images now cut ∙ fault_first q)
others_cut_at order r e effects images now (Err x) cut is = tt

pub rise_cut : (order : ℕ) (r : Open) (e : Epoch) (effects : EventEffects) (images now : Areas → Type 0) (before after : ℕ) (result : Result (List Observation) WorldError) → IsCutAt (no_effects order) r e effects images now → before ≤ after → Rose before after → IfOk result (λ given. given ≡ effects.lines ++ says.Fault 0 ∷ []) → RoseBy (fault_lines 0 result) before after
rise_cut order r e effects images now before after (Ok given) cut later rose is = rose_one before after later rose (faults_in 0 given) (ap (faults_in 0) is ∙ cut_faults 0 order r e effects images now cut)
rise_cut order r e effects images now before after (Err x) cut later rose is = rose_none before after later 0 refl

-- ---- what the handler promises

-- an appointed replica is open
pub appointed_up : (before old : Kept) (e : Epoch) → IsAppointed before old e → is_some old.replica ≡ true
appointed_up before old e a =
    ap (λ (k : Kept). is_some k.replica) a.now_is ∙ (six_hold (is_above a.known.appointed e) (are_members (0 ∷ []) 0) (has_quorum a.known.answers a.known.current e) (has_answered_last a.known.answers e 0) (tells_most a.known.answers e 0) (is_some before.replica) a.lawful).1

pub start_handles : {M : Type 0} (images : M → Areas → Type 0) (faults : M → ℕ) (marks : M → Marks) (before old new : Kept) (disk now : M) (number : ℕ) (r x : Open) (e : Epoch) (effects : EventEffects) (given : List Observation) →
    IsAppointed before old e → old.replica ≡ Some r → old.last < number → AreSame x (record (finished r (start e)) { log = x.log }) → ((log : Log) → IsOpen r log (images disk) → IsOpen x (log_behind r (start e) log) (images now)) → ((log : Log) → IsOpen r log (images disk) → HoldsSome r (start e) log (images now)) →
    effects ≡ all_effects old.order r e → given ≡ effects.lines → new.last ≡ number → new.rule ≡ rule_active e effects.active old.rule → new.order ≡ effects.order → new.replica ≡ Some x → faults disk ≤ faults now → marks now ≡ marks disk → ((m : Machine) → StandsFor before (images disk) m → IsServable m (Appoint e 0 (0 ∷ []))) →
    Handles images faults marks before new disk now number (Appoint e 0 (0 ∷ [])) (Ok given)
start_handles images faults marks before old new disk now number r x e effects given a is rising kept stands holds told lines last rule order replica later same servable =
    let all : effects.lines ≡ all_lines old.order r = ap (λ (d : EventEffects). d.lines) told in
    subst (λ (ls : List Observation). Handles images faults marks before new disk now number (Appoint e 0 (0 ∷ [])) (Ok ls)) (sym lines)
    (record {
      serves = ok_serves before old new (images disk) (images now) number r x e effects a is rising kept stands holds told last rule order replica;
      servable = servable;
      last = last;
      others = others_all old.order r effects.lines all;
      counted = rise_all old.order r effects.lines (faults disk) (faults now) all later;
      armed = same ∙ marks_same (Appoint e 0 (0 ∷ [])) effects.lines (marks disk) refl;
    })

pub cut_handles : {M : Type 0} (images : M → Areas → Type 0) (faults : M → ℕ) (marks : M → Marks) (before old new then : Kept) (disk now : M) (number : ℕ) (r : Open) (e : Epoch) (effects : EventEffects) (result : Result (List Observation) WorldError) →
    IsAppointed before old e → old.replica ≡ Some r → old.last < number → ((log : Log) → IsOpen r log (images disk) → HoldsSome r (start e) log (images now)) → IsCutAt (no_effects old.order) r e effects (images disk) (images now) →
    IfOk result (λ given. given ≡ effects.lines ++ says.Fault 0 ∷ []) → OnOk result (new ≡ then) → OnErr result (result ≡ Err errors.NoMemory) → then.last ≡ number → then.rule ≡ rule_active e effects.active old.rule → then.order ≡ effects.order → then.replica ≡ None → faults disk ≤ faults now → Rose (faults disk) (faults now) → marks now ≡ marks disk → ((m : Machine) → StandsFor before (images disk) m → IsServable m (Appoint e 0 (0 ∷ []))) →
    Handles images faults marks before new disk now number (Appoint e 0 (0 ∷ [])) result
cut_handles images faults marks before old new then disk now number r e effects result a is rising holds cut told kept memory last rule order replica later rose same servable = record {
  serves = result_serves before new then (images disk) (images now) (Appoint e 0 (0 ∷ [])) (effects.lines ++ says.Fault 0 ∷ []) result told kept memory (short_serves before old (images disk) (images now) r e a is holds)
      (cut_serves before old then (images disk) (images now) number r e effects a is rising holds cut last rule order replica);
  servable = on_ok result servable;
  last = last_of_kept new then number result kept last;
  others = others_cut_at old.order r e effects (images disk) (images now) result cut told;
  counted = rise_cut old.order r e effects (images disk) (images now) (faults disk) (faults now) result cut later rose told;
  armed = same ∙ marks_same_after (Appoint e 0 (0 ∷ [])) result (marks disk) refl;
}

-- ---- the rule is asked

none_down : (o : Option Open) (last : ℕ) (images : Areas → Type 0) (m : Machine) → AsReplica o last images m → (replica m 0).up ≡ is_some o
none_down None last images m s = rw s.is_shut.is refl
none_down (Some r) last images m s = up_role r.role last r images m s

-- replica 0 is up where the world has it open
pub up_same : (k : Kept) (images : Areas → Type 0) (m : Machine) → has_booted k ≡ true → StandsFor k images m → (replica m 0).up ≡ is_some k.replica
up_same k images m booted s = none_down k.replica k.last images m (replica_of k images m booted s)

-- the appointment that was asked for is that of replica 0, alone
pub record IsAsked (k : Kept) (known : Known) (primary : ℕ) (given : List ℕ) (up : Bool) : Type 0 where
  pub rule : k.rule ≡ Some known
  pub first : primary ≡ 0
  pub alone : given ≡ 0 ∷ []
  pub is_up : up ≡ is_some k.replica

asked_same : (k : Kept) (known : Known) (e : Epoch) (primary : ℕ) (given : List ℕ) (up : Bool) → IsAsked k known primary given up → broken_appointment known e primary given up ≡ broken_appointment known e 0 (0 ∷ []) (is_some k.replica)
asked_same k known e primary given up a =
    ap (λ (p : ℕ). broken_appointment known e p given up) a.first
    ∙ (ap (λ (xs : List ℕ). broken_appointment known e 0 xs up) a.alone ∙ ap (λ (b : Bool). broken_appointment known e 0 (0 ∷ []) b) a.is_up)

pub appointed_of : (before old : Kept) (e : Epoch) (known new : Known) (primary : ℕ) (given members : List ℕ) (up : Bool) → IsAsked before known primary given up → broken_appointment known e primary given up ≡ None → AreMembers given members → new ≡ after_appointment known e primary members → old ≡ record before { rule = Some new } → IsAppointed before old e
appointed_of before old e known new primary given members up a lawful same now now_is =
    let alone : members ≡ 0 ∷ [] = same_members (0 ∷ []) members (search rules) (subst (λ xs. AreMembers xs members) a.alone same) in
    let now_so : new ≡ after_appointment known e 0 (0 ∷ []) = now ∙ (ap (λ (p : ℕ). after_appointment known e p members) a.first ∙ ap (λ (xs : List ℕ). after_appointment known e 0 xs) alone) in
    record {
      known = known;
      rule = a.rule;
      lawful = sym (asked_same before known e primary given up a) ∙ lawful;
      now_is = now_is ∙ ap (λ (w : Known). record before { rule = Some w }) now_so;
    }

-- each configuration that a rule knows of is of replica 0 alone
pub alone_in : (k : Kept) (images : Areas → Type 0) (m : Machine) (known : Known) → k.rule ≡ Some known → StandsFor k images m → known.current ≡ 0 ∷ []
alone_in k images m known rule s =
    let booted : has_booted k ≡ true = ap is_some rule in
    let ruled = ruled_of k images m booted s in
    let same : ruled.known ≡ known = same_Some ruled.known known (sym ruled.rule ∙ rule) in
    ap (λ (w : Known). w.current) (sym same) ∙ (ruled.current ∙ (alone_replica k.replica k.last images m (replica_of k images m booted s)).0)

-- so a lawful appointment is that of replica 0, alone, where it was alone before
pub alone_before : (k : Kept) (images : Areas → Type 0) (known : Known) (a : Appointment) (primary : ℕ) (given : List ℕ) → k.rule ≡ Some known → primary ≡ 0 → given ≡ 0 ∷ [] →
    a.primary ≡ primary → a.pc ≡ known.current → AreMembers given a.cc → (m : Machine) → StandsFor k images m → a ≡ appointment_alone a.epoch
alone_before k images known a primary given rule first alone own previous members m s =
    let pc : a.pc ≡ 0 ∷ [] = previous ∙ alone_in k images m known rule s in
    let cc : a.cc ≡ 0 ∷ [] = alone_members 0 a.cc (subst (λ xs. AreMembers xs a.cc) alone members) in
    ap (λ (p : ℕ). record a { primary = p }) (own ∙ first)
    ∙ (ap (λ (xs : List ℕ). record a { primary = 0; pc = xs }) pc
    ∙ ap (λ (xs : List ℕ). record a { primary = 0; pc = 0 ∷ []; cc = xs }) cc)

-- the machine refuses what the rule finds broken
pub refuses_part : (k : Kept) (images : Areas → Type 0) (e : Epoch) (known : Known) (primary : ℕ) (given : List ℕ) (up : Bool) (part : ℕ) → IsAsked k known primary given up → broken_appointment known e primary given up ≡ Some part → (m : Machine) → StandsFor k images m → refusal m (Appoint e 0 (0 ∷ [])) ≡ Some (answers.Refused part)
refuses_part k images e known primary given up part a broken m s =
    let booted : has_booted k ≡ true = ap is_some a.rule in
    let ruled = ruled_of k images m booted s in
    let same : ruled.known ≡ known = same_Some ruled.known known (sym ruled.rule ∙ a.rule) in
    let parts : broken_appointment (known_of m) e 0 (0 ∷ []) (replica m 0).up ≡ Some part =
    ap (broken_appointment (known_of m) e 0 (0 ∷ [])) (up_same k images m booted s)
    ∙ (sym (appointment_same k m ruled e 0 (0 ∷ []) (is_some k.replica))
    ∙ (ap (λ (w : Known). broken_appointment w e 0 (0 ∷ []) (is_some k.replica)) same
    ∙ (sym (asked_same k known e primary given up a) ∙ broken))) in
    ap (λ (b : Bool). cond b (option_map answers.Refused (broken_appointment (known_of m) e 0 (0 ∷ []) (replica m 0).up)) (Some (answers.Refused 9))) (booted_stands k images m booted s)
    ∙ ap (option_map answers.Refused) parts
