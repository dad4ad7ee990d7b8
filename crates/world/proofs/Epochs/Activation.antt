-- An activation: what it changes, and where it is refused.
use Rattle.std.proofs.Common.{◌≡◌, ◌∙◌, sym, ap, subst, refl, ℕ, ◌≤◌, Bool, true, false, cond, List, [], ◌∷◌, Option, Some, None, option_map, is_some, Result, Ok, Err, IfOk, OnOk, OnErr}
use Rattle.std.specs.Prelude.{find, All}
use Rattle.std.specs.Option.{option_map_or}
use Rattle.std.proofs.lemmas.List.Elements.{All-head, All-tail}
use Rattle.std.proofs.lemmas.Option.{same_Some, none-some}
use Rattle.world.proofs.States.Booted.{once_standing}
use Rattle.rc_base.specs.declared.ids.Epoch.{Epoch}
use Rattle.rc_base.specs.Ids.{is_epoch}
use Rattle.config_rule.specs.declared.appointments.Appointed.{Appointed}
use Rattle.config_rule.specs.Rule.{Known, broken_activation, after_activation, appointment_of}
use Rattle.disk_model.specs.Disk.{Areas}
use Rattle.events.specs.declared.event.Event.TheVariants.{Activate}
use Rattle.order_machine.specs.declared.observation.Observation.{Observation}
use Rattle.order_machine.specs.declared.observation.Observation.TheVariants as says
use Rattle.order_machine.specs.Machine as machine
use Rattle.order_machine.specs.Machine.{Machine, Appointment, known_of, has_role}
use Rattle.order_machine.specs.Transitions.{HoldsBehind, refusal, at_start, activating, activating_of, dropping, latest_primary}
use Rattle.order_machine.specs.Legal.{IsWhole, moved}
use Rattle.world.specs.declared.error.WorldError.{WorldError}
use Rattle.world.specs.declared.error.WorldError.TheVariants as errors
use Rattle.world.specs.Course.{AreNoted}
use Rattle.world.specs.Kept.{Kept, has_booted}
use Rattle.world.specs.World.{StandsFor, AsReplica, IsRuled, StillHolds, Serves}
use Rattle.world.proofs.Epochs.Previous.{dropped_at, AreAlone, replica_dropped, holds_replica, alone_replica}
use Rattle.world.proofs.States.Later.{ruled_of, replica_of, as_replica, booted_stands, replica_later}
use Rattle.world.proofs.Epochs.Rule.{activation_same, noted_current, noted_dropped}
use Rattle.world.proofs.States.Beginnings.{served_from}
use Rattle.world.proofs.States.HeldOrder.{stands_still}
use Rattle.events.specs.declared.answer.Answer.TheVariants as answers

-- ---- refusals

refusal_same : (k : Kept) (images : Areas → Type 0) (e : Epoch) (known : Known) (part : Option ℕ) → k.rule ≡ Some known → broken_activation known e ≡ part → (m : Machine) → StandsFor k images m → refusal m (Activate e) ≡ option_map answers.Refused part
refusal_same k images e known part rule broken m s =
    let booted : has_booted k ≡ true = ap is_some rule in
    let r = ruled_of k images m booted s in
    let same : r.known ≡ known = same_Some r.known known (sym r.rule ∙ rule) in
    let here : broken_activation (known_of m) e ≡ part = sym (activation_same k m r e) ∙ (ap (λ (x : Known). broken_activation x e) same ∙ broken) in
    once_standing m (option_map answers.Refused (broken_activation (known_of m) e)) (booted_stands k images m booted s) ∙ ap (option_map answers.Refused) here

pub activation_refused : (k : Kept) (images : Areas → Type 0) (e : Epoch) (known : Known) (part : ℕ) → k.rule ≡ Some known → broken_activation known e ≡ Some part → (m : Machine) → StandsFor k images m → refusal m (Activate e) ≡ Some (answers.Refused part)
activation_refused k images e known part rule broken m s = refusal_same k images e known (Some part) rule broken m s

-- ---- what it changes

found_by : (b : Bool) (x a : Appointment) (o : Option Appointment) → x.current ≡ 0 ∷ [] → (o ≡ Some a → a.current ≡ 0 ∷ []) → cond b (Some x) o ≡ Some a → a.current ≡ 0 ∷ []
found_by true x a o here rest f = subst (λ (y : Appointment). y.current ≡ 0 ∷ []) (same_Some x a f) here
found_by false x a o here rest f = rest f

found_alone : (e : Epoch) (xs : List Appointment) (a : Appointment) → All (λ x. x.current ≡ 0 ∷ []) xs → find (λ x. is_epoch e x.epoch) xs ≡ Some a → a.current ≡ 0 ∷ []
found_alone e [] a all found = absurd (none-some a found)
found_alone e (x ∷ xs) a all found =
    found_by (is_epoch e x.epoch) x a (find (λ y. is_epoch e y.epoch) xs) (All-head (λ (y : Appointment). y.current ≡ 0 ∷ []) x xs all) (found_alone e xs a (All-tail (λ (y : Appointment). y.current ≡ 0 ∷ []) x xs all)) found

-- nothing, or that a previous configuration is dropped
activating_by : (m : Machine) (e : Epoch) (P : Machine → Type 0) → AreAlone m → P m → ((f : Epoch) → P (dropped_at f m)) → P (activating m e)
activating_by m e P alone same dropped = by (machine.appointment_of m e) refl
  where
    config_is : (xs : List Appointment) (config : List ℕ) → config ≡ 0 ∷ [] → P (record m { appointments = xs }) → P (record m { config = config; appointments = xs })
    config_is xs config is p = subst (λ (c : List ℕ). P (record m { config = c; appointments = xs })) (alone.0 ∙ sym is) p

    done : (b : Bool) (a : Appointment) → P (record m { appointments = cond b (dropping a.epoch m.appointments) m.appointments })
    done true a = dropped a.epoch
    done false a = same

    by : (o : Option Appointment) → machine.appointment_of m e ≡ o → P (option_map_or (activating_of m) o m)
    by None found = same
    by (Some a) found = config_is (cond (has_role m a.primary a.epoch) (dropping a.epoch m.appointments) m.appointments) a.current (found_alone e m.appointments a alone.1 found) (done (has_role m a.primary a.epoch) a)

members_by : (b : Bool) (k : Appointed) (o : Option Appointed) (current : List ℕ) → k.cc ≡ 0 ∷ [] → option_map_or (λ a. a.cc) o current ≡ 0 ∷ [] → option_map_or (λ a. a.cc) (cond b (Some k) o) current ≡ 0 ∷ []
members_by true k o current here rest = here
members_by false k o current here rest = rest

-- the rule's configuration is the same
current_same : (known : List Appointed) (xs : List Appointment) → AreNoted known xs → All (λ x. x.current ≡ 0 ∷ []) xs → (e : Epoch) (current : List ℕ) → current ≡ 0 ∷ [] → option_map_or (λ a. a.cc) (appointment_of known e) current ≡ 0 ∷ []
current_same [] [] h all e current is = is
current_same [] (x ∷ xs) h all e current is = absurd h
current_same (k ∷ known) [] h all e current is = absurd h
current_same (k ∷ known) (x ∷ xs) h all e current is =
    members_by (is_epoch e k.epoch) k (appointment_of known e) current (h.0.members ∙ All-head (λ (y : Appointment). y.current ≡ 0 ∷ []) x xs all) (current_same known xs h.1 (All-tail (λ (y : Appointment). y.current ≡ 0 ∷ []) x xs all) e current is)

abbrev pub activated_in : Kept → ℕ → Known → Epoch → Kept
activated_in k number known e = record k { last = number; rule = Some (after_activation known e) }

ruled_same : (k : Kept) (number : ℕ) (m : Machine) (known : Known) (e : Epoch) → k.rule ≡ Some known → AreAlone m → IsRuled k m → IsRuled (activated_in k number known e) m
ruled_same k number m known e rule alone r =
    let same : r.known ≡ known = same_Some r.known known (sym r.rule ∙ rule) in
    let noted : AreNoted known.appointed m.appointments = subst (λ (x : Known). AreNoted x.appointed m.appointments) same r.appointed in
    let current : known.current ≡ 0 ∷ [] = ap (λ (x : Known). x.current) (sym same) ∙ (r.current ∙ alone.0) in
    record {
      known = after_activation known e;
      rule = refl;
      appointed = noted_current known.appointed m.appointments e noted;
      current = current_same known.appointed m.appointments noted alone.1 e known.current current ∙ sym alone.0;
      answers = ap (λ (x : Known). x.answers) (sym same) ∙ r.answers;
      order = r.order;
    }

ruled_dropped : (k : Kept) (f : Epoch) (m : Machine) → IsRuled k m → IsRuled k (dropped_at f m)
ruled_dropped k f m r = record { known = r.known; rule = r.rule; appointed = noted_dropped r.known.appointed m.appointments f r.appointed; current = r.current; answers = r.answers; order = r.order }

-- ---- the event

record Stands (new : Kept) (images : Areas → Type 0) (n : Machine) : Type 0 where
  replica : AsReplica new.replica new.last images n
  ruled : IsRuled new n
  holds : HoldsBehind n

pub activates : (k new : Kept) (images : Areas → Type 0) (e : Epoch) (known : Known) (number : ℕ) (lines : List Observation) → k.rule ≡ Some known → broken_activation known e ≡ None → k.last ≤ number → new ≡ activated_in k number known e → lines ≡ says.Done ∷ [] → Serves k new images images (Activate e) (Ok lines)
activates k new images e known number lines rule lawful rising kept told =
    subst (λ (w : Kept). Serves k w images images (Activate e) (Ok lines)) (sym kept) (subst (λ (ls : List Observation). Serves k behind images images (Activate e) (Ok ls)) (sym told) serves)
  where
    behind : Kept
    behind = activated_in k number known e

    serves : (m : Machine) → StandsFor k images m → IsWhole m (Activate e) (says.Done ∷ []) × StandsFor behind images (moved m (Activate e) (says.Done ∷ [])) × StillHolds m images
    serves m s =
        let booted : has_booted k ≡ true = ap is_some rule in
        let there : AsReplica k.replica number images m = replica_later k.replica k.last number images m rising (replica_of k images m booted s) in
        let alone : AreAlone m = alone_replica k.replica number images m there in
        let ruled : IsRuled behind m = ruled_same k number m known e rule alone (ruled_of k images m booted s) in
        let now : Stands behind images (activating m e) = activating_by m e (Stands behind images) alone
        (record { replica = there; ruled = ruled; holds = holds_replica k.replica number images m there })
        (λ f. let at : AsReplica k.replica number images (dropped_at f m) = replica_dropped f k.replica number images m there in record { replica = at; ruled = ruled_dropped behind f m ruled; holds = holds_replica k.replica number images (dropped_at f m) at }) in
        let done = served_from m (Activate e) (says.Done ∷ []) (at_start (activating m e) (Activate e) (latest_primary m) None []) (StandsFor behind images) (refusal_same k images e known None rule lawful m s) refl
        (record {
          may = (record { named = refl; in_rank = refl; next = refl; goes_on = refl; row = refl }, tt);
          complete = record { opened = refl; grown = refl; mounted = refl; told = refl; answered = refl };
          holds = now.holds;
        })
        (as_replica behind images (activating m e) refl now.replica now.ruled) in
        (done.0, done.1, stands_still k images m s)

pub activation_serves : (k new : Kept) (images : Areas → Type 0) (e : Epoch) (known : Known) (number : ℕ) (result : Result (List Observation) WorldError) → k.rule ≡ Some known → broken_activation known e ≡ None → k.last ≤ number → IfOk result (λ lines. lines ≡ says.Done ∷ []) → OnOk result (new ≡ activated_in k number known e) → OnErr result (result ≡ Err errors.NoMemory) → Serves k new images images (Activate e) result
activation_serves k new images e known number (Ok lines) rule lawful rising told kept memory = activates k new images e known number lines rule lawful rising kept told
activation_serves k new images e known number (Err w) rule lawful rising told kept memory =
    let none : w ≡ errors.NoMemory = cc in
    subst (λ (x : WorldError). Serves k new images images (Activate e) (Err x)) (sym none) (λ m s. stands_still k images m s)
