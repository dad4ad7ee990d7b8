-- What the rule of a world knows of the machine: the same parts of it fail, and what is noted stays so.
use Rattle.std.proofs.Common.{◌≡◌, ◌∙◌, ap, ap₂, refl, ℕ, zero, suc, ◌-◌, Bool, true, false, cond, ◌&&◌, List, [], ◌∷◌, ◌++◌, length, map, Option, Some}
use Rattle.std.specs.Prelude.{slice_get}
use Rattle.std.specs.List.{list_all}
use Rattle.std.specs.Option.{option_map_or}
use Rattle.std.proofs.lemmas.Bool.{and_parts}
use Rattle.rc_base.specs.declared.ids.Epoch.{Epoch}
use Rattle.rc_base.specs.Ids.{is_epoch, epoch_lt}
use Rattle.rc_base.proofs.SameIds.{is_epoch_same}
use Rattle.config_rule.specs.declared.answers.SurveyAnswer.{SurveyAnswer}
use Rattle.config_rule.specs.declared.appointments.Appointed.{Appointed}
use Rattle.config_rule.specs.Rule.{is_above, are_members, has_quorum, has_answered_last, tells_most, is_latest, was_active, appointment_of, first_broken, broken_appointment, broken_activation, changed_at, made_active, made_current}
use Rattle.order_machine.specs.Machine.{Machine, Appointment, as_appointed, known_of}
use Rattle.order_machine.specs.Transitions.{is_above_all, noting_active, dropping}
use Rattle.world.specs.Course.{IsNoted, AreNoted}
use Rattle.world.specs.Kept.{Kept}
use Rattle.world.specs.World.{IsRuled}
use Rattle.rc_base.proofs.EpochOrder.{epoch_lt_not}

-- ---- the parts of the rule

pub above_same : (known : List Appointed) (xs : List Appointment) → AreNoted known xs → (e : Epoch) → is_above known e ≡ list_all (λ a. epoch_lt a.epoch e) xs
above_same [] [] h e = refl
above_same [] (x ∷ xs) h e = absurd h
above_same (k ∷ known) [] h e = absurd h
above_same (k ∷ known) (x ∷ xs) h e = ap₂ (λ (a b : Bool). a && b) (ap (λ (z : Epoch). epoch_lt z e) h.0.epoch) (above_same known xs h.1 e)

-- what a survey is asked for
pub survey_same : (k : Kept) (m : Machine) (r : IsRuled k m) (e : Epoch) → is_above r.known.appointed e ≡ is_above_all m e
survey_same k m r e = above_same r.known.appointed m.appointments r.appointed e

above_known : (known : List Appointed) (xs : List Appointment) → AreNoted known xs → (e : Epoch) → is_above known e ≡ is_above (map as_appointed xs) e
above_known [] [] h e = refl
above_known [] (x ∷ xs) h e = absurd h
above_known (k ∷ known) [] h e = absurd h
above_known (k ∷ known) (x ∷ xs) h e = ap₂ (λ (a b : Bool). a && b) (ap (λ (z : Epoch). epoch_lt z e) h.0.epoch) (above_known known xs h.1 e)

abbrev parts_of : List ℕ → Epoch → ℕ → Bool → Bool → List ℕ → List SurveyAnswer → Option ℕ
parts_of members e p up above current answers =
    first_broken 1 (above ∷ are_members members p ∷ has_quorum answers current e ∷ has_answered_last answers e p ∷ tells_most answers e p ∷ up ∷ [])

pub appointment_same : (k : Kept) (m : Machine) (r : IsRuled k m) (e : Epoch) (p : ℕ) (members : List ℕ) (up : Bool) → broken_appointment r.known e p members up ≡ broken_appointment (known_of m) e p members up
appointment_same k m r e p members up =
    ap (λ (above : Bool). parts_of members e p up above r.known.current r.known.answers) (above_known r.known.appointed m.appointments r.appointed e)
    ∙ (ap (λ (current : List ℕ). parts_of members e p up (is_above (map as_appointed m.appointments) e) current r.known.answers) r.current
    ∙ ap (λ (answers : List SurveyAnswer). parts_of members e p up (is_above (map as_appointed m.appointments) e) m.config answers) r.answers)

pub noted_counts : (known : List Appointed) (xs : List Appointment) → AreNoted known xs → length known ≡ length (map as_appointed xs)
noted_counts [] [] h = refl
noted_counts [] (x ∷ xs) h = absurd h
noted_counts (k ∷ known) [] h = absurd h
noted_counts (k ∷ known) (x ∷ xs) h = ap suc (noted_counts known xs h.1)

epoch_at : (known : List Appointed) (xs : List Appointment) → AreNoted known xs → (e : Epoch) (n : ℕ) → option_map_or (λ a. is_epoch e a.epoch) (slice_get known n) false ≡ option_map_or (λ a. is_epoch e a.epoch) (slice_get (map as_appointed xs) n) false
epoch_at [] [] h e n = refl
epoch_at [] (x ∷ xs) h e n = absurd h
epoch_at (k ∷ known) [] h e n = absurd h
epoch_at (k ∷ known) (x ∷ xs) h e zero = ap (λ (z : Epoch). is_epoch e z) h.0.epoch
epoch_at (k ∷ known) (x ∷ xs) h e (suc n) = epoch_at known xs h.1 e n

latest_same : (known : List Appointed) (xs : List Appointment) → AreNoted known xs → (e : Epoch) → is_latest known e ≡ is_latest (map as_appointed xs) e
latest_same known xs h e =
    ap (λ (n : ℕ). option_map_or (λ a. is_epoch e a.epoch) (slice_get known (n - 1)) false) (noted_counts known xs h)
    ∙ epoch_at known xs h e (length (map as_appointed xs) - 1)

abbrev active_in : Option Appointed → Bool
active_in o = option_map_or (λ a. a.active) o false

active_by : (b : Bool) (k l : Appointed) (o p : Option Appointed) → k.active ≡ l.active → active_in o ≡ active_in p → active_in (cond b (Some k) o) ≡ active_in (cond b (Some l) p)
active_by true k l o p here rest = here
active_by false k l o p here rest = rest

active_same : (known : List Appointed) (xs : List Appointment) → AreNoted known xs → (e : Epoch) → was_active known e ≡ was_active (map as_appointed xs) e
active_same [] [] h e = refl
active_same [] (x ∷ xs) h e = absurd h
active_same (k ∷ known) [] h e = absurd h
active_same (k ∷ known) (x ∷ xs) h e =
    ap (λ (z : Epoch). active_in (cond (is_epoch e z) (Some k) (appointment_of known e))) h.0.epoch
    ∙ active_by (is_epoch e x.epoch) k (as_appointed x) (appointment_of known e) (appointment_of (map as_appointed xs) e) h.0.active (active_same known xs h.1 e)

pub activation_same : (k : Kept) (m : Machine) (r : IsRuled k m) (e : Epoch) → broken_activation r.known e ≡ broken_activation (known_of m) e
activation_same k m r e = ap₂ (λ (latest active : Bool). first_broken 7 (latest ∷ active ∷ [])) (latest_same r.known.appointed m.appointments r.appointed e) (active_same r.known.appointed m.appointments r.appointed e)

-- ---- an appointment more

pub noted_appointment : (known : List Appointed) (xs : List Appointment) (k : Appointed) (x : Appointment) → AreNoted known xs → IsNoted k x → AreNoted (known ++ k ∷ []) (xs ++ x ∷ [])
noted_appointment [] [] k x h new = (new, tt)
noted_appointment [] (y ∷ xs) k x h new = absurd h
noted_appointment (l ∷ known) [] k x h new = absurd h
noted_appointment (l ∷ known) (y ∷ xs) k x h new = (h.0, noted_appointment known xs k x h.1 new)

-- ---- the primary of the last one became active

-- whether the appointment is of the epoch is known on both sides
active_at : (b c : Bool) (known : List Appointed) (xs : List Appointment) (e : Epoch) (k : Appointed) (x : Appointment) → b ≡ true → c ≡ true → IsNoted k x → AreNoted known xs → AreNoted (cond b (made_active k ∷ known) (k ∷ changed_at e made_active known)) (cond c (record x { was_active = true }) x ∷ xs)
active_at true true known xs e k x b c here rest = (record { epoch = here.epoch; members = here.members; active = refl }, rest)
active_at true false known xs e k x b c here rest = cc
active_at false c known xs e k x b d here rest = cc

active_past : (b c : Bool) (known : List Appointed) (xs : List Appointment) (e : Epoch) (k : Appointed) (x : Appointment) → b ≡ false → c ≡ false → IsNoted k x → AreNoted (changed_at e made_active known) xs → AreNoted (cond b (made_active k ∷ known) (k ∷ changed_at e made_active known)) (cond c (record x { was_active = true }) x ∷ xs)
active_past false false known xs e k x b c here rest = (here, rest)
active_past false true known xs e k x b c here rest = cc
active_past true c known xs e k x b d here rest = cc

noted_active_one : (known : List Appointed) (a : Appointment) (e : Epoch) → AreNoted known (a ∷ []) → a.epoch ≡ e → AreNoted (changed_at e made_active known) (noting_active e (a ∷ []))
noted_active_one [] a e h last = absurd h
noted_active_one (k ∷ l ∷ known) a e h last = absurd h.1
noted_active_one (k ∷ []) a e h last =
    let of_a : is_epoch e a.epoch ≡ true = ap (λ (z : Epoch). is_epoch e z) last ∙ is_epoch_same e in
    active_at (is_epoch e k.epoch) (is_epoch e a.epoch) [] [] e k a (ap (λ (z : Epoch). is_epoch e z) h.0.epoch ∙ of_a) of_a h.0 tt

-- It is the last appointment, and each one before it is of an epoch below.
pub noted_active : (known : List Appointed) (xs : List Appointment) (a : Appointment) (e : Epoch) → AreNoted known (xs ++ a ∷ []) → list_all (λ b. epoch_lt b.epoch e) xs ≡ true → a.epoch ≡ e → AreNoted (changed_at e made_active known) (noting_active e (xs ++ a ∷ []))
noted_active known [] a e h below last = noted_active_one known a e h last
noted_active [] (x ∷ xs) a e h below last = absurd h
noted_active (k ∷ known) (x ∷ xs) a e h below last =
    let parts = and_parts (epoch_lt x.epoch e) (list_all (λ b. epoch_lt b.epoch e) xs) below in
    let not_x : is_epoch e x.epoch ≡ false = epoch_lt_not x.epoch e parts.0 in
    active_past (is_epoch e k.epoch) (is_epoch e x.epoch) known (noting_active e (xs ++ a ∷ [])) e k x (ap (λ (z : Epoch). is_epoch e z) h.0.epoch ∙ not_x) not_x h.0 (noted_active known xs a e h.1 parts.1 last)

-- ---- a configuration was activated

current_by : (b : Bool) (known : List Appointed) (xs : List Appointment) (e : Epoch) (k : Appointed) (x : Appointment) → IsNoted k x → AreNoted known xs → AreNoted (changed_at e made_current known) xs → AreNoted (cond b (made_current k ∷ known) (k ∷ changed_at e made_current known)) (x ∷ xs)
current_by true known xs e k x here same rest = (record { epoch = here.epoch; members = here.members; active = here.active }, same)
current_by false known xs e k x here same rest = (here, rest)

pub noted_current : (known : List Appointed) (xs : List Appointment) (e : Epoch) → AreNoted known xs → AreNoted (changed_at e made_current known) xs
noted_current [] [] e h = tt
noted_current [] (x ∷ xs) e h = absurd h
noted_current (k ∷ known) [] e h = absurd h
noted_current (k ∷ known) (x ∷ xs) e h = current_by (is_epoch e k.epoch) known xs e k x h.0 h.1 (noted_current known xs e h.1)

dropped_by : (b : Bool) (k : Appointed) (x : Appointment) → IsNoted k x → IsNoted k (cond b (record x { dropped = true }) x)
dropped_by true k x h = record { epoch = h.epoch; members = h.members; active = h.active }
dropped_by false k x h = h

-- what is noted doesn't tell whether a previous configuration was dropped
pub noted_dropped : (known : List Appointed) (xs : List Appointment) (e : Epoch) → AreNoted known xs → AreNoted known (dropping e xs)
noted_dropped [] [] e h = tt
noted_dropped [] (x ∷ xs) e h = absurd h
noted_dropped (k ∷ known) [] e h = absurd h
noted_dropped (k ∷ known) (x ∷ xs) e h = (dropped_by (is_epoch e x.epoch) k x h.0, noted_dropped known xs e h.1)
