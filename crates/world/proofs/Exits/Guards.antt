-- What a world refuses by what it keeps, the machine refuses; and what holds of an event that isn't refused.
use Rattle.std.proofs.Common.{◌≡◌, ◌∙◌, sym, ap, subst, refl, ℕ, Bool, true, false, cond, List, [], ◌∷◌, Option, Some, None, is_some}
use Rattle.std.specs.Option.{option_map, option_map_or}
use Rattle.std.proofs.lemmas.Option.{none-some, same_Some}
use Rattle.rc_base.specs.declared.ids.Epoch.{Epoch}
use Rattle.config_rule.specs.Rule.{Known, is_above, broken_appointment, broken_activation}
use Rattle.disk_model.specs.Disk.{Areas, Marks}
use Rattle.events.specs.declared.answer.Answer.{Answer}
use Rattle.events.specs.declared.answer.Answer.TheVariants as answers
use Rattle.events.specs.declared.event.Event.{Event}
use Rattle.events.specs.declared.event.Event.TheVariants.{Boot, Client, Arm, Crash, Reboot, Inspect, Survey, Appoint, Activate}
use Rattle.order_machine.specs.Machine.{Machine, is_booted, known_of, replica}
use Rattle.order_machine.specs.Transitions.{refusal, once_booted, down_of, is_above_all}
use Rattle.order_machine.specs.AnswerLines.{line_of_answer}
use Rattle.world.specs.Fleet.{is_done, marked, marked_by}
use Rattle.world.specs.Handling.{refusal_of, once_booted_in, down_in, already_up_in, survey_in}
use Rattle.world.specs.Kept.{Kept, has_booted}
use Rattle.world.specs.World.{StandsFor, IsHere}
use Rattle.world.proofs.States.Booted.{once_standing}
use Rattle.world.proofs.Exits.Common.{marks_same}
use Rattle.world.proofs.States.Later.{new_of, booted_stands}
use Rattle.world.proofs.Epochs.StartExits.{up_same}
use Rattle.world.proofs.Epochs.Survey.{above_is}

-- ---- the machine refuses it

booted_same : (k : Kept) (images : Areas → Type 0) (m : Machine) → StandsFor k images m → is_booted m ≡ has_booted k
booted_same k images m s = by (has_booted k) refl
  where
    by : (b : Bool) → has_booted k ≡ b → is_booted m ≡ has_booted k
    by true e = booted_stands k images m e s ∙ sym e
    by false e = let n = new_of k images m e s in subst (λ (x : Machine). is_booted x ≡ has_booted k) (sym n.is) (sym e)

-- what else refuses it, once it was booted
once_same : (k : Kept) (images : Areas → Type 0) (mine theirs : Option Answer) (m : Machine) → StandsFor k images m → (has_booted k ≡ true → theirs ≡ mine) → once_booted m theirs ≡ once_booted_in k mine
once_same k images mine theirs m s same = by (has_booted k) refl
  where
    by : (b : Bool) → has_booted k ≡ b → once_booted m theirs ≡ cond (has_booted k) mine (Some (answers.Refused 9))
    by true e = once_standing m theirs (booted_stands k images m e s) ∙ (same e ∙ ap (λ (b : Bool). cond b mine (Some (answers.Refused 9))) (sym e))
    by false e = ap (λ (b : Bool). cond b theirs (Some (answers.Refused 9))) (booted_same k images m s ∙ e) ∙ ap (λ (b : Bool). cond b mine (Some (answers.Refused 9))) (sym e)

down_same : (k : Kept) (images : Areas → Type 0) (r : ℕ) (m : Machine) → r ≡ 0 → StandsFor k images m → has_booted k ≡ true → down_of m r ≡ down_in k r
down_same k images r m first s booted =
    subst (λ (q : ℕ). down_of m q ≡ down_in k q) (sym first) (ap (λ (b : Bool). cond b None (Some (answers.Down 0))) (up_same k images m booted s))

survey_same : (k : Kept) (images : Areas → Type 0) (r : ℕ) (e : Epoch) (m : Machine) → r ≡ 0 → StandsFor k images m → (o : Option Known) → k.rule ≡ o → refusal m (Survey r e) ≡ option_map_or (survey_in k r e) o (Some (answers.Refused 9))
survey_same k images r e m first s None none = ap (λ (b : Bool). cond b (cond (is_above_all m e) (down_of m r) (Some (answers.Refused 1))) (Some (answers.Refused 9))) (booted_same k images m s ∙ ap is_some none)
survey_same k images r e m first s (Some known) rule =
    let booted : has_booted k ≡ true = ap is_some rule in
    once_standing m (cond (is_above_all m e) (down_of m r) (Some (answers.Refused 1))) (booted_stands k images m booted s)
    ∙ (ap (λ (b : Bool). cond b (down_of m r) (Some (answers.Refused 1))) (above_is k images e known (is_above known.appointed e) rule refl m s)
    ∙ ap (λ (o : Option Answer). cond (is_above known.appointed e) o (Some (answers.Refused 1))) (down_same k images r m first s booted))

-- a reconfiguration is refused before the boot
broken_first : (k : Kept) (told : Answer) → once_booted_in k None ≡ Some told → (images : Areas → Type 0) (theirs : Option Answer) (m : Machine) → StandsFor k images m → once_booted m theirs ≡ Some told
broken_first k told e images theirs m s = by (has_booted k) refl e
  where
    by : (b : Bool) → has_booted k ≡ b → cond b None (Some (answers.Refused 9)) ≡ Some told → once_booted m theirs ≡ Some told
    by true is e = absurd (none-some told e)
    by false is e = ap (λ (b : Bool). cond b theirs (Some (answers.Refused 9))) (booted_same k images m s ∙ is) ∙ e

pub refusal_mirrors : (k : Kept) (images : Areas → Type 0) (event : Event) (told : Answer) → IsHere event → refusal_of k event ≡ Some told → (m : Machine) → StandsFor k images m → refusal m event ≡ Some told
refusal_mirrors k images (Boot p members) told here e m s =
    let booted = booted_same k images m s in
    let given : refusal m (Boot 0 (0 ∷ [])) ≡ refusal_of k (Boot p members) = ap (λ (b : Bool). cond b (Some (answers.Refused 9)) None) booted in
    subst (λ (q : ℕ). refusal m (Boot q members) ≡ Some told) (sym here.0) (subst (λ (ms : List ℕ). refusal m (Boot 0 ms) ≡ Some told) (sym here.1) (given ∙ e))
refusal_mirrors k images (Client r call) told here e m s = once_same k images None None m s (λ _. refl) ∙ e
refusal_mirrors k images (Arm r calls) told here e m s = once_same k images (down_in k r) (down_of m r) m s (down_same k images r m here.0 s) ∙ e
refusal_mirrors k images (Crash r pick) told here e m s = once_same k images None None m s (λ _. refl) ∙ e
refusal_mirrors k images (Reboot r) told here e m s =
    once_same k images (already_up_in k) (cond (replica m r).up (Some answers.IgnoredUp) None) m s
    (λ booted. subst (λ (q : ℕ). cond (replica m q).up (Some answers.IgnoredUp) None ≡ cond (is_some k.replica) (Some answers.IgnoredUp) None) (sym here) (ap (λ (b : Bool). cond b (Some answers.IgnoredUp) None) (up_same k images m booted s)))
    ∙ e
refusal_mirrors k images (Inspect r) told here e m s = once_same k images (down_in k r) (down_of m r) m s (down_same k images r m here s) ∙ e
refusal_mirrors k images (Survey r epoch) told here e m s = survey_same k images r epoch m here s k.rule refl ∙ e
refusal_mirrors k images (Appoint epoch p members) told here e m s = broken_first k told e images (option_map answers.Refused (broken_appointment (known_of m) epoch p members (replica m p).up)) m s
refusal_mirrors k images (Activate epoch) told here e m s = broken_first k told e images (option_map answers.Refused (broken_activation (known_of m) epoch)) m s

-- ---- what holds of one that isn't refused

-- the world was booted, and nothing else refuses it
pub unrefused_once : (k : Kept) (rest : Option Answer) → once_booted_in k rest ≡ None → (has_booted k ≡ true) × (rest ≡ None)
unrefused_once k rest e = by (has_booted k) refl e
  where
    by : (b : Bool) → has_booted k ≡ b → cond b rest (Some (answers.Refused 9)) ≡ None → (has_booted k ≡ true) × (rest ≡ None)
    by true is e = (is, e)
    by false is e = absurd (none-some (answers.Refused 9) (sym e))

pub unrefused_up : (k : Kept) (r : ℕ) → down_in k r ≡ None → is_some k.replica ≡ true
unrefused_up k r e = by (is_some k.replica) refl e
  where
    by : (b : Bool) → is_some k.replica ≡ b → cond b None (Some (answers.Down r)) ≡ None → is_some k.replica ≡ true
    by true is e = is
    by false is e = absurd (none-some (answers.Down r) (sym e))

pub unrefused_reboot : (k : Kept) → already_up_in k ≡ None → is_some k.replica ≡ false
unrefused_reboot k e = by (is_some k.replica) refl e
  where
    by : (b : Bool) → is_some k.replica ≡ b → cond b (Some answers.IgnoredUp) None ≡ None → is_some k.replica ≡ false
    by true is e = absurd (none-some answers.IgnoredUp (sym e))
    by false is e = is

pub unrefused_boot : (k : Kept) → cond (has_booted k) (Some (answers.Refused 9)) None ≡ None → has_booted k ≡ false
unrefused_boot k e = by (has_booted k) refl e
  where
    by : (b : Bool) → has_booted k ≡ b → cond b (Some (answers.Refused 9)) None ≡ None → has_booted k ≡ false
    by true is e = absurd (none-some (answers.Refused 9) (sym e))
    by false is e = is

-- a survey that is done
pub record IsSurvey (k : Kept) (e : Epoch) : Type 0 where
  pub known : Known
  pub rule : k.rule ≡ Some known
  pub above : is_above known.appointed e ≡ true
  pub up : is_some k.replica ≡ true

pub unrefused_survey : (k : Kept) (r : ℕ) (e : Epoch) → refusal_of k (Survey r e) ≡ None → IsSurvey k e
unrefused_survey k r e none = by k.rule refl none
  where
    by_above : (known : Known) → k.rule ≡ Some known → (b : Bool) → is_above known.appointed e ≡ b → cond b (down_in k r) (Some (answers.Refused 1)) ≡ None → IsSurvey k e
    by_above known rule true above none = record { known = known; rule = rule; above = above; up = unrefused_up k r none }
    by_above known rule false above none = absurd (none-some (answers.Refused 1) (sym none))

    by : (o : Option Known) → k.rule ≡ o → option_map_or (survey_in k r e) o (Some (answers.Refused 9)) ≡ None → IsSurvey k e
    by None rule none = absurd (none-some (answers.Refused 9) (sym none))
    by (Some known) rule none = by_above known rule (is_above known.appointed e) refl none

-- ---- what is refused arms and stops nothing

once_line : (k : Kept) (rest : Option Answer) (told : Answer) → once_booted_in k rest ≡ Some told → (rest ≡ Some told → is_done (line_of_answer told ∷ []) ≡ false) → is_done (line_of_answer told ∷ []) ≡ false
once_line k rest told e more = by (has_booted k) e
  where
    by : (b : Bool) → cond b rest (Some (answers.Refused 9)) ≡ Some told → is_done (line_of_answer told ∷ []) ≡ false
    by true is = more is
    by false is = subst (λ (a : Answer). is_done (line_of_answer a ∷ []) ≡ false) (same_Some (answers.Refused 9) told is) refl

down_line : (k : Kept) (r : ℕ) (told : Answer) → down_in k r ≡ Some told → is_done (line_of_answer told ∷ []) ≡ false
down_line k r told e = by (is_some k.replica) e
  where
    by : (b : Bool) → cond b None (Some (answers.Down r)) ≡ Some told → is_done (line_of_answer told ∷ []) ≡ false
    by true is = absurd (none-some told is)
    by false is = subst (λ (a : Answer). is_done (line_of_answer a ∷ []) ≡ false) (same_Some (answers.Down r) told is) refl

pub refusal_marks : (k : Kept) (event : Event) (told : Answer) → refusal_of k event ≡ Some told → (x : Marks) → marked_by event (line_of_answer told ∷ []) 0 x ≡ x
refusal_marks k (Arm r calls) told e x = ap (λ (b : Bool). cond b (marked (Arm r calls) 0 x) x) (once_line k (down_in k r) told e (down_line k r told))
refusal_marks k (Crash r pick) told e x = ap (λ (b : Bool). cond b (marked (Crash r pick) 0 x) x) (once_line k None told e (λ none. absurd (none-some told none)))
refusal_marks k (Boot p members) told e x = sym (marks_same (Boot p members) (line_of_answer told ∷ []) x refl)
refusal_marks k (Client r call) told e x = sym (marks_same (Client r call) (line_of_answer told ∷ []) x refl)
refusal_marks k (Reboot r) told e x = sym (marks_same (Reboot r) (line_of_answer told ∷ []) x refl)
refusal_marks k (Inspect r) told e x = sym (marks_same (Inspect r) (line_of_answer told ∷ []) x refl)
refusal_marks k (Survey r epoch) told e x = sym (marks_same (Survey r epoch) (line_of_answer told ∷ []) x refl)
refusal_marks k (Appoint epoch p members) told e x = sym (marks_same (Appoint epoch p members) (line_of_answer told ∷ []) x refl)
refusal_marks k (Activate epoch) told e x = sym (marks_same (Activate epoch) (line_of_answer told ∷ []) x refl)
