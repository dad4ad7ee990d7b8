-- How a run goes on from one line to the next, and how it ends.
use Rattle.std.proofs.Common.{◌≡◌, ◌∙◌, sym, ap, ap₂, subst, ℕ, ◌+◌, ◌≤◌, ◌==◌, Bool, true, false, cond, flat_map, List, [], ◌∷◌, ◌++◌, length, take, drop, sum_by, Option, Some, None, Result, Ok, Err, refl, arith, inl, inr, append_assoc, ◌⊎◌}
use Rattle.std.proofs.lemmas.List.{append-nil, take-append-drop, length-append}
use Rattle.std.proofs.lemmas.List.Sums.{sum_by-append}
use Rattle.std.proofs.lemmas.Option.{none-some}
use Rattle.std.specs.List.{onto_first}
use Rattle.std.proofs.lemmas.Bool.{false≢true}
use Rattle.std.proofs.lemmas.Grind.{flat_map-append}
use Rattle.rc_base.specs.declared.limit_name.LimitName.{LimitName}
use Rattle.disk_model.specs.Disk.{Areas, Marks}
use Rattle.rc_io.specs.Lines.{raw_lines, line_text}
use Rattle.rc_io.specs.Limits.{before_end, limit_in, limit_of}
use Rattle.rc_io.specs.Reader.{Reading}
use Rattle.rc_io.specs.Reading.{GivesLine}
use Rattle.events.specs.declared.event.Event.{Event}
use Rattle.script_text.specs.Sentence.{Spells, IsSkipped, IsBad}
use Rattle.order_machine.specs.declared.observation.Observation.{Observation}
use Rattle.order_machine.specs.Machine.{empty_machine}
use Rattle.order_machine.specs.Legal.{Step, moved_all}
use Rattle.transcript_text.specs.Lines.{lines_text, transcript_of}
use Rattle.world.specs.Fleet.{images_of, faults_of, marks_of, faults_in, marked_by, RoseBy}
use Rattle.world.specs.declared.error.WorldError.TheVariants as errors
use Rattle.world.specs.Kept.{Kept}
use Rattle.world.specs.World.{StandsFor}
use Rattle.shell.specs.Fleet.{Keeps, faults_told}
use Rattle.shell.specs.Text.{bad_line_text, limit_line_text}
use Rattle.shell.specs.Ran.{Ending, AtEnd, AtBadLine, AtLimit, AtMachineLimit, AtUnbuilt, CutShort, Ends, ArePrinted, Begins, IsClean, IsStatusOf, IsPrintedInPart, Ran, closing}
use Rattle.shell.specs.Script.{with_last}
use Rattle.shell.specs.Reached.{Done, Reached, HasEnded, RunEnded, Writes, status_of}
use Rattle.shell.specs.declared.lines.WriteError.{WriteError}
use Rattle.shell.specs.declared.lines.WriteError.TheVariants.{Failed, NoMemory}
use Rattle.shell.proofs.Disks.{Did, keeps, keeps_failed, keeps_begun, rose_none, rose_more, faults_more, marks_more}
use Rattle.shell.proofs.Steps.{step_of, skipped_more, spelled_more, all_within, whole_more, servable_more, moved_more, written_more}

-- ---- the beginning

pub at_first : {M : Type 0} {images : M → Areas → Type 0} {faults : M → ℕ} {marks : M → Marks} {fleet : List M} (input held : List ℕ) (world : Kept) → StandsFor world (images_of images fleet 0) empty_machine → Reached images faults marks input held (record { ahead = []; lines = 0; given = 0 }) fleet fleet world input held
at_first {M} {images} {faults} {marks} {fleet} input held world s = record {
  before = [];
  counted = refl;
  given = refl;
  done = record {
    steps = [];
    cut = refl;
    within = tt;
    spelled = tt;
    whole = tt;
    servable = tt;
    stands = s;
    faulted = λ r. rose_none (faults_of faults fleet r);
    armed = λ r. refl;
    text = sym (append-nil held);
  };
}

-- ---- the end

-- the lines before one are fewer than those with it
pub one_less : (before : List (List ℕ)) (raw : List ℕ) → length before ≤ length (before ++ raw ∷ [])
one_less before raw = omega (arith, length-append before (raw ∷ []))

-- The run ends where the lines that are done are written, and what is left to write, whole or in part: the lines of an event
-- that was begun, and what closes the run.
pub closes : {M : Type 0} {images : M → Areas → Type 0} {faults : M → ℕ} {marks : M → Marks} {first was fleet : List M} (input held now : List ℕ) (most : ℕ) (before left : List (List ℕ)) (world : Kept) (holds : Option (List ℕ)) (last : Option Step) (ending : Ending) (rest : List ℕ) (status : ℕ) {T : Type 0} (result : Result T WriteError) → length before ≤ most →
    (d : Done images faults marks input held before left first was world now) → ((n : ℕ) → Keeps images faults marks first fleet d.steps last left n) → Keeps images faults marks first fleet d.steps None left 8 → Ends ending before left (moved_all empty_machine d.steps) last → IsStatusOf ending status → ((part : List ℕ) → Begins (transcript_of d.steps) part → ArePrinted ending d.steps part) →
    transcript_of (with_last d.steps last) ++ closing ending (length before + 1) ≡ transcript_of d.steps ++ rest → Writes rest (Some now) holds result → HasEnded images faults marks input held most first fleet (status_of result status) holds
closes input held now most before left world holds last ending rest status (Ok t) low d k short e s p all w = (
  transcript_of d.steps ++ rest,
  w ∙ ap Some (ap (λ xs. xs ++ rest) d.text ∙ append_assoc held (transcript_of d.steps) rest),
  record { before = before; left = left; steps = d.steps; last = last; ending = ending; lines = d.cut; within = d.within; spelled = d.spelled; whole = d.whole; servable = d.servable; ended = e; text = inl (s, sym all) },
  k status,
  low,
)
closes input held now most before left world holds last ending rest status (Err Failed) low d k short e s p all w =
    let part = take w.0 rest in (
      transcript_of d.steps ++ part,
      w.1 ∙ ap Some (ap (λ xs. xs ++ part) d.text ∙ append_assoc held (transcript_of d.steps) part),
      record {
        before = before;
        left = left;
        steps = d.steps;
        last = last;
        ending = ending;
        lines = d.cut;
        within = d.within;
        spelled = d.spelled;
        whole = d.whole;
        servable = d.servable;
        ended = e;
        text = inr (record {
          failed = refl;
          part = (drop w.0 rest, append_assoc (transcript_of d.steps) part (drop w.0 rest) ∙ (ap (λ xs. transcript_of d.steps ++ xs) (take-append-drop w.0 rest) ∙ sym all));
          printed = p (transcript_of d.steps ++ part) (part, refl);
        });
      },
      k 5,
      low,
    )
closes input held now most before left world holds last ending rest status (Err NoMemory) low d k short e s p all w = (
  transcript_of d.steps,
  w ∙ ap Some d.text,
  record {
    before = before;
    left = left;
    steps = d.steps;
    last = None;
    ending = CutShort;
    lines = d.cut;
    within = d.within;
    spelled = d.spelled;
    whole = d.whole;
    servable = d.servable;
    ended = refl;
    text = inl (inr refl, sym (append-nil (transcript_of d.steps)));
  },
  short,
  low,
)

-- the run ends with nothing more to write
pub stops : {M : Type 0} {images : M → Areas → Type 0} {faults : M → ℕ} {marks : M → Marks} {first was fleet : List M} (input held now : List ℕ) (most : ℕ) (before left : List (List ℕ)) (world : Kept) (holds : Option (List ℕ)) (ending : Ending) (status : ℕ) → length before ≤ most →
    (d : Done images faults marks input held before left first was world now) → Keeps images faults marks first fleet d.steps None left status → Ends ending before left (moved_all empty_machine d.steps) None → IsStatusOf ending status → closing ending (length before + 1) ≡ [] →
    holds ≡ Some now → HasEnded images faults marks input held most first fleet status holds
stops input held now most before left world holds ending status low d k e s c h = (
  transcript_of d.steps,
  h ∙ ap Some d.text,
  record {
    before = before;
    left = left;
    steps = d.steps;
    last = None;
    ending = ending;
    lines = d.cut;
    within = d.within;
    spelled = d.spelled;
    whole = d.whole;
    servable = d.servable;
    ended = e;
    text = inl (s, sym (ap (λ xs. transcript_of d.steps ++ xs) c ∙ append-nil (transcript_of d.steps)));
  },
  k,
  low,
)

-- ---- one line

-- a line that is skipped
pub after_skipped : {M : Type 0} {images : M → Areas → Type 0} {faults : M → ℕ} {marks : M → Marks} {first fleet : List M} (input held now : List ℕ) (before left : List (List ℕ)) (raw : List ℕ) (world : Kept) → Done images faults marks input held before (raw ∷ left) first fleet world now → limit_in (length before) (sum_by length before) raw ≡ None → IsSkipped (line_text raw) →
    Done images faults marks input held (before ++ raw ∷ []) left first fleet world now
after_skipped input held now before left raw world d l s = record {
  steps = d.steps;
  cut = d.cut ∙ sym (append_assoc before (raw ∷ []) left);
  within = all_within before raw d.within l;
  spelled = skipped_more 1 before d.steps raw d.spelled s;
  whole = d.whole;
  servable = d.servable;
  stands = d.stands;
  faulted = d.faulted;
  armed = d.armed;
  text = d.text;
}

-- a line whose event is done and written
pub after_event : {M : Type 0} {images : M → Areas → Type 0} {faults : M → ℕ} {marks : M → Marks} {first was fleet : List M} (input held now now' : List ℕ) (before left : List (List ℕ)) (raw : List ℕ) (old new : Kept) (number : ℕ) (event : Event) (lines : List Observation) →
    Done images faults marks input held before (raw ∷ left) first was old now → limit_in (length before) (sum_by length before) raw ≡ None → Spells (line_text raw) event → number ≡ length before + 1 → Did images faults marks old new was fleet event (Ok lines) →
    now' ≡ now ++ lines_text number lines → Done images faults marks input held (before ++ raw ∷ []) left first fleet new now'
after_event {M} {images} {faults} {marks} {first} {was} {fleet} input held now now' before left raw old new number event lines d l spells n did t =
    let s = step_of number event lines in
    let done = did.serves (moved_all empty_machine d.steps) d.stands in
    record {
      steps = d.steps ++ s ∷ [];
      cut = d.cut ∙ sym (append_assoc before (raw ∷ []) left);
      within = all_within before raw d.within l;
      spelled = spelled_more 1 before d.steps raw s d.spelled (omega arith) spells;
      whole = whole_more [] empty_machine d.steps s d.whole done.0;
      servable = servable_more empty_machine d.steps s d.servable (did.servable (moved_all empty_machine d.steps) d.stands);
      stands = subst (StandsFor new (images_of images fleet 0)) (sym (moved_more empty_machine d.steps s)) done.1;
      faulted = λ r.
          subst (λ n. RoseBy n (faults_of faults first r) (faults_of faults fleet r)) (sym (faults_more r d.steps s))
          (rose_more (faults_told r d.steps) (faults_in r lines) (faults_of faults first r) (faults_of faults was r) (faults_of faults fleet r) (d.faulted r) (did.faulted r));
      armed = λ r. did.marked r ∙ (ap (λ k. marked_by event lines r k) (d.armed r) ∙ sym (marks_more r d.steps s (marks_of marks first r)));
      text = t ∙ ap (λ xs. xs ++ lines_text number lines) d.text ∙ append_assoc held (transcript_of d.steps) (lines_text number lines) ∙ ap (λ xs. held ++ xs) (sym (written_more d.steps s));
    }

-- an event that is done, and whose lines are written whole, in part, or not at all
pub event_cut_off : {M : Type 0} {images : M → Areas → Type 0} {faults : M → ℕ} {marks : M → Marks} {first was fleet : List M} (input held now : List ℕ) (most : ℕ) (before left : List (List ℕ)) (raw : List ℕ) (old new : Kept) (holds : Option (List ℕ)) (number : ℕ) (event : Event) (lines : List Observation) (n : ℕ) →
    Done images faults marks input held before (raw ∷ left) first was old now → limit_in (length before) (sum_by length before) raw ≡ None → Spells (line_text raw) event → number ≡ length before + 1 → Did images faults marks old new was fleet event (Ok lines) →
    length (before ++ raw ∷ []) ≤ most → holds ≡ Some (now ++ take n (lines_text number lines)) → HasEnded images faults marks input held most first fleet 5 holds
unfolding after_event
event_cut_off {M} {images} {faults} {marks} {first} {was} {fleet} input held now most before left raw old new holds number event lines n d l spells at did low w =
    let text = lines_text number lines in
    let all : Done images faults marks input held (before ++ raw ∷ []) left first fleet new (now ++ text) = after_event input held now (now ++ text) before left raw old new number event lines d l spells at did refl in (
      transcript_of d.steps ++ take n text,
      w ∙ ap Some (ap (λ xs. xs ++ take n text) d.text ∙ append_assoc held (transcript_of d.steps) (take n text)),
      record {
        before = before ++ raw ∷ [];
        left = left;
        steps = all.steps;
        last = None;
        ending = CutShort;
        lines = all.cut;
        within = all.within;
        spelled = all.spelled;
        whole = all.whole;
        servable = all.servable;
        ended = refl;
        text = inr (record {
          failed = refl;
          part = (
            drop n text,
            append_assoc (transcript_of d.steps) (take n text) (drop n text)
                ∙ ap (λ xs. transcript_of d.steps ++ xs) (take-append-drop n text)
                ∙ sym (append-nil (transcript_of all.steps) ∙ written_more d.steps (step_of number event lines)),
          );
          printed = (d.steps, step_of number event lines, refl, (take n text, refl));
        });
      },
      keeps input held (now ++ text) (before ++ raw ∷ []) left new all left 5,
      low,
    )

-- ---- between two lines

-- the reader gave a line
pub at_line : {M : Type 0} {images : M → Areas → Type 0} {faults : M → ℕ} {marks : M → Marks} {first fleet : List M} (input held ahead ahead' now : List ℕ) (old new : Reading) (world : Kept) (text : List ℕ) (r : Reached images faults marks input held old first fleet world ahead now) (g : GivesLine old new ahead ahead' text) →
    Done images faults marks input held r.before (g.raw ∷ raw_lines ahead') first fleet world now
at_line input held ahead ahead' now old new world text r g = record {
  steps = r.done.steps;
  cut = r.done.cut ∙ ap (λ xs. r.before ++ xs) g.first;
  within = r.done.within;
  spelled = r.done.spelled;
  whole = r.done.whole;
  servable = r.done.servable;
  stands = r.done.stands;
  faulted = r.done.faulted;
  armed = r.done.armed;
  text = r.done.text;
}

-- it reaches no limit
pub line_within : {M : Type 0} {images : M → Areas → Type 0} {faults : M → ℕ} {marks : M → Marks} {first fleet : List M} (input held ahead ahead' now : List ℕ) (old new : Reading) (world : Kept) (text : List ℕ) (r : Reached images faults marks input held old first fleet world ahead now) (g : GivesLine old new ahead ahead' text) →
    limit_in (length r.before) (sum_by length r.before) g.raw ≡ None
line_within input held ahead ahead' now old new world text r g =
    ap (λ k. limit_in k (sum_by length r.before) g.raw) r.counted ∙ (ap (λ k. limit_in old.lines k g.raw) r.given ∙ g.within)

-- and it is done
pub next_reached : {M : Type 0} {images : M → Areas → Type 0} {faults : M → ℕ} {marks : M → Marks} {first fleet fleet' : List M} (input held ahead ahead' now now' : List ℕ) (old new : Reading) (world world' : Kept) (text : List ℕ) (r : Reached images faults marks input held old first fleet world ahead now) (g : GivesLine old new ahead ahead' text) →
    new.lines ≡ old.lines + 1 → Done images faults marks input held (r.before ++ g.raw ∷ []) (raw_lines ahead') first fleet' world' now' → Reached images faults marks input held new first fleet' world' ahead' now'
next_reached input held ahead ahead' now now' old new world world' text r g n d = record {
  before = r.before ++ g.raw ∷ [];
  counted = let c = r.counted in omega (arith, length-append r.before (g.raw ∷ []));
  given = sum_by-append length r.before (g.raw ∷ []) ∙ (let a = r.given in let b = g.given in omega arith);
  done = d;
}

-- ---- the last line

-- the run ends at a bad line
pub ends_at_bad_line : {M : Type 0} {images : M → Areas → Type 0} {faults : M → ℕ} {marks : M → Marks} {first was fleet : List M} (input held now : List ℕ) (most : ℕ) (before left : List (List ℕ)) (raw : List ℕ) (world : Kept) (old holds : Option (List ℕ)) (number status : ℕ) {T : Type 0} (result : Result T WriteError) →
    (d : Done images faults marks input held before (raw ∷ left) first was world now) → ((n : ℕ) → Keeps images faults marks first fleet d.steps None (raw ∷ left) n) → IsBad (line_text raw) → limit_in (length before) (sum_by length before) raw ≡ None → length before ≤ most → number ≡ length before + 1 → old ≡ Some now →
    Writes (bad_line_text number) old holds result → status ≡ status_of result 3 → HasEnded images faults marks input held most first fleet status holds
ends_at_bad_line {M} {images} {faults} {marks} {first} {was} {fleet} input held now most before left raw world old holds number status {T} result d k bad within low at o w s =
    let P : ℕ → Type 0 = λ n. HasEnded images faults marks input held most first fleet n holds in
    let N : ℕ → Type 0 = λ n. Writes (bad_line_text n) (Some now) holds result in
    let O : Option (List ℕ) → Type 0 = λ k. Writes (bad_line_text number) k holds result in
    subst P (sym s) (closes input held now most before (raw ∷ left) world holds None AtBadLine (bad_line_text (length before + 1)) 3 result low d k (k 8) (bad, within, refl) refl (λ part b. b) refl (subst N at (subst O o w)))

-- the run ends at a limit
pub ends_at_limit : {M : Type 0} {images : M → Areas → Type 0} {faults : M → ℕ} {marks : M → Marks} {first fleet : List M} (input held now : List ℕ) (most : ℕ) (before left : List (List ℕ)) (world : Kept) (old holds : Option (List ℕ)) (number status : ℕ) (which : LimitName) {T : Type 0} (result : Result T WriteError) →
    (d : Done images faults marks input held before left first fleet world now) → limit_of (length before) (sum_by length before) left ≡ Some which → length before ≤ most → number ≡ length before + 1 → old ≡ Some now →
    Writes (limit_line_text number which) old holds result → status ≡ status_of result 9 → HasEnded images faults marks input held most first fleet status holds
ends_at_limit {M} {images} {faults} {marks} {first} {fleet} input held now most before left world old holds number status which {T} result d reached low at o w s =
    let P : ℕ → Type 0 = λ n. HasEnded images faults marks input held most first fleet n holds in
    let N : ℕ → Type 0 = λ n. Writes (limit_line_text n which) (Some now) holds result in
    let O : Option (List ℕ) → Type 0 = λ k. Writes (limit_line_text number which) k holds result in
    subst P (sym s) (closes input held now most before left world holds None (AtLimit which) (limit_line_text (length before + 1) which) 9 result low d (keeps input held now before left world d left) (keeps input held now before left world d left 8) (reached, refl) refl (λ part b. b) refl (subst N at (subst O o w)))

-- The run ends at an event that reaches a limit of the machine.
pub ends_at_machine_limit : {M : Type 0} {images : M → Areas → Type 0} {faults : M → ℕ} {marks : M → Marks} {first was fleet : List M} (input held now : List ℕ) (most : ℕ) (before left : List (List ℕ)) (raw : List ℕ) (world new : Kept) (old holds : Option (List ℕ)) (number status : ℕ) (event : Event) (which : LimitName) (lines : List Observation) {T : Type 0} (result : Result T WriteError) →
    (d : Done images faults marks input held before (raw ∷ left) first was world now) → Did images faults marks world new was fleet event (Err (errors.Limit which lines)) → Spells (line_text raw) event → limit_in (length before) (sum_by length before) raw ≡ None → length before ≤ most → number ≡ length before + 1 → old ≡ Some now →
    Writes (lines_text number lines ++ limit_line_text number which) old holds result → status ≡ status_of result 9 → HasEnded images faults marks input held most first fleet status holds
ends_at_machine_limit {M} {images} {faults} {marks} {first} {was} {fleet} input held now most before left raw world new old holds number status event which lines {T} result d did spells within low at o w s =
    let P : ℕ → Type 0 = λ n. HasEnded images faults marks input held most first fleet n holds in
    let N : ℕ → Type 0 = λ n. Writes (lines_text number lines ++ limit_line_text n which) (Some now) holds result in
    let O : Option (List ℕ) → Type 0 = λ k. Writes (lines_text number lines ++ limit_line_text number which) k holds result in
    let last = step_of number event lines in
    let reached = did.serves (moved_all empty_machine d.steps) d.stands in
    subst P (sym s)
    (closes input held now most before (raw ∷ left) world holds (Some last) (AtMachineLimit which) (lines_text number lines ++ limit_line_text (length before + 1) which) 9 result low d
    (keeps_begun input held now before (raw ∷ left) world new number event (errors.Limit which lines) lines d did reached.1 (raw ∷ left))
    (keeps_failed input held now before (raw ∷ left) world new event (errors.Limit which lines) d did (raw ∷ left) 8)
    (last, refl, record { number = at; spelled = spells; begun = reached.2; within = within }, reached.0, reached.1) refl (λ part b. b)
    (ap (λ xs. xs ++ limit_line_text (length before + 1) which) (written_more d.steps last) ∙ append_assoc (transcript_of d.steps) (lines_text number lines) (limit_line_text (length before + 1) which))
    (subst N at (subst O o w)))

pub eight_four : ◌≡◌ {A = ℕ} 8 4 → ⊥
eight_four e = cc

-- nothing was done: out of memory
pub nothing_done : {M : Type 0} {images : M → Areas → Type 0} {faults : M → ℕ} {marks : M → Marks} {fleet : List M} (input held : List ℕ) (holds : Option (List ℕ)) → holds ≡ Some held → RunEnded images faults marks input held input fleet fleet 8 holds
nothing_done {M} {images} {faults} {marks} {fleet} input held holds h = (
  [],
  h ∙ ap Some (sym (append-nil held)),
  record { before = []; left = raw_lines input; steps = []; last = None; ending = CutShort; lines = refl; within = tt; spelled = tt; whole = tt; servable = tt; ended = refl; text = inl (inr refl, refl) },
  record { disks = λ booted. absurd (false≢true booted); faulted = λ r. rose_none (faults_of faults fleet r); armed = inl (λ r. refl) },
  ([], refl, λ four. absurd (eight_four four)),
)

-- ---- what was read

abbrev flat : List (List ℕ) → List ℕ
flat raws = flat_map (λ raw. raw) raws

flat_first : (byte : ℕ) (raws : List (List ℕ)) → flat (onto_first byte raws) ≡ byte ∷ flat raws
flat_first byte [] = refl
flat_first byte (raw ∷ raws) = refl

-- the lines of an input, one after the other, are the input
flat_lines : (input : List ℕ) → flat (raw_lines input) ≡ input
flat_lines [] = refl
flat_lines (byte ∷ bytes) = by (byte == 10) (flat_lines bytes)
  where
    by : (b : Bool) → flat (raw_lines bytes) ≡ bytes → flat (cond b ((byte ∷ []) ∷ raw_lines bytes) (onto_first byte (raw_lines bytes))) ≡ byte ∷ bytes
    by true same = ap (λ (xs : List ℕ). byte ∷ xs) same
    by false same = flat_first byte (raw_lines bytes) ∙ ap (λ (xs : List ℕ). byte ∷ xs) same

-- of two beginnings of the same lines the shorter is a beginning of the longer
shorter_begins : (b l g t : List (List ℕ)) → b ++ l ≡ g ++ t → length b ≤ length g → (m : List (List ℕ)) × (g ≡ b ++ m)
shorter_begins [] l g t e low = (g, refl)
shorter_begins (x ∷ b) l [] t e low = absurd (omega (arith, low))
shorter_begins (x ∷ b) l (y ∷ g) t e low =
    let first : y ≡ x = cc in
    let rest : b ++ l ≡ g ++ t = cc in
    let more = shorter_begins b l g t rest (omega (arith, low)) in
    (more.0, ap₂ (λ (z : List ℕ) (zs : List (List ℕ)). z ∷ zs) first more.1)

-- what was read behind the lines that are done
read_behind : (input ahead unread : List ℕ) (before left given : List (List ℕ)) → raw_lines input ≡ before ++ left → raw_lines input ≡ given ++ raw_lines (ahead ++ unread) → length before ≤ length given →
    (m : List (List ℕ)) × ((flat before ++ (flat m ++ ahead)) ++ unread ≡ input)
read_behind input ahead unread before left given lines cut low =
    let more = shorter_begins before left given (raw_lines (ahead ++ unread)) (sym lines ∙ cut) low in
    let all : input ≡ flat given ++ (ahead ++ unread) = sym (flat_lines input) ∙ (ap flat cut ∙ (flat_map-append (λ (raw : List ℕ). raw) given (raw_lines (ahead ++ unread)) ∙ ap (λ (xs : List ℕ). flat given ++ xs) (flat_lines (ahead ++ unread)))) in
    let cut_given : flat given ≡ flat before ++ flat more.0 = ap flat more.1 ∙ flat_map-append (λ (raw : List ℕ). raw) before more.0 in (
      more.0,
      ap (λ (xs : List ℕ). xs ++ unread) (sym (append_assoc (flat before) (flat more.0) ahead)) ∙ (append_assoc (flat before ++ flat more.0) ahead unread ∙ sym (all ∙ ap (λ (xs : List ℕ). xs ++ (ahead ++ unread)) cut_given)),
    )

pub zero_four : ◌≡◌ {A = ℕ} 0 4 → ⊥
zero_four e = cc

-- a line that tells a limit leaves another status than that of a failed source
pub limit_status : {T : Type 0} (result : Result T WriteError) (status : ℕ) → status ≡ status_of result 9 → status ≡ 4 → ⊥
limit_status (Ok t) status is four = cc
limit_status (Err Failed) status is four = cc
limit_status (Err NoMemory) status is four = cc

-- the lines that the reader gave, and what it holds then
pub lines_read : {M : Type 0} {images : M → Areas → Type 0} {faults : M → ℕ} {marks : M → Marks} {first fleet : List M} (input held ahead ahead' now : List ℕ) (old new : Reading) (world : Kept) (text : List ℕ) (r : Reached images faults marks input held old first fleet world ahead now) (g : GivesLine old new ahead ahead' text) →
    raw_lines input ≡ (r.before ++ g.raw ∷ []) ++ raw_lines ahead'
lines_read input held ahead ahead' now old new world text r g = r.done.cut ∙ (ap (λ xs. r.before ++ xs) g.first ∙ sym (append_assoc r.before (g.raw ∷ []) (raw_lines ahead')))

-- where nothing was given, the same is left
pub done_at : {M : Type 0} {images : M → Areas → Type 0} {faults : M → ℕ} {marks : M → Marks} {first fleet : List M} (input held now : List ℕ) (before : List (List ℕ)) (ahead ahead' : List ℕ) (world : Kept) → Done images faults marks input held before (raw_lines ahead) first fleet world now → ahead ≡ ahead' → Done images faults marks input held before (raw_lines ahead') first fleet world now
done_at {M} {images} {faults} {marks} {first} {fleet} input held now before ahead ahead' world d same = subst (λ (xs : List ℕ). Done images faults marks input held before (raw_lines xs) first fleet world now) same d

-- a run that ended with another status than that of a failed source
pub ended_read : {M : Type 0} {images : M → Areas → Type 0} {faults : M → ℕ} {marks : M → Marks} {first fleet : List M} (input held ahead unread : List ℕ) (given : List (List ℕ)) (most status : ℕ) (holds : Option (List ℕ)) → raw_lines input ≡ given ++ raw_lines (ahead ++ unread) → most ≡ length given → (status ≡ 4 → ⊥) →
    HasEnded images faults marks input held most first fleet status holds → RunEnded images faults marks input held unread first fleet status holds
ended_read input held ahead unread given most status holds cut counted other h =
    let read = read_behind input ahead unread h.2.before h.2.left given h.2.lines cut (let low = h.4 in omega (arith, low, counted)) in
    (h.0, h.1, h.2, h.3, (flat read.0 ++ ahead, read.1, λ four. absurd (other four)))

-- the source failed
pub failed_read : {M : Type 0} {images : M → Areas → Type 0} {faults : M → ℕ} {marks : M → Marks} {first fleet : List M} (input held now ahead unread : List ℕ) (before : List (List ℕ)) (world : Kept) (holds : Option (List ℕ)) →
    (d : Done images faults marks input held before (raw_lines (ahead ++ unread)) first fleet world now) → before_end ahead ≡ length ahead → holds ≡ Some now → RunEnded images faults marks input held unread first fleet 4 holds
failed_read input held now ahead unread before world holds d no_end h =
    let all : input ≡ flat before ++ (ahead ++ unread) = sym (flat_lines input) ∙ (ap flat d.cut ∙ (flat_map-append (λ (raw : List ℕ). raw) before (raw_lines (ahead ++ unread)) ∙ ap (λ (xs : List ℕ). flat before ++ xs) (flat_lines (ahead ++ unread)))) in (
      transcript_of d.steps,
      h ∙ ap Some d.text,
      record {
        before = before;
        left = raw_lines (ahead ++ unread);
        steps = d.steps;
        last = None;
        ending = CutShort;
        lines = d.cut;
        within = d.within;
        spelled = d.spelled;
        whole = d.whole;
        servable = d.servable;
        ended = refl;
        text = inl (inl refl, sym (append-nil (transcript_of d.steps)));
      },
      keeps input held now before (raw_lines (ahead ++ unread)) world d (raw_lines (ahead ++ unread)) 4,
      (ahead, append_assoc (flat before) ahead unread ∙ sym all, λ four. no_end),
    )

-- ---- completeness

-- a run of a clean input that no fault ends was to the end, or memory was wanted
pub complete : (input : List ℕ) (status : ℕ) (written : List ℕ) → Ran input status written → IsClean input → (status ≡ 4 → ⊥) → (status ≡ 5 → ⊥) → (status ≡ 0) ⊎ (status ≡ 8)
complete input status written r clean source sink = by_text r.text
  where
    at : (ending : Ending) → Ends ending r.before r.left (moved_all empty_machine r.steps) r.last → IsStatusOf ending status → (status ≡ 0) ⊎ (status ≡ 8)
    at AtEnd e s = inl s
    at AtBadLine e s = absurd (((clean r.before r.left r.lines).1 r.steps r.spelled r.whole).0 e.0)
    at (AtLimit which) e s = absurd (none-some which (sym (clean r.before r.left r.lines).0 ∙ e.0))
    at (AtMachineLimit which) e s = absurd (none-some which (sym (((clean r.before r.left r.lines).1 r.steps r.spelled r.whole).1 e.0.event e.2.spelled).unlimited ∙ e.3))
    at AtUnbuilt e s = absurd ((((clean r.before r.left r.lines).1 r.steps r.spelled r.whole).1 e.0.event e.2.spelled).is_built e.3)
    at CutShort e (inl s) = absurd (source s)
    at CutShort e (inr s) = inr s

    by_text : {W : Type 0} {all : List ℕ} → (IsStatusOf r.ending status × W) ⊎ IsPrintedInPart r.ending r.steps status written all → (status ≡ 0) ⊎ (status ≡ 8)
    by_text (inl s) = at r.ending r.ended s.0
    by_text (inr s) = absurd (sink s.failed)
