-- One line more, and one step more.
use Rattle.std.proofs.Common.{◌≡◌, ◌∙◌, ap, ap₂, ℕ, suc, ◌+◌, List, [], ◌∷◌, ◌++◌, length, sum_by, None, refl, arith, inl, inr}
use Rattle.std.proofs.lemmas.Grind.{flat_map-append}
use Rattle.std.proofs.lemmas.List.{append-nil}
use Rattle.std.proofs.lemmas.List.Sums.{sum_by-append}
use Rattle.rc_io.specs.Lines.{line_text}
use Rattle.rc_io.specs.Limits.{limit_in}
use Rattle.events.specs.declared.event.Event.{Event}
use Rattle.script_text.specs.Sentence.{Spells, IsSkipped}
use Rattle.order_machine.specs.declared.observation.Observation.{Observation}
use Rattle.order_machine.specs.Machine.{Machine}
use Rattle.order_machine.specs.Legal.{Step, Filter, AreWhole, IsWhole, moved, moved_all}
use Rattle.transcript_text.specs.Lines.{lines_text, transcript_of}
use Rattle.world.specs.Limits.{IsServable}
use Rattle.shell.specs.Script.{AreSteps, AreWithin, AreServable}

abbrev pub step_of : ℕ → Event → List Observation → Step
step_of number event lines = record { number = number; event = event; lines = lines }

-- a skipped line more
pub skipped_more : (n : ℕ) (raws : List (List ℕ)) (steps : List Step) (raw : List ℕ) → AreSteps n raws steps → IsSkipped (line_text raw) → AreSteps n (raws ++ raw ∷ []) steps
skipped_more n [] [] raw a s = (s, tt)
skipped_more n [] (x ∷ xs) raw a s = absurd a
skipped_more n (r ∷ rs) [] raw a s = (a.0, skipped_more (n + 1) rs [] raw a.1 s)
skipped_more n (r ∷ rs) (x ∷ xs) raw (inl a) s = inl (a.0, skipped_more (n + 1) rs (x ∷ xs) raw a.1 s)
skipped_more n (r ∷ rs) (x ∷ xs) raw (inr a) s = inr (a.0, a.1, skipped_more (n + 1) rs xs raw a.2 s)

-- a line that spells an event more
pub spelled_more : (n : ℕ) (raws : List (List ℕ)) (steps : List Step) (raw : List ℕ) (s : Step) → AreSteps n raws steps → s.number ≡ n + length raws → Spells (line_text raw) s.event → AreSteps n (raws ++ raw ∷ []) (steps ++ s ∷ [])
spelled_more n [] [] raw s a e h = inr (e ∙ add_none n, h, tt)
  where
    add_none : (k : ℕ) → k + 0 ≡ k
    add_none k = omega arith
spelled_more n [] (x ∷ xs) raw s a e h = absurd a
spelled_more n (r ∷ rs) [] raw s a e h = inl (a.0, spelled_more (n + 1) rs [] raw s a.1 (e ∙ shifted n (length rs)) h)
  where
    shifted : (k l : ℕ) → k + suc l ≡ k + 1 + l
    shifted k l = omega arith
spelled_more n (r ∷ rs) (x ∷ xs) raw s (inl a) e h = inl (a.0, spelled_more (n + 1) rs (x ∷ xs) raw s a.1 (e ∙ shifted n (length rs)) h)
  where
    shifted : (k l : ℕ) → k + suc l ≡ k + 1 + l
    shifted k l = omega arith
spelled_more n (r ∷ rs) (x ∷ xs) raw s (inr a) e h = inr (a.0, a.1, spelled_more (n + 1) rs xs raw s a.2 (e ∙ shifted n (length rs)) h)
  where
    shifted : (k l : ℕ) → k + suc l ≡ k + 1 + l
    shifted k l = omega arith

pub whole_more : (filters : List Filter) (m : Machine) (steps : List Step) (s : Step) → AreWhole filters m steps → IsWhole (moved_all m steps) s.event s.lines → AreWhole filters m (steps ++ s ∷ [])
whole_more filters m [] s a w = (w, tt)
whole_more filters m (x ∷ xs) s a w = (a.0, whole_more filters (moved m x.event x.lines) xs s a.1 w)

-- an event more that reaches no limit of the machine
pub servable_more : (m : Machine) (steps : List Step) (s : Step) → AreServable m steps → IsServable (moved_all m steps) s.event → AreServable m (steps ++ s ∷ [])
servable_more m [] s a w = (w, tt)
servable_more m (x ∷ xs) s a w = (a.0, servable_more (moved m x.event x.lines) xs s a.1 w)

-- a line more that reaches no limit
within_more : (lines given : ℕ) (raws : List (List ℕ)) (raw : List ℕ) → AreWithin lines given raws → limit_in (lines + length raws) (given + sum_by length raws) raw ≡ None → AreWithin lines given (raws ++ raw ∷ [])
within_more lines given [] raw a h = (ap₂ (λ l g. limit_in l g raw) (add_none lines) (add_none given) ∙ h, tt)
  where
    add_none : (k : ℕ) → k ≡ k + 0
    add_none k = omega arith
within_more lines given (r ∷ rs) raw a h =
    let lines_too : lines + 1 + length rs ≡ lines + length (r ∷ rs) = omega arith in
    let bytes_too : given + length r + sum_by length rs ≡ given + sum_by length (r ∷ rs) = let sum = sum_by-append length (r ∷ []) rs in omega arith in
    let same : limit_in (lines + 1 + length rs) (given + length r + sum_by length rs) raw ≡ limit_in (lines + length (r ∷ rs)) (given + sum_by length (r ∷ rs)) raw = ap₂ (λ l g. limit_in l g raw) lines_too bytes_too in
    (a.0, within_more (lines + 1) (given + length r) rs raw a.1 (same ∙ h))

pub all_within : (raws : List (List ℕ)) (raw : List ℕ) → AreWithin 0 0 raws → limit_in (length raws) (sum_by length raws) raw ≡ None → AreWithin 0 0 (raws ++ raw ∷ [])
all_within raws raw a h = within_more 0 0 raws raw a (ap₂ (λ l g. limit_in l g raw) (none_add (length raws)) (none_add (sum_by length raws)) ∙ h)
  where
    none_add : (k : ℕ) → 0 + k ≡ k
    none_add k = omega arith

pub moved_more : (m : Machine) (steps : List Step) (s : Step) → moved_all m (steps ++ s ∷ []) ≡ moved (moved_all m steps) s.event s.lines
moved_more m [] s = refl
moved_more m (x ∷ xs) s = moved_more (moved m x.event x.lines) xs s

pub written_more : (steps : List Step) (s : Step) → transcript_of (steps ++ s ∷ []) ≡ transcript_of steps ++ lines_text s.number s.lines
written_more steps s =
    flat_map-append (λ (x : Step). lines_text x.number x.lines) steps (s ∷ []) ∙ ap (λ t. transcript_of steps ++ t) (append-nil (lines_text s.number s.lines))
