-- The lines of an appointment of replica 0, alone, to an epoch: it shows all that its log commits, and becomes active.
use Rattle.std.proofs.Common.{◌≡◌, ◌∙◌, sym, ap, subst, ℕ, ◌+◌, ◌≤◌, nat_lt, List, [], ◌∷◌, ◌++◌, length, map, Bool, true, false, ◌==◌, Some, None, refl, arith, length-append}
use Rattle.std.specs.Prelude.{nat_le, if◌then◌else◌}
use Rattle.std.specs.List.{list_any}
use Rattle.std.proofs.lemmas.Bool.Decides.{nat_tests}
use Rattle.std.proofs.lemmas.List.Folds.{list_any-append}
use Rattle.rc_base.specs.declared.ids.Epoch.{Epoch}
use Rattle.rc_base.specs.declared.ids.TxnId.{TxnId}
use Rattle.rc_base.specs.Ids.{is_txn, is_epoch}
use Rattle.txn_table.specs.declared.committed.Committed.{Committed}
use Rattle.events.specs.declared.event.Event.TheVariants.{Appoint}
use Rattle.order_machine.specs.declared.observation.Observation.{Observation}
use Rattle.order_machine.specs.declared.observation.Observation.TheVariants as says
use Rattle.order_machine.specs.Order.{Entry, holds}
use Rattle.order_machine.specs.Machine.{Machine, Replica, Txn, Appointment}
use Rattle.events.specs.Replay.{Replays}
use Rattle.order_machine.specs.Transitions.{Position, May, IsComplete, at_start, after, new_role, noting_active}
use Rattle.order_machine.specs.Legal.{Lines, behind}
use Rattle.world.specs.Course.{MayFollow, MayBeNext}
use Rattle.world.specs.Running.{running}
use Rattle.world.specs.Standing.{Course, standing}
use Rattle.world.specs.Steps.{order_line, cons_if, told_rise}
use Rattle.world.proofs.Calls.Replies.{all_taken, state_is}

-- ---- the course behind it

-- the appointment to an epoch, whose primary isn't active yet
abbrev pub appointment_to : Epoch → Appointment
appointment_to e = record { epoch = e; primary = 0; previous = 0 ∷ []; current = 0 ∷ []; dropped = false; was_active = false }

abbrev pub appointed_course : Course → Epoch → Course
appointed_course course e = record { first = course.first; later = course.later ++ appointment_to e ∷ []; latest = e; answers = course.answers; surveys = course.surveys }

-- its primary is active
abbrev pub active_course : Course → Course
active_course course = record {
  first = if is_epoch course.latest course.first.epoch then record course.first { was_active = true } else course.first;
  later = noting_active course.latest course.later;
  latest = course.latest;
  answers = course.answers;
  surveys = course.surveys;
}

-- ---- the order behind it

abbrev pub as_entry : Committed → Entry
as_entry c = record { txn = c.txn; ops = c.ops }

-- the entries with what else the log commits, which is one transaction at most
abbrev pub with_more : List Entry → List Committed → List Entry
with_more entries [] = entries
with_more entries (c ∷ more) = entries ++ as_entry c ∷ []

pub more_held : (entries : List Entry) (more : List Committed) (t : TxnId) → holds entries t ≡ true → holds (with_more entries more) t ≡ true
more_held entries [] t h = h
more_held entries (c ∷ more) t h = list_any-append (λ e. is_txn t e.txn) entries (as_entry c ∷ []) ∙ rw h refl

-- ---- where it begins

-- replica 0 has the role of the latest epoch, and isn't active
abbrev pub starting : Course → ℕ → Replica
starting course shown = record { up = true; show = shown; loss = 0; role = Some (new_role course.latest); grants = []; surveys = course.surveys }

abbrev pub start_at : List Entry → List TxnId → List (TxnId × Txn) → Course → ℕ → Position
start_at entries acknowledged txns course shown = at_start (standing entries acknowledged (starting course shown) txns course) (Appoint course.latest 0 (0 ∷ [])) 0 None []

-- all is shown
abbrev ready : List Entry → List TxnId → List (TxnId × Txn) → Course → ℕ → List ℕ → Position
ready entries acknowledged txns course rank rose = record (start_at entries acknowledged txns course (length entries)) { rank = rank; rose = rose }

-- ---- its lines

-- the lines of a replica that showed so many, and shows n
abbrev pub start_lines : ℕ → List Committed → ℕ → List Observation
start_lines shown more n = map order_line more ++ told_rise 0 shown false n true

-- each line may come, they are all, and they lead here
pub record Starts (p : Position) (lines : List Observation) (m : Machine) : Type 0 where
  pub may : Lines p lines
  pub is : (behind p lines).machine ≡ m
  pub complete : IsComplete (behind p lines)
  pub rose : list_any (λ q. q == 0) (behind p lines).rose ≡ true
  pub answered : (behind p lines).answered ≡ true
  pub unfaulted : (behind p lines).faulted ≡ []

line_then : (p q : Position) (o : Observation) (lines : List Observation) (m : Machine) → May p o → after p o ≡ q → Starts q lines m → Starts p (o ∷ lines) m
line_then p q o lines m may is s =
    let t : Starts (after p o) lines m = subst (λ (x : Position). Starts x lines m) (sym is) s in
    record { may = (may, t.may); is = t.is; complete = t.complete; rose = t.rose; answered = t.answered; unfaulted = t.unfaulted }

active_may : (entries : List Entry) (acknowledged : List TxnId) (txns : List (TxnId × Txn)) (course : Course) (rank : ℕ) (rose : List ℕ) → nat_le (rank + 1) 4 ≡ true →
    ((t : TxnId) → list_any (is_txn t) acknowledged ≡ true → holds entries t ≡ true) → May (ready entries acknowledged txns course rank rose) (says.Active 0)
active_may entries acknowledged txns course rank rose low held = record {
  named = refl;
  in_rank = low;
  next = refl;
  goes_on = refl;
  row = record {
    role = new_role course.latest;
    has = refl;
    not_yet = refl;
    shows = λ t ack le. subst (λ es. holds es t ≡ true) (sym (all_taken entries (length entries) refl)) (held t ack);
    acts = refl;
  };
}

done_may : (entries : List Entry) (acknowledged : List TxnId) (txns : List (TxnId × Txn)) (course : Course) (rank : ℕ) (rose : List ℕ) → May (after (ready entries acknowledged txns course rank rose) (says.Active 0)) says.Done
done_may entries acknowledged txns course rank rose = record { named = refl; in_rank = refl; next = refl; goes_on = refl; row = refl }

ready_starts : (entries : List Entry) (acknowledged : List TxnId) (txns : List (TxnId × Txn)) (course : Course) (rank : ℕ) (rose : List ℕ) → nat_le (rank + 1) 4 ≡ true →
    ((t : TxnId) → list_any (is_txn t) acknowledged ≡ true → holds entries t ≡ true) →
    Starts (ready entries acknowledged txns course rank rose) (says.Active 0 ∷ says.Done ∷ []) (running entries acknowledged txns 0 [] (active_course course))
ready_starts entries acknowledged txns course rank rose low held = record {
  may = (active_may entries acknowledged txns course rank rose low held, (done_may entries acknowledged txns course rank rose, tt));
  is = refl;
  complete = record { opened = refl; grown = refl; mounted = refl; told = refl; answered = refl };
  rose = refl;
  answered = refl;
  unfaulted = refl;
}

-- ---- nothing more is committed

shows_more : (entries : List Entry) (acknowledged : List TxnId) (txns : List (TxnId × Txn)) (course : Course) (shown n : ℕ) → n ≡ length entries → nat_lt shown n ≡ true → May (start_at entries acknowledged txns course shown) (says.View 0 n)
shows_more entries acknowledged txns course shown n all up = record {
  named = refl;
  in_rank = refl;
  next = refl;
  goes_on = refl;
  row = record {
    within = omega arith;
    all_that_grew = λ _. omega arith;
    grew_here = λ _. refl;
    more = λ _. grind (arith, nat_tests);
    primary = λ _. refl;
    acts = refl;
  };
}

starts_none : (entries : List Entry) (acknowledged : List TxnId) (txns : List (TxnId × Txn)) (course : Course) (shown n : ℕ) → n ≡ length entries → shown ≤ n →
    ((t : TxnId) → list_any (is_txn t) acknowledged ≡ true → holds entries t ≡ true) → (up : Bool) → nat_lt shown n ≡ up →
    Starts (start_at entries acknowledged txns course shown) ((cons_if up (says.View 0 n) ++ says.Active 0 ∷ []) ++ says.Done ∷ []) (running entries acknowledged txns 0 [] (active_course course))
starts_none entries acknowledged txns course shown n all few held true up =
    line_then (start_at entries acknowledged txns course shown) (ready entries acknowledged txns course 3 (0 ∷ [])) (says.View 0 n) (says.Active 0 ∷ says.Done ∷ []) _
    (shows_more entries acknowledged txns course shown n all up)
    (ap (λ k. record (start_at entries acknowledged txns course k) { rank = 3; rose = 0 ∷ [] }) all)
    (ready_starts entries acknowledged txns course 3 (0 ∷ []) refl held)
starts_none entries acknowledged txns course shown n all few held false up =
    let whole : length entries ≡ shown = not_more shown n (length entries) all few up in
    subst (λ k. Starts (start_at entries acknowledged txns course k) (says.Active 0 ∷ says.Done ∷ []) (running entries acknowledged txns 0 [] (active_course course))) whole
    (ready_starts entries acknowledged txns course 0 [] refl held)
  where
    not_more : (a b c : ℕ) → b ≡ c → a ≤ b → nat_lt a b ≡ false → c ≡ a
    not_more a b c same low up = grind (arith, nat_tests)

-- ---- a transaction more

order_may : (entries : List Entry) (acknowledged : List TxnId) (txns : List (TxnId × Txn)) (course : Course) (shown : ℕ) (c : Committed) → MayBeNext entries txns c → May (start_at entries acknowledged txns course shown) (order_line c)
order_may entries acknowledged txns course shown c next = record {
  named = refl;
  in_rank = refl;
  next = refl;
  goes_on = refl;
  row = record {
    txn = next.txn;
    known = next.known;
    new = next.new;
    asked = next.asked;
    whole = next.whole;
    replays = subst (λ state. Replays state next.txn.calls) (sym (state_is entries (0 + length entries) (omega arith))) next.replays;
  };
}

abbrev grown_at : List Entry → List TxnId → List (TxnId × Txn) → Course → ℕ → Position
grown_at entries acknowledged txns course shown = record (start_at entries acknowledged txns course shown) { rank = 2; growing = true }

grown_shows : (entries : List Entry) (acknowledged : List TxnId) (txns : List (TxnId × Txn)) (course : Course) (shown n : ℕ) → n ≡ length entries → nat_lt shown n ≡ true → May (grown_at entries acknowledged txns course shown) (says.View 0 n)
grown_shows entries acknowledged txns course shown n all up = record {
  named = refl;
  in_rank = refl;
  next = refl;
  goes_on = refl;
  row = record {
    within = omega arith;
    all_that_grew = λ _. omega arith;
    grew_here = λ _. refl;
    more = λ _. grind (arith, nat_tests);
    primary = λ _. refl;
    acts = refl;
  };
}

grown_starts : (entries : List Entry) (acknowledged : List TxnId) (txns : List (TxnId × Txn)) (course : Course) (shown n : ℕ) → n ≡ length entries → (up : Bool) → nat_lt shown n ≡ up → up ≡ true →
    ((t : TxnId) → list_any (is_txn t) acknowledged ≡ true → holds entries t ≡ true) →
    Starts (grown_at entries acknowledged txns course shown) ((cons_if up (says.View 0 n) ++ says.Active 0 ∷ []) ++ says.Done ∷ []) (running entries acknowledged txns 0 [] (active_course course))
grown_starts entries acknowledged txns course shown n all up is above held =
    subst (λ b. Starts (grown_at entries acknowledged txns course shown) ((cons_if b (says.View 0 n) ++ says.Active 0 ∷ []) ++ says.Done ∷ []) (running entries acknowledged txns 0 [] (active_course course))) (sym above)
    (line_then (grown_at entries acknowledged txns course shown) (ready entries acknowledged txns course 3 (0 ∷ [])) (says.View 0 n) (says.Active 0 ∷ says.Done ∷ []) _
    (grown_shows entries acknowledged txns course shown n all (is ∙ above))
    (ap (λ k. record (start_at entries acknowledged txns course k) { rank = 3; rose = 0 ∷ [] }) all)
    (ready_starts entries acknowledged txns course 3 (0 ∷ []) refl held))

-- ---- all lines

pub starts : (entries : List Entry) (acknowledged : List TxnId) (txns : List (TxnId × Txn)) (course : Course) (shown n : ℕ) (more : List Committed) → MayFollow entries txns more → n ≡ length (with_more entries more) → shown ≤ length entries →
    ((t : TxnId) → list_any (is_txn t) acknowledged ≡ true → holds entries t ≡ true) →
    Starts (start_at entries acknowledged txns course shown) (start_lines shown more n ++ says.Done ∷ []) (running (with_more entries more) acknowledged txns 0 [] (active_course course))
starts entries acknowledged txns course shown n [] follow all few held = starts_none entries acknowledged txns course shown n all (omega arith) held (nat_lt shown n) refl
starts entries acknowledged txns course shown n (c ∷ []) follow all few held =
    line_then (start_at entries acknowledged txns course shown) (grown_at (entries ++ as_entry c ∷ []) acknowledged txns course shown) (order_line c) ((cons_if (nat_lt shown n) (says.View 0 n) ++ says.Active 0 ∷ []) ++ says.Done ∷ []) _
    (order_may entries acknowledged txns course shown c follow)
    refl
    (grown_starts (entries ++ as_entry c ∷ []) acknowledged txns course shown n all (nat_lt shown n) refl (above shown (length entries) n few (omega (arith, length-append entries (as_entry c ∷ []))))
    (λ t ack. more_held entries (c ∷ []) t (held t ack)))
  where
    above : (a b k : ℕ) → a ≤ b → k ≡ b + 1 → nat_lt a k ≡ true
    above a b k low is = grind (arith, nat_tests)
starts entries acknowledged txns course shown n (c ∷ d ∷ more) follow all few held = absurd follow
