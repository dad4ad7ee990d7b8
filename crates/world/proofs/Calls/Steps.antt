-- The steps of a replica's calls, by what they are answered.
use Rattle.std.proofs.Common.{◌≡◌, ◌∙◌, ap, ℕ, ◌+◌, Bool, true, false, not, ◌&&◌, cond, nat_lt, List, [], ◌∷◌, length, Option, Some, None, refl, arith, zero, suc}
use Rattle.std.specs.Option.{option_map_or}
use Rattle.std.specs.List.{cons_option}
use Rattle.std.proofs.lemmas.Bool.Decides.{nat_tests}
use Rattle.std.proofs.lemmas.Bool.{cond-true}
use Rattle.rc_base.specs.declared.ids.TxnId.{TxnId}
use Rattle.coll_model.specs.Effect.{folded}
use Rattle.txn_table.specs.declared.committed.Committed.{Committed}
use Rattle.log_store.specs.declared.kept.Kept.{Kept as Log}
use Rattle.events.specs.declared.call.Call.{Call}
use Rattle.events.specs.declared.call.Call.TheVariants.{Commit}
use Rattle.order_machine.specs.declared.observation.Observation.TheVariants as says
use Rattle.events.specs.declared.answer.Reply.{Reply}
use Rattle.replica_model.specs.declared.step.Outcome.{Outcome}
use Rattle.replica_model.specs.declared.step.StepEvent.TheVariants as steps
use Rattle.replica.specs.Open.{Open}
use Rattle.replica.specs.Step.{reply, is_active, quiet, outcome, logged_by, called, answered, going_in, committed_by, shown_commits, lengthened}
use Rattle.txn_front.specs.Front.{Going, going_of, ended}
use Rattle.world.specs.Steps.{told, told_by, is_due, finished, log_once, log_twice, log_behind}
use Rattle.events.specs.declared.answer.Answer.{Answer}
use Rattle.order_machine.specs.AnswerLines.{line_of_answer}
use Rattle.std.specs.Prelude.{option_map}

pub not_below : (n : ℕ) → nat_lt n n ≡ false
not_below n = grind (arith, nat_tests)

pub not_newly : (b : Bool) → (b && not b) ≡ false
not_newly true = refl
not_newly false = refl

-- the line of a step that shows nothing more
pub quiet_lines : (r : Open) (o : Option Answer) → told r.id r.shown (is_active r.role) (quiet r o) ≡ cons_option (option_map line_of_answer o) []
quiet_lines r o = rw (not_below r.shown, not_newly (is_active r.role)) refl

-- What a call tells that is answered, what the replica keeps then, and its log.
pub record IsTold (r : Open) (call : Call) (given : Reply) : Type 0 where
  pub lines : told_by r (steps.Client call) ≡ line_of_answer given.answer ∷ []
  pub keeps : finished r (steps.Client call) ≡ called r call
  pub log : (log : Log) → log_behind r (steps.Client call) log ≡ log_once r (steps.Client call) log
  pub not_due : is_due r (steps.Client call) ≡ false
  pub shows : (outcome r (steps.Client call)).shown ≡ r.shown

pub told_is : (r : Open) (call : Call) (given : Reply) → reply r call ≡ Some given → IsTold r call given
told_is r call given e =
    let told_so : outcome r (steps.Client call) ≡ quiet r (Some given.answer) = ap (λ o. option_map_or (λ known. quiet r (Some known.answer)) o (shown_commits r (committed_by r (steps.Client call)))) e in
    let not_due : is_due r (steps.Client call) ≡ false = ap (λ (out : Outcome). out.barrier_due) told_so in
    record {
      lines = ap (told r.id r.shown (is_active r.role)) told_so ∙ quiet_lines r (Some given.answer);
      keeps = ap (λ b. cond b (lengthened 1 (called r call).epoch (called r call)) (called r call)) not_due;
      log = λ log. ap (λ b. cond b (log_twice r (steps.Client call) log) (log_once r (steps.Client call) log)) not_due;
      not_due = not_due;
      shows = ap (λ (out : Outcome). out.shown) told_so;
    }

-- ---- a commit

-- the replica once so many records of the commit were logged
abbrev pub committed_open : ℕ → TxnId → Going → Open → Open
committed_open count t g r = record (lengthened count r.epoch r) { shown = r.shown + 1; contents = folded r.contents g.ops; front = ended r.front t }

pub record IsCommitted (r : Open) (t : TxnId) (g : Going) : Type 0 where
  pub lines : told_by r (steps.Client (Commit t)) ≡ says.Order t g.ops ∷ says.View r.id (r.shown + 1) ∷ says.Committed t ∷ []
  pub keeps : finished r (steps.Client (Commit t)) ≡ lengthened 1 (called r (Commit t)).epoch (called r (Commit t))
  pub log : (log : Log) → log_behind r (steps.Client (Commit t)) log ≡ log_twice r (steps.Client (Commit t)) log
  pub due : is_due r (steps.Client (Commit t)) ≡ true
  pub called_is : called r (Commit t) ≡ committed_open (length (logged_by r (Commit t))) t g r
  pub commits : committed_by r (steps.Client (Commit t)) ≡ record { txn = t; ops = g.ops } ∷ []
  pub shows : (outcome r (steps.Client (Commit t))).shown ≡ r.shown + 1

above : (n : ℕ) → nat_lt n (n + 1) ≡ true
above n = by_bool (nat_lt n (n + 1)) refl
  where
    by_bool : (b : Bool) → nat_lt n (n + 1) ≡ b → nat_lt n (n + 1) ≡ true
    by_bool true e = e
    by_bool false e = absurd (grind (arith, nat_tests, e))

abbrev pub one_commit : TxnId → Going → List Committed
one_commit t g = record { txn = t; ops = g.ops } ∷ []

pub committed_is : (r : Open) (t : TxnId) (g : Going) → is_active r.role ≡ true → going_of r.front t ≡ Some g → reply r (Commit t) ≡ None → IsCommitted r t g
committed_is r t g active is e =
    let event = steps.Client (Commit t) in
    let going : going_in r t ≡ Some g = cond-true (is_active r.role) (going_of r.front t) None active ∙ is in
    let commits : committed_by r event ≡ one_commit t g = ap (λ o. option_map_or (λ (h : Going). one_commit t h) o []) going in
    let told_so : outcome r event ≡ shown_commits r (one_commit t g) = ap (λ o. option_map_or (λ known. quiet r (Some known.answer)) o (shown_commits r (committed_by r event))) e ∙ ap (shown_commits r) commits in
    let due : is_due r event ≡ true = ap (λ (out : Outcome). out.barrier_due) told_so in
    let count = length (logged_by r (Commit t)) in
    record {
      lines = ap (told r.id r.shown (is_active r.role)) told_so ∙ commit_lines;
      keeps = ap (λ b. cond b (lengthened 1 (called r (Commit t)).epoch (called r (Commit t))) (called r (Commit t))) due;
      log = λ log. ap (λ b. cond b (log_twice r event log) (log_once r event log)) due;
      due = due;
      called_is = cond-true (is_active r.role) (answered count (Commit t) r) r active ∙ ap (λ o. option_map_or (λ (h : Going). committed_open count t h r) o r) is;
      commits = commits;
      shows = ap (λ (out : Outcome). out.shown) told_so;
    }
  where
    commit_lines : told r.id r.shown (is_active r.role) (shown_commits r (one_commit t g)) ≡ says.Order t g.ops ∷ says.View r.id (r.shown + 1) ∷ says.Committed t ∷ []
    commit_lines = rw (above r.shown, active) refl

-- ---- what so many records leave

pub lengthened_shown : (n : ℕ) (r : Open) → (lengthened n r.epoch r).shown ≡ r.shown
lengthened_shown zero r = refl
lengthened_shown (suc n) r = refl

pub lengthened_contents : (n : ℕ) (r : Open) → (lengthened n r.epoch r).contents ≡ r.contents
lengthened_contents zero r = refl
lengthened_contents (suc n) r = refl

pub lengthened_role : (n : ℕ) (r : Open) → (lengthened n r.epoch r).role ≡ r.role
lengthened_role zero r = refl
lengthened_role (suc n) r = refl

pub lengthened_epoch : (n : ℕ) (r : Open) → (lengthened n r.epoch r).epoch ≡ r.epoch
lengthened_epoch zero r = refl
lengthened_epoch (suc n) r = refl
