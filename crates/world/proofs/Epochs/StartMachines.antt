-- The states behind an appointment of replica 0, alone, which is open.
use Rattle.std.proofs.Common.{◌≡◌, ◌∙◌, sym, ap, subst, refl, ℕ, Bool, true, false, cond, ◌||◌, List, [], ◌∷◌, length, Option, Some, None, ⊎_elim, is_some}
use Rattle.std.specs.Map.{lookup}
use Rattle.std.proofs.lemmas.Bool.{false≢true, or_cases}
use Rattle.std.proofs.lemmas.List.Folds.{list_any-append}
use Rattle.std.proofs.lemmas.Option.{none-some}
use Rattle.std.proofs.Math.Bool.{or-false}
use Rattle.rc_base.specs.declared.ids.Epoch.{Epoch}
use Rattle.rc_base.specs.declared.ids.TxnId.{TxnId}
use Rattle.rc_base.specs.Ids.{is_txn, is_epoch, epoch_lt, epoch_le}
use Rattle.rc_base.proofs.SameIds.{is_txn-true}
use Rattle.key_locks.specs.declared.lock_mode.LockMode.TheVariants.{Exclusive}
use Rattle.coll_model.specs.Effect.{State}
use Rattle.txn_table.specs.declared.committed.Committed.{Committed}
use Rattle.order_machine.specs.Order.{Entry, holds}
use Rattle.order_machine.specs.Machine.{Txn}
use Rattle.txn_front.specs.Front.{Going, nothing, going_of}
use Rattle.world.specs.Course.{ArePast, MayFollow}
use Rattle.world.specs.Running.{running, state_of, RunsWith, IsKept}
use Rattle.world.specs.Standing.{Course}
use Rattle.rc_base.proofs.EpochOrder.{epoch_le_lt, epoch_lt_apart}
use Rattle.world.proofs.Epochs.StartCourse.{le_below}
use Rattle.world.proofs.Epochs.StartLines.{appointed_course, active_course, as_entry, with_more, more_held}

-- ---- nothing goes on

pub nothing_going : (e : Epoch) (t : TxnId) → going_of (nothing e) t ≡ None
nothing_going e t = either_way (is_epoch t.epoch e)
  where
    either_way : (here : Bool) → ◌≡◌ {A = Option Going} (cond here None None) None
    either_way true = refl
    either_way false = refl

-- what is in the order then is of an epoch up to the latest one before
held_within_more : (course : Course) (entries : List Entry) (acknowledged : List TxnId) (txns : List (TxnId × Txn)) (more : List Committed) → ArePast course entries acknowledged txns → MayFollow entries txns more → (t : TxnId) → holds (with_more entries more) t ≡ true → epoch_le t.epoch course.latest ≡ true
held_within_more course entries acknowledged txns [] past follow t h = past.held_within t h
held_within_more course entries acknowledged txns (c ∷ []) past follow t h = ⊎_elim
    (λ (before : holds entries t ≡ true). past.held_within t before)
    (λ (last : (is_txn t c.txn || false) ≡ true). subst (λ (u : TxnId). epoch_le u.epoch course.latest ≡ true) (sym (is_txn-true t c.txn (sym (or-false (is_txn t c.txn)) ∙ last))) (past.each c.txn follow.txn follow.known).within)
    (or_cases (holds entries t) (is_txn t c.txn || false) (sym (list_any-append (λ e. is_txn t e.txn) entries (as_entry c ∷ [])) ∙ h))
held_within_more course entries acknowledged txns (c ∷ d ∷ more) past follow t h = absurd follow

-- The new epoch begins with nothing going on.
pub started_with : (course : Course) (e : Epoch) (entries : List Entry) (acknowledged : List TxnId) (txns : List (TxnId × Txn)) (more : List Committed) (shown : ℕ) (contents : State) → epoch_lt course.latest e ≡ true → ArePast course entries acknowledged txns → MayFollow entries txns more →
    shown ≡ length (with_more entries more) → contents ≡ state_of (with_more entries more) → RunsWith (with_more entries more) (active_course (appointed_course course e)) (nothing e) shown contents (running (with_more entries more) acknowledged txns 0 [] (active_course (appointed_course course e)))
started_with course e entries acknowledged txns more shown contents below past follow all sees = (
  record {
    entries = with_more entries more;
    acknowledged = acknowledged;
    txns = txns;
    grants = [];
    course = active_course (appointed_course course e);
    is = refl;
    epoch = refl;
    alike = λ name. refl;
    exclusive = λ name t u mode other held also. absurd (none-some Exclusive held);
    all_shown = all;
    sees = sees;
    each = λ t x known. each t x known;
    live_known = λ t going is. absurd (none-some going (sym (nothing_going e t) ∙ is));
    held = λ t ack. more_held entries more t (past.held t ack);
    held_within = λ t h. le_below t.epoch course.latest e (held_within_more course entries acknowledged txns more past follow t h) below;
    held_begun = λ t h here. absurd (not_here t (held_within_more course entries acknowledged txns more past follow t h) here);
  },
  (refl, refl),
)
  where
    not_here : (t : TxnId) → epoch_le t.epoch course.latest ≡ true → t.epoch ≡ e → ⊥
    not_here t low here = epoch_lt_apart t.epoch e (epoch_le_lt t.epoch course.latest e low below) here

    each : (t : TxnId) (x : Txn) → lookup (is_txn t) txns ≡ Some x → IsKept (active_course (appointed_course course e)) (nothing e) [] (with_more entries more) acknowledged t x
    each t x known =
        let was = past.each t x known in
        let off : x.live ≡ true → ⊥ = λ on. false≢true (sym was.over ∙ on) in
        record {
          home = was.home;
          within = le_below t.epoch course.latest e was.within below;
          begun = λ here. absurd (not_here t was.within here);
          on = was.over ∙ ap is_some (sym (nothing_going e t));
          here = λ on. absurd (off on);
          asked = λ here. absurd (not_here t was.within here);
          not_held = λ on. absurd (off on);
          not_acknowledged = λ on. absurd (off on);
          logged = λ going is. absurd (none-some going (sym (nothing_going e t) ∙ is));
          protected = λ on. absurd (off on);
        }

-- what was begun is past, also as the epoch is appointed
pub past_appointed : (course : Course) (e : Epoch) (entries : List Entry) (acknowledged : List TxnId) (txns : List (TxnId × Txn)) → epoch_lt course.latest e ≡ true → ArePast course entries acknowledged txns → ArePast (appointed_course course e) entries acknowledged txns
past_appointed course e entries acknowledged txns below past = record {
  each = λ t x known. let was = past.each t x known in record { home = was.home; within = le_below t.epoch course.latest e was.within below; over = was.over };
  held = past.held;
  held_within = λ t h. le_below t.epoch course.latest e (past.held_within t h) below;
}

-- and once its primary was active
pub past_started : (course : Course) (e : Epoch) (entries : List Entry) (acknowledged : List TxnId) (txns : List (TxnId × Txn)) (more : List Committed) → epoch_lt course.latest e ≡ true → ArePast course entries acknowledged txns → MayFollow entries txns more → ArePast (active_course (appointed_course course e)) (with_more entries more) acknowledged txns
past_started course e entries acknowledged txns more below past follow = record {
  each = λ t x known. let was = past.each t x known in record { home = was.home; within = le_below t.epoch course.latest e was.within below; over = was.over };
  held = λ t ack. more_held entries more t (past.held t ack);
  held_within = λ t h. le_below t.epoch course.latest e (held_within_more course entries acknowledged txns more past follow t h) below;
}
