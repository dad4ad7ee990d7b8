-- A step and the parts of it.
use Rattle.std.proofs.Common.{◌≡◌, ℕ, zero, suc, ◌+◌, ◌≤◌, Bool, true, false, cond, List, ◌++◌, length, Option, Some, None, refl, sym, ap, subst, ◌∙◌, arith}
use Rattle.std.proofs.lemmas.List.{length-append}
use Rattle.std.specs.Option.{option_map_or}
use Rattle.rc_base.specs.declared.ids.Lsn.{Lsn}
use Rattle.rc_base.specs.declared.ids.TxnId.{TxnId}
use Rattle.rc_base.specs.Ids.{epoch_lt, no_epoch}
use Rattle.txn_table.specs.Log.{Items}
use Rattle.txn_table.specs.Epochs.{later}
use Rattle.coll_model.specs.Effect.{State, folded}
use Rattle.events.specs.declared.call.Call.{Call}
use Rattle.events.specs.declared.call.Call.TheVariants as calls
use Rattle.events.specs.Calls.{txn_named}
use Rattle.log_records.specs.declared.record.Record.{Record}
use Rattle.log_records.specs.declared.record.Physical.{Physical}
use Rattle.txn_front.specs.Front as front
use Rattle.txn_front.specs.Front.{Fronted, Going, AreAlike, going_of}
use Rattle.log_store.specs.declared.kept.Kept.{Kept}
use Rattle.log_store.specs.Store.{Store}
use Rattle.replica_model.specs.declared.role.Role.{Role}
use Rattle.replica_model.specs.declared.role.Role.TheVariants.{Other, Primary}
use Rattle.replica_model.specs.declared.step.StepEvent.{StepEvent}
use Rattle.replica_model.specs.declared.step.StepEvent.TheVariants as steps
use Rattle.replica.specs.Logging.{asked, changed}
use Rattle.replica.specs.Open.{Open, AreSame, commits_to, HasRole, AgreesWith}
use Rattle.replica_model.specs.Records.{placed}
use Rattle.replica_model.specs.Steps.{noted}
use Rattle.replica.specs.Step.{is_active, answered, finished, logged, logged_by, epoch_in, fences, block, stepped, lengthened, behind}
use Rattle.replica.proofs.OneMore.{commits_few}
use Rattle.replica.proofs.OneRecord.{known_still}
use Rattle.txn_front.proofs.Fronts.{IsOver-alike, AreAlike-itself, AreAlike-trans, logged-alike, ended-alike}
use Rattle.replica.proofs.Puts.{alike_going}

-- ---- another store, and another order of grants

-- with this store and front in place of its own
abbrev pub kept_in : Store → Fronted → Open → Open
kept_in log front r = record r { log = log; front = front }

role_in : (log : Store) (f : Fronted) (r : Open) (items : Items) → AreAlike f r.front → (role : Role) → HasRole r items role → HasRole (kept_in log f r) items role
role_in log f r items alike Other h = ap (λ (x : Fronted). x.live) alike.same ∙ h
role_in log f r items alike (Primary epoch active) h = record {
  last_one = h.last_one;
  active = h.active;
  stable = h.stable;
  shown = h.shown;
  begins_in = ap (λ (x : Fronted). x.epoch) alike.same ∙ h.begins_in;
  counted = λ txn k is same. omega (arith, h.counted txn k is same, ap (λ (x : Fronted). x.begins) alike.same);
}

-- a replica agrees with its log whichever store of this identity it keeps, in whichever order its grants stand
pub agrees_in : (log : Store) (f : Fronted) (r : Open) (v : Kept) → AgreesWith r v → AreAlike f r.front → v.identity ≡ Some log.identity → AgreesWith (kept_in log f r) v
agrees_in log f r v a alike same = record {
  identity = same;
  fence = a.fence;
  epoch = a.epoch;
  last = a.last;
  stable_told = a.stable_told;
  stable_there = a.stable_there;
  shown = a.shown;
  contents = a.contents;
  commits = a.commits;
  epochs = a.epochs;
  role = role_in log f r v.records alike r.role a.role;
  over = IsOver-alike f r.front r.contents alike a.over;
  known = known_still r.front f v.records v.records (ap (λ (x : Fronted). x.epoch) alike.same) (ap (λ (x : Fronted). x.live) alike.same) refl a.known;
}

pub agrees_same : (a b : Open) (log : Store) (v : Kept) → AreSame a (record b { log = log }) → AgreesWith b v → v.identity ≡ Some log.identity → AgreesWith a v
agrees_same a b log v same agrees identity = subst (λ (o : Open). AgreesWith o v) (sym same.same) (agrees_in log a.front b v agrees same.front identity)

pub same_then : (a b c : Open) → AreSame a b → AreSame b c → AreSame a c
same_then a b c p q = record {
  same = p.same ∙ ap (λ (o : Open). record o { front = a.front }) q.same;
  front = AreAlike-trans a.front b.front c.front p.front q.front;
}

-- ---- what a step changes

-- once the call was answered
abbrev mid : Store → Fronted → Open → Open
mid log f r = kept_in log f r

-- a commit and an abort change nothing before their records
pub commit_changes_none : (f : Fronted) (state : State) (t : TxnId) → front.called f state (calls.Commit t) ≡ f
commit_changes_none f state t = by (going_of f t)
  where
    by : (o : Option Going) → option_map_or (λ going. front.asked f state t going (calls.Commit t)) o f ≡ f
    by None = refl
    by (Some going) = refl

abort_changes_none : (f : Fronted) (state : State) (t : TxnId) → front.called f state (calls.Abort t) ≡ f
abort_changes_none f state t = by (going_of f t)
  where
    by : (o : Option Going) → option_map_or (λ going. front.asked f state t going (calls.Abort t)) o f ≡ f
    by None = refl
    by (Some going) = refl

noted_alike : (count : ℕ) (call : Call) (lsn : Lsn) (f g : Fronted) → AreAlike f g → AreAlike (noted count call lsn f) (noted count call lsn g)
noted_alike zero call lsn f g h = h
noted_alike (suc n) call lsn f g h = by (txn_named call)
  where
    by : (o : Option TxnId) → AreAlike (option_map_or (λ t. front.logged f t lsn) o f) (option_map_or (λ t. front.logged g t lsn) o g)
    by None = h
    by (Some t) = logged-alike f g t lsn h

-- the numbers are those of the replica before
same_numbers : (count : ℕ) (r : Open) (log : Store) (f a b : Fronted) → AreAlike a b
    → AreSame (record (lengthened count r.epoch (mid log f r)) { front = a }) (record (record (lengthened count r.epoch r) { front = b }) { log = log })
same_numbers zero r log f a b h = record { same = refl; front = h }
same_numbers (suc n) r log f a b h = record { same = refl; front = h }

item_same : (count : ℕ) (r : Open) (log : Store) (f : Fronted) (call : Call) → AreAlike f (front.called r.front r.contents call)
    → (finished count call f (mid log f r) ≡ record (lengthened count r.epoch (mid log f r)) { front = noted count call (behind r.last count) f })
    → (answered count call r ≡ record (lengthened count r.epoch r) { front = noted count call (behind r.last count) (front.called r.front r.contents call) })
    → AreSame (finished count call f (mid log f r)) (record (answered count call r) { log = log })
item_same count r log f call h a_is b_is =
    let a : Fronted = noted count call (behind r.last count) f in
    let b : Fronted = noted count call (behind r.last count) (front.called r.front r.contents call) in
    subst (λ (o : Open). AreSame o (record (answered count call r) { log = log })) (sym a_is)
    (subst (λ (o : Open). AreSame (record (lengthened count r.epoch (mid log f r)) { front = a }) (record o { log = log })) (sym b_is)
    (same_numbers count r log f a b (noted_alike count call (behind r.last count) f (front.called r.front r.contents call) h)))

commit_same : (count : ℕ) (r : Open) (log : Store) (f : Fronted) (t : TxnId) → AreAlike f r.front → AreSame (finished count (calls.Commit t) f (mid log f r)) (record (answered count (calls.Commit t) r) { log = log })
commit_same count r log f t h =
    subst (λ (o : Option Going). AreSame (option_map_or (λ going. record (lengthened count r.epoch (mid log f r)) { shown = r.shown + 1; contents = folded r.contents going.ops; front = front.ended f t }) o (mid log f r)) (record (answered count (calls.Commit t) r) { log = log }))
    (sym (alike_going f r.front t h)) (by count (going_of r.front t))
  where
    by : (n : ℕ) (o : Option Going)
        → AreSame (option_map_or (λ going. record (lengthened n r.epoch (mid log f r)) { shown = r.shown + 1; contents = folded r.contents going.ops; front = front.ended f t }) o (mid log f r))
        (record (option_map_or (λ going. record (lengthened n r.epoch r) { shown = r.shown + 1; contents = folded r.contents going.ops; front = front.ended r.front t }) o r) { log = log })
    by n None = record { same = refl; front = h }
    by zero (Some going) = record { same = refl; front = ended-alike f r.front t h }
    by (suc n) (Some going) = record { same = refl; front = ended-alike f r.front t h }

finished_same : (count : ℕ) (r : Open) (log : Store) (f : Fronted) (call : Call) → AreAlike f (front.called r.front r.contents call) → AreSame (finished count call f (mid log f r)) (record (answered count call r) { log = log })
finished_same count r log f calls.Begin h = item_same count r log f calls.Begin h refl refl
finished_same count r log f (calls.Make t name kind) h = item_same count r log f (calls.Make t name kind) h refl refl
finished_same count r log f (calls.OnKey t name key asked) h = item_same count r log f (calls.OnKey t name key asked) h refl refl
finished_same count r log f (calls.Commit t) h = commit_same count r log f t (subst (AreAlike f) (commit_changes_none r.front r.contents t) h)
finished_same count r log f (calls.Abort t) h = same_numbers count r log f (front.ended f t) (front.ended r.front t) (ended-alike f r.front t (subst (AreAlike f) (abort_changes_none r.front r.contents t) h))

changed_same : (r : Open) (log : Store) (f : Fronted) (event : StepEvent) → AreAlike f (asked r event) → AreSame (changed (length (logged r event)) (mid log f r) event) (record (stepped r event) { log = log })
changed_same r log f (steps.Client call) h = by (is_active r.role) h
  where
    by : (b : Bool) → AreAlike f (cond b (front.called r.front r.contents call) r.front) → AreSame (cond b (finished (length (logged_by r call)) call f (mid log f r)) (mid log f r)) (record (cond b (answered (length (logged_by r call)) call r) r) { log = log })
    by true h = finished_same (length (logged_by r call)) r log f call h
    by false h = record { same = refl; front = h }
changed_same r log f (steps.Survey epoch) h = by (epoch_lt epoch r.fence)
  where
    by : (b : Bool) → AreSame (cond b (mid log f r) (record (mid log f r) { fence = later r.fence epoch; role = Other; front = front.nothing no_epoch }))
        (record (cond b r (record r { fence = later r.fence epoch; role = Other; front = front.nothing no_epoch })) { log = log })
    by true = record { same = refl; front = h }
    by false = record { same = refl; front = AreAlike-itself (front.nothing no_epoch) }
changed_same r log f (steps.Appoint a) h = record { same = refl; front = AreAlike-itself (front.nothing a.epoch) }
changed_same r log f (steps.Activate epoch) h = record { same = refl; front = h }
changed_same r log f steps.Barrier h = record { same = refl; front = h }
changed_same r log f steps.Inspect h = record { same = refl; front = h }

-- the replica behind the parts of a step is the one behind the step
pub parts_same : (r m new : Open) (event : StepEvent) (count : ℕ) → m ≡ record r { log = m.log; front = m.front } → AreAlike m.front (asked r event) → count ≡ length (logged r event) → AreSame new (changed count m event)
    → AreSame new (record (stepped r event) { log = m.log })
parts_same r m new event count others alike counted same =
    let whole : AreSame new (changed (length (logged r event)) (mid m.log m.front r) event) =
    subst (λ (o : Open). AreSame new (changed (length (logged r event)) o event)) others (subst (λ (n : ℕ). AreSame new (changed n m event)) counted same) in
    same_then new (changed (length (logged r event)) (mid m.log m.front r) event) (record (stepped r event) { log = m.log }) whole (changed_same r m.log m.front event alike)

-- ---- the parts in order: the answer, the block, the append, and the change

-- one replica is another one but for its front, and a third is that one but for its store
pub both_parts : (r mid new : Open) → mid ≡ record r { front = mid.front } → new ≡ record mid { log = new.log } → new ≡ kept_in new.log new.front r
both_parts r mid new first then =
    let front : new.front ≡ mid.front = ap (λ (o : Open). o.front) then in
    then ∙ ap (λ (o : Open). record o { log = new.log }) first ∙ ap (λ (f : Fronted). kept_in new.log f r) (sym front)

pub kept_front : (r mid new : Open) (event : StepEvent) → new ≡ record mid { log = new.log } → AreAlike mid.front (asked r event) → AreAlike new.front (asked r event)
kept_front r mid new event then alike = subst (λ (f : Fronted). AreAlike f (asked r event)) (sym (ap (λ (o : Open). o.front) then)) alike

pub block_is : (r mid : Open) (event : StepEvent) (bodies : List Record) (items : List Physical) → mid ≡ record r { front = mid.front } → bodies ≡ logged r event
    → items ≡ fences mid event ++ placed mid.last.0 (epoch_in mid event) bodies → items ≡ block r event
block_is r mid event bodies items first logs is =
    is ∙ ap (λ (o : Open). fences o event ++ placed o.last.0 (epoch_in o event) bodies) first
    ∙ ap (λ (bs : List Record). fences (record r { front = mid.front }) event ++ placed r.last.0 (epoch_in (record r { front = mid.front }) event) bs) logs
    ∙ by event
  where
    by : (event : StepEvent) → fences (record r { front = mid.front }) event ++ placed r.last.0 (epoch_in (record r { front = mid.front }) event) (logged r event) ≡ block r event
    by (steps.Client call) = refl
    by (steps.Survey epoch) = refl
    by (steps.Appoint a) = refl
    by (steps.Activate epoch) = refl
    by steps.Barrier = refl
    by steps.Inspect = refl

pub behind_parts : (r mid m new : Open) (event : StepEvent) (count : ℕ) (bodies : List Record) → mid ≡ record r { front = mid.front } → m ≡ record mid { log = m.log } → AreAlike mid.front (asked r event)
    → bodies ≡ logged r event → count ≡ length bodies → AreSame new (changed count m event) → AreSame new (record (stepped r event) { log = m.log })
behind_parts r mid m new event count bodies first then alike logs counted same =
    parts_same r m new event count (both_parts r mid m first then) (kept_front r mid m event then alike) (counted ∙ ap length logs) same

pub own_log : (new b : Open) (log : Store) → AreSame new (record b { log = log }) → new.log ≡ log
own_log new b log same = ap (λ (o : Open). o.log) same.same

pub kept_is : (new b : Open) (log : Store) → AreSame new (record b { log = log }) → AreSame new (record b { log = new.log })
kept_is new b log same = subst (λ (l : Store). AreSame new (record b { log = l })) (sym (own_log new b log same)) same

-- no more commits than records
pub shown_few : (r : Open) (v : Kept) → AgreesWith r v → r.shown + length r.ahead ≤ r.last.0
shown_few r v a = omega (arith, commits_few v.records, ap length a.commits, length-append (commits_to r.stable.0 v.records) r.ahead, a.shown, a.last)
