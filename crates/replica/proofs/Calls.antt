-- A client's call: the log goes on with its records, and the replica agrees with the log behind them.
use Rattle.std.proofs.Common.{◌≡◌, ℕ, suc, ◌+◌, ◌≤◌, ◌==◌, Bool, true, false, cond, List, [], ◌∷◌, ◌++◌, length, flat_map, Option, Some, None, refl, sym, ap, subst, ◌∙◌, ◌⊎◌, inl, inr, arith}
use Rattle.std.specs.Option.{option_map_or, option_and_then}
use Rattle.std.proofs.lemmas.List.{append-nil}
use Rattle.std.proofs.lemmas.Bool.Decides.{nat_tests}
use Rattle.std.proofs.lemmas.Option.{none-some}
use Rattle.std.specs.Ordering.{nat_cmp}
use Rattle.std.specs.Map.{remove_entry}
use Rattle.std.specs.BTreeMap.{is_at}
use Rattle.key_locks.specs.Grants.{released}
use Rattle.rc_base.specs.declared.ids.Epoch.{Epoch}
use Rattle.rc_base.specs.declared.ids.Lsn.{Lsn}
use Rattle.rc_base.specs.declared.ids.TxnId.{TxnId}
use Rattle.coll_model.specs.declared.op.Op.{Op}
use Rattle.coll_model.specs.Effect.{State, folded}
use Rattle.events.specs.declared.call.Call.{Call}
use Rattle.events.specs.declared.call.Call.TheVariants as calls
use Rattle.events.specs.declared.answer.Answer.TheVariants as answers
use Rattle.events.specs.declared.answer.Reply.{Reply}
use Rattle.events.specs.Locking.{locks_at, taken}
use Rattle.events.specs.Answers.{plain, live_reply}
use Rattle.events.specs.Calls.{txn_named}
use Rattle.log_records.specs.declared.record.Record.{Record}
use Rattle.log_records.specs.declared.record.Record.TheVariants.{Begin, Operation, End}
use Rattle.log_records.specs.declared.record.Physical.{Physical}
use Rattle.log_records.specs.declared.record.Physical.TheVariants.{Logical}
use Rattle.txn_table.specs.declared.committed.Committed.{Committed}
use Rattle.txn_table.specs.declared.known.Known.{Known}
use Rattle.txn_table.specs.Commits.{with_txn}
use Rattle.txn_table.specs.Log.{Items, known_in, commits_in}
use Rattle.txn_front.specs.Front as front
use Rattle.txn_front.specs.Front.{Fronted, Going, IsOver, txn_at, going_of, operated, begun}
use Rattle.log_store.specs.declared.kept.Kept.{Kept}
use Rattle.txn_table.specs.Epochs.{later}
use Rattle.log_store.specs.Growth.{after_one, after, GoesOn}
use Rattle.replica_model.specs.declared.step.StepEvent.TheVariants as steps
use Rattle.replica.specs.Open.{Open, IsKnownAs, IsPrimary, HasRole, AgreesWith}
use Rattle.replica_model.specs.Records.{logged_op, logged_commit, logged_abort, logged_call, placed}
use Rattle.replica_model.specs.Steps.{noted}
use Rattle.replica.specs.Step.{is_active, reply, logged_by, going_in, behind, lengthened, answered, called, committed_by}
use Rattle.replica.proofs.OneMore.{later_twice}
use Rattle.replica.proofs.OneRecord.{active_primary, item, longer, begun_at, operated_at, commit, Grows, AreKnown, known_put, known_still, begin_grows, operation_grows, end_grows}
use Rattle.txn_front.proofs.Fronts.{IsOver-called, IsOver-logged, IsOver-committed, IsOver-aborted}
use Rattle.replica.proofs.Puts.{Puts, going_is, going_put, puts_written, puts_granted, puts_then, puts_over, puts_logged, puts_ended}

-- ---- a step

-- The records go on with the log, this replica agrees with it then, and they commit these.
pub record StepsTo (new : Open) (v : Kept) (items : List Physical) (cs : List Committed) : Type 0 where
  pub goes_on : GoesOn v items
  pub agrees : AgreesWith new (after v items)
  pub commits : commits_in (after v items).records ≡ commits_in v.records ++ cs

-- nothing is logged
pub rests : (new : Open) (v : Kept) → AgreesWith new v → StepsTo new v [] []
rests new v a = record { goes_on = tt; agrees = a; commits = sym (append-nil (commits_in v.records)) }

-- one record
pub alone : (r new : Open) (v : Kept) (body : Record) (cs : List Committed) → Grows r new v body cs → StepsTo new v (item r body ∷ []) cs
alone r new v body cs g = record { goes_on = (g.may, tt); agrees = g.agrees; commits = g.commits }

-- so many records were logged, and this is shown and goes on
abbrev pub grown : ℕ → Open → ℕ → State → Fronted → Open
grown count r shown contents front = record (lengthened count r.epoch r) { shown = shown; contents = contents; front = front }

-- with these numbers in place of its own
abbrev at : Open → Epoch → Lsn → ℕ → State → Fronted → Open
at r fence last shown contents front = record r { fence = fence; last = last; stable = last; shown = shown; contents = contents; front = front }

two_behind : (r : Open) → behind (behind r.last 1) 1 ≡ behind r.last 2
two_behind r = ap (λ (n : ℕ). let l : Lsn = record { 0 = n } in l) (let e : r.last.0 + 1 + 1 ≡ r.last.0 + 2 = omega arith in e)

-- a record, and then another one
second : (r : Open) (v : Kept) (first body : Record) (cs : List Committed) (mid : Fronted) (shown : ℕ) (contents : State) (new : Fronted)
    → (let r1 : Open = longer r r.shown r.contents mid in
    Grows r r1 v first [] → Grows r1 (longer r1 shown contents new) (after_one v (item r first)) body cs
    → StepsTo (grown 2 r shown contents new) v (item r first ∷ item r1 body ∷ []) cs)
second r v first body cs mid shown contents new = λ one two.
    let w : Kept = after_one (after_one v (item r first)) (Logical (record { 0 = r.last.0 + 1 + 1 }) r.epoch body) in
    let by_fence : AgreesWith (at r (later r.fence r.epoch) (behind (behind r.last 1) 1) shown contents new) w =
    subst (λ (e : Epoch). AgreesWith (at r e (behind (behind r.last 1) 1) shown contents new) w) (later_twice r.fence r.epoch) two.agrees in
    record {
      goes_on = (one.may, (two.may, tt));
      agrees = subst (λ (l : Lsn). AgreesWith (at r (later r.fence r.epoch) l shown contents new) w) (two_behind r) by_fence;
      commits = two.commits ∙ ap (λ (ds : List Committed). ds ++ cs) (one.commits ∙ append-nil (commits_in v.records));
    }

zero_is : (n : ℕ) → (n == 0) ≡ true → n ≡ 0
zero_is n h = grind (arith, nat_tests)

some_is : (n : ℕ) → (n == 0) ≡ false → 1 ≤ n
some_is n h = grind (arith, nat_tests)

-- ---- a transaction that goes on at an active primary

pub record IsLive (r : Open) (t : TxnId) : Type 0 where
  pub going : Going
  pub is : going_of r.front t ≡ Some going
  pub active : is_active r.role ≡ true

-- once its Begin is logged
abbrev with_begin : Open → TxnId → Fronted
with_begin r t = front.logged r.front t (behind r.last 1)

puts_begin : (r : Open) (t : TxnId) (l : IsLive r t) → Puts r.front (with_begin r t) t.n (Some (begun_at r.last l.going))
puts_begin r t l = puts_logged r.front t l.going (behind r.last 1) l.is

begins : (r : Open) (v : Kept) (t : TxnId) → AgreesWith r v → (l : IsLive r t) → l.going.last.0 ≡ 0 → Grows r (longer r r.shown r.contents (with_begin r t)) v (Begin t) []
begins r v t a l first = begin_grows r v t l.going (with_begin r t) a l.active l.is first (puts_begin r t l) (IsOver-logged r.front r.contents t (behind r.last 1) a.over)

-- an operation is logged
operates : (r : Open) (v : Kept) (t : TxnId) (op : Op) (new : Lsn → Fronted) → AgreesWith r v → (l : IsLive r t)
    → ((lsn : Lsn) → Puts r.front (new lsn) t.n (Some (operated_at lsn op l.going))) → ((lsn : Lsn) → IsOver (new lsn) r.contents)
    → (b : Bool) → (l.going.last.0 == 0) ≡ b
    → (let bodies : List Record = cond b (Begin t ∷ []) [] ++ Operation t (cond b (record { 0 = r.last.0 + 1 }) l.going.last) op ∷ [] in
    StepsTo (grown (length bodies) r r.shown r.contents (new (behind r.last (length bodies)))) v (placed r.last.0 r.epoch bodies) [])
operates r v t op new a l puts over false test =
    alone r (longer r r.shown r.contents (new (behind r.last 1))) v (Operation t l.going.last op) []
    (operation_grows r v t l.going op (behind r.last 1) (new (behind r.last 1)) a l.active l.is (some_is l.going.last.0 test) refl (puts (behind r.last 1)) (over (behind r.last 1)))
operates r v t op new a l puts over true test =
    let one = begins r v t a l (zero_is l.going.last.0 test) in
    let r1 : Open = longer r r.shown r.contents (with_begin r t) in
    let v1 : Kept = after_one v (item r (Begin t)) in
    let lsn : Lsn = behind r.last 2 in
    let going : Going = begun_at r.last l.going in
    let two = operation_grows r1 v1 t going op lsn (new lsn) one.agrees l.active (going_put r.front (with_begin r t) t l.going going l.is (puts_begin r t l)) (omega arith) (two_behind r)
    (puts_over r.front (with_begin r t) (new lsn) t.n (Some going) (Some (operated_at lsn op l.going)) (puts_begin r t l) (puts lsn)) (over lsn) in
    second r v (Begin t) (Operation t (behind r.last 1) op) [] (with_begin r t) r.shown r.contents (new lsn) one two

-- its commit is logged
commits : (r : Open) (v : Kept) (t : TxnId) → AgreesWith r v → (l : IsLive r t) → (b : Bool) → (l.going.last.0 == 0) ≡ b
    → (let bodies : List Record = cond b (Begin t ∷ []) [] ++ End t (cond b (record { 0 = r.last.0 + 1 }) l.going.last) true ∷ [] in
    StepsTo (grown (length bodies) r (r.shown + 1) (folded r.contents l.going.ops) (front.ended r.front t)) v (placed r.last.0 r.epoch bodies) (commit t l.going ∷ []))
commits r v t a l b test = by b test
  where
    shows : folded r.contents (flat_map (λ c. c.ops) (commit t l.going ∷ [])) ≡ folded r.contents l.going.ops
    shows = ap (folded r.contents) (append-nil l.going.ops)

    puts : Puts r.front (front.ended r.front t) t.n None
    puts = puts_ended r.front t l.going l.is a.over.rising

    over : IsOver (front.ended r.front t) (folded r.contents l.going.ops)
    over = IsOver-committed r.front r.contents t l.going a.over l.is

    by : (b : Bool) → (l.going.last.0 == 0) ≡ b
        → (let bodies : List Record = cond b (Begin t ∷ []) [] ++ End t (cond b (record { 0 = r.last.0 + 1 }) l.going.last) true ∷ [] in
        StepsTo (grown (length bodies) r (r.shown + 1) (folded r.contents l.going.ops) (front.ended r.front t)) v (placed r.last.0 r.epoch bodies) (commit t l.going ∷ []))
    by false test =
        alone r (longer r (r.shown + 1) (folded r.contents l.going.ops) (front.ended r.front t)) v (End t l.going.last true) (commit t l.going ∷ [])
        (end_grows r v t l.going true (r.shown + 1) (folded r.contents l.going.ops) (front.ended r.front t) a l.active l.is (some_is l.going.last.0 test) refl shows puts over)
    by true test =
        let one = begins r v t a l (zero_is l.going.last.0 test) in
        let r1 : Open = longer r r.shown r.contents (with_begin r t) in
        let v1 : Kept = after_one v (item r (Begin t)) in
        let going : Going = begun_at r.last l.going in
        let two = end_grows r1 v1 t going true (r.shown + 1) (folded r.contents l.going.ops) (front.ended r.front t) one.agrees l.active (going_put r.front (with_begin r t) t l.going going l.is (puts_begin r t l)) (omega arith) refl shows
        (puts_over r.front (with_begin r t) (front.ended r.front t) t.n (Some going) None (puts_begin r t l) puts) over in
        second r v (Begin t) (End t (behind r.last 1) true) (commit t l.going ∷ []) (with_begin r t) (r.shown + 1) (folded r.contents l.going.ops) (front.ended r.front t) one two

-- ---- nothing is logged, and what goes on may change

still : (r : Open) (v : Kept) (new : Fronted) → AgreesWith r v → is_active r.role ≡ true → new.epoch ≡ r.front.epoch → r.front.begins ≤ new.begins → IsOver new r.contents → AreKnown new v.records
    → AgreesWith (record r { front = new }) v
still r v new a on epoch begins over known =
    let primary = active_primary r v.records r.role refl a.role on in
    let next : Open = record r { front = new } in
    record {
      identity = a.identity;
      fence = a.fence;
      epoch = a.epoch;
      last = a.last;
      stable_told = a.stable_told;
      stable_there = a.stable_there;
      shown = a.shown;
      contents = a.contents;
      commits = a.commits;
      epochs = a.epochs;
      role = subst (HasRole next v.records) (sym primary.0) (record {
        last_one = refl;
        active = refl;
        stable = primary.1.stable;
        shown = primary.1.shown;
        begins_in = epoch ∙ primary.1.begins_in;
        counted = λ txn k h same. omega (arith, primary.1.counted txn k h same, begins);
      });
      over = over;
      known = known;
    }

-- an abort is logged, where the transaction has records
aborts : (r : Open) (v : Kept) (t : TxnId) → AgreesWith r v → (l : IsLive r t) → (b : Bool) → (l.going.last.0 == 0) ≡ b
    → (let bodies : List Record = cond b [] (End t l.going.last false ∷ []) in
    StepsTo (record (lengthened (length bodies) r.epoch r) { front = front.ended r.front t }) v (placed r.last.0 r.epoch bodies) [])
aborts r v t a l b test = by b test
  where
    puts : Puts r.front (front.ended r.front t) t.n None
    puts = puts_ended r.front t l.going l.is a.over.rising

    over : IsOver (front.ended r.front t) r.contents
    over = IsOver-aborted r.front r.contents t a.over

    by : (b : Bool) → (l.going.last.0 == 0) ≡ b
        → (let bodies : List Record = cond b [] (End t l.going.last false ∷ []) in
        StepsTo (record (lengthened (length bodies) r.epoch r) { front = front.ended r.front t }) v (placed r.last.0 r.epoch bodies) [])
    by false test =
        alone r (longer r r.shown r.contents (front.ended r.front t)) v (End t l.going.last false) []
        (end_grows r v t l.going false r.shown r.contents (front.ended r.front t) a l.active l.is (some_is l.going.last.0 test) (omega arith) refl puts over)
    by true test =
        rests (record r { front = front.ended r.front t }) v
        (still r v (front.ended r.front t) a l.active puts.epoch (omega (arith, puts.begins)) over
        (known_put r.front (front.ended r.front t) v.records v.records t None (going_is r.front t l.going l.is).named puts (λ u away. refl) (λ g e. absurd (none-some g e)) a.known))

-- ---- a begin

next_is_new : (r : Open) (log : Items) → IsPrimary r log r.epoch true → with_txn (txn_at r.front (r.front.begins + 1)) (known_in log) ≡ None
next_is_new r log p = by (with_txn (txn_at r.front (r.front.begins + 1)) (known_in log)) refl
  where
    by : (o : Option Known) → with_txn (txn_at r.front (r.front.begins + 1)) (known_in log) ≡ o → o ≡ None
    by None is = refl
    by (Some k) is = absurd (omega (arith, p.counted (txn_at r.front (r.front.begins + 1)) k is p.begins_in))

-- nothing was logged of it
abbrev fresh_one : Going
fresh_one = record { last = record { 0 = 0 }; ops = [] }

known_begun : (r : Open) (v : Kept) → AgreesWith r v → IsPrimary r v.records r.epoch true → AreKnown (begun r.front) v.records
known_begun r v a p =
    let n : ℕ = r.front.begins + 1 in
    let counted : Fronted = record r.front { begins = n } in
    known_put counted (begun r.front) v.records v.records (txn_at r.front n) (Some fresh_one) refl (puts_written counted n fresh_one) (λ u away. refl)
    (λ g e. let same : fresh_one ≡ g = cc in subst (λ (x : Going). IsKnownAs x (with_txn (txn_at r.front n) (known_in v.records))) same (subst (IsKnownAs fresh_one) (sym (next_is_new r v.records p)) (refl, refl)))
    a.known

pub begin_agrees : (r : Open) (v : Kept) → AgreesWith r v → is_active r.role ≡ true → AgreesWith (record r { front = begun r.front }) v
begin_agrees r v a on =
    let primary = active_primary r v.records r.role refl a.role on in
    still r v (begun r.front) a on refl (omega arith) (IsOver-called r.front r.contents calls.Begin a.over) (known_begun r v a primary.1)

-- ---- each call

-- a transaction goes on at an active primary, or not
pub live_or : (r : Open) (t : TxnId) → (going_in r t ≡ None) ⊎ IsLive r t
live_or r t = by (is_active r.role) refl (going_of r.front t) refl
  where
    by : (b : Bool) → is_active r.role ≡ b → (o : Option Going) → going_of r.front t ≡ o → (going_in r t ≡ None) ⊎ IsLive r t
    by false off o is = inl (ap (λ (b : Bool). cond b (going_of r.front t) None) off)
    by true on None is = inl (ap (λ (b : Bool). cond b (going_of r.front t) None) on ∙ is)
    by true on (Some going) is = inr (record { going = going; is = is; active = on })

-- what a call of it is answered
abbrev pub reply_live : Open → TxnId → Going → Call → Option Reply
reply_live r t going call = live_reply r.front.grants (folded r.contents going.ops) t call

pub replies_live : (r : Open) (t : TxnId) (call : Call) → txn_named call ≡ Some t → (l : IsLive r t) → reply r call ≡ reply_live r t l.going call
replies_live r t call named l =
    ap (λ (b : Bool). cond b (front.told r.front r.contents call) (Some (plain (answers.NotActive r.id)))) l.active
    ∙ ap (λ (o : Option TxnId). option_map_or (λ t. option_map_or (λ going. live_reply r.front.grants (folded r.contents going.ops) t call) (going_of r.front t) (Some (plain (answers.Ended t)))) o (Some (plain (answers.Txn (txn_at r.front (r.front.begins + 1)))))) named
    ∙ ap (λ (o : Option Going). option_map_or (λ going. live_reply r.front.grants (folded r.contents going.ops) t call) o (Some (plain (answers.Ended t)))) l.is

-- what it logs
pub logs_live : (r : Open) (t : TxnId) (call : Call) → txn_named call ≡ Some t → (l : IsLive r t) → logged_by r call ≡ logged_call r.last t l.going call (reply_live r t l.going call)
logs_live r t call named l =
    let is : going_in r t ≡ Some l.going = ap (λ (b : Bool). cond b (going_of r.front t) None) l.active ∙ l.is in
    ap (λ (o : Option TxnId). option_map_or (λ t. option_map_or (λ going. logged_call r.last t going call (reply r call)) (going_in r t) []) o []) named
    ∙ ap (λ (o : Option Going). option_map_or (λ going. logged_call r.last t going call (reply r call)) o []) is
    ∙ ap (logged_call r.last t l.going call) (replies_live r t call named l)

pub logs_none : (r : Open) (t : TxnId) (call : Call) → txn_named call ≡ Some t → going_in r t ≡ None → logged_by r call ≡ []
logs_none r t call named none =
    ap (λ (o : Option TxnId). option_map_or (λ t. option_map_or (λ going. logged_call r.last t going call (reply r call)) (going_in r t) []) o []) named
    ∙ ap (λ (o : Option Going). option_map_or (λ going. logged_call r.last t going call (reply r call)) o []) none

-- a call is as it was computed
as_is : (r : Open) (v : Kept) (call : Call) (new : Open) (bodies : List Record) (cs : List Committed) → called r call ≡ new → logged_by r call ≡ bodies → committed_by r (steps.Client call) ≡ cs
    → StepsTo new v (placed r.last.0 r.epoch bodies) cs → StepsTo (called r call) v (placed r.last.0 r.epoch (logged_by r call)) (committed_by r (steps.Client call))
as_is r v call new bodies cs new_is bodies_are cs_are s =
    subst (λ (o : Open). StepsTo o v (placed r.last.0 r.epoch (logged_by r call)) (committed_by r (steps.Client call))) (sym new_is)
    (subst (λ (bs : List Record). StepsTo new v (placed r.last.0 r.epoch bs) (committed_by r (steps.Client call))) (sym bodies_are)
    (subst (StepsTo new v (placed r.last.0 r.epoch bodies)) (sym cs_are) s))

-- ---- one that changes the collections or reads them

-- what one that goes on has then
abbrev after_call : Open → TxnId → Going → Call → Option Op → Fronted
after_call r t going call op = operated t.n going op (record r.front { grants = taken r.front.grants t (locks_at (folded r.contents going.ops) call) })

calls_live : (r : Open) (t : TxnId) (call : Call) → txn_named call ≡ Some t → (l : IsLive r t) → (op : Option Op) → option_and_then (λ reply. reply.op) (reply_live r t l.going call) ≡ op
    → front.called r.front r.contents call ≡ after_call r t l.going call op
calls_live r t call named l op is =
    ap (λ (o : Option TxnId). option_map_or (λ t. option_map_or (λ going. front.asked r.front r.contents t going call) (going_of r.front t) r.front) o (begun r.front)) named
    ∙ ap (λ (o : Option Going). option_map_or (λ going. front.asked r.front r.contents t going call) o r.front) l.is
    ∙ ap (after_call r t l.going call) is

calls_none : (r : Open) (t : TxnId) (call : Call) → txn_named call ≡ Some t → going_of r.front t ≡ None → front.called r.front r.contents call ≡ r.front
calls_none r t call named none =
    ap (λ (o : Option TxnId). option_map_or (λ t. option_map_or (λ going. front.asked r.front r.contents t going call) (going_of r.front t) r.front) o (begun r.front)) named
    ∙ ap (λ (o : Option Going). option_map_or (λ going. front.asked r.front r.contents t going call) o r.front) none

-- how such a call is handled
pub record IsItem (r : Open) (call : Call) : Type 0 where
  pub txn : TxnId
  pub named : txn_named call ≡ Some txn
  pub logs : (last : Lsn) (going : Going) (told : Option Reply) → logged_call last txn going call told ≡ logged_op last txn going (option_and_then (λ reply. reply.op) told)
  pub changes : (count : ℕ) → answered count call r ≡ record (lengthened count r.epoch r) { front = noted count call (behind r.last count) (front.called r.front r.contents call) }
  pub commits : committed_by r (steps.Client call) ≡ []

off_none : (r : Open) (t : TxnId) → is_active r.role ≡ true → going_in r t ≡ None → going_of r.front t ≡ None
off_none r t on none = ap (λ (b : Bool). cond b (going_of r.front t) None) (sym on) ∙ none

-- the records of a call stand for it
noted_is : (count : ℕ) (r : Open) (t : TxnId) (call : Call) (lsn : Lsn) (f : Fronted) → txn_named call ≡ Some t → noted (suc count) call lsn f ≡ front.logged f t lsn
noted_is count r t call lsn f named = ap (λ (o : Option TxnId). option_map_or (λ t. front.logged f t lsn) o f) named

item_none : (r : Open) (v : Kept) (call : Call) (i : IsItem r call) → AgreesWith r v → going_in r i.txn ≡ None → StepsTo (called r call) v (placed r.last.0 r.epoch (logged_by r call)) (committed_by r (steps.Client call))
item_none r v call i a none = as_is r v call r [] [] (by (is_active r.role) refl) (logs_none r i.txn call i.named none) i.commits (rests r v a)
  where
    by : (b : Bool) → is_active r.role ≡ b → cond b (answered (length (logged_by r call)) call r) r ≡ r
    by false off = refl
    by true on =
        ap (λ (bodies : List Record). answered (length bodies) call r) (logs_none r i.txn call i.named none) ∙ i.changes 0
        ∙ ap (λ (f : Fronted). record r { front = f }) (calls_none r i.txn call i.named (off_none r i.txn on none))

item_live : (r : Open) (v : Kept) (call : Call) (i : IsItem r call) → AgreesWith r v → IsLive r i.txn → StepsTo (called r call) v (placed r.last.0 r.epoch (logged_by r call)) (committed_by r (steps.Client call))
item_live r v call i a l = by (option_and_then (λ reply. reply.op) (reply_live r i.txn l.going call)) refl
  where
    bodies_are : (op : Option Op) → option_and_then (λ reply. reply.op) (reply_live r i.txn l.going call) ≡ op → logged_by r call ≡ logged_op r.last i.txn l.going op
    bodies_are op is = logs_live r i.txn call i.named l ∙ i.logs r.last l.going (reply_live r i.txn l.going call) ∙ ap (logged_op r.last i.txn l.going) is

    called_is : (op : Option Op) → option_and_then (λ reply. reply.op) (reply_live r i.txn l.going call) ≡ op
        → (let count : ℕ = length (logged_op r.last i.txn l.going op) in
        called r call ≡ record (lengthened count r.epoch r) { front = noted count call (behind r.last count) (after_call r i.txn l.going call op) })
    called_is op is =
        let count : ℕ = length (logged_op r.last i.txn l.going op) in
        ap (λ (b : Bool). cond b (answered (length (logged_by r call)) call r) r) l.active
        ∙ ap (λ (bodies : List Record). answered (length bodies) call r) (bodies_are op is)
        ∙ i.changes count
        ∙ ap (λ (f : Fronted). record (lengthened count r.epoch r) { front = noted count call (behind r.last count) f }) (calls_live r i.txn call i.named l op is)

    over : (op : Option Op) → option_and_then (λ reply. reply.op) (reply_live r i.txn l.going call) ≡ op → IsOver (after_call r i.txn l.going call op) r.contents
    over op is = subst (λ (f : Fronted). IsOver f r.contents) (calls_live r i.txn call i.named l op is) (IsOver-called r.front r.contents call a.over)

    puts : (op : Op) (lsn : Lsn) → Puts r.front (front.logged (after_call r i.txn l.going call (Some op)) i.txn lsn) i.txn.n (Some (operated_at lsn op l.going))
    puts op lsn =
        let next : Going = record { last = l.going.last; ops = l.going.ops ++ op ∷ [] } in
        let f1 : Fronted = after_call r i.txn l.going call (Some op) in
        let one : Puts r.front f1 i.txn.n (Some next) = puts_granted r.front i.txn.n next (taken r.front.grants i.txn (locks_at (folded r.contents l.going.ops) call)) in
        puts_then r.front f1 (front.logged f1 i.txn lsn) i.txn.n (Some next) (Some (operated_at lsn op l.going)) one (puts_logged f1 i.txn next lsn (going_put r.front f1 i.txn l.going next l.is one))

    by : (op : Option Op) → option_and_then (λ reply. reply.op) (reply_live r i.txn l.going call) ≡ op → StepsTo (called r call) v (placed r.last.0 r.epoch (logged_by r call)) (committed_by r (steps.Client call))
    by None is =
        as_is r v call (record r { front = after_call r i.txn l.going call None }) [] [] (called_is None is) (bodies_are None is) i.commits
        (rests (record r { front = after_call r i.txn l.going call None }) v
        (still r v (after_call r i.txn l.going call None) a l.active refl (omega arith) (over None is)
        (known_still r.front (after_call r i.txn l.going call None) v.records v.records refl refl refl a.known)))
    by (Some op) is =
        as_is r v call (grown (length (logged_op r.last i.txn l.going (Some op))) r r.shown r.contents (front.logged (after_call r i.txn l.going call (Some op)) i.txn (behind r.last (length (logged_op r.last i.txn l.going (Some op))))))
        (logged_op r.last i.txn l.going (Some op)) []
        (called_is (Some op) is ∙ some_noted op (l.going.last.0 == 0))
        (bodies_are (Some op) is) i.commits
        (operates r v i.txn op (λ lsn. front.logged (after_call r i.txn l.going call (Some op)) i.txn lsn) a l (puts op) (λ lsn. IsOver-logged (after_call r i.txn l.going call (Some op)) r.contents i.txn lsn (over (Some op) is)) (l.going.last.0 == 0) refl)
      where
        some_noted : (op : Op) (b : Bool) → (let count : ℕ = length (cond b (Begin i.txn ∷ []) [] ++ Operation i.txn (cond b (record { 0 = r.last.0 + 1 }) l.going.last) op ∷ []) in
            (let new : Open = record (lengthened count r.epoch r) { front = noted count call (behind r.last count) (after_call r i.txn l.going call (Some op)) } in new)
            ≡ grown count r r.shown r.contents (front.logged (after_call r i.txn l.going call (Some op)) i.txn (behind r.last count)))
        some_noted op false = ap (λ (f : Fronted). record (lengthened 1 r.epoch r) { front = f }) (noted_is 0 r i.txn call (behind r.last 1) (after_call r i.txn l.going call (Some op)) i.named)
        some_noted op true = ap (λ (f : Fronted). record (lengthened 2 r.epoch r) { front = f }) (noted_is 1 r i.txn call (behind r.last 2) (after_call r i.txn l.going call (Some op)) i.named)

pub item_steps : (r : Open) (v : Kept) (call : Call) (i : IsItem r call) → AgreesWith r v → StepsTo (called r call) v (placed r.last.0 r.epoch (logged_by r call)) (committed_by r (steps.Client call))
item_steps r v call i a = elim (live_or r i.txn) [ inl none ↦ item_none r v call i a none | inr live ↦ item_live r v call i a live ]

-- ---- the other calls

pub begin_steps : (r : Open) (v : Kept) → AgreesWith r v → StepsTo (called r calls.Begin) v [] []
begin_steps r v a = by (is_active r.role) refl
  where
    by : (b : Bool) → is_active r.role ≡ b → StepsTo (cond b (record r { front = begun r.front }) r) v [] []
    by false off = rests r v a
    by true on = rests (record r { front = begun r.front }) v (begin_agrees r v a on)

pub commit_steps : (r : Open) (v : Kept) (t : TxnId) → AgreesWith r v → StepsTo (called r (calls.Commit t)) v (placed r.last.0 r.epoch (logged_by r (calls.Commit t))) (committed_by r (steps.Client (calls.Commit t)))
commit_steps r v t a = elim (live_or r t) [
  | inl none ↦ as_is r v (calls.Commit t) r [] [] (rest none (is_active r.role) refl) (logs_none r t (calls.Commit t) refl none)
      (ap (λ (o : Option Going). option_map_or (λ going. commit t going ∷ []) o []) none) (rests r v a)
  | inr l ↦
      let bodies : List Record = logged_commit r.last t l.going in
      as_is r v (calls.Commit t) (record (lengthened (length bodies) r.epoch r) { shown = r.shown + 1; contents = folded r.contents l.going.ops; front = front.ended r.front t }) bodies (commit t l.going ∷ [])
      (shows l) (logs_live r t (calls.Commit t) refl l)
      (ap (λ (o : Option Going). option_map_or (λ going. commit t going ∷ []) o []) (ap (λ (b : Bool). cond b (going_of r.front t) None) l.active ∙ l.is))
      (commits r v t a l (l.going.last.0 == 0) refl)
]
  where
    rest : going_in r t ≡ None → (b : Bool) → is_active r.role ≡ b → cond b (answered (length (logged_by r (calls.Commit t))) (calls.Commit t) r) r ≡ r
    rest none false off = refl
    rest none true on = ap (λ (o : Option Going). option_map_or (λ going. record (lengthened (length (logged_by r (calls.Commit t))) r.epoch r) { shown = r.shown + 1; contents = folded r.contents going.ops; front = front.ended r.front t }) o r) (off_none r t on none)

    shows : (l : IsLive r t) → called r (calls.Commit t) ≡ record (lengthened (length (logged_commit r.last t l.going)) r.epoch r) { shown = r.shown + 1; contents = folded r.contents l.going.ops; front = front.ended r.front t }
    shows l =
        ap (λ (b : Bool). cond b (answered (length (logged_by r (calls.Commit t))) (calls.Commit t) r) r) l.active
        ∙ ap (λ (o : Option Going). option_map_or (λ going. record (lengthened (length (logged_by r (calls.Commit t))) r.epoch r) { shown = r.shown + 1; contents = folded r.contents going.ops; front = front.ended r.front t }) o r) l.is
        ∙ ap (λ (bodies : List Record). record (lengthened (length bodies) r.epoch r) { shown = r.shown + 1; contents = folded r.contents l.going.ops; front = front.ended r.front t }) (logs_live r t (calls.Commit t) refl l)

pub abort_steps : (r : Open) (v : Kept) (t : TxnId) → AgreesWith r v → StepsTo (called r (calls.Abort t)) v (placed r.last.0 r.epoch (logged_by r (calls.Abort t))) []
abort_steps r v t a = elim (live_or r t) [
  | inl none ↦ as_is r v (calls.Abort t) r [] [] (rest none (is_active r.role) refl) (logs_none r t (calls.Abort t) refl none) refl (rests r v a)
  | inr l ↦
      let bodies : List Record = logged_abort t l.going in
      as_is r v (calls.Abort t) (record (lengthened (length bodies) r.epoch r) { front = front.ended r.front t }) bodies []
      (ends l) (logs_live r t (calls.Abort t) refl l) refl
      (aborts r v t a l (l.going.last.0 == 0) refl)
]
  where
    stays : (o : Option Going) → going_of r.front t ≡ o → o ≡ None → front.ended r.front t ≡ r.front
    stays o is none = ap (λ (o : Option Going). option_map_or (λ going. record r.front { live = remove_entry (is_at (nat_cmp t.n)) r.front.live; grants = released r.front.grants t }) o r.front) (is ∙ none)

    rest : going_in r t ≡ None → (b : Bool) → is_active r.role ≡ b → cond b (answered (length (logged_by r (calls.Abort t))) (calls.Abort t) r) r ≡ r
    rest none false off = refl
    rest none true on =
        ap (λ (bodies : List Record). record (lengthened (length bodies) r.epoch r) { front = front.ended r.front t }) (logs_none r t (calls.Abort t) refl none)
        ∙ ap (λ (f : Fronted). record r { front = f }) (stays (going_of r.front t) refl (off_none r t on none))

    ends : (l : IsLive r t) → called r (calls.Abort t) ≡ record (lengthened (length (logged_abort t l.going)) r.epoch r) { front = front.ended r.front t }
    ends l =
        ap (λ (b : Bool). cond b (answered (length (logged_by r (calls.Abort t))) (calls.Abort t) r) r) l.active
        ∙ ap (λ (bodies : List Record). record (lengthened (length bodies) r.epoch r) { front = front.ended r.front t }) (logs_live r t (calls.Abort t) refl l)

-- what each of the others is
item_of : (r : Open) (call : Call) (t : TxnId) → txn_named call ≡ Some t
    → ((last : Lsn) (going : Going) (told : Option Reply) → logged_call last t going call told ≡ logged_op last t going (option_and_then (λ reply. reply.op) told))
    → ((count : ℕ) → answered count call r ≡ record (lengthened count r.epoch r) { front = noted count call (behind r.last count) (front.called r.front r.contents call) })
    → committed_by r (steps.Client call) ≡ [] → IsItem r call
item_of r call t named logs changes commits = record { txn = t; named = named; logs = logs; changes = changes; commits = commits }

-- a call goes on with the log
pub call_steps : (r : Open) (v : Kept) (call : Call) → AgreesWith r v → StepsTo (called r call) v (placed r.last.0 r.epoch (logged_by r call)) (committed_by r (steps.Client call))
call_steps r v calls.Begin a = begin_steps r v a
call_steps r v (calls.Make t name kind) a = item_steps r v (calls.Make t name kind) (item_of r (calls.Make t name kind) t refl (λ last going told. refl) (λ count. refl) refl) a
call_steps r v (calls.OnKey t name key asked) a = item_steps r v (calls.OnKey t name key asked) (item_of r (calls.OnKey t name key asked) t refl (λ last going told. refl) (λ count. refl) refl) a
call_steps r v (calls.Commit t) a = commit_steps r v t a
call_steps r v (calls.Abort t) a = abort_steps r v t a
