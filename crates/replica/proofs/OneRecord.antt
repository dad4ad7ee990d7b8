-- One more record at an active primary: the log goes on with it, and the replica agrees with the longer log.
use Rattle.std.proofs.Common.{◌≡◌, ◌≢◌, ℕ, ◌+◌, ◌≤◌, ◌==◌, ◌&&◌, Bool, true, false, cond, List, [], ◌∷◌, ◌++◌, length, map, flat_map, Option, Some, None, refl, sym, ap, ap₂, subst, ◌∙◌, ◌⊎◌, inl, inr, arith}
use Rattle.std.specs.Prelude.{IsTrue, nat_lt}
use Rattle.std.specs.Option.{option_map}
use Rattle.std.proofs.lemmas.List.{append-nil, length-append, take_all}
use Rattle.std.proofs.lemmas.List.Sums.{fold-append}
use Rattle.std.proofs.lemmas.Grind.{flat_map-append}
use Rattle.std.proofs.lemmas.Bool.{false≢true, and_from, eq-eqb, cases_eq}
use Rattle.std.proofs.lemmas.Bool.Decides.{nat_tests}
use Rattle.std.proofs.lemmas.Option.{none-some}
use Rattle.rc_base.specs.declared.ids.Epoch.{Epoch}
use Rattle.rc_base.specs.declared.ids.Lsn.{Lsn}
use Rattle.rc_base.specs.declared.ids.TxnId.{TxnId}
use Rattle.rc_base.specs.Ids.{epoch_lt, epoch_le, is_epoch, is_txn}
use Rattle.rc_base.proofs.EpochOrder.{epoch_le_same, epoch_le_lt, epoch_le_not, epoch_lt_le}
use Rattle.rc_base.proofs.SameIds.{is_epoch_same, is_txn-true, is_txn_same}
use Rattle.coll_model.specs.declared.op.Op.{Op}
use Rattle.coll_model.specs.Effect.{State, effect, folded}
use Rattle.log_records.specs.declared.record.Record.{Record}
use Rattle.log_records.specs.declared.record.Record.TheVariants.{Begin, Operation, End, Barrier, EpochStart}
use Rattle.log_records.specs.declared.record.Physical.{Physical}
use Rattle.log_records.specs.declared.record.Physical.TheVariants.{Logical}
use Rattle.txn_table.specs.declared.committed.Committed.{Committed}
use Rattle.txn_table.specs.declared.known.Ending.{Ending}
use Rattle.txn_table.specs.declared.known.Known.{Known}
use Rattle.txn_table.specs.Commits.{with_txn, fault_in, link_fault, begin_fault, commit_in, commit_of, one_or_none, is_pending, last_of, last_from, last_position, ops_of}
use Rattle.txn_table.specs.Tables.{followed, with_records}
use Rattle.txn_table.proofs.Records.{barrier_changes_none, operation_of_own, operation_of_other, end_of_other, none_if_open}
use Rattle.txn_table.specs.Log.{Items, may_follow, may_stand, last_epoch, known_in, commits_in, no_base}
use Rattle.txn_table.proofs.LogGrowth.{last_from-push, known_from-push, commits_from-push}
use Rattle.txn_front.specs.Front.{Fronted, Going, IsOver, txn_at, numbered, going_of}
use Rattle.log_store.specs.declared.kept.Kept.{Kept}
use Rattle.txn_table.specs.Epochs.{later}
use Rattle.log_store.specs.Growth.{MayCome, after_one}
use Rattle.replica_model.specs.declared.role.Role.{Role}
use Rattle.replica_model.specs.declared.role.Role.TheVariants.{Other, Primary}
use Rattle.replica.specs.Open.{Open, commits_to, state_of, IsKnownAs, IsPrimary, HasRole, AgreesWith}
use Rattle.txn_table.specs.Whole.{stable_told}
use Rattle.replica.specs.Step.{is_active, behind, lengthened, started}
use Rattle.replica.proofs.OneMore.{next, stable_push, known_is, with_map, with_begin, known_before, known_or_new, fresh, others_stay}
use Rattle.lock_laws.proofs.ProtectedStates.{IsOrdered-folded}
use Rattle.txn_front.proofs.Fronts.{IsOver-nothing}
use Rattle.replica.proofs.Puts.{Puts, going_is}

-- ---- an active primary

pub active_primary : (r : Open) (log : Items) (role : Role) → r.role ≡ role → HasRole r log role → is_active role ≡ true → (r.role ≡ Primary r.epoch true) × IsPrimary r log r.epoch true
active_primary r log Other was h on = absurd (false≢true on)
active_primary r log (Primary epoch active) was h on = (
  was ∙ ap₂ Primary h.last_one h.active,
  record { last_one = refl; active = refl; stable = h.stable; shown = h.shown; begins_in = h.begins_in; counted = h.counted },
)

pub whole : (n : ℕ) (log : Items) → length log ≤ n → commits_to n log ≡ commits_in log
whole n log le = ap commits_in (take_all n log le)

pub state_more : (cs ds : List Committed) → state_of (cs ++ ds) ≡ folded (state_of cs) (flat_map (λ c. c.ops) ds)
state_more cs ds = ap (folded []) (flat_map-append (λ (c : Committed). c.ops) cs ds) ∙ fold-append effect [] (flat_map (λ (c : Committed). c.ops) cs) (flat_map (λ (c : Committed). c.ops) ds)

-- ---- what goes on

-- the log knows what goes on at a front as the front does
abbrev pub AreKnown : Fronted → Items → Type 0
AreKnown f log = (n : ℕ) (going : Going) → numbered n f.live ≡ Some going → IsKnownAs going (with_txn (txn_at f n) (known_in log))

-- whoever is none of a transaction is known as before
abbrev pub OthersStay : TxnId → Items → Items → Type 0
OthersStay t log new = (u : TxnId) → is_txn t u ≡ false → with_txn u (known_in new) ≡ with_txn u (known_in log)

other_number : (t : TxnId) (epoch : Epoch) (n : ℕ) → n ≢ t.n → is_txn t (record { epoch = epoch; n = n }) ≡ false
other_number t epoch n away = by (is_txn t (record { epoch = epoch; n = n })) refl
  where
    by : (b : Bool) → is_txn t (record { epoch = epoch; n = n }) ≡ b → b ≡ false
    by true is = absurd (away (sym (ap (λ (u : TxnId). u.n) (is_txn-true t (record { epoch = epoch; n = n }) is))))
    by false is = refl

-- one transaction has changed at the front and in the log
pub known_put : (f new : Fronted) (log behind_it : Items) (t : TxnId) (o : Option Going) → t ≡ txn_at f t.n → Puts f new t.n o → OthersStay t log behind_it
    → ((going : Going) → o ≡ Some going → IsKnownAs going (with_txn t (known_in behind_it))) → AreKnown f log → AreKnown new behind_it
known_put f new log behind_it t o named p others own was n going is = elim (cases_eq n t.n) [
  | inl same ↦
      let here : o ≡ Some going = sym p.own ∙ ap (λ (m : ℕ). numbered m new.live) (sym same) ∙ is in
      let t_is : t ≡ txn_at new n = named ∙ ap₂ (λ (e : Epoch) (m : ℕ). let u : TxnId = record { epoch = e; n = m } in u) (sym p.epoch) (sym same) in
      subst (λ (u : TxnId). IsKnownAs going (with_txn u (known_in behind_it))) t_is (own going here)
  | inr away ↦
      let before : numbered n f.live ≡ Some going = sym (p.others n away) ∙ is in
      let u_is : txn_at f n ≡ txn_at new n = ap (λ (e : Epoch). let u : TxnId = record { epoch = e; n = n } in u) (sym p.epoch) in
      subst (λ (u : TxnId). IsKnownAs going (with_txn u (known_in behind_it))) u_is
      (subst (IsKnownAs going) (sym (others (txn_at f n) (other_number t f.epoch n away))) (was n going before))
]

-- no transaction has changed in the log
pub known_still : (f new : Fronted) (log behind_it : Items) → new.epoch ≡ f.epoch → new.live ≡ f.live → known_in behind_it ≡ known_in log → AreKnown f log → AreKnown new behind_it
known_still f new log behind_it epoch live same was n going is =
    let before : numbered n f.live ≡ Some going = ap (numbered n) (sym live) ∙ is in
    let u_is : txn_at f n ≡ txn_at new n = ap (λ (e : Epoch). let u : TxnId = record { epoch = e; n = n } in u) (sym epoch) in
    subst (λ (u : TxnId). IsKnownAs going (with_txn u (known_in behind_it))) u_is
    (subst (λ (ks : List Known). IsKnownAs going (with_txn (txn_at f n) ks)) (sym same) (was n going before))

-- ---- one more record

-- the next record of its epoch
abbrev pub item : Open → Record → Physical
item r body = Logical (record { 0 = r.last.0 + 1 }) r.epoch body

-- with one more record, and this shown and going on
abbrev pub longer : Open → ℕ → State → Fronted → Open
longer r shown contents front = record (lengthened 1 r.epoch r) { shown = shown; contents = contents; front = front }

-- The record goes on with the log, the replica agrees with it then, and it commits these.
pub record Grows (r new : Open) (v : Kept) (body : Record) (cs : List Committed) : Type 0 where
  pub may : MayCome v (item r body)
  pub agrees : AgreesWith new (after_one v (item r body))
  pub commits : commits_in (v.records ++ (r.epoch, body) ∷ []) ≡ commits_in v.records ++ cs

-- A record of the primary's epoch that may stand behind the log and commits these. The transactions that are known then were
-- known before, or are of the epoch.
record MayGrow (r : Open) (log : Items) (body : Record) (cs : List Committed) : Type 0 where
  follows : IsTrue (may_follow r.epoch r.epoch body)
  stands : IsTrue (may_stand (r.last.0 + 1) r.epoch body)
  linked : fault_in (known_in log) body ≡ None
  commits : one_or_none (commit_in (known_in log) body) ≡ cs
  told : stable_told body ≤ r.last.0 + 1
  known : (txn : TxnId) (k : Known) → with_txn txn (with_records (known_in log) ((next log, body) ∷ [])) ≡ Some k
      → ((txn.epoch ≡ r.epoch) × (txn.n ≤ r.front.begins)) ⊎ ((before : Known) × (with_txn txn (known_in log) ≡ Some before))

-- what goes on then is over the state that is shown then, and the log knows it
record Stays (r : Open) (log : Items) (contents : State) (new : Fronted) : Type 0 where
  epoch : new.epoch ≡ r.front.epoch
  begins : new.begins ≡ r.front.begins
  over : IsOver new contents
  known : AreKnown new log

grow : (r : Open) (v : Kept) (body : Record) (cs : List Committed) (shown : ℕ) (contents : State) (front : Fronted) → AgreesWith r v → is_active r.role ≡ true → MayGrow r v.records body cs
    → shown ≡ r.shown + length cs → folded r.contents (flat_map (λ c. c.ops) cs) ≡ contents
    → Stays r (v.records ++ (r.epoch, body) ∷ []) contents front
    → Grows r (longer r shown contents front) v body cs
grow r v body cs shown contents front a on g shown_is contents_is stays =
    let primary = active_primary r v.records r.role refl a.role on in
    let new : Open = longer r shown contents front in
    let log : Items = v.records ++ (r.epoch, body) ∷ [] in
    let all : commits_to r.stable.0 v.records ≡ commits_in v.records = whole r.stable.0 v.records (omega (arith, a.last, ap (λ (l : Lsn). l.0) primary.1.stable)) in
    let size : length log ≡ r.last.0 + 1 = length-append v.records ((r.epoch, body) ∷ []) ∙ ap (λ (n : ℕ). n + 1) a.last in
    let commits : commits_in log ≡ commits_in v.records ++ cs = commits_from-push no_base v.records (r.epoch, body) ∙ ap (λ (ds : List Committed). commits_in v.records ++ ds) g.commits in
    let here : commits_to (r.last.0 + 1) log ≡ commits_in v.records ++ cs = whole (r.last.0 + 1) log (omega (arith, size)) ∙ commits in
    let all_known : (txn : TxnId) (k : Known) → with_txn txn (known_in log) ≡ Some k → ((txn.epoch ≡ r.epoch) × (txn.n ≤ r.front.begins)) ⊎ ((before : Known) × (with_txn txn (known_in v.records) ≡ Some before))
    = λ txn k h. g.known txn k (ap (with_txn txn) (sym (known_from-push no_base v.records (r.epoch, body))) ∙ h) in
    record {
      may = (
        ap (λ (n : ℕ). n + 1) (sym a.last),
        record {
          follows = subst (λ (e : Epoch). IsTrue (may_follow e r.epoch body)) (sym a.epoch) g.follows;
          stands = subst (λ (n : ℕ). IsTrue (may_stand (n + 1) r.epoch body)) (sym a.last) g.stands;
          linked = g.linked;
        },
      );
      agrees = record {
        identity = a.identity;
        fence = ap (λ (e : Epoch). later e r.epoch) a.fence;
        epoch = last_from-push _ v.records (r.epoch, body);
        last = size;
        stable_told = stable_push v.records r.epoch body (r.last.0 + 1) (omega (arith, a.stable_told, a.stable_there)) g.told;
        stable_there = omega arith;
        shown = ap length here ∙ length-append (commits_in v.records) cs ∙ ap (λ (n : ℕ). n + length cs) (ap length (sym all) ∙ a.shown) ∙ sym shown_is;
        contents = ap state_of here ∙ state_more (commits_in v.records) cs ∙ ap (λ (s : State). folded s (flat_map (λ c. c.ops) cs)) (ap state_of (sym all) ∙ a.contents) ∙ contents_is;
        commits = commits ∙ sym here ∙ sym (append-nil (commits_to (r.last.0 + 1) log)) ∙ ap (λ (ds : List Committed). commits_to (r.last.0 + 1) log ++ ds) (sym primary.1.shown);
        epochs = λ txn k h. elim (all_known txn k h) [ inl own ↦ epoch_le_same txn.epoch r.epoch own.0 | inr old ↦ a.epochs txn old.0 old.1 ];
        role = subst (HasRole new log) (sym primary.0) (record {
          last_one = refl;
          active = refl;
          stable = refl;
          shown = primary.1.shown;
          begins_in = stays.epoch ∙ primary.1.begins_in;
          counted = λ txn k h same. elim (all_known txn k h) [
            | inl own ↦ omega (arith, own.1, stays.begins)
            | inr old ↦ omega (arith, primary.1.counted txn old.0 old.1 same, stays.begins)
          ];
        });
        over = stays.over;
        known = stays.known;
      };
      commits = commits;
    }

-- ---- the transaction that goes on

-- what the log knows of it
known_as : (r : Open) (v : Kept) (t : TxnId) (going : Going) → AgreesWith r v → going_of r.front t ≡ Some going → IsKnownAs going (with_txn t (known_in v.records))
known_as r v t going a is =
    let g = going_is r.front t going is in
    subst (λ (u : TxnId). IsKnownAs going (with_txn u (known_in v.records))) (sym g.named) (a.known t.n going g.is)

-- what is known of it before its first record
not_begun : (going : Going) (o : Option Known) → IsKnownAs going o → going.last.0 ≡ 0 → (o ≡ None) × (going.ops ≡ [])
not_begun going None h zero = (refl, h.1)
not_begun going (Some k) h zero = absurd (omega (arith, h.0, zero))

-- what is known of it then
pub record IsBegun (t : TxnId) (going : Going) (log : Items) : Type 0 where
  pub known : Known
  pub is : with_txn t (known_in log) ≡ Some known
  pub pending : is_pending known ≡ true
  pub last : last_of known ≡ going.last
  pub ops : map (λ o. o.1) known.ops ≡ going.ops

pub begun : (t : TxnId) (going : Going) (log : Items) → IsKnownAs going (with_txn t (known_in log)) → 1 ≤ going.last.0 → IsBegun t going log
begun t going log h some = by (with_txn t (known_in log)) refl h
  where
    by : (o : Option Known) → with_txn t (known_in log) ≡ o → IsKnownAs going o → IsBegun t going log
    by None was e = absurd (omega (arith, some, e.0))
    by (Some k) was e = record { known = k; is = was; pending = e.1; last = e.2; ops = e.3 }

none_other : (o : Option Going) → o ≡ None → (going : Going) → o ≡ Some going → ⊥
none_other o e going h = none-some going (sym e ∙ h)

-- it begins in the log
abbrev pub begun_at : Lsn → Going → Going
begun_at last going = record { last = behind last 1; ops = going.ops }

only : (next g : Going) (o : Option Known) → IsKnownAs next o → (let some : Option Going = Some next in some ≡ Some g) → IsKnownAs g o
only next g o h e = let same : next ≡ g = cc in subst (λ (x : Going). IsKnownAs x o) same h

-- its epoch is the replica's, and its number is counted
own_epoch : (r : Open) (v : Kept) (t : TxnId) (going : Going) → AgreesWith r v → is_active r.role ≡ true → going_of r.front t ≡ Some going → (t.epoch ≡ r.epoch) × (t.n ≤ r.front.begins)
own_epoch r v t going a on is =
    let primary = active_primary r v.records r.role refl a.role on in
    let g = going_is r.front t going is in
    (ap (λ (u : TxnId). u.epoch) g.named ∙ primary.1.begins_in, (a.over.each t.n going g.is).begun)

pub begin_grows : (r : Open) (v : Kept) (t : TxnId) (going : Going) (front : Fronted) → AgreesWith r v → is_active r.role ≡ true → going_of r.front t ≡ Some going → going.last.0 ≡ 0
    → Puts r.front front t.n (Some (begun_at r.last going)) → IsOver front r.contents
    → Grows r (longer r r.shown r.contents front) v (Begin t) []
begin_grows r v t going front a on is zero puts over =
    let ks : List Known = known_in v.records in
    let none = not_begun going (with_txn t ks) (known_as r v t going a is) zero in
    let log : Items = v.records ++ (r.epoch, Begin t) ∷ [] in
    let at : next v.records ≡ behind r.last 1 = ap (λ (n : ℕ). record { 0 = n + 1 }) a.last in
    let each : (u : TxnId) → with_txn u (known_in log) ≡ cond (is_txn t u) (Some (fresh (next v.records) t)) (with_txn u ks)
    = λ u. ap (with_txn u) (known_from-push no_base v.records (r.epoch, Begin t)) ∙ with_begin (next v.records) t u ks none.0 in
    let known : with_txn t (known_in log) ≡ Some (fresh (next v.records) t) =
    each t ∙ ap (λ (b : Bool). cond b (Some (fresh (next v.records) t)) (with_txn t ks)) (is_txn_same t) in
    let others : OthersStay t v.records log = λ u away. each u ∙ ap (λ (b : Bool). cond b (Some (fresh (next v.records) t)) (with_txn u ks)) away in
    let own = own_epoch r v t going a on is in
    let here : IsKnownAs (begun_at r.last going) (with_txn t (known_in log)) = subst (IsKnownAs (begun_at r.last going)) (sym known) (omega arith, refl, at, sym none.1) in
    grow r v (Begin t) [] r.shown r.contents front a on
    (record {
      follows = is_epoch_same r.epoch;
      stands = subst (λ (e : Epoch). is_epoch e r.epoch ≡ true) (sym own.0) (is_epoch_same r.epoch);
      linked = ap begin_fault none.0;
      commits = refl;
      told = omega arith;
      known = λ txn k h. elim (known_or_new (next v.records) t txn ks k none.0 h) [
        | inl same ↦ inl (subst (λ (u : TxnId). (u.epoch ≡ r.epoch) × (u.n ≤ r.front.begins)) (is_txn-true t txn same) own)
        | inr before ↦ inr before
      ];
    })
    (omega arith) refl
    (record {
      epoch = puts.epoch;
      begins = puts.begins;
      over = over;
      known = known_put r.front front v.records log t (Some (begun_at r.last going)) (going_is r.front t going is).named puts others
          (λ g e. only (begun_at r.last going) g (with_txn t (known_in log)) here e) a.known;
    })

last_position_push : (begin : Lsn) (ops : List (Lsn × Op)) (lsn : Lsn) (op : Op) → last_position begin (ops ++ (lsn, op) ∷ []) ≡ lsn
last_position_push begin [] lsn op = refl
last_position_push begin (o ∷ ops) lsn op = last_position_push o.0 ops lsn op

map_push : (ops : List (Lsn × Op)) (lsn : Lsn) (op : Op) → map (λ o. o.1) (ops ++ (lsn, op) ∷ []) ≡ map (λ o. o.1) ops ++ op ∷ []
map_push [] lsn op = refl
map_push (o ∷ ops) lsn op = ap (λ (os : List Op). o.1 ∷ os) (map_push ops lsn op)

own : (t : TxnId) (going : Going) (log : Items) (b : IsBegun t going log) → is_txn t b.known.txn ≡ true
own t going log b =
    let same : b.known.txn ≡ t = is_txn-true b.known.txn t (known_is t (known_in log) b.known b.is) in
    subst (λ (u : TxnId). is_txn t u ≡ true) (sym same) (is_txn_same t)

no_fault : (t : TxnId) (going : Going) (log : Items) (b : IsBegun t going log) → link_fault going.last (with_txn t (known_in log)) ≡ None
no_fault t going log b =
    let test : is_pending b.known && (going.last.0 == (last_of b.known).0) ≡ true = and_from _ _ b.pending (eq-eqb going.last.0 (last_of b.known).0 (ap (λ (l : Lsn). l.0) (sym b.last))) in
    let away : Option (Lsn × Lsn) = Some (going.last, last_of b.known) in
    ap (link_fault going.last) b.is ∙ ap (λ (c : Bool). cond c None away) test

-- a record that isn't a Begin leaves whoever isn't its transaction
no_begin : (log : Items) (epoch : Epoch) (body : Record) (t : TxnId) → ((ks : List Known) → with_records ks ((next log, body) ∷ []) ≡ map (followed ((next log, body) ∷ [])) ks)
    → ((k : Known) → is_txn t k.txn ≡ false → followed ((next log, body) ∷ []) k ≡ k) → OthersStay t log (log ++ (epoch, body) ∷ [])
no_begin log epoch body t maps stay u away =
    ap (with_txn u) (known_from-push no_base log (epoch, body) ∙ maps (known_in log)) ∙ others_stay ((next log, body) ∷ []) t u (known_in log) stay away

-- an operation behind its last record
abbrev pub operated_at : Lsn → Op → Going → Going
operated_at lsn op going = record { last = lsn; ops = going.ops ++ op ∷ [] }

pub operation_grows : (r : Open) (v : Kept) (t : TxnId) (going : Going) (op : Op) (lsn : Lsn) (front : Fronted) → AgreesWith r v → is_active r.role ≡ true → going_of r.front t ≡ Some going → 1 ≤ going.last.0
    → behind r.last 1 ≡ lsn → Puts r.front front t.n (Some (operated_at lsn op going)) → IsOver front r.contents
    → Grows r (longer r r.shown r.contents front) v (Operation t going.last op) []
operation_grows r v t going op lsn front a on is some here puts over =
    let ks : List Known = known_in v.records in
    let b = begun t going v.records (known_as r v t going a is) some in
    let body : Record = Operation t going.last op in
    let log : Items = v.records ++ (r.epoch, body) ∷ [] in
    let place : Lsn = next v.records in
    let at : place ≡ lsn = ap (λ (n : ℕ). record { 0 = n + 1 }) a.last ∙ here in
    let k : Known = record { txn = b.known.txn; begin = b.known.begin; ops = b.known.ops ++ (place, op) ∷ []; ending = b.known.ending } in
    let known : with_txn t (known_in log) ≡ Some k =
    ap (with_txn t) (known_from-push no_base v.records (r.epoch, body)) ∙ with_map ((place, body) ∷ []) t ks ∙ ap (option_map (followed ((place, body) ∷ []))) b.is
    ∙ ap (λ (x : Known). Some x) (operation_of_own place going.last t op b.known (own t going v.records b)) in
    let last : last_of k ≡ lsn =
    ap (λ (e : Option Ending). last_from e (last_position b.known.begin (b.known.ops ++ (place, op) ∷ []))) (none_if_open b.known.ending b.pending) ∙ last_position_push b.known.begin b.known.ops place op ∙ at in
    let some_now : 1 ≤ lsn.0 = omega (arith, ap (λ (l : Lsn). l.0) here) in
    let now : IsKnownAs (operated_at lsn op going) (with_txn t (known_in log)) =
    subst (IsKnownAs (operated_at lsn op going)) (sym known) (some_now, b.pending, last, map_push b.known.ops place op ∙ ap (λ (os : List Op). os ++ op ∷ []) b.ops) in
    grow r v body [] r.shown r.contents front a on
    (record {
      follows = is_epoch_same r.epoch;
      stands = refl;
      linked = no_fault t going v.records b;
      commits = refl;
      told = omega arith;
      known = λ txn k h. inr (known_before ((place, body) ∷ []) txn ks k h);
    })
    (omega arith) refl
    (record {
      epoch = puts.epoch;
      begins = puts.begins;
      over = over;
      known = known_put r.front front v.records log t (Some (operated_at lsn op going)) (going_is r.front t going is).named puts
          (no_begin v.records r.epoch body t (λ ks. refl) (λ k away. operation_of_other place going.last t op k away))
          (λ g e. only (operated_at lsn op going) g (with_txn t (known_in log)) now e) a.known;
    })

-- its commit
abbrev pub commit : TxnId → Going → Committed
commit t going = record { txn = t; ops = going.ops }

-- what the end of a transaction commits
abbrev pub ended_so : Bool → TxnId → Going → List Committed
ended_so committed t going = one_or_none (commit_of committed t going.ops)

pub end_grows : (r : Open) (v : Kept) (t : TxnId) (going : Going) (committed : Bool) (shown : ℕ) (contents : State) (front : Fronted) → AgreesWith r v → is_active r.role ≡ true → going_of r.front t ≡ Some going → 1 ≤ going.last.0
    → shown ≡ r.shown + length (ended_so committed t going) → folded r.contents (flat_map (λ c. c.ops) (ended_so committed t going)) ≡ contents
    → Puts r.front front t.n None → IsOver front contents
    → Grows r (longer r shown contents front) v (End t going.last committed) (ended_so committed t going)
end_grows r v t going committed shown contents front a on is some shown_is contents_is puts over =
    let ks : List Known = known_in v.records in
    let b = begun t going v.records (known_as r v t going a is) some in
    let body : Record = End t going.last committed in
    let log : Items = v.records ++ (r.epoch, body) ∷ [] in
    grow r v body (ended_so committed t going) shown contents front a on
    (record {
      follows = is_epoch_same r.epoch;
      stands = refl;
      linked = no_fault t going v.records b;
      commits = ap (λ (os : List Op). one_or_none (commit_of committed t os)) (ap ops_of b.is ∙ b.ops);
      told = omega arith;
      known = λ txn k h. inr (known_before ((next v.records, body) ∷ []) txn ks k h);
    })
    shown_is contents_is
    (record {
      epoch = puts.epoch;
      begins = puts.begins;
      over = over;
      known = known_put r.front front v.records log t None (going_is r.front t going is).named puts
          (no_begin v.records r.epoch body t (λ ks. refl) (λ k away. end_of_other (next v.records) going.last t committed k away))
          (λ g e. absurd (none-some g e)) a.known;
    })

pub barrier_grows : (r : Open) (v : Kept) → AgreesWith r v → is_active r.role ≡ true → Grows r (longer r r.shown r.contents r.front) v (Barrier r.stable) []
barrier_grows r v a on =
    let ks : List Known = known_in v.records in
    let body : Record = Barrier r.stable in
    let log : Items = v.records ++ (r.epoch, body) ∷ [] in
    let same : known_in log ≡ ks = known_from-push no_base v.records (r.epoch, body) ∙ barrier_changes_none (next v.records) r.stable ks in
    grow r v body [] r.shown r.contents r.front a on
    (record {
      follows = is_epoch_same r.epoch;
      stands = below r.stable.0 (r.last.0 + 1) (omega (arith, a.stable_there));
      linked = refl;
      commits = refl;
      told = omega (arith, a.stable_there);
      known = λ txn k h. inr (k, ap (with_txn txn) (sym (barrier_changes_none (next v.records) r.stable ks)) ∙ h);
    })
    (omega arith) refl
    (record {
      epoch = refl;
      begins = refl;
      over = a.over;
      known = known_still r.front r.front v.records log refl refl same a.known;
    })
  where
    below : (n m : ℕ) → n + 1 ≤ m → IsTrue (nat_lt n m)
    below n m h = grind (arith, nat_tests)

-- ---- an epoch is started

-- the start of an epoch goes on with the log, and the replica agrees with it then
pub record Starts (r : Open) (v : Kept) (epoch : Epoch) : Type 0 where
  pub may : MayCome v (Logical (record { 0 = r.last.0 + 1 }) epoch (EpochStart epoch))
  pub agrees : AgreesWith (started epoch r) (after_one v (Logical (record { 0 = r.last.0 + 1 }) epoch (EpochStart epoch)))
  pub commits : commits_in (v.records ++ (epoch, EpochStart epoch) ∷ []) ≡ commits_in v.records

pub epoch_starts : (r : Open) (v : Kept) (epoch : Epoch) → AgreesWith r v → epoch_lt r.epoch epoch ≡ true → Starts r v epoch
epoch_starts r v epoch a up =
    let body : Record = EpochStart epoch in
    let log : Items = v.records ++ (epoch, body) ∷ [] in
    let size : length log ≡ r.last.0 + 1 = length-append v.records ((epoch, body) ∷ []) ∙ ap (λ (n : ℕ). n + 1) a.last in
    let commits : commits_in log ≡ commits_in v.records = commits_from-push no_base v.records (epoch, body) ∙ append-nil (commits_in v.records) in
    let here : commits_to (r.last.0 + 1) log ≡ commits_to r.stable.0 v.records ++ r.ahead = whole (r.last.0 + 1) log (omega (arith, size)) ∙ commits ∙ a.commits in
    let old : (txn : TxnId) (k : Known) → with_txn txn (known_in log) ≡ Some k → epoch_le txn.epoch r.epoch ≡ true
    = λ txn k h. let before = known_before ((next v.records, body) ∷ []) txn (known_in v.records) k (ap (with_txn txn) (sym (known_from-push no_base v.records (epoch, body))) ∙ h) in a.epochs txn before.0 before.1 in
    record {
      may = (
        ap (λ (n : ℕ). n + 1) (sym a.last),
        record {
          follows = and_from (is_epoch epoch epoch) (epoch_lt (last_epoch v.records) epoch) (is_epoch_same epoch) (subst (λ (e : Epoch). epoch_lt e epoch ≡ true) (sym a.epoch) up);
          stands = refl;
          linked = refl;
        },
      );
      agrees = record {
        identity = a.identity;
        fence = ap (λ (e : Epoch). later e epoch) a.fence;
        epoch = last_from-push _ v.records (epoch, body);
        last = size;
        stable_told = stable_push v.records epoch body (r.last.0 + 1) (omega (arith, a.stable_told, a.stable_there)) (omega arith);
        stable_there = omega arith;
        shown = ap length here ∙ length-append (commits_to r.stable.0 v.records) r.ahead ∙ ap (λ (n : ℕ). n + length r.ahead) a.shown;
        contents = ap state_of here ∙ state_more (commits_to r.stable.0 v.records) r.ahead ∙ ap (λ (s : State). folded s (flat_map (λ c. c.ops) r.ahead)) a.contents;
        commits = commits ∙ a.commits ∙ sym here ∙ sym (append-nil (commits_to (r.last.0 + 1) log));
        epochs = λ txn k h. epoch_lt_le txn.epoch epoch (epoch_le_lt txn.epoch r.epoch epoch (old txn k h) up);
        role = record {
          last_one = refl;
          active = refl;
          stable = refl;
          shown = refl;
          begins_in = refl;
          counted = λ txn k h same. absurd (epoch_le_not epoch r.epoch (subst (λ (e : Epoch). epoch_le e r.epoch ≡ true) same (old txn k h)) up);
        };
        over = IsOver-nothing epoch (folded r.contents (flat_map (λ c. c.ops) r.ahead)) (IsOrdered-folded r.contents (flat_map (λ c. c.ops) r.ahead) a.over.ordered);
        known = λ n going is. absurd (none-some going is);
      };
      commits = commits;
    }
