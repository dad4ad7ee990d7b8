-- A log that is read when it is opened.
use Rattle.std.proofs.Common.{◌≡◌, ℕ, zero, suc, ◌+◌, ◌<◌, ◌≤◌, Bool, true, false, cond, List, [], ◌∷◌, ◌++◌, length, take, get_or, map, flat_map, Option, Some, None, refl, sym, ap, ap₂, subst, ◌∙◌, inl, inr, append_assoc, arith}
use Rattle.std.specs.Prelude.{IsTrue, nat_lt}
use Rattle.std.proofs.lemmas.List.{append-nil, append_cancel_left, length-append, length-take, take-append-le, take_more}
use Rattle.std.proofs.lemmas.Bool.{and_parts, cases_lt, lt-ltb, le-ltb}
use Rattle.std.proofs.lemmas.Bool.Decides.{nat_tests}
use Rattle.std.proofs.lemmas.Option.{none-some}
use Rattle.rc_base.specs.declared.ids.Epoch.{Epoch}
use Rattle.rc_base.specs.declared.ids.Lsn.{Lsn}
use Rattle.rc_base.specs.declared.ids.TxnId.{TxnId}
use Rattle.rc_base.specs.Ids.{epoch_lt, epoch_le, is_epoch, no_epoch}
use Rattle.rc_base.proofs.SameIds.{is_epoch-true, is_txn-true}
use Rattle.coll_model.specs.Effect.{State, folded}
use Rattle.log_records.specs.declared.record.Record.{Record}
use Rattle.log_records.specs.declared.record.Record.TheVariants.{Begin, Operation, End, Barrier, EpochStart}
use Rattle.txn_table.specs.declared.committed.Committed.{Committed}
use Rattle.txn_table.specs.declared.known.Known.{Known}
use Rattle.txn_table.specs.Commits.{with_txn, fault_in, begin_fault, last_of, commit_in, one_or_none, nowhere}
use Rattle.txn_table.specs.Tables.{followed, with_records}
use Rattle.txn_table.specs.Log.{Items, last_from, last_epoch, known_in, commits_in, MayStandAfter, IsLogAfter, IsLog, no_base}
use Rattle.txn_table.proofs.LogGrowth.{last_from-push, known_from-push, commits_from-push}
use Rattle.replica.specs.declared.mounting.Shown.{Shown}
use Rattle.log_store.specs.declared.durable.Durable.{Durable}
use Rattle.log_store.specs.Store.{Store, kept_as}
use Rattle.lock_laws.specs.OrderedStates.{IsOrdered}
use Rattle.txn_front.specs.Front.{Fronted, nothing}
use Rattle.lock_laws.proofs.ProtectedStates.{IsOrdered-nil, IsOrdered-folded}
use Rattle.txn_front.proofs.Fronts.{IsOver-nothing}
use Rattle.replica_model.specs.declared.role.Role.TheVariants.{Other}
use Rattle.replica.specs.Open.{Open, commits_to, state_of, AgreesWith}
use Rattle.txn_table.specs.Whole.{stable_told, stable_in}
use Rattle.replica.specs.Reading.{IsRead, with_commit}
use Rattle.replica.proofs.OneMore.{next, commits_few, known_before, known_or_new}
use Rattle.rc_base.proofs.EpochOrder.{epoch_le_same, epoch_le_trans, epoch_lt_le}
use Rattle.replica.proofs.OneRecord.{whole, state_more}

pub last_item : (e : Epoch) (log : Items) (d : Epoch × Record) (i : ℕ) → i + 1 ≡ length log → last_from e log ≡ (get_or log i d).0
last_item e [] d i is = absurd (omega arith)
last_item e (x ∷ []) d i is = let first : i ≡ 0 = omega arith in ap (λ (k : ℕ). (get_or (x ∷ []) k d).0) (sym first)
last_item e (x ∷ y ∷ log) d zero is = absurd (omega arith)
last_item e (x ∷ y ∷ log) d (suc i) is = last_item x.0 (y ∷ log) d i (omega arith)

-- ---- each record may stand behind those before it

stands_behind : (before log : Items) (i : ℕ) (d : Epoch × Record) → IsLogAfter no_base before log → i < length log → MayStandAfter no_base (before ++ take i log) (get_or log i d).0 (get_or log i d).1
stands_behind before [] i d h lt = absurd (omega arith)
stands_behind before (x ∷ log) zero d h lt = subst (λ (l : Items). MayStandAfter no_base l x.0 x.1) (sym (append-nil before)) h.0
stands_behind before (x ∷ log) (suc i) d h lt =
    subst (λ (l : Items). MayStandAfter no_base l (get_or log i d).0 (get_or log i d).1) (append_assoc before (x ∷ []) (take i log))
    (stands_behind (before ++ x ∷ []) log i d h.1 (omega arith))

pub linked_at : (log : Items) (i : ℕ) (d : Epoch × Record) → IsLog log → i < length log → fault_in (known_in (take i log)) (get_or log i d).1 ≡ None
linked_at log i d h lt = (stands_behind [] log i d h lt).linked

-- ---- what was read

pub count_few : (shown : Shown) (log : Items) → IsRead shown log → shown.count ≤ length log
count_few shown log r = omega (arith, r.count, commits_few (take shown.stable.0 log), length-take shown.stable.0 log)

same_front : (n : ℕ) (log : Items) (x : Epoch × Record) → n < length log + 1 → commits_to n (log ++ x ∷ []) ≡ commits_to n log
same_front n log x lt = ap commits_in (take-append-le n log (x ∷ []) (omega arith))

read_above : (shown : Shown) (log : Items) (epoch : Epoch) (body : Record) → IsRead shown log → shown.stable.0 < length log + 1 → (o : Option Committed) → commit_in (known_in log) body ≡ o
    → IsRead (with_commit (length log + 1) o shown) (log ++ (epoch, body) ∷ [])
read_above shown log epoch body r lt None is =
    let same = same_front shown.stable.0 log (epoch, body) lt in
    record {
      count = r.count ∙ ap length (sym same);
      contents = r.contents ∙ ap state_of (sym same);
      commits = commits_from-push no_base log (epoch, body) ∙ ap (λ (o : Option Committed). commits_in log ++ one_or_none o) is ∙ append-nil (commits_in log) ∙ r.commits ∙ ap (λ (cs : List Committed). cs ++ shown.ahead) (sym same);
    }
read_above shown log epoch body r lt (Some c) is =
    let same = same_front shown.stable.0 log (epoch, body) lt in
    let further : IsRead (record shown { ahead = shown.ahead ++ c ∷ [] }) (log ++ (epoch, body) ∷ []) = record {
      count = r.count ∙ ap length (sym same);
      contents = r.contents ∙ ap state_of (sym same);
      commits = commits_from-push no_base log (epoch, body) ∙ ap (λ (o : Option Committed). commits_in log ++ one_or_none o) is ∙ ap (λ (cs : List Committed). cs ++ c ∷ []) r.commits
          ∙ append_assoc (commits_to shown.stable.0 log) shown.ahead (c ∷ []) ∙ ap (λ (cs : List Committed). cs ++ (shown.ahead ++ c ∷ [])) (sym same);
    } in
    subst (λ (b : Bool). IsRead (cond b (record shown { ahead = shown.ahead ++ c ∷ [] }) (record shown { count = shown.count + 1; contents = folded shown.contents c.ops })) (log ++ (epoch, body) ∷ [])) (sym (lt-ltb shown.stable.0 (length log + 1) lt)) further

read_below : (shown : Shown) (log : Items) (epoch : Epoch) (body : Record) → IsRead shown log → length log + 1 ≤ shown.stable.0 → (o : Option Committed) → commit_in (known_in log) body ≡ o
    → IsRead (with_commit (length log + 1) o shown) (log ++ (epoch, body) ∷ [])
read_below shown log epoch body r le o is =
    let all : commits_to shown.stable.0 log ≡ commits_in log = whole shown.stable.0 log (omega arith) in
    let none : shown.ahead ≡ [] = append_cancel_left (commits_in log) shown.ahead [] (ap (λ (cs : List Committed). cs ++ shown.ahead) (sym all) ∙ sym r.commits ∙ sym (append-nil (commits_in log))) in
    let more : commits_in (log ++ (epoch, body) ∷ []) ≡ commits_in log ++ one_or_none o = commits_from-push no_base log (epoch, body) ∙ ap (λ (o : Option Committed). commits_in log ++ one_or_none o) is in
    let here : commits_to shown.stable.0 (log ++ (epoch, body) ∷ []) ≡ commits_in log ++ one_or_none o = whole shown.stable.0 (log ++ (epoch, body) ∷ []) (omega (arith, length-append log ((epoch, body) ∷ []))) ∙ more in
    by o here more (r.count ∙ ap length all) (r.contents ∙ ap state_of all) none
  where
    by : (o : Option Committed) → commits_to shown.stable.0 (log ++ (epoch, body) ∷ []) ≡ commits_in log ++ one_or_none o → commits_in (log ++ (epoch, body) ∷ []) ≡ commits_in log ++ one_or_none o
        → shown.count ≡ length (commits_in log) → shown.contents ≡ state_of (commits_in log) → shown.ahead ≡ []
        → IsRead (with_commit (length log + 1) o shown) (log ++ (epoch, body) ∷ [])
    by None here more count contents none = record {
      count = count ∙ ap length (sym (append-nil (commits_in log)) ∙ sym here);
      contents = contents ∙ ap state_of (sym (append-nil (commits_in log)) ∙ sym here);
      commits = more ∙ sym here ∙ sym (append-nil (commits_to shown.stable.0 (log ++ (epoch, body) ∷ []))) ∙ ap (λ (cs : List Committed). commits_to shown.stable.0 (log ++ (epoch, body) ∷ []) ++ cs) (sym none);
    }
    by (Some c) here more count contents none =
        let further : IsRead (record shown { count = shown.count + 1; contents = folded shown.contents c.ops }) (log ++ (epoch, body) ∷ []) = record {
          count = ap (λ (n : ℕ). n + 1) count ∙ sym (length-append (commits_in log) (c ∷ [])) ∙ ap length (sym here);
          contents = ap (λ (s : State). folded s c.ops) contents ∙ ap (folded (state_of (commits_in log))) (sym (append-nil c.ops)) ∙ sym (state_more (commits_in log) (c ∷ [])) ∙ ap state_of (sym here);
          commits = more ∙ sym here ∙ sym (append-nil (commits_to shown.stable.0 (log ++ (epoch, body) ∷ []))) ∙ ap (λ (cs : List Committed). commits_to shown.stable.0 (log ++ (epoch, body) ∷ []) ++ cs) (sym none);
        } in
        subst (λ (b : Bool). IsRead (cond b (record shown { ahead = shown.ahead ++ c ∷ [] }) (record shown { count = shown.count + 1; contents = folded shown.contents c.ops })) (log ++ (epoch, body) ∷ [])) (sym (le-ltb shown.stable.0 (length log + 1) le)) further

read_push : (shown : Shown) (log : Items) (epoch : Epoch) (body : Record) → IsRead shown log → IsRead (with_commit (length log + 1) (commit_in (known_in log) body) shown) (log ++ (epoch, body) ∷ [])
read_push shown log epoch body r = elim (cases_lt shown.stable.0 (length log + 1)) [
  | inl lt ↦ read_above shown log epoch body r lt (commit_in (known_in log) body) refl
  | inr le ↦ read_below shown log epoch body r le (commit_in (known_in log) body) refl
]

size_at : (log : Items) (i : ℕ) → i < length log → length (take i log) ≡ i
size_at log i lt = omega (arith, length-take i log)

-- one more record of a log was read
pub read_more : (shown : Shown) (log : Items) (i : ℕ) (d : Epoch × Record) → i < length log → IsRead shown (take i log) → IsRead (with_commit (i + 1) (commit_in (known_in (take i log)) (get_or log i d).1) shown) (take (i + 1) log)
read_more shown log i d lt r =
    let x : Epoch × Record = get_or log i d in
    subst (IsRead (with_commit (i + 1) (commit_in (known_in (take i log)) x.1) shown)) (sym (take_more log i d lt))
    (subst (λ (n : ℕ). IsRead (with_commit (n + 1) (commit_in (known_in (take i log)) x.1) shown) (take i log ++ x ∷ [])) (size_at log i lt) (read_push shown (take i log) x.0 x.1 r))

-- what a table knows then
pub known_more : (log : Items) (i : ℕ) (d : Epoch × Record) (lsn : Lsn) (ks : List Known) → i < length log → lsn.0 ≡ i + 1 → ks ≡ known_in (take i log) → with_records ks ((lsn, (get_or log i d).1) ∷ []) ≡ known_in (take (i + 1) log)
known_more log i d lsn ks lt at is =
    let x : Epoch × Record = get_or log i d in
    let place : lsn ≡ next (take i log) = ap (λ (n : ℕ). let l : Lsn = record { 0 = n } in l) (let e : lsn.0 ≡ length (take i log) + 1 = omega (arith, at, size_at log i lt) in e) in
    ap₂ (λ (ys : List Known) (l : Lsn). with_records ys ((l, x.1) ∷ [])) is place ∙ sym (known_from-push no_base (take i log) (x.0, x.1)) ∙ ap known_in (sym (take_more log i d lt))

-- with_commit leaves the stable position
pub stable_stays : (lsn : ℕ) (o : Option Committed) (shown : Shown) → (with_commit lsn o shown).stable ≡ shown.stable
stable_stays lsn None shown = refl
stable_stays lsn (Some c) shown = elim (nat_lt shown.stable.0 lsn) as (λ b. (cond b (record shown { ahead = shown.ahead ++ c ∷ [] }) (record shown { count = shown.count + 1; contents = folded shown.contents c.ops })).stable ≡ shown.stable) [ true ↦ refl | false ↦ refl ]

-- ---- stable positions

below_from : (n m : ℕ) → IsTrue (nat_lt n m) → n < m
below_from n m h = grind (arith, nat_tests)

told_below : (log : Items) (epoch : Epoch) (body : Record) → MayStandAfter no_base log epoch body → stable_told body ≤ length log
told_below log epoch (Begin txn) h = omega arith
told_below log epoch (Operation txn prev op) h = omega arith
told_below log epoch (End txn prev committed) h = omega arith
told_below log epoch (Barrier stable) h = omega (arith, below_from stable.0 (length log + 1) h.stands)
told_below log epoch (EpochStart named) h = omega arith

stable_behind : (before log : Items) → IsLogAfter no_base before log → stable_in log ≤ length before + length log
stable_behind before [] h = omega arith
stable_behind before (x ∷ log) h = omega (arith, told_below before x.0 x.1 h.0, stable_behind (before ++ x ∷ []) log h.1, length-append before (x ∷ []))

pub stable_there : (log : Items) → IsLog log → stable_in log ≤ length log
stable_there log h = omega (arith, stable_behind [] log h)

-- ---- epochs

-- no transaction of the log is of an epoch above the last one's
abbrev pub EpochsTo : Items → Type 0
EpochsTo log = (txn : TxnId) (known : Known) → with_txn txn (known_in log) ≡ Some known → epoch_le txn.epoch (last_epoch log) ≡ true

no_fault : (o : Option Known) → begin_fault o ≡ None → o ≡ None
no_fault None h = refl
no_fault (Some k) h = absurd (none-some (nowhere, last_of k) (sym h))

-- a record that isn't a Begin
others_push : (log : Items) (epoch : Epoch) (body : Record) → ((ks : List Known) → with_records ks ((next log, body) ∷ []) ≡ map (followed ((next log, body) ∷ [])) ks) → epoch_le (last_epoch log) epoch ≡ true → EpochsTo log → EpochsTo (log ++ (epoch, body) ∷ [])
others_push log epoch body maps up e txn known h =
    let before = known_before ((next log, body) ∷ []) txn (known_in log) known (ap (with_txn txn) (sym (maps (known_in log)) ∙ sym (known_from-push no_base log (epoch, body))) ∙ h) in
    subst (λ (l : Epoch). epoch_le txn.epoch l ≡ true) (sym (last_from-push _ log (epoch, body))) (epoch_le_trans txn.epoch (last_epoch log) epoch (e txn before.0 before.1) up)

begin_push : (log : Items) (epoch : Epoch) (new : TxnId) → MayStandAfter no_base log epoch (Begin new) → EpochsTo log → EpochsTo (log ++ (epoch, Begin new) ∷ [])
begin_push log epoch new h e txn known k =
    let none : with_txn new (known_in log) ≡ None = no_fault (with_txn new (known_in log)) h.linked in
    let same : epoch ≡ last_epoch log = is_epoch-true epoch (last_epoch log) h.follows in
    subst (λ (l : Epoch). epoch_le txn.epoch l ≡ true) (sym (last_from-push _ log (epoch, Begin new)))
    (elim (known_or_new (next log) new txn (known_in log) known none (ap (with_txn txn) (sym (known_from-push no_base log (epoch, Begin new))) ∙ k)) [
      | inl own ↦ epoch_le_same txn.epoch epoch (ap (λ (t : TxnId). t.epoch) (sym (is_txn-true new txn own)) ∙ is_epoch-true new.epoch epoch h.stands)
      | inr old ↦ subst (λ (l : Epoch). epoch_le txn.epoch l ≡ true) (sym same) (e txn old.0 old.1)
    ])

epochs_push : (log : Items) (epoch : Epoch) (body : Record) → MayStandAfter no_base log epoch body → EpochsTo log → EpochsTo (log ++ (epoch, body) ∷ [])
epochs_push log epoch (Begin txn) h e = begin_push log epoch txn h e
epochs_push log epoch (Operation txn prev op) h e = others_push log epoch (Operation txn prev op) (λ ks. refl) (epoch_le_same (last_epoch log) epoch (sym (is_epoch-true epoch (last_epoch log) h.follows))) e
epochs_push log epoch (End txn prev committed) h e = others_push log epoch (End txn prev committed) (λ ks. refl) (epoch_le_same (last_epoch log) epoch (sym (is_epoch-true epoch (last_epoch log) h.follows))) e
epochs_push log epoch (Barrier stable) h e = others_push log epoch (Barrier stable) (λ ks. refl) (epoch_le_same (last_epoch log) epoch (sym (is_epoch-true epoch (last_epoch log) h.follows))) e
epochs_push log epoch (EpochStart named) h e =
    let parts = and_parts (is_epoch named epoch) (epoch_lt (last_epoch log) epoch) h.follows in
    others_push log epoch (EpochStart named) (λ ks. refl) (epoch_lt_le (last_epoch log) epoch parts.1) e

epochs_behind : (before log : Items) → IsLogAfter no_base before log → EpochsTo before → EpochsTo (before ++ log)
epochs_behind before [] h e = subst EpochsTo (sym (append-nil before)) e
epochs_behind before (x ∷ log) h e = subst EpochsTo (append_assoc before (x ∷ []) log) (epochs_behind (before ++ x ∷ []) log h.1 (epochs_push before x.0 x.1 h.0 e))

pub epochs_of : (log : Items) → IsLog log → EpochsTo log
epochs_of log h = epochs_behind [] log h (λ txn known k. absurd (none-some known k))

-- ---- the replica behind it

-- what a replica keeps that was opened
abbrev pub mounted : ℕ → Store → Epoch → Epoch → ℕ → Shown → Fronted → Open
mounted id store fence epoch last shown front = record {
  id = id;
  log = store;
  fence = fence;
  epoch = epoch;
  last = record { 0 = last };
  stable = shown.stable;
  shown = shown.count;
  contents = shown.contents;
  ahead = shown.ahead;
  role = Other;
  front = front;
}

pub mounted_agrees : (id : ℕ) (store : Store) (told : Durable) (epoch : Epoch) (shown : Shown) (front : Fronted) (log : Items) → log ≡ told.records → IsLog told.records → IsRead shown log → shown.stable.0 ≡ stable_in log
    → epoch ≡ last_epoch log → front ≡ nothing no_epoch → AgreesWith (mounted id store told.fence epoch (length log) shown front) (kept_as store.identity told) × (shown.stable.0 ≡ stable_in told.records)
mounted_agrees id store told epoch shown front log same is r stable last new = (
  subst (λ (f : Fronted). AgreesWith (mounted id store told.fence epoch (length log) shown f) (kept_as store.identity told)) (sym new) (record {
    identity = refl;
    fence = refl;
    epoch = ap last_epoch (sym same) ∙ sym last;
    last = ap length (sym same);
    stable_told = omega (arith, stable, ap stable_in same);
    stable_there = omega (arith, stable, ap stable_in same, ap length same, stable_there told.records is);
    shown = subst (λ (l : Items). length (commits_to shown.stable.0 l) ≡ shown.count) same (sym r.count);
    contents = subst (λ (l : Items). state_of (commits_to shown.stable.0 l) ≡ shown.contents) same (sym r.contents);
    commits = subst (λ (l : Items). commits_in l ≡ commits_to shown.stable.0 l ++ shown.ahead) same r.commits;
    epochs = λ txn known k. subst (λ (e : Epoch). epoch_le txn.epoch e ≡ true) (ap last_epoch (sym same) ∙ sym last) (epochs_of told.records is txn known k);
    role = refl;
    over = IsOver-nothing no_epoch shown.contents (subst IsOrdered (sym r.contents) (IsOrdered-folded [] (flat_map (λ c. c.ops) (commits_to shown.stable.0 log)) IsOrdered-nil));
    known = λ n going there. absurd (none-some going there);
  }),
  stable ∙ ap stable_in same,
)
