-- A log with one record more: what it knows of each transaction then, what it commits, and that it keeps to the rules.
use Rattle.std.proofs.Common.{◌≡◌, ◌∙◌, ◌+◌, ◌≤◌, Bool, true, false, cond, List, [], ◌∷◌, ◌++◌, length, map, Option, Some, None, refl, sym, ap, subst, arith, append-nil}
use Rattle.std.specs.Prelude.{◌&&◌, ◌==◌, option_map}
use Rattle.std.proofs.lemmas.Bool.{false≢true, and_from, eq-eqb}
use Rattle.std.proofs.lemmas.Option.{none-some, same_Some}
use Rattle.rc_base.specs.declared.ids.Epoch.{Epoch}
use Rattle.rc_base.specs.declared.ids.Lsn.{Lsn}
use Rattle.rc_base.specs.declared.ids.TxnId.{TxnId}
use Rattle.rc_base.specs.Ids.{is_txn, is_epoch}
use Rattle.rc_base.proofs.SameIds.{is_txn-true, is_txn_same, is_epoch_same}
use Rattle.coll_model.specs.declared.op.Op.{Op}
use Rattle.log_records.specs.declared.record.Record.{Record}
use Rattle.log_records.specs.declared.record.Record.TheVariants.{Begin, Operation, End}
use Rattle.progress_vector.specs.Vectors.{epoch_at}
use Rattle.txn_table.specs.declared.base.Base.{Base}
use Rattle.txn_table.specs.declared.known.Known.{Known}
use Rattle.txn_table.specs.declared.known.Ending.{Ending}
use Rattle.txn_table.specs.Commits.{Logged, with_txn, is_pending, last_of, last_from as last_ending, last_position, put, txn_lt, begin_fault, link_fault}
use Rattle.txn_table.specs.Tables.{followed, with_records}
use Rattle.txn_table.specs.Log.{Items, known_from, commits_from, IsLogFrom, last_epoch_from}
use Rattle.txn_table.proofs.Records.{begin_changes_none, operation_of_other, operation_of_own, end_of_other, none_if_open}
use Rattle.txn_table.proofs.LogGrowth.{known_from-push, commits_from-push, last_from-push, log_push}
use Rattle.txn_front.specs.Front.{Going}
use Rattle.fleet_rows.specs.Served.{IsKnownAs}

-- ---- what is known

known_is : (txn : TxnId) (ks : List Known) (k : Known) → with_txn txn ks ≡ Some k → is_txn k.txn txn ≡ true
known_is txn [] k h = absurd (none-some k h)
known_is txn (o ∷ ks) k h = by (is_txn o.txn txn) refl h (known_is txn ks k)
  where
    by : (b : Bool) → is_txn o.txn txn ≡ b → cond b (Some o) (with_txn txn ks) ≡ Some k → (with_txn txn ks ≡ Some k → is_txn k.txn txn ≡ true) → is_txn k.txn txn ≡ true
    by true is e rest = subst (λ (x : Known). is_txn x.txn txn ≡ true) (same_Some o k e) is
    by false is e rest = rest e

with_map : (rs : List Logged) (txn : TxnId) (ks : List Known) → with_txn txn (map (followed rs) ks) ≡ option_map (followed rs) (with_txn txn ks)
with_map rs txn [] = refl
with_map rs txn (k ∷ ks) =
    elim (is_txn k.txn txn) as (λ b. cond b (Some (followed rs k)) (with_txn txn (map (followed rs) ks)) ≡ option_map (followed rs) (cond b (Some k) (with_txn txn ks))) [
      | true ↦ refl
      | false ↦ with_map rs txn ks
    ]

-- who isn't changed himself is found as before
others_stay : (rs : List Logged) (t u : TxnId) (ks : List Known) → ((k : Known) → is_txn t k.txn ≡ false → followed rs k ≡ k) → is_txn t u ≡ false → with_txn u (map (followed rs) ks) ≡ with_txn u ks
others_stay rs t u ks stay away = with_map rs u ks ∙ by (with_txn u ks) refl
  where
    by : (o : Option Known) → with_txn u ks ≡ o → option_map (followed rs) o ≡ o
    by None was = refl
    by (Some k) was =
        let same : k.txn ≡ u = is_txn-true k.txn u (known_is u ks k was) in
        ap (λ (x : Known). Some x) (stay k (subst (λ (w : TxnId). is_txn t w ≡ false) (sym same) away))

not_first : (txn : TxnId) (o : Known) (ks : List Known) → with_txn txn (o ∷ ks) ≡ None → (is_txn o.txn txn ≡ false) × (with_txn txn ks ≡ None)
not_first txn o ks h = by (is_txn o.txn txn) refl h
  where
    by : (b : Bool) → is_txn o.txn txn ≡ b → cond b (Some o) (with_txn txn ks) ≡ None → (is_txn o.txn txn ≡ false) × (with_txn txn ks ≡ None)
    by true is e = absurd (none-some o (sym e))
    by false is e = (is, e)

swapped : (a b : Bool) (x y z : Option Known) → (a ≡ true → b ≡ true → ⊥) → cond a x (cond b y z) ≡ cond b y (cond a x z)
swapped true true x y z h = absurd (h refl refl)
swapped true false x y z h = refl
swapped false b x y z h = refl

with_put : (txn : TxnId) (k : Known) (ks : List Known) → with_txn k.txn ks ≡ None → with_txn txn (put k ks) ≡ cond (is_txn k.txn txn) (Some k) (with_txn txn ks)
with_put txn k [] h = refl
with_put txn k (o ∷ ks) h =
    let parts = not_first k.txn o ks h in
    let other : is_txn o.txn txn ≡ true → is_txn k.txn txn ≡ true → ⊥ = λ p q. false≢true (sym parts.0 ∙ ap (λ (t : TxnId). is_txn t k.txn) (is_txn-true o.txn txn p ∙ sym (is_txn-true k.txn txn q)) ∙ is_txn_same k.txn) in
    elim (txn_lt k.txn o.txn) as (λ b. with_txn txn (cond b (k ∷ o ∷ ks) (o ∷ put k ks)) ≡ cond (is_txn k.txn txn) (Some k) (with_txn txn (o ∷ ks))) [
      | true ↦ refl
      | false ↦ ap (λ (x : Option Known). cond (is_txn o.txn txn) (Some o) x) (with_put txn k ks parts.1)
          ∙ swapped (is_txn o.txn txn) (is_txn k.txn txn) (Some o) (Some k) (with_txn txn ks) other
    ]

-- a transaction that begins at this position
abbrev fresh : Lsn → TxnId → Known
fresh lsn txn = record { txn = txn; begin = lsn; ops = []; ending = None }

pub with_begin : (lsn : Lsn) (new txn : TxnId) (ks : List Known) → with_txn new ks ≡ None → with_txn txn (with_records ks ((lsn, Begin new) ∷ [])) ≡ cond (is_txn new txn) (Some (fresh lsn new)) (with_txn txn ks)
with_begin lsn new txn ks h =
    ap (λ (xs : List Known). with_txn txn (put (fresh lsn new) xs)) (begin_changes_none lsn new ks) ∙ with_put txn (fresh lsn new) ks h

-- ---- a log with more

-- Records behind a log, of one transaction, which commit nothing: the log keeps to the rules, and knows this of the transaction, and of the others what it knew.
pub record Grown (start : Base) (log : Items) (new : Items) (t : TxnId) (g : Going) : Type 0 where
  pub rules : IsLogFrom start new
  pub commits : commits_from start new ≡ commits_from start log
  pub own : IsKnownAs g (with_txn t (known_from start new))
  pub others : (u : TxnId) → is_txn t u ≡ false → with_txn u (known_from start new) ≡ with_txn u (known_from start log)
  pub epoch : last_epoch_from start new ≡ last_epoch_from start log

abbrev place : Base → Items → Lsn
place start log = record { 0 = length log + (start.at.0 + 1) }

-- it begins
pub begin_grown : (start : Base) (log : Items) (t : TxnId) (ops : List Op) → IsLogFrom start log → t.epoch ≡ last_epoch_from start log → with_txn t (known_from start log) ≡ None → ops ≡ []
    → Grown start log (log ++ (last_epoch_from start log, Begin t) ∷ []) t (record { last = place start log; ops = ops })
begin_grown start log t ops rules epoch none no_ops =
    let e = last_epoch_from start log in
    let item : Epoch × Record = (e, Begin t) in
    let new : Items = log ++ item ∷ [] in
    let each : (u : TxnId) → with_txn u (known_from start new) ≡ cond (is_txn t u) (Some (fresh (place start log) t)) (with_txn u (known_from start log))
    = λ u. ap (with_txn u) (known_from-push start log item) ∙ with_begin (place start log) t u (known_from start log) none in
    record {
      rules = log_push start log e (Begin t) rules (record { follows = is_epoch_same e; stands = subst (λ (x : Epoch). is_epoch x e ≡ true) (sym epoch) (is_epoch_same e); linked = ap begin_fault none });
      commits = commits_from-push start log item ∙ append-nil (commits_from start log);
      own = subst (IsKnownAs (record { last = place start log; ops = ops })) (sym (each t ∙ ap (λ (b : Bool). cond b (Some (fresh (place start log) t)) (with_txn t (known_from start log))) (is_txn_same t))) (omega arith, refl, refl, sym no_ops);
      others = λ u away. each u ∙ ap (λ (b : Bool). cond b (Some (fresh (place start log) t)) (with_txn u (known_from start log))) away;
      epoch = last_from-push (epoch_at start.entries start.at.0) log item;
    }

last_position_push : (begin : Lsn) (ops : List (Lsn × Op)) (lsn : Lsn) (op : Op) → last_position begin (ops ++ (lsn, op) ∷ []) ≡ lsn
last_position_push begin [] lsn op = refl
last_position_push begin (o ∷ ops) lsn op = last_position_push o.0 ops lsn op

map_push : (ops : List (Lsn × Op)) (lsn : Lsn) (op : Op) → map (λ o. o.1) (ops ++ (lsn, op) ∷ []) ≡ map (λ o. o.1) ops ++ op ∷ []
map_push [] lsn op = refl
map_push (o ∷ ops) lsn op = ap (λ (os : List Op). o.1 ∷ os) (map_push ops lsn op)

-- one that the log knows is pending
record IsBegun (t : TxnId) (going : Going) (ks : List Known) : Type 0 where
  pub known : Known
  pub is : with_txn t ks ≡ Some known
  pub pending : is_pending known ≡ true
  pub last : last_of known ≡ going.last
  pub ops : map (λ o. o.1) known.ops ≡ going.ops

begun : (t : TxnId) (going : Going) (ks : List Known) → IsKnownAs going (with_txn t ks) → 1 ≤ going.last.0 → IsBegun t going ks
begun t going ks h some = by (with_txn t ks) refl h
  where
    by : (o : Option Known) → with_txn t ks ≡ o → IsKnownAs going o → IsBegun t going ks
    by None was e = absurd (omega (arith, some, e.0))
    by (Some k) was e = record { known = k; is = was; pending = e.1; last = e.2; ops = e.3 }

-- and one that has no record isn't known
not_begun : (t : TxnId) (going : Going) (ks : List Known) → IsKnownAs going (with_txn t ks) → going.last.0 ≡ 0 → (with_txn t ks ≡ None) × (going.ops ≡ [])
not_begun t going ks h zero = by (with_txn t ks) refl h
  where
    by : (o : Option Known) → with_txn t ks ≡ o → IsKnownAs going o → (with_txn t ks ≡ None) × (going.ops ≡ [])
    by None was e = (was, e.1)
    by (Some k) was e = absurd (omega (arith, e.0, zero))

-- it does an operation more
pub operation_grown : (start : Base) (log : Items) (t : TxnId) (going : Going) (op : Op) → IsLogFrom start log → IsKnownAs going (with_txn t (known_from start log)) → 1 ≤ going.last.0
    → Grown start log (log ++ (last_epoch_from start log, Operation t going.last op) ∷ []) t (record { last = place start log; ops = going.ops ++ op ∷ [] })
operation_grown start log t going op rules known some =
    let ks = known_from start log in
    let e = last_epoch_from start log in
    let b = begun t going ks known some in
    let body : Record = Operation t going.last op in
    let item : Epoch × Record = (e, body) in
    let new : Items = log ++ item ∷ [] in
    let at = place start log in
    let k : Known = record { txn = b.known.txn; begin = b.known.begin; ops = b.known.ops ++ (at, op) ∷ []; ending = b.known.ending } in
    let own : is_txn t b.known.txn ≡ true = subst (λ (u : TxnId). is_txn t u ≡ true) (sym (is_txn-true b.known.txn t (known_is t ks b.known b.is))) (is_txn_same t) in
    let now : with_txn t (known_from start new) ≡ Some k =
    ap (with_txn t) (known_from-push start log item) ∙ with_map ((at, body) ∷ []) t ks ∙ ap (option_map (followed ((at, body) ∷ []))) b.is
    ∙ ap (λ (x : Known). Some x) (operation_of_own at going.last t op b.known own) in
    let last : last_of k ≡ at =
    ap (λ (x : Option Ending). last_ending x (last_position b.known.begin (b.known.ops ++ (at, op) ∷ []))) (none_if_open b.known.ending b.pending) ∙ last_position_push b.known.begin b.known.ops at op in
    let test : is_pending b.known && (going.last.0 == (last_of b.known).0) ≡ true = and_from _ _ b.pending (eq-eqb going.last.0 (last_of b.known).0 (ap (λ (l : Lsn). l.0) (sym b.last))) in
    let fault : Option (Lsn × Lsn) = Some (going.last, last_of b.known) in
    record {
      rules = log_push start log e body rules (record { follows = is_epoch_same e; stands = refl; linked = ap (link_fault going.last) b.is ∙ ap (λ (c : Bool). cond c None fault) test });
      commits = commits_from-push start log item ∙ append-nil (commits_from start log);
      own = subst (IsKnownAs (record { last = at; ops = going.ops ++ op ∷ [] })) (sym now) (omega arith, b.pending, last, map_push b.known.ops at op ∙ ap (λ (os : List Op). os ++ op ∷ []) b.ops);
      others = λ u away. ap (with_txn u) (known_from-push start log item) ∙ others_stay ((at, body) ∷ []) t u ks (λ k other. operation_of_other at going.last t op k other) away;
      epoch = last_from-push (epoch_at start.entries start.at.0) log item;
    }

-- it ends by an abort
pub record Ended (start : Base) (log new : Items) (t : TxnId) : Type 0 where
  pub rules : IsLogFrom start new
  pub commits : commits_from start new ≡ commits_from start log
  pub others : (u : TxnId) → is_txn t u ≡ false → with_txn u (known_from start new) ≡ with_txn u (known_from start log)
  pub epoch : last_epoch_from start new ≡ last_epoch_from start log

pub abort_ended : (start : Base) (log : Items) (t : TxnId) (going : Going) → IsLogFrom start log → IsKnownAs going (with_txn t (known_from start log)) → 1 ≤ going.last.0 → Ended start log (log ++ (last_epoch_from start log, End t going.last false) ∷ []) t
abort_ended start log t going rules known some =
    let ks = known_from start log in
    let e = last_epoch_from start log in
    let b = begun t going ks known some in
    let body : Record = End t going.last false in
    let item : Epoch × Record = (e, body) in
    let at = place start log in
    let test : is_pending b.known && (going.last.0 == (last_of b.known).0) ≡ true = and_from _ _ b.pending (eq-eqb going.last.0 (last_of b.known).0 (ap (λ (l : Lsn). l.0) (sym b.last))) in
    let fault : Option (Lsn × Lsn) = Some (going.last, last_of b.known) in
    record {
      rules = log_push start log e body rules (record { follows = is_epoch_same e; stands = refl; linked = ap (link_fault going.last) b.is ∙ ap (λ (c : Bool). cond c None fault) test });
      commits = commits_from-push start log item ∙ append-nil (commits_from start log);
      others = λ u away. ap (with_txn u) (known_from-push start log item) ∙ others_stay ((at, body) ∷ []) t u ks (λ k other. end_of_other at going.last t false k other) away;
      epoch = last_from-push (epoch_at start.entries start.at.0) log item;
    }
