-- On what records say of transactions.
use Rattle.std.proofs.Common.{◌≡◌, Bool, true, false, cond, List, [], ◌∷◌, ◌++◌, map, Option, Some, None, refl, sym, ap, ◌∙◌, append_assoc}
use Rattle.std.proofs.lemmas.List.{append-nil, map-append}
use Rattle.std.proofs.lemmas.Grind.{flat_map-append}
use Rattle.rc_base.specs.declared.ids.Epoch.{Epoch}
use Rattle.rc_base.specs.declared.ids.Lsn.{Lsn}
use Rattle.rc_base.specs.declared.ids.TxnId.{TxnId}
use Rattle.coll_model.specs.declared.op.Op.{Op}
use Rattle.log_records.specs.declared.record.Record.{Record}
use Rattle.log_records.specs.declared.record.Record.TheVariants.{Begin, Operation, End, Barrier, EpochStart}
use Rattle.log_records.specs.declared.pending.PendingTxn.{PendingTxn}
use Rattle.txn_table.specs.declared.known.Ending.{Ending}
use Rattle.txn_table.specs.declared.known.Ending.TheVariants.{ByEnd, ByEpoch}
use Rattle.txn_table.specs.declared.known.Known.{Known}
use Rattle.rc_base.specs.Ids.{is_txn}
use Rattle.txn_table.specs.Commits.{Logged, op_at, ops_in, ending_at, ending_in, first_of, seen, begun_at, begun, put_all, known, is_pending, goes_on}
use Rattle.txn_table.specs.Tables.{followed, with_records}
use Rattle.txn_table.proofs.Sorting.{map_put_all, put_all_append}

-- ---- more records

pub ops_append : (txn : TxnId) (xs ys : List Logged) → ops_in txn (xs ++ ys) ≡ ops_in txn xs ++ ops_in txn ys
ops_append txn xs ys = flat_map-append (λ (r : Logged). op_at txn r.0 r.1) xs ys

first_first : (a b c : Option Ending) → first_of a (first_of b c) ≡ first_of (first_of a b) c
first_first None b c = refl
first_first (Some e) b c = refl

pub ending_append : (txn : TxnId) (xs ys : List Logged) → ending_in txn (xs ++ ys) ≡ first_of (ending_in txn xs) (ending_in txn ys)
ending_append txn [] ys = refl
ending_append txn (r ∷ xs) ys =
    ap (first_of (ending_at txn r.0 r.1)) (ending_append txn xs ys)
    ∙ first_first (ending_at txn r.0 r.1) (ending_in txn xs) (ending_in txn ys)

pub same_known : (txn : TxnId) (begin : Lsn) (a b : List (Lsn × Op)) (e f : Option Ending) → a ≡ b → e ≡ f → (let k : Known = record { txn = txn; begin = begin; ops = a; ending = e } in k) ≡ (let k : Known = record { txn = txn; begin = begin; ops = b; ending = f } in k)
same_known txn begin a b e f p q =
    ap (λ (os : List (Lsn × Op)). let k : Known = record { txn = txn; begin = begin; ops = os; ending = e } in k) p
    ∙ ap (λ (g : Option Ending). let k : Known = record { txn = txn; begin = begin; ops = b; ending = g } in k) q

pub seen_append : (xs ys : List Logged) (p : PendingTxn) → seen (xs ++ ys) p ≡ followed ys (seen xs p)
seen_append xs ys p =
    same_known p.txn p.begin _ _ _ _
    (ap (λ (os : List (Lsn × Op)). p.ops ++ os) (ops_append p.txn xs ys) ∙ sym (append_assoc p.ops (ops_in p.txn xs) (ops_in p.txn ys)))
    (ending_append p.txn xs ys)

all_seen : (xs ys : List Logged) (base : List PendingTxn) → map (seen (xs ++ ys)) base ≡ map (followed ys) (map (seen xs) base)
all_seen xs ys [] = refl
all_seen xs ys (p ∷ base) = ap (λ (k : Known). k ∷ map (seen (xs ++ ys)) base) (seen_append xs ys p) ∙ ap (λ (ks : List Known). followed ys (seen xs p) ∷ ks) (all_seen xs ys base)

begun_at_append : (lsn : Lsn) (body : Record) (xs ys : List Logged) → begun_at lsn body (xs ++ ys) ≡ map (followed ys) (begun_at lsn body xs)
begun_at_append lsn (Begin txn) xs ys = ap (λ (k : Known). k ∷ []) (seen_append xs ys (record { txn = txn; begin = lsn; ops = [] }))
begun_at_append lsn (Operation txn prev op) xs ys = refl
begun_at_append lsn (End txn prev committed) xs ys = refl
begun_at_append lsn (Barrier stable) xs ys = refl
begun_at_append lsn (EpochStart epoch) xs ys = refl

begun_append : (xs ys : List Logged) → begun (xs ++ ys) ≡ map (followed ys) (begun xs) ++ begun ys
begun_append [] ys = refl
begun_append (r ∷ xs) ys =
    ap (λ (ks : List Known). ks ++ begun (xs ++ ys)) (begun_at_append r.0 r.1 xs ys)
    ∙ ap (λ (ks : List Known). map (followed ys) (begun_at r.0 r.1 xs) ++ ks) (begun_append xs ys)
    ∙ sym (append_assoc (map (followed ys) (begun_at r.0 r.1 xs)) (map (followed ys) (begun xs)) (begun ys))
    ∙ ap (λ (ks : List Known). ks ++ begun ys) (sym (map-append (followed ys) (begun_at r.0 r.1 xs) (begun xs)))

-- what base and records say, and what further records say
pub known_append : (base : List PendingTxn) (xs ys : List Logged) → known base (xs ++ ys) ≡ with_records (known base xs) ys
known_append base xs ys =
    let all : List Known = map (seen xs) base ++ begun xs in
    let here : map (seen (xs ++ ys)) base ++ begun (xs ++ ys) ≡ map (followed ys) all ++ begun ys =
    ap (λ (ks : List Known). ks ++ begun (xs ++ ys)) (all_seen xs ys base)
    ∙ ap (λ (ks : List Known). map (followed ys) (map (seen xs) base) ++ ks) (begun_append xs ys)
    ∙ sym (append_assoc (map (followed ys) (map (seen xs) base)) (map (followed ys) (begun xs)) (begun ys))
    ∙ ap (λ (ks : List Known). ks ++ begun ys) (sym (map-append (followed ys) (map (seen xs) base) (begun xs))) in
    ap (put_all []) here
    ∙ put_all_append [] (map (followed ys) all) (begun ys)
    ∙ ap (λ (ks : List Known). put_all ks (begun ys)) (sym (map_put_all (followed ys) (λ k. refl) [] all))

-- ---- one more record

end_none : (e : Option Ending) → first_of e None ≡ e
end_none None = refl
end_none (Some e) = refl

-- nothing about a transaction changes it not
unchanged : (records : List Logged) (k : Known) → ops_in k.txn records ≡ [] → ending_in k.txn records ≡ None → followed records k ≡ k
unchanged records k a b =
    same_known k.txn k.begin _ _ _ _
    (ap (λ (os : List (Lsn × Op)). k.ops ++ os) a ∙ append-nil k.ops)
    (ap (first_of k.ending) b ∙ end_none k.ending)

pub begin_changes_none : (lsn : Lsn) (txn : TxnId) (ks : List Known) → map (followed ((lsn, Begin txn) ∷ [])) ks ≡ ks
begin_changes_none lsn txn [] = refl
begin_changes_none lsn txn (k ∷ ks) =
    ap (λ (x : Known). x ∷ map (followed ((lsn, Begin txn) ∷ [])) ks) (unchanged ((lsn, Begin txn) ∷ []) k refl refl)
    ∙ ap (λ (xs : List Known). k ∷ xs) (begin_changes_none lsn txn ks)

pub barrier_changes_none : (lsn stable : Lsn) (ks : List Known) → with_records ks ((lsn, Barrier stable) ∷ []) ≡ ks
barrier_changes_none lsn stable [] = refl
barrier_changes_none lsn stable (k ∷ ks) =
    ap (λ (x : Known). x ∷ map (followed ((lsn, Barrier stable) ∷ [])) ks) (unchanged ((lsn, Barrier stable) ∷ []) k refl refl)
    ∙ ap (λ (xs : List Known). k ∷ xs) (barrier_changes_none lsn stable ks)

pub operation_of_other : (lsn prev : Lsn) (txn : TxnId) (op : Op) (k : Known) → is_txn txn k.txn ≡ false → followed ((lsn, Operation txn prev op) ∷ []) k ≡ k
operation_of_other lsn prev txn op k h =
    unchanged ((lsn, Operation txn prev op) ∷ []) k
    (ap (λ b. cond b ((lsn, op) ∷ []) [] ++ []) h)
    refl

pub operation_of_own : (lsn prev : Lsn) (txn : TxnId) (op : Op) (k : Known) → is_txn txn k.txn ≡ true → followed ((lsn, Operation txn prev op) ∷ []) k ≡ record { txn = k.txn; begin = k.begin; ops = k.ops ++ (lsn, op) ∷ []; ending = k.ending }
operation_of_own lsn prev txn op k h =
    same_known k.txn k.begin _ _ _ _ (ap (λ b. k.ops ++ (cond b ((lsn, op) ∷ []) [] ++ [])) h) (end_none k.ending)

pub end_of_other : (lsn prev : Lsn) (txn : TxnId) (committed : Bool) (k : Known) → is_txn txn k.txn ≡ false → followed ((lsn, End txn prev committed) ∷ []) k ≡ k
end_of_other lsn prev txn committed k h =
    unchanged ((lsn, End txn prev committed) ∷ []) k refl
    (ap (λ b. first_of (cond b (Some (ByEnd lsn)) None) None) h)

pub none_if_open : (e : Option Ending) → goes_on e ≡ true → e ≡ None
none_if_open None h = refl
none_if_open (Some e) h = absurd (cc)

pub end_of_own : (lsn prev : Lsn) (txn : TxnId) (committed : Bool) (k : Known) → is_txn txn k.txn ≡ true → is_pending k ≡ true → followed ((lsn, End txn prev committed) ∷ []) k ≡ record { txn = k.txn; begin = k.begin; ops = k.ops; ending = Some (ByEnd lsn) }
end_of_own lsn prev txn committed k h going =
    same_known k.txn k.begin _ _ _ _ (append-nil k.ops)
    (ap (λ b. first_of k.ending (first_of (cond b (Some (ByEnd lsn)) None) None)) h
    ∙ ap (λ (e : Option Ending). first_of e (Some (ByEnd lsn))) (none_if_open k.ending going))

pub epoch_of_ended : (lsn : Lsn) (epoch : Epoch) (k : Known) (e : Ending) → k.ending ≡ Some e → followed ((lsn, EpochStart epoch) ∷ []) k ≡ k
epoch_of_ended lsn epoch k e h =
    same_known k.txn k.begin _ _ _ _ (append-nil k.ops)
    (ap (λ (x : Option Ending). first_of x (Some (ByEpoch lsn))) h ∙ sym h)

pub epoch_of_open : (lsn : Lsn) (epoch : Epoch) (k : Known) → k.ending ≡ None → followed ((lsn, EpochStart epoch) ∷ []) k ≡ record { txn = k.txn; begin = k.begin; ops = k.ops; ending = Some (ByEpoch lsn) }
epoch_of_open lsn epoch k h =
    same_known k.txn k.begin _ _ _ _ (append-nil k.ops)
    (ap (λ (x : Option Ending). first_of x (Some (ByEpoch lsn))) h)
