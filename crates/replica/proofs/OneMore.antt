-- One more record of a log: what is known and committed behind it.
use Rattle.std.proofs.Common.{◌≡◌, ℕ, ◌+◌, ◌≤◌, Bool, true, false, cond, List, [], ◌∷◌, ◌++◌, length, map, Option, Some, None, refl, sym, ap, subst, ◌∙◌, ◌⊎◌, inl, inr, append_assoc, arith}
use Rattle.std.specs.Option.{option_map}
use Rattle.std.proofs.lemmas.List.{append-nil, length-append}
use Rattle.std.proofs.lemmas.Bool.{false≢true}
use Rattle.std.proofs.lemmas.Option.{none-some}
use Rattle.rc_base.specs.declared.ids.Epoch.{Epoch}
use Rattle.rc_base.specs.declared.ids.Lsn.{Lsn}
use Rattle.rc_base.specs.declared.ids.TxnId.{TxnId}
use Rattle.rc_base.specs.Ids.{epoch_lt, is_txn}
use Rattle.rc_base.proofs.SameIds.{is_txn-true, is_txn_same}
use Rattle.log_records.specs.declared.record.Record.{Record}
use Rattle.log_records.specs.declared.record.Record.TheVariants.{Begin}
use Rattle.txn_table.specs.declared.committed.Committed.{Committed}
use Rattle.txn_table.specs.declared.known.Known.{Known}
use Rattle.txn_table.specs.Commits.{Logged, known, commits_behind, commit_in, one_or_none, with_txn, txn_lt, put}
use Rattle.txn_table.specs.Tables.{followed, with_records}
use Rattle.txn_table.proofs.Records.{begin_changes_none}
use Rattle.txn_table.proofs.LogGrowth.{commits_from-push}
use Rattle.txn_table.specs.Log.{Items, numbered, known_in, commits_in, no_base}
use Rattle.txn_table.specs.Epochs.{later}
use Rattle.txn_table.specs.Whole.{stable_told, stable_in}

-- the position behind a log
abbrev pub next : Items → Lsn
next log = record { 0 = length log + 1 }

-- ---- positions

pub stable_push : (log : Items) (epoch : Epoch) (body : Record) (n : ℕ) → stable_in log ≤ n → stable_told body ≤ n → stable_in (log ++ (epoch, body) ∷ []) ≤ n
stable_push [] epoch body n low told = omega arith
stable_push (x ∷ log) epoch body n low told =
    let rest : stable_in (log ++ (epoch, body) ∷ []) ≤ n = stable_push log epoch body n (omega arith) told in
    omega arith

-- ---- commits

pub commits_more : (xs ys : Items) → (more : List Committed) × (commits_in xs ++ more ≡ commits_in (xs ++ ys))
commits_more xs [] = ([], append-nil (commits_in xs) ∙ ap commits_in (sym (append-nil xs)))
commits_more xs (y ∷ ys) =
    let one : List Committed = one_or_none (commit_in (known_in xs) y.1) in
    let rest = commits_more (xs ++ y ∷ []) ys in (
      one ++ rest.0,
      sym (append_assoc (commits_in xs) one rest.0)
          ∙ ap (λ (cs : List Committed). cs ++ rest.0) (sym (commits_from-push no_base xs (y.0, y.1)))
          ∙ rest.1
          ∙ ap commits_in (append_assoc xs (y ∷ []) ys),
    )

one_at_most : (o : Option Committed) → length (one_or_none o) ≤ 1
one_at_most None = omega arith
one_at_most (Some c) = omega arith

behind_fewer : (before rs : List Logged) → length (commits_behind [] before rs) ≤ length rs
behind_fewer before [] = omega arith
behind_fewer before (r ∷ rs) =
    let here : List Committed = one_or_none (commit_in (known [] before) r.1) in
    let rest : List Committed = commits_behind [] (before ++ r ∷ []) rs in
    omega (arith, length-append here rest, one_at_most (commit_in (known [] before) r.1), behind_fewer (before ++ r ∷ []) rs)

length_numbered : (lsn : ℕ) (log : Items) → length (numbered lsn log) ≡ length log
length_numbered lsn [] = refl
length_numbered lsn (x ∷ log) = omega (arith, length_numbered (lsn + 1) log)

pub commits_few : (log : Items) → length (commits_in log) ≤ length log
commits_few log = omega (arith, behind_fewer [] (numbered 1 log), length_numbered 1 log)

-- ---- what is known

pub known_is : (txn : TxnId) (ks : List Known) (k : Known) → with_txn txn ks ≡ Some k → is_txn k.txn txn ≡ true
known_is txn [] k h = absurd (none-some k h)
known_is txn (o ∷ ks) k h = by (is_txn o.txn txn) refl h (known_is txn ks k)
  where
    by : (b : Bool) → is_txn o.txn txn ≡ b → cond b (Some o) (with_txn txn ks) ≡ Some k → (with_txn txn ks ≡ Some k → is_txn k.txn txn ≡ true) → is_txn k.txn txn ≡ true
    by true is e rest = let same : o ≡ k = cc in subst (λ (x : Known). is_txn x.txn txn ≡ true) same is
    by false is e rest = rest e

pub with_map : (rs : List Logged) (txn : TxnId) (ks : List Known) → with_txn txn (map (followed rs) ks) ≡ option_map (followed rs) (with_txn txn ks)
with_map rs txn [] = refl
with_map rs txn (k ∷ ks) =
    elim (is_txn k.txn txn) as (λ b. cond b (Some (followed rs k)) (with_txn txn (map (followed rs) ks)) ≡ option_map (followed rs) (cond b (Some k) (with_txn txn ks))) [
      | true ↦ refl
      | false ↦ with_map rs txn ks
    ]

-- who isn't changed himself is found as before
pub others_stay : (rs : List Logged) (t u : TxnId) (ks : List Known) → ((k : Known) → is_txn t k.txn ≡ false → followed rs k ≡ k) → is_txn t u ≡ false → with_txn u (map (followed rs) ks) ≡ with_txn u ks
others_stay rs t u ks stay away = with_map rs u ks ∙ by (with_txn u ks) refl
  where
    by : (o : Option Known) → with_txn u ks ≡ o → option_map (followed rs) o ≡ o
    by None was = refl
    by (Some k) was =
        let same : k.txn ≡ u = is_txn-true k.txn u (known_is u ks k was) in
        ap (λ (x : Known). Some x) (stay k (subst (λ (w : TxnId). is_txn t w ≡ false) (sym same) away))

not_first : (txn : TxnId) (o : Known) (ks : List Known) → with_txn txn (o ∷ ks) ≡ None → (is_txn o.txn txn ≡ false) × (with_txn txn ks ≡ None)
not_first txn o ks h = by (is_txn o.txn txn) refl h
  where
    by : (b : Bool) → is_txn o.txn txn ≡ b → cond b (Some o) (with_txn txn ks) ≡ None → (is_txn o.txn txn ≡ false) × (with_txn txn ks ≡ None)
    by true is e = absurd (none-some o (sym e))
    by false is e = (is, e)

swapped : (a b : Bool) (x y z : Option Known) → (a ≡ true → b ≡ true → ⊥) → cond a x (cond b y z) ≡ cond b y (cond a x z)
swapped true true x y z h = absurd (h refl refl)
swapped true false x y z h = refl
swapped false b x y z h = refl

with_put : (txn : TxnId) (k : Known) (ks : List Known) → with_txn k.txn ks ≡ None → with_txn txn (put k ks) ≡ cond (is_txn k.txn txn) (Some k) (with_txn txn ks)
with_put txn k [] h = refl
with_put txn k (o ∷ ks) h =
    let parts = not_first k.txn o ks h in
    let other : is_txn o.txn txn ≡ true → is_txn k.txn txn ≡ true → ⊥ = λ p q. false≢true (sym parts.0 ∙ ap (λ (t : TxnId). is_txn t k.txn) (is_txn-true o.txn txn p ∙ sym (is_txn-true k.txn txn q)) ∙ is_txn_same k.txn) in
    elim (txn_lt k.txn o.txn) as (λ b. with_txn txn (cond b (k ∷ o ∷ ks) (o ∷ put k ks)) ≡ cond (is_txn k.txn txn) (Some k) (with_txn txn (o ∷ ks))) [
      | true ↦ refl
      | false ↦ ap (λ (x : Option Known). cond (is_txn o.txn txn) (Some o) x) (with_put txn k ks parts.1)
          ∙ swapped (is_txn o.txn txn) (is_txn k.txn txn) (Some o) (Some k) (with_txn txn ks) other
    ]

-- a transaction that begins at this position
abbrev pub fresh : Lsn → TxnId → Known
fresh lsn txn = record { txn = txn; begin = lsn; ops = []; ending = None }

pub with_begin : (lsn : Lsn) (new txn : TxnId) (ks : List Known) → with_txn new ks ≡ None → with_txn txn (with_records ks ((lsn, Begin new) ∷ [])) ≡ cond (is_txn new txn) (Some (fresh lsn new)) (with_txn txn ks)
with_begin lsn new txn ks h =
    ap (λ (xs : List Known). with_txn txn (put (fresh lsn new) xs)) (begin_changes_none lsn new ks) ∙ with_put txn (fresh lsn new) ks h

some_before : (f : Known → Known) (o : Option Known) (k : Known) → option_map f o ≡ Some k → (before : Known) × (o ≡ Some before)
some_before f None k h = absurd (none-some k h)
some_before f (Some b) k h = (b, refl)

-- it was known before
pub known_before : (rs : List Logged) (txn : TxnId) (ks : List Known) (k : Known) → with_txn txn (map (followed rs) ks) ≡ Some k → (before : Known) × (with_txn txn ks ≡ Some before)
known_before rs txn ks k h = some_before (followed rs) (with_txn txn ks) k (sym (with_map rs txn ks) ∙ h)

-- or it is the one that begins
pub known_or_new : (lsn : Lsn) (new txn : TxnId) (ks : List Known) (k : Known) → with_txn new ks ≡ None → with_txn txn (with_records ks ((lsn, Begin new) ∷ [])) ≡ Some k → (is_txn new txn ≡ true) ⊎ ((before : Known) × (with_txn txn ks ≡ Some before))
known_or_new lsn new txn ks k none h = by (is_txn new txn) refl (sym (with_begin lsn new txn ks none) ∙ h)
  where
    by : (b : Bool) → is_txn new txn ≡ b → cond b (Some (fresh lsn new)) (with_txn txn ks) ≡ Some k → (is_txn new txn ≡ true) ⊎ ((before : Known) × (with_txn txn ks ≡ Some before))
    by true is e = inl is
    by false is e = inr (k, e)

-- ---- epochs

same_epoch : (b : Bool) (e : Epoch) → cond b e e ≡ e
same_epoch true e = refl
same_epoch false e = refl

pub later_twice : (f e : Epoch) → later (later f e) e ≡ later f e
later_twice f e = by (epoch_lt f e) refl
  where
    by : (b : Bool) → epoch_lt f e ≡ b → later (later f e) e ≡ later f e
    by true is =
        let up : later f e ≡ e = ap (λ (t : Bool). cond t e f) is in
        ap (λ (x : Epoch). later x e) up ∙ same_epoch (epoch_lt e e) e ∙ sym up
    by false is = ap (λ (x : Epoch). later x e) (ap (λ (t : Bool). cond t e f) is)
