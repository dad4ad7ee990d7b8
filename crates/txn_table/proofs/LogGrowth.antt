-- Logs that grow: their positions, their transactions and their rules.
use Rattle.std.proofs.Common.{append_assoc, ◌≡◌, ℕ, ◌+◌, false, List, [], ◌∷◌, ◌++◌, length, sym, ap, ◌∙◌, subst, arith, refl}
use Rattle.std.specs.Prelude.{IsTrue}
use Rattle.std.proofs.lemmas.Bool.{and_parts}
use Rattle.std.proofs.lemmas.List.{append-nil}
use Rattle.rc_base.specs.declared.ids.Epoch.{Epoch}
use Rattle.rc_base.specs.Ids.{epoch_lt, is_epoch}
use Rattle.rc_base.proofs.EpochOrder.{epoch_lt_asym, epoch_same_not_lt}
use Rattle.log_records.specs.declared.record.Record.{Record}
use Rattle.log_records.specs.declared.record.Record.TheVariants.{Begin, Operation, End, Barrier, EpochStart}
use Rattle.txn_table.specs.declared.base.Base.{Base}
use Rattle.txn_table.specs.Commits.{Logged, known, commits, commit_in, one_or_none}
use Rattle.txn_table.specs.Log.{Items, last_from, may_follow, numbered, known_from, commits_from, MayStandAfter, IsLogAfter, IsLogFrom}
use Rattle.txn_table.specs.Tables.{with_records}
use Rattle.txn_table.proofs.Logs.{commits_push}
use Rattle.txn_table.proofs.Records.{known_append}

-- ---- positions

-- a record at this position
abbrev pub logged_at : ℕ → Epoch × Record → Logged
logged_at lsn item = (record { 0 = lsn }, item.1)

pub numbered-append : (lsn : ℕ) (xs ys : Items) → numbered lsn (xs ++ ys) ≡ numbered lsn xs ++ numbered (length xs + lsn) ys
numbered-append lsn [] ys = ap (λ (n : ℕ). numbered n ys) (omega arith)
numbered-append lsn (x ∷ xs) ys =
    ap (λ (l : List Logged). logged_at lsn x ∷ l) (numbered-append (lsn + 1) xs ys ∙ ap (λ (n : ℕ). numbered (lsn + 1) xs ++ numbered n ys) (omega arith))

-- one more record
pub numbered-push : (lsn : ℕ) (log : Items) (item : Epoch × Record) → numbered lsn (log ++ item ∷ []) ≡ numbered lsn log ++ logged_at (length log + lsn) item ∷ []
numbered-push lsn log item = numbered-append lsn log (item ∷ [])

pub known_from-push : (start : Base) (log : Items) (item : Epoch × Record) → known_from start (log ++ item ∷ []) ≡ with_records (known_from start log) (logged_at (length log + (start.at.0 + 1)) item ∷ [])
known_from-push start log item =
    ap (λ (rs : List Logged). known start.pending rs) (numbered-push (start.at.0 + 1) log item)
    ∙ known_append start.pending (numbered (start.at.0 + 1) log) (logged_at (length log + (start.at.0 + 1)) item ∷ [])

pub commits_from-push : (start : Base) (log : Items) (item : Epoch × Record) → commits_from start (log ++ item ∷ []) ≡ commits_from start log ++ one_or_none (commit_in (known_from start log) item.1)
commits_from-push start log item =
    ap (λ (rs : List Logged). commits start.pending rs) (numbered-push (start.at.0 + 1) log item)
    ∙ commits_push start.pending (numbered (start.at.0 + 1) log) (logged_at (length log + (start.at.0 + 1)) item)

-- ---- epochs

pub last_from-push : (e : Epoch) (items : Items) (item : Epoch × Record) → last_from e (items ++ item ∷ []) ≡ item.0
last_from-push e [] item = refl
last_from-push e (first ∷ items) item = last_from-push first.0 items item

-- a record that may follow isn't of a lower epoch
pub not_lower : (last e : Epoch) (body : Record) → IsTrue (may_follow last e body) → epoch_lt e last ≡ false
not_lower last e (Begin txn) may = epoch_same_not_lt e last may
not_lower last e (Operation txn prev op) may = epoch_same_not_lt e last may
not_lower last e (End txn prev committed) may = epoch_same_not_lt e last may
not_lower last e (Barrier stable) may = epoch_same_not_lt e last may
not_lower last e (EpochStart named) may = epoch_lt_asym last e (and_parts (is_epoch named e) (epoch_lt last e) may).1

-- ---- rules

pub log_append : (start : Base) (before xs ys : Items) → IsLogAfter start before xs → IsLogAfter start (before ++ xs) ys → IsLogAfter start before (xs ++ ys)
log_append start before [] ys first more = subst (λ (l : Items). IsLogAfter start l ys) (append-nil before) more
log_append start before (x ∷ xs) ys first more =
    (first.0, log_append start (before ++ x ∷ []) xs ys first.1 (subst (λ (l : Items). IsLogAfter start l ys) (sym (append_assoc before (x ∷ []) xs)) more))

-- a log stays one with a record that may stand after it
pub log_push : (start : Base) (log : Items) (epoch : Epoch) (body : Record) → IsLogFrom start log → MayStandAfter start log epoch body → IsLogFrom start (log ++ (epoch, body) ∷ [])
log_push start log epoch body is may = log_append start [] log ((epoch, body) ∷ []) is (may, tt)
