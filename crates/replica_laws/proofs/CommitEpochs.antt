-- What a log commits is of no epoch above its last one.
use Rattle.std.proofs.Common.{◌≡◌, ◌∙◌, refl, sym, ap, subst, Bool, true, false, cond, List, [], ◌∷◌, ◌++◌, map, append_assoc, Option, Some, None, arith}
use Rattle.std.specs.Prelude.{not, filter}
use Rattle.std.proofs.lemmas.Bool.Decides.{nat_tests}
use Rattle.std.proofs.lemmas.List.{append-nil}
use Rattle.std.proofs.lemmas.Option.{none-some}
use Rattle.rc_base.specs.declared.ids.Epoch.{Epoch}
use Rattle.rc_base.specs.declared.ids.Lsn.{Lsn}
use Rattle.rc_base.specs.Ids.{is_epoch, epoch_lt, epoch_le}
use Rattle.rc_base.proofs.EpochOrder.{epoch_le_trans, epoch_le_lt}
use Rattle.disk_model.specs.Disk.{Areas}
use Rattle.log_records.specs.declared.record.Record.{Record}
use Rattle.log_records.specs.declared.record.Record.TheVariants.{Begin, Operation, End, Barrier, EpochStart}
use Rattle.txn_table.specs.declared.committed.Committed.{Committed}
use Rattle.txn_table.specs.declared.known.Known.{Known}
use Rattle.txn_table.specs.Commits.{with_txn, ops_of, commit_of, commit_in, one_or_none, fault_in, link_fault, nowhere}
use Rattle.txn_table.specs.Log.{Items, no_base, last_epoch, known_in, commits_in, MayStandAfter, IsLogAfter, IsLog}
use Rattle.txn_table.proofs.LogGrowth.{commits_from-push, last_from-push, not_lower, log_push}
use Rattle.log_store.specs.declared.kept.Kept.{Kept}
use Rattle.log_store.specs.Durable.{StandFor, blocks_in}
use Rattle.log_store.proofs.Judging.{durable_log}
use Rattle.replica_model.specs.Quorums.{txns_of}
use Rattle.replica.proofs.Opening.{epochs_of}

-- each of these is of this epoch or one before it
abbrev pub AreTo : Epoch → List Committed → Type 0
AreTo e [] = Unit {0}
AreTo e (c ∷ cs) = (epoch_le c.txn.epoch e ≡ true) × AreTo e cs

AreTo-append : (e : Epoch) (cs ds : List Committed) → AreTo e cs → AreTo e ds → AreTo e (cs ++ ds)
AreTo-append e [] ds h k = k
AreTo-append e (c ∷ cs) ds h k = (h.0, AreTo-append e cs ds h.1 k)

pub AreTo-back : (e : Epoch) (cs ds : List Committed) → AreTo e (cs ++ ds) → AreTo e ds
AreTo-back e [] ds h = h
AreTo-back e (c ∷ cs) ds h = AreTo-back e cs ds h.1

AreTo-later : (e f : Epoch) (cs : List Committed) → epoch_le e f ≡ true → AreTo e cs → AreTo f cs
AreTo-later e f [] up h = tt
AreTo-later e f (c ∷ cs) up h = (epoch_le_trans c.txn.epoch e f h.0 up, AreTo-later e f cs up h.1)

-- ---- one record more

linked_known : (prev : Lsn) (m : Option Known) → link_fault prev m ≡ None → (k : Known) × (m ≡ Some k)
linked_known prev None h = absurd (none-some (prev, nowhere) (sym h))
linked_known prev (Some k) h = (k, refl)

-- what commits with a record that may stand there
one_to : (log : Items) (e : Epoch) (body : Record) → IsLog log → epoch_le (last_epoch log) e ≡ true → fault_in (known_in log) body ≡ None → AreTo e (one_or_none (commit_in (known_in log) body))
one_to log e (Begin txn) rules up linked = tt
one_to log e (Operation txn prev op) rules up linked = tt
one_to log e (End txn prev committed) rules up linked = by committed
  where
    found : (k : Known) × (with_txn txn (known_in log) ≡ Some k)
    found = linked_known prev (with_txn txn (known_in log)) linked

    by : (b : Bool) → AreTo e (one_or_none (commit_of b txn (ops_of (with_txn txn (known_in log)))))
    by false = tt
    by true = (epoch_le_trans txn.epoch (last_epoch log) e (epochs_of log rules txn found.0 found.1) up, tt)
one_to log e (Barrier stable) rules up linked = tt
one_to log e (EpochStart epoch) rules up linked = tt

more_to : (log : Items) (e : Epoch) (body : Record) → IsLog log → MayStandAfter no_base log e body → AreTo (last_epoch log) (commits_in log) → AreTo (last_epoch (log ++ (e, body) ∷ [])) (commits_in (log ++ (e, body) ∷ []))
more_to log e body rules may h =
    let up : epoch_le (last_epoch log) e ≡ true = ap not (not_lower (last_epoch log) e body may.follows) in
    subst (λ (l : Epoch). AreTo l (commits_in (log ++ (e, body) ∷ []))) (sym (last_from-push _ log (e, body)))
    (subst (AreTo e) (sym (commits_from-push no_base log (e, body)))
    (AreTo-append e (commits_in log) (one_or_none (commit_in (known_in log) body)) (AreTo-later (last_epoch log) e (commits_in log) up h) (one_to log e body rules up may.linked)))

-- ---- a whole log

behind_to : (before log : Items) → IsLog before → IsLogAfter no_base before log → AreTo (last_epoch before) (commits_in before) → AreTo (last_epoch (before ++ log)) (commits_in (before ++ log))
behind_to before [] rules more h = subst (λ (l : Items). AreTo (last_epoch l) (commits_in l)) (sym (append-nil before)) h
behind_to before (item ∷ log) rules more h =
    subst (λ (l : Items). AreTo (last_epoch l) (commits_in l)) (append_assoc before (item ∷ []) log)
    (behind_to (before ++ item ∷ []) log (log_push no_base before item.0 item.1 rules more.0) more.1 (more_to before item.0 item.1 rules more.0 h))

pub commits_to_last : (log : Items) → IsLog log → AreTo (last_epoch log) (commits_in log)
commits_to_last log rules = behind_to [] log tt rules tt

-- what a disk holds is a log, where a stop leaves anything of it
pub holds_log : (v : Kept) (images : Areas → Type 0) → StandFor v images → (c : Areas) → images c → IsLog v.records
holds_log v images stands c is = durable_log (blocks_in (c 0)) (blocks_in (c 1)) v (stands c is)

-- ---- none is of a later epoch

not_same : (a b : Epoch) → epoch_lt a b ≡ true → is_epoch a b ≡ false
not_same a b up = grind (arith, nat_tests)

pub none_later : (e f : Epoch) (cs : List Committed) → epoch_lt e f ≡ true → AreTo e cs → txns_of f cs ≡ []
none_later e f [] up h = refl
none_later e f (c ∷ cs) up h =
    let off : is_epoch c.txn.epoch f ≡ false = not_same c.txn.epoch f (epoch_le_lt c.txn.epoch e f h.0 up) in
    ap (λ (b : Bool). map (λ (d : Committed). d.txn) (cond b (c ∷ filter (λ d. is_epoch d.txn.epoch f) cs) (filter (λ d. is_epoch d.txn.epoch f) cs))) off ∙ none_later e f cs up h.1
