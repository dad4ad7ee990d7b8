-- A crash of a booted world's replica, and its reboot: its disk holds logs that are sound.
use Rattle.std.proofs.Common.{◌≡◌, ◌∙◌, sym, ap, subst, refl, ℕ, ◌*◌, ◌≤◌, true, List, [], ◌∷◌, ◌++◌, length, map, Option, Some, None, Result, Ok, suc, arith, length-append, ⊎_elim}
use Rattle.std.specs.Option.{ForSome, IsSome, IfSome}
use Rattle.std.proofs.lemmas.List.{length-map}
use Rattle.rc_base.specs.Counts.{Counted}
use Rattle.rc_base.specs.Ids.{no_epoch}
use Rattle.rc_base.specs.declared.no_memory.NoMemory.{NoMemory}
use Rattle.disk_model.specs.Disk.{Areas, Each, Within, Only, Follows}
use Rattle.txn_table.specs.declared.committed.Committed.{Committed}
use Rattle.txn_table.specs.Log.{commits_in}
use Rattle.log_store.specs.declared.kept.Kept.{Kept as Log}
use Rattle.log_store.specs.Durable.{durable}
use Rattle.log_store.specs.Fold.{Place, no_log}
use Rattle.log_store.specs.Growth.{new_log}
use Rattle.log_store.specs.Store.{KeepsOrBegins}
use Rattle.events.specs.declared.event.Event.TheVariants.{Crash, Reboot}
use Rattle.order_machine.specs.declared.observation.Observation.{Observation}
use Rattle.order_machine.specs.declared.observation.Observation.TheVariants as says
use Rattle.order_machine.specs.Order.{Entry}
use Rattle.order_machine.specs.Machine.{Machine, Replica, Txn, ended_at}
use Rattle.order_machine.specs.Legal.{IsWhole, moved}
use Rattle.txn_front.specs.Front.{nothing}
use Rattle.replica_model.specs.declared.role.Role.{Role}
use Rattle.replica_model.specs.declared.role.Role.TheVariants.{Other, Primary}
use Rattle.replica.specs.Open.{Open, commits_to, shown_in}
use Rattle.txn_table.specs.Whole.{stable_in}
use Rattle.world.specs.Disks.{as_commit}
use Rattle.rc_base.specs.declared.ids.TxnId.{TxnId}
use Rattle.world.specs.Course.{IsFence, IsLogged}
use Rattle.world.specs.Fleet.{TellsZero, RoseBy, faults_in}
use Rattle.world.specs.Kept.{Kept, has_booted}
use Rattle.world.specs.Standing.{Course, standing, serving, resting, shut}
use Rattle.world.specs.World.{AsReplica, AsRole, Resting, Closed, IsOpen, IsSound, Serves, StillHolds}
use Rattle.world.proofs.States.Later.{replica_of, ruled_of, ruled_still, Continues, continues_standing, closed_of, closed_stands, open_stands, still_within}
use Rattle.world.proofs.Exits.FaultCounts.{fault_first, rose_none, rose_one}
use Rattle.world.proofs.States.PastTxns.{past_of_runs, past_ended, follow_ended}
use Rattle.world.proofs.States.Roleless.{serving_sound}
use Rattle.world.proofs.Mounts.Readable.{an_image}
use Rattle.world.proofs.Mounts.RebootLines.{crashed, crash_serves, reboot_serves, reboot_faults}
use Rattle.world.proofs.States.Logs.{sound_whole, sound_later, sound_txns}
use Rattle.world.proofs.States.HeldOrder.{stands_still, still_closed}
use Rattle.replica.proofs.Lengthened.{commits_prefix}

-- each image of the disk is a sound log of the order with these entries
abbrev pub AreSound : List Entry → List (TxnId × Txn) → Course → ℕ → (Areas → Type 0) → Type 0
AreSound entries txns course last images = Each images (λ c. (log : Log) × (durable c ≡ Ok log) × IsSound entries txns course last log)

-- a log that commits the order, and nothing more
pub sound_all : (entries : List Entry) (txns : List (TxnId × Txn)) (course : Course) (last : ℕ) (log : Log) → map as_commit entries ≡ commits_in log.records → IsFence course log.fence → IsLogged course log → length log.records ≤ 3 * last → IsSound entries txns course last log
sound_all entries txns course last log commits fence logged short = let shows = commits_prefix (stable_in log.records) log.records in sound_whole entries txns course last log shows.0 commits shows.1 fence logged short

-- ---- crash

still_sound : (entries : List Entry) (txns : List (TxnId × Txn)) (course : Course) (last number : ℕ) (images now : Areas → Type 0) → last ≤ number → Within images now → AreSound entries txns course last images → AreSound entries (ended_at 0 txns) course number now
still_sound entries txns course last number images now rising within sound = λ c is.
    let l = sound c (within c is) in
    (l.0, l.1, sound_later entries (ended_at 0 txns) course last number l.0 rising (sound_txns entries txns (ended_at 0 txns) course last l.0 (λ more f. follow_ended entries txns more f) l.2))

-- the lines and the state behind them
abbrev Crashes : Machine → ℕ → ℕ → (Areas → Type 0) → Type 0
Crashes m pick number now = IsWhole m (Crash 0 pick) (says.Done ∷ []) × Closed number now (moved m (Crash 0 pick) (says.Done ∷ [])) × Continues 0 m (moved m (Crash 0 pick) (says.Done ∷ []))

crash_continues : (entries : List Entry) (acknowledged : List TxnId) (first : Replica) (txns : List (TxnId × Txn)) (course : Course) (pick : ℕ) → first.loss ≡ 0 →
    (let m : Machine = standing entries acknowledged first txns course in
    moved m (Crash 0 pick) (says.Done ∷ []) ≡ standing entries acknowledged (crashed first) (ended_at 0 txns) course → Continues 0 m (moved m (Crash 0 pick) (says.Done ∷ [])))
crash_continues entries acknowledged first txns course pick loss = λ is.
    subst (Continues 0 (standing entries acknowledged first txns course)) (sym is) (continues_standing entries acknowledged acknowledged first (crashed first) txns (ended_at 0 txns) course 0 loss loss (omega arith))

crash_role : (role : Role) (last number : ℕ) (r : Open) (images now : Areas → Type 0) (m : Machine) (pick : ℕ) → last ≤ number → Within images now → AsRole role last r images m → Crashes m pick number now
crash_role Other last number r images now m pick rising within s =
    let done = crash_serves s.entries s.rests.acknowledged (resting s.rests.course r.shown) s.rests.txns s.rests.course pick in
    subst (λ n. Crashes n pick number now) (sym s.rests.is) (
      done.0,
      record {
        entries = s.entries;
        is_shut = record { acknowledged = s.rests.acknowledged; txns = ended_at 0 s.rests.txns; course = s.rests.course; shown = r.shown; is = done.1; ruled = s.rests.ruled; past = past_ended s.rests.course s.entries s.rests.acknowledged s.rests.txns s.rests.past };
        sound = still_sound s.entries s.rests.txns s.rests.course last number images now rising within (λ c is. (s.log, s.is_open.stands c is, s.sound));
      },
      crash_continues s.entries s.rests.acknowledged (resting s.rests.course r.shown) s.rests.txns s.rests.course pick refl done.1,
    )
crash_role (Primary epoch active) last number r images now m pick rising within s =
    let done = crash_serves s.runs.entries s.runs.acknowledged (serving s.runs.course (length s.runs.entries) r.front.begins s.runs.grants) s.runs.txns s.runs.course pick in
    subst (λ n. Crashes n pick number now) (sym s.runs.is) (
      done.0,
      record {
        entries = s.runs.entries;
        is_shut = record { acknowledged = s.runs.acknowledged; txns = ended_at 0 s.runs.txns; course = s.runs.course; shown = length s.runs.entries; is = done.1; ruled = s.ruled; past = past_of_runs r.front r.shown r.contents m s.runs };
        sound = still_sound s.runs.entries s.runs.txns s.runs.course last number images now rising within (λ c is. (s.log, s.is_open.stands c is, serving_sound last r images m s));
      },
      crash_continues s.runs.entries s.runs.acknowledged (serving s.runs.course (length s.runs.entries) r.front.begins s.runs.grants) s.runs.txns s.runs.course pick refl done.1,
    )

crash_replica : (o : Option Open) (last number : ℕ) (images now : Areas → Type 0) (m : Machine) (pick : ℕ) → last ≤ number → Within images now → AsReplica o last images m → Crashes m pick number now
crash_replica None last number images now m pick rising within s =
    let done = crash_serves s.entries s.is_shut.acknowledged (shut s.is_shut.course s.is_shut.shown) s.is_shut.txns s.is_shut.course pick in
    subst (λ n. Crashes n pick number now) (sym s.is_shut.is) (
      done.0,
      record {
        entries = s.entries;
        is_shut = record { acknowledged = s.is_shut.acknowledged; txns = ended_at 0 s.is_shut.txns; course = s.is_shut.course; shown = s.is_shut.shown; is = done.1; ruled = s.is_shut.ruled; past = past_ended s.is_shut.course s.entries s.is_shut.acknowledged s.is_shut.txns s.is_shut.past };
        sound = still_sound s.entries s.is_shut.txns s.is_shut.course last number images now rising within s.sound;
      },
      crash_continues s.entries s.is_shut.acknowledged (shut s.is_shut.course s.is_shut.shown) s.is_shut.txns s.is_shut.course pick refl done.1,
    )
crash_replica (Some r) last number images now m pick rising within s = crash_role r.role last number r images now m pick rising within s

pub crash_does : (k new : Kept) (images now : Areas → Type 0) (seen : Option Areas) (pick : ℕ) (lines : List Observation) → has_booted k ≡ true → k.last ≤ new.last → has_booted new ≡ true → new.rule ≡ k.rule → new.order ≡ k.order → new.replica ≡ None → ForSome seen images → Only seen now → lines ≡ says.Done ∷ [] → Serves k new images now (Crash 0 pick) (Ok lines)
crash_does k new images now seen pick lines booted rising new_booted rule order none left only told =
    let within : Within images now = λ c is. left c (only c is) in
    subst (λ ls. Serves k new images now (Crash 0 pick) (Ok ls)) (sym told)
    (λ m s.
    let done = crash_replica k.replica k.last new.last images now m pick rising within (replica_of k images m booted s) in
    (done.0, closed_stands new now _ new_booted none done.1 (ruled_still k new m _ rule order done.2 (ruled_of k images m booted s)), still_within images now m within (stands_still k images m s)))

-- ---- reboot

-- two logs that one disk holds are the same
pub same_log : (a b : Log) → ◌≡◌ {A = Result Log Place} (Ok a) (Ok b) → a ≡ b
same_log a b e = cc

-- what an opening leaves is as sound
pub sound_follows : (entries : List Entry) (txns : List (TxnId × Txn)) (course : Course) (last : ℕ) (images now : Areas → Type 0) → Follows (KeepsOrBegins 0) images now → AreSound entries txns course last images → AreSound entries txns course last now
sound_follows entries txns course last images now follows sound c is =
    let from = follows c is in
    let l = sound from.0 from.1 in
    ⊎_elim
    (λ kept. (l.0, kept ∙ l.1, l.2))
    (λ begun. (new_log 0, begun.1, as_empty (same_log l.0 no_log (sym l.1 ∙ begun.0)) l.2))
    from.2.0
  where
    as_empty : {log : Log} → log ≡ no_log → IsSound entries txns course last log → IsSound entries txns course last (new_log 0)
    as_empty e s = let n = subst (IsSound entries txns course last) e s in record { more = n.more; holds = n.holds; follow = n.follow; hidden = n.hidden; shows = n.shows; fence = n.fence; logged = n.logged; short = n.short }

-- and so holds what was acknowledged
pub closed_still : (last : ℕ) (images now : Areas → Type 0) (m : Machine) → Follows (KeepsOrBegins 0) images now → Closed last images m → StillHolds m now
closed_still last images now m follows s = still_closed last now m (record { entries = s.entries; is_shut = s.is_shut; sound = sound_follows s.entries s.is_shut.txns s.is_shut.course last images now follows s.sound })

-- what an open replica shows once it was opened is of the order
shown_few : (entries : List Entry) (shown hidden : List Committed) → shown ++ hidden ≡ map as_commit entries → length shown ≤ length entries
shown_few entries shown hidden e =
    let counts = ap length e in
    let a = length-append shown hidden in
    let b = length-map entries as_commit in
    omega arith

-- its log is the one of an image
sound_of_open : (entries : List Entry) (txns : List (TxnId × Txn)) (course : Course) (last : ℕ) (r : Open) (log : Log) (now : Areas → Type 0) (c : Areas) → now c → IsOpen r log now → AreSound entries txns course last now → IsSound entries txns course last log
sound_of_open entries txns course last r log now c is o sound =
    let l = sound c is in
    subst (IsSound entries txns course last) (same_log l.0 log (sym l.1 ∙ o.stands c is)) l.2

-- the lines and the state behind them
abbrev Opens : Machine → ℕ → Open → (Areas → Type 0) → Type 0
Opens m number r now = IsWhole m (Reboot 0) (says.Up 0 ∷ says.View 0 r.shown ∷ []) × Resting number r now (moved m (Reboot 0) (says.Up 0 ∷ says.View 0 r.shown ∷ [])) × Continues 0 m (moved m (Reboot 0) (says.Up 0 ∷ says.View 0 r.shown ∷ []))

opens_at : (last number : ℕ) (images now : Areas → Type 0) (m : Machine) (r : Open) (log : Log) (c : Areas) → last ≤ number → now c → Follows (KeepsOrBegins 0) images now → IsOpen r log now → r.stable.0 ≡ stable_in log.records → r.front ≡ nothing no_epoch → Closed last images m → Opens m number r now
opens_at last number images now m r log c rising is follows o stable idle s =
    let sound = sound_of_open s.entries s.is_shut.txns s.is_shut.course last r log now c is o (sound_follows s.entries s.is_shut.txns s.is_shut.course last images now follows s.sound) in
    let counted : length (shown_in log.records) ≡ r.shown = ap (λ n. length (commits_to n log.records)) (sym stable) ∙ o.agrees.shown in
    let few : r.shown ≤ length s.entries = let f = shown_few s.entries (shown_in log.records) sound.hidden sound.shows in omega (arith, f, counted) in
    let done = reboot_serves s.entries s.is_shut.acknowledged s.is_shut.shown s.is_shut.txns s.is_shut.course r.shown few in
    subst (λ n. Opens n number r now) (sym s.is_shut.is) (
      done.0,
      record {
        entries = s.entries;
        rests = record { acknowledged = s.is_shut.acknowledged; txns = s.is_shut.txns; course = s.is_shut.course; is = done.1; ruled = s.is_shut.ruled; past = s.is_shut.past };
        log = log;
        is_open = o;
        sound = sound_later s.entries s.is_shut.txns s.is_shut.course last number log rising sound;
        hidden = sound.hidden;
        shows = ap (λ n. commits_to n log.records ++ sound.hidden) stable ∙ sound.shows;
        few = let none : r.front.begins ≡ 0 = ap (λ f. f.begins) idle in omega (arith, none);
      },
      subst (Continues 0 (standing s.entries s.is_shut.acknowledged (shut s.is_shut.course s.is_shut.shown) s.is_shut.txns s.is_shut.course)) (sym done.1) (continues_standing s.entries s.is_shut.acknowledged s.is_shut.acknowledged (shut s.is_shut.course s.is_shut.shown) (resting s.is_shut.course r.shown) s.is_shut.txns s.is_shut.txns s.is_shut.course 0 refl refl (omega arith)),
    )

pub reboot_opens : (k new : Kept) (images now : Areas → Type 0) (seen : Option Areas) (r : Open) (log : Log) (lines : List Observation) → has_booted k ≡ true → k.replica ≡ None → k.last ≤ new.last → has_booted new ≡ true → new.rule ≡ k.rule → new.order ≡ k.order → new.replica ≡ Some r →
    IsSome seen → ForSome seen now → Follows (KeepsOrBegins 0) images now → IsOpen r log now → r.stable.0 ≡ stable_in log.records → r.role ≡ Other → r.front ≡ nothing no_epoch → lines ≡ says.Up 0 ∷ says.View 0 r.shown ∷ [] → Serves k new images now (Reboot 0) (Ok lines)
reboot_opens k new images now seen r log lines booted none rising new_booted rule order some told shown follows o stable role idle is =
    let there = an_image seen now told shown in
    subst (λ ls. Serves k new images now (Reboot 0) (Ok ls)) (sym is)
    (λ m s.
    let before = closed_of k images m booted none s in
    let opened = opens_at k.last new.last images now m r log there.0 rising there.1 follows o stable idle before in
    (opened.0, open_stands new now _ r new_booted some (subst (λ w. AsRole w new.last r now (moved m (Reboot 0) (says.Up 0 ∷ says.View 0 r.shown ∷ []))) (sym role) opened.1) (ruled_still k new m _ rule order opened.2 (ruled_of k images m booted s)), closed_still k.last images now m follows before))

-- The disk faults as the replica is opened.
abbrev Fails : Machine → ℕ → (Areas → Type 0) → Type 0
Fails m number now = IsWhole m (Reboot 0) (says.Fault 0 ∷ []) × Closed number now (moved m (Reboot 0) (says.Fault 0 ∷ [])) × Continues 0 m (moved m (Reboot 0) (says.Fault 0 ∷ []))

fails_at : (last number : ℕ) (images now : Areas → Type 0) (m : Machine) → last ≤ number → Follows (KeepsOrBegins 0) images now → Closed last images m → Fails m number now
fails_at last number images now m rising follows s =
    let done = reboot_faults s.entries s.is_shut.acknowledged s.is_shut.shown s.is_shut.txns s.is_shut.course in
    subst (λ n. Fails n number now) (sym s.is_shut.is) (
      done.0,
      record {
        entries = s.entries;
        is_shut = record { acknowledged = s.is_shut.acknowledged; txns = ended_at 0 s.is_shut.txns; course = s.is_shut.course; shown = s.is_shut.shown; is = done.1; ruled = s.is_shut.ruled; past = past_ended s.is_shut.course s.entries s.is_shut.acknowledged s.is_shut.txns s.is_shut.past };
        sound = still_sound s.entries s.is_shut.txns s.is_shut.course last number now now rising (λ c is. is) (sound_follows s.entries s.is_shut.txns s.is_shut.course last images now follows s.sound);
      },
      subst (Continues 0 (standing s.entries s.is_shut.acknowledged (shut s.is_shut.course s.is_shut.shown) s.is_shut.txns s.is_shut.course)) (sym done.1) (continues_standing s.entries s.is_shut.acknowledged s.is_shut.acknowledged (shut s.is_shut.course s.is_shut.shown) (shut s.is_shut.course s.is_shut.shown) s.is_shut.txns (ended_at 0 s.is_shut.txns) s.is_shut.course 0 refl refl (omega arith)),
    )

pub reboot_fails : (k new : Kept) (images now : Areas → Type 0) (lines : List Observation) → has_booted k ≡ true → k.replica ≡ None → k.last ≤ new.last → has_booted new ≡ true → new.rule ≡ k.rule → new.order ≡ k.order → new.replica ≡ None → Follows (KeepsOrBegins 0) images now → lines ≡ says.Fault 0 ∷ [] → Serves k new images now (Reboot 0) (Ok lines)
reboot_fails k new images now lines booted none rising new_booted rule order new_none follows is =
    subst (λ ls. Serves k new images now (Reboot 0) (Ok ls)) (sym is)
    (λ m s.
    let before = closed_of k images m booted none s in
    let failed = fails_at k.last new.last images now m rising follows before in
    (failed.0, closed_stands new now _ new_booted new_none failed.1 (ruled_still k new m _ rule order failed.2 (ruled_of k images m booted s)), closed_still k.last images now m follows before))

-- by whether it was opened
pub reboot_does : (k new : Kept) (images now : Areas → Type 0) (seen : Option Areas) (o : Option Open) (begun lines : List Observation) → begun ≡ [] → has_booted k ≡ true → k.replica ≡ None → k.last ≤ new.last → has_booted new ≡ true → new.rule ≡ k.rule → new.order ≡ k.order → new.replica ≡ o →
    IsSome seen → ForSome seen now → Follows (KeepsOrBegins 0) images now → IfSome o (λ r. (log : Log) × IsOpen r log now × (r.stable.0 ≡ stable_in log.records)) → IfSome o (λ r. (r.role ≡ Other) × (r.front ≡ nothing no_epoch)) →
    IfSome o (λ r. lines ≡ begun ++ says.Up 0 ∷ says.View 0 r.shown ∷ []) → (◌≡◌ {A = Result (Option Open) NoMemory} (Ok o) (Ok None) → lines ≡ begun ++ says.Fault 0 ∷ []) → Serves k new images now (Reboot 0) (Ok lines)
reboot_does k new images now seen None begun lines empty booted none rising new_booted rule order is there shown follows opened fresh told faulted = reboot_fails k new images now lines booted none rising new_booted rule order is follows (faulted refl ∙ ap (λ ls. ls ++ says.Fault 0 ∷ []) empty)
reboot_does k new images now seen (Some r) begun lines empty booted none rising new_booted rule order is there shown follows opened fresh told faulted = reboot_opens k new images now seen r opened.0 lines booted none rising new_booted rule order is there shown follows opened.1 opened.2 fresh.0 fresh.1 (told ∙ ap (λ ls. ls ++ says.Up 0 ∷ says.View 0 r.shown ∷ []) empty)

-- ---- the faults of an opening

abbrev OpenedLines : Option Open → List Observation → List Observation → Type 0
OpenedLines o begun lines = IfSome o (λ r. lines ≡ begun ++ says.Up 0 ∷ says.View 0 r.shown ∷ [])

abbrev UnopenedLines : Option Open → List Observation → List Observation → Type 0
UnopenedLines o begun lines = ◌≡◌ {A = Result (Option Open) NoMemory} (Ok o) (Ok None) → lines ≡ begun ++ says.Fault 0 ∷ []

-- no fault of another replica is told
pub reboot_others : (o : Option Open) (begun lines : List Observation) → begun ≡ [] → OpenedLines o begun lines → UnopenedLines o begun lines → TellsZero lines
reboot_others None begun lines none told failed q = ap (faults_in (suc q)) (failed refl ∙ ap (λ ls. ls ++ says.Fault 0 ∷ []) none) ∙ fault_first q
reboot_others (Some r) begun lines none told failed q = ap (faults_in (suc q)) (told ∙ ap (λ ls. ls ++ says.Up 0 ∷ says.View 0 r.shown ∷ []) none)

-- and one of this replica only where its disk failed
pub reboot_rise : (o : Option Open) (begun lines : List Observation) (before now : ℕ) → begun ≡ [] → OpenedLines o begun lines → UnopenedLines o begun lines → Counted before now (◌≡◌ {A = Result (Option Open) NoMemory} (Ok o) (Ok None)) → RoseBy (faults_in 0 lines) before now
reboot_rise None begun lines before now none told failed cause = rose_one before now cause.later (cause.rose refl) (faults_in 0 lines) (ap (faults_in 0) (failed refl ∙ ap (λ ls. ls ++ says.Fault 0 ∷ []) none))
reboot_rise (Some r) begun lines before now none told failed cause = rose_none before now cause.later (faults_in 0 lines) (ap (faults_in 0) (told ∙ ap (λ ls. ls ++ says.Up 0 ∷ says.View 0 r.shown ∷ []) none))
