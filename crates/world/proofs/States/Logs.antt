-- What the logs of a disk hold of the order.
use Rattle.std.proofs.Common.{◌≡◌, ◌∙◌, sym, ap, subst, ℕ, ◌+◌, ◌*◌, ◌≤◌, Bool, true, false, cond, List, [], ◌∷◌, ◌++◌, length, map, take, Ok, arith, append-nil, length-append, ◌==◌, flat_map, refl}
use Rattle.std.specs.List.{list_any}
use Rattle.std.proofs.lemmas.List.{take-append-le, length-map}
use Rattle.rc_base.specs.declared.ids.TxnId.{TxnId}
use Rattle.rc_base.specs.Ids.{is_txn}
use Rattle.disk_model.specs.Disk.{Areas, Each}
use Rattle.txn_table.specs.declared.committed.Committed.{Committed}
use Rattle.txn_table.specs.Log.{commits_in}
use Rattle.txn_table.proofs.HeldOrders.{whole_holds}
use Rattle.log_store.specs.declared.kept.Kept.{Kept as Log}
use Rattle.log_store.specs.Durable.{durable}
use Rattle.order_machine.specs.Order.{Entry, Order}
use Rattle.order_machine.specs.Machine.{Replica, Txn}
use Rattle.replica.specs.Open.{shown_in}
use Rattle.world.specs.Disks.{as_commit, acknowledged_to, HoldsTo}
use Rattle.world.specs.Standing.{Course, standing}
use Rattle.world.specs.Course.{MayFollow, IsFence, IsLogged}
use Rattle.world.specs.World.{IsSound, StillHolds}

-- ---- acknowledged transactions stand in the order

one_more : (none here : Bool) (n k : ℕ) → n ≤ k → cond none (cond here 1 0) (n + 1) ≤ k + 1
one_more true true n k h = omega arith
one_more true false n k h = omega arith
one_more false here n k h = omega arith

acknowledged_few : (acknowledged : List TxnId) (entries : List Entry) → acknowledged_to acknowledged entries ≤ length entries
acknowledged_few acknowledged [] = omega arith
acknowledged_few acknowledged (e ∷ entries) =
    let rest = acknowledged_few acknowledged entries in
    let more = one_more (acknowledged_to acknowledged entries == 0) (list_any (is_txn e.txn) acknowledged) (acknowledged_to acknowledged entries) (length entries) rest in
    omega (arith, more)

-- ---- entries as commits

pub ops_of_entries : (entries : List Entry) → flat_map (λ c. c.ops) (map as_commit entries) ≡ flat_map (λ e. e.ops) entries
ops_of_entries [] = refl
ops_of_entries (e ∷ entries) = ap (λ rest. e.ops ++ rest) (ops_of_entries entries)

-- ---- a sound log holds the order

abbrev pub order_of_entries : List Entry → Order
order_of_entries entries = record { base = 0; start = []; entries = entries }

holds_place : (entries : List Entry) (commits more : List Committed) (n : ℕ) → map as_commit entries ++ more ≡ commits → n ≤ length entries → take n commits ≡ take n (map as_commit entries)
holds_place entries commits more n e few =
    let fits : n ≤ length (map as_commit entries) = let l = length-map entries as_commit in omega (arith, l) in
    subst (λ cs. take n cs ≡ take n (map as_commit entries)) e (take-append-le n (map as_commit entries) more fits)

holds_enough : (entries : List Entry) (commits more : List Committed) (n : ℕ) → map as_commit entries ++ more ≡ commits → n ≤ length entries → n ≤ length commits
holds_enough entries commits more n e few =
    let l = length-map entries as_commit in
    let a = length-append (map as_commit entries) more in
    subst (λ cs. n ≤ length cs) e (omega (arith, l, a))

-- the order is a beginning of what the log commits
abbrev pub BeginsWith : List Entry → Log → Type 0
BeginsWith entries log = (more : List Committed) × (map as_commit entries ++ more ≡ commits_in log.records)

pub begins_hold : (entries : List Entry) (acknowledged : List TxnId) (log : Log) → BeginsWith entries log → HoldsTo (order_of_entries entries) (acknowledged_to acknowledged entries) log
begins_hold entries acknowledged log begins =
    let place = acknowledged_to acknowledged entries in
    (whole_holds log.records (map as_commit entries) place).1 (record {
      enough = holds_enough entries (commits_in log.records) begins.0 place begins.1 (acknowledged_few acknowledged entries);
      same = holds_place entries (commits_in log.records) begins.0 place begins.1 (acknowledged_few acknowledged entries);
    })

pub begins_still : (entries : List Entry) (acknowledged : List TxnId) (first : Replica) (txns : List (TxnId × Txn)) (course : Course) (images : Areas → Type 0) → first.loss ≡ 0 → Each images (λ c. (log : Log) × (durable c ≡ Ok log) × BeginsWith entries log) → StillHolds (standing entries acknowledged first txns course) images
begins_still entries acknowledged r txns course images loss begins booted c is =
    let s = begins c is in
    (s.0, s.1, rw loss (begins_hold entries acknowledged s.0 s.2))

-- ---- logs that stay sound

-- a log that commits the entries, and shows a beginning of them
pub sound_whole : (entries : List Entry) (txns : List (TxnId × Txn)) (course : Course) (last : ℕ) (log : Log) (hidden : List Committed) → map as_commit entries ≡ commits_in log.records → shown_in log.records ++ hidden ≡ commits_in log.records → IsFence course log.fence → IsLogged course log → length log.records ≤ 3 * last → IsSound entries txns course last log
sound_whole entries txns course last log hidden commits shows fence logged short = record { more = []; holds = append-nil (map as_commit entries) ∙ commits; follow = tt; hidden = hidden; shows = shows ∙ sym commits; fence = fence; logged = logged; short = short }

-- as time goes on
pub sound_later : (entries : List Entry) (txns : List (TxnId × Txn)) (course : Course) (last number : ℕ) (log : Log) → last ≤ number → IsSound entries txns course last log → IsSound entries txns course number log
sound_later entries txns course last number log h s = record { more = s.more; holds = s.holds; follow = s.follow; hidden = s.hidden; shows = s.shows; fence = s.fence; logged = s.logged; short = let o = s.short in omega (arith, o, h) }

-- where what may follow may follow still
pub sound_txns : (entries : List Entry) (txns others : List (TxnId × Txn)) (course : Course) (last : ℕ) (log : Log) → ((more : List Committed) → MayFollow entries txns more → MayFollow entries others more) → IsSound entries txns course last log → IsSound entries others course last log
sound_txns entries txns others course last log then s = record { more = s.more; holds = s.holds; follow = then s.more s.follow; hidden = s.hidden; shows = s.shows; fence = s.fence; logged = s.logged; short = s.short }
