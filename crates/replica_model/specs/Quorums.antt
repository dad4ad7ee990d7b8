-- What a primary shows, by what quorums have reached.
use Rattle.std.specs.Prelude.{ℕ, zero, suc, ◌==◌, Bool, true, ◌&&◌, ◌||◌, nat_le, max, List, [], ◌∷◌, length, filter, drop, map, Some, unwrap_or, if◌then◌else◌}
use Rattle.std.specs.Option.{option_map_or}
use Rattle.std.specs.Map.{lookup}
use Rattle.rc_base.specs.declared.ids.Epoch.{Epoch}
use Rattle.rc_base.specs.declared.ids.TxnId.{TxnId}
use Rattle.rc_base.specs.Ids.{is_epoch}
use Rattle.rc_base.specs.Quorum.{write_quorum}
use Rattle.txn_table.specs.declared.committed.Committed.{Committed}
use Rattle.txn_table.specs.Log.{last_epoch_from}
use Rattle.txn_table.specs.Whole.{Whole, log_to, last_position}
use Rattle.txn_front.specs.Front.{Fronted, unlocked}
use Rattle.replica_model.specs.OpenReplica.{OpenReplica, Leading, shown_commits}

-- ---- the quorum number

-- the position to which a replica has reached the primary's log: the primary itself to its end, and of the others one that
-- has acknowledged nothing to 0
abbrev pub reached_by : OpenReplica → Leading → ℕ → ℕ
reached_by o l r = if r == o.id then last_position o.disk else unwrap_or (lookup (λ other. r == other) l.reached) 0

-- a write quorum of the members has reached the position
abbrev pub has_quorum : (ℕ → ℕ) → ℕ → List ℕ → Bool
has_quorum reached place members = nat_le (write_quorum (length members)) (length (filter (λ m. nat_le place (reached m)) members))

-- so has one of each configuration that counts: its own, and the one before until it is dropped
abbrev pub is_reached : OpenReplica → Leading → ℕ → Bool
is_reached o l place =
    has_quorum (reached_by o l) place l.current && option_map_or (λ members. has_quorum (reached_by o l) place members) l.previous true

-- the greatest number up to the bound that passes, 0 where none does
abbrev pub greatest : (ℕ → Bool) → ℕ → ℕ
greatest passes zero = zero
greatest passes (suc n) = if passes (suc n) then suc n else greatest passes n

-- the quorum number: the greatest position of its log that is reached so
unfoldable pub quorum_number : OpenReplica → Leading → ℕ
quorum_number o l = greatest (is_reached o l) (last_position o.disk)

-- ---- what is shown by it

-- whether a position of the log is of the epoch, or one behind it
abbrev pub is_of_epoch : Whole → Epoch → ℕ → Bool
is_of_epoch w epoch place = is_epoch (last_epoch_from w.start (log_to w place)) epoch

-- it is active once the quorum number has reached the start of its epoch
abbrev pub is_active_at : OpenReplica → Leading → ℕ → Bool
is_active_at o l number = l.active || is_of_epoch o.disk l.epoch number

-- with what is stable by the quorum number, once it is active
abbrev pub stable_at : OpenReplica → Leading → ℕ → OpenReplica
stable_at o l number =
    if is_active_at o l number then record o { stable = max o.stable number; leading = Some (record l { active = true }) } else o

-- the commits that the second of two values of a replica shows beyond the first
abbrev pub newly_shown : OpenReplica → OpenReplica → List Committed
newly_shown before now = drop (length (shown_commits before)) (shown_commits now)

-- the transactions of an epoch among commits, in their order
abbrev pub txns_of : Epoch → List Committed → List TxnId
txns_of epoch commits = map (λ c. c.txn) (filter (λ c. is_epoch c.txn.epoch epoch) commits)

-- the locks of these transactions go
abbrev pub unlocked_all : Fronted → List TxnId → Fronted
unlocked_all f [] = f
unlocked_all f (t ∷ ts) = unlocked_all (unlocked f t) ts

-- the transactions that are acknowledged as the replica comes to show more: those that it began as this primary
abbrev pub acknowledged_by : OpenReplica → OpenReplica → List TxnId
acknowledged_by before now = option_map_or (λ l. txns_of l.epoch (newly_shown before now)) now.leading []

-- their locks go then
abbrev pub acknowledging : OpenReplica → OpenReplica → OpenReplica
acknowledging before now = record now { front = unlocked_all now.front (acknowledged_by before now) }

-- A primary looks at what has been reached: it may become active by that, and show more.
abbrev pub looked : OpenReplica → OpenReplica
looked o = option_map_or (λ l. acknowledging o (stable_at o l (quorum_number o l))) o.leading o
