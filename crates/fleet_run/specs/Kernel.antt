-- Which abstract fleet of the replication laws a fleet stands for.
use Rattle.std.specs.Prelude.{◌≡◌, ℕ, ◌-◌, ◌<◌, ◌≤◌, ◌^◌, true, false, List, [], ◌∷◌, map, length, slice_get, Contains, Option, MatchOption}
use Rattle.std.specs.Option.{option_map_or}
use Rattle.std.specs.List.{list_any}
use Rattle.rc_base.specs.declared.ids.Epoch.{Epoch}
use Rattle.rc_base.specs.Ids.{is_epoch}
use Rattle.log_records.specs.declared.record.Record.{Record}
use Rattle.log_records.specs.declared.record.Record.TheVariants as records
use Rattle.txn_table.specs.Whole.{Whole, stable_of}
use Rattle.config_rule.specs.declared.answers.SurveyAnswer.{SurveyAnswer}
use Rattle.config_rule.specs.Rule.{answer_of}
use Rattle.order_machine.specs.Machine.{Machine, Appointment}
use Rattle.fleet_laws.specs.Epochs.{epoch_code}
use Rattle.fleet_laws.specs.Logs.{Entry, Record as Content}
use Rattle.fleet_laws.specs.Logs.Record.{EpochStart, Barrier, Other}
use Rattle.fleet_laws.specs.Fleets.{Value, Fleet}
use Rattle.fleet_run.specs.Scenes.{FleetReplica, replica_at}
use Rattle.fleet_run.specs.Scenes.FleetReplica.{Open, Closed}

-- ---- logs

-- the number that stands for an epoch
abbrev pub code : Epoch → ℕ
code e = epoch_code e.loss e.number

-- numbers stand for one epoch each, of those that have a spelling
abbrev pub IsCoded : Epoch → Type 0
IsCoded e = e.number < 2 ^ 32

-- what the laws see of a record: the start of an epoch, a Barrier with the position that it tells, and of any other that it is one
abbrev pub content_of : Record → Content Record
content_of (records.Begin txn) = Other (records.Begin txn)
content_of (records.Operation txn prev op) = Other (records.Operation txn prev op)
content_of (records.End txn prev committed) = Other (records.End txn prev committed)
content_of (records.Barrier stable) = Barrier stable.0
content_of (records.EpochStart epoch) = EpochStart

abbrev pub entry_of : Epoch × Record → Entry Record
entry_of item = record { epoch = code item.0; content = content_of item.1 }

-- what a disk holds, with this stable number
abbrev pub value_of : ℕ → Whole → Value Record
value_of stable w = record { log = map entry_of w.log; head = w.head; base = w.base; fence = code w.fence; stable = stable }

-- ---- replicas

-- an open replica has one value, with the stable number that it keeps; a closed one has those that its disk may hold, each with what it tells as stable
abbrev pub values_of : FleetReplica → List (Value Record)
values_of (Open o) = value_of o.stable o.disk ∷ []
values_of (Closed ws) = map (λ w. value_of (stable_of w) w) ws

-- the number of the epoch whose primary it is, 0 for none
abbrev pub role_of : FleetReplica → ℕ
role_of (Open o) = option_map_or (λ l. code l.epoch) o.leading 0
role_of (Closed ws) = 0

-- ---- the fleet

-- what the laws see of an appointment: its epoch, and the configuration before its own, and its own
pub record Term : Type 0 where
  pub epoch : Epoch
  pub previous : List ℕ
  pub current : List ℕ

abbrev pub term_of : Appointment → Term
term_of a = record { epoch = a.epoch; previous = a.previous; current = a.current }

abbrev pub terms_of : Machine → List Term
terms_of m = map term_of m.appointments

-- the number of the latest epoch, 0 where there is none
abbrev pub latest_in : List Term → ℕ
latest_in ts = option_map_or (λ t. code t.epoch) (slice_get ts (length ts - 1)) 0

-- What was answered to a survey of the epoch by the replica, in the machine and in the laws: how far its log reached; or nothing.
abbrev pub AnswerMatches : Fleet Record → Epoch → ℕ → Option SurveyAnswer → Type 0
AnswerMatches f e r answer =
    MatchOption answer
    (f.answered (code e) r ≡ false)
    (λ a. (f.answered (code e) r ≡ true) × (f.told_epoch (code e) r ≡ code a.last_epoch) × (f.told_length (code e) r ≡ a.last.0) × IsCoded a.last_epoch)

-- The rule of reconfiguration is one in both: the same appointments and configurations, each with members, and the same answers to
-- surveys, of which there are none before the boot.
pub record RuleMatches (m : Machine) (f : Fleet Record) : Type 0 where
  pub coded : (t : Term) → Contains (terms_of m) t → IsCoded t.epoch
  pub appointed : (e : Epoch) → IsCoded e → f.appointed (code e) ≡ list_any (λ t. is_epoch e t.epoch) (terms_of m)
  pub only : (n : ℕ) → f.appointed n ≡ true → (e : Epoch) × IsCoded e × (code e ≡ n)
  pub members : (t : Term) → Contains (terms_of m) t → (f.current (code t.epoch) ≡ t.current) × (f.previous (code t.epoch) ≡ t.previous)
  pub some_member : (t : Term) → Contains (terms_of m) t → 1 ≤ length t.current
  pub latest : f.latest ≡ latest_in (terms_of m)
  pub active : f.current f.active ≡ m.config
  pub answers : (e : Epoch) → IsCoded e → (r : ℕ) → AnswerMatches f e r (answer_of m.answers e r)
  pub surveyed : (n r : ℕ) → f.answered n r ≡ true → (e : Epoch) × IsCoded e × (code e ≡ n)
  pub unbooted : terms_of m ≡ [] → m.answers ≡ []

-- The machine and the replicas stand for an abstract fleet: with the same values and roles, and the same rule. No copy is in progress.
pub record Matches (m : Machine) (replicas : List FleetReplica) (f : Fleet Record) : Type 0 where
  pub values : (r : ℕ) → f.values r ≡ values_of (replica_at replicas r)
  pub role : (r : ℕ) → f.role r ≡ role_of (replica_at replicas r)
  pub no_copy : (r : ℕ) → f.copying r ≡ 0
  pub rule : RuleMatches m f
