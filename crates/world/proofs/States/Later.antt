-- World and disk as they stand at a state: read by cases, and as time goes on.
use Rattle.std.proofs.Common.{◌≡◌, ◌∙◌, sym, ap, subst, refl, ℕ, ◌+◌, ◌≤◌, max, List, length, Bool, true, false, Option, Some, None, is_some, MatchBool, arith}
use Rattle.std.proofs.lemmas.Bool.{false≢true}
use Rattle.disk_model.specs.Disk.{Areas, Within}
use Rattle.log_store.specs.declared.kept.Kept.{Kept as Log}
use Rattle.rc_base.specs.declared.ids.TxnId.{TxnId}
use Rattle.order_machine.specs.Order.{Entry, length_of}
use Rattle.order_machine.specs.Machine.{Machine, Replica, Txn, is_booted, replica, order_of}
use Rattle.world.specs.Standing.{Course, standing, serving, resting, shut}
use Rattle.replica_model.specs.declared.role.Role.{Role}
use Rattle.replica_model.specs.declared.role.Role.TheVariants.{Other, Primary}
use Rattle.replica.specs.Open.{Open}
use Rattle.world.specs.Course.{AreNoted}
use Rattle.world.specs.Kept.{Kept, has_booted}
use Rattle.world.specs.World.{StandsFor, AsReplica, AsRole, Serving, Resting, Closed, IsNew, IsRuled, IsOpen, StillHolds}
use Rattle.world.proofs.States.Booted.{standing_booted}
use Rattle.world.proofs.States.Logs.{sound_later}

-- ---- by cases

pub new_of : (k : Kept) (images : Areas → Type 0) (m : Machine) → has_booted k ≡ false → StandsFor k images m → IsNew k images m
new_of k images m e s = subst (λ b. MatchBool b (AsReplica k.replica k.last images m × IsRuled k m) (IsNew k images m)) e s

pub ruled_of : (k : Kept) (images : Areas → Type 0) (m : Machine) → has_booted k ≡ true → StandsFor k images m → IsRuled k m
ruled_of k images m e s = (subst (λ b. MatchBool b (AsReplica k.replica k.last images m × IsRuled k m) (IsNew k images m)) e s).1

pub replica_of : (k : Kept) (images : Areas → Type 0) (m : Machine) → has_booted k ≡ true → StandsFor k images m → AsReplica k.replica k.last images m
replica_of k images m e s = (subst (λ b. MatchBool b (AsReplica k.replica k.last images m × IsRuled k m) (IsNew k images m)) e s).0

pub as_new : (k : Kept) (images : Areas → Type 0) (m : Machine) → has_booted k ≡ false → IsNew k images m → StandsFor k images m
as_new k images m e n = subst (λ b. MatchBool b (AsReplica k.replica k.last images m × IsRuled k m) (IsNew k images m)) (sym e) n

pub as_replica : (k : Kept) (images : Areas → Type 0) (m : Machine) → has_booted k ≡ true → AsReplica k.replica k.last images m → IsRuled k m → StandsFor k images m
as_replica k images m e s ruled = subst (λ b. MatchBool b (AsReplica k.replica k.last images m × IsRuled k m) (IsNew k images m)) (sym e) (s, ruled)

pub closed_of : (k : Kept) (images : Areas → Type 0) (m : Machine) → has_booted k ≡ true → k.replica ≡ None → StandsFor k images m → Closed k.last images m
closed_of k images m e none s = subst (λ o. AsReplica o k.last images m) none (replica_of k images m e s)

pub open_of : (k : Kept) (images : Areas → Type 0) (m : Machine) (r : Open) → has_booted k ≡ true → k.replica ≡ Some r → StandsFor k images m → AsRole r.role k.last r images m
open_of k images m r e some s = subst (λ o. AsReplica o k.last images m) some (replica_of k images m e s)

-- ---- the rule

pub ruled_as : (k n : Kept) (m : Machine) → n.rule ≡ k.rule → n.order ≡ k.order → IsRuled k m → IsRuled n m
ruled_as k n m rule order r = record { known = r.known; rule = rule ∙ r.rule; appointed = r.appointed; current = r.current; answers = r.answers; order = order ∙ r.order }

-- an event that decides nothing, in which so many are shown at most
pub record Continues (most : ℕ) (m n : Machine) : Type 0 where
  pub appointments : n.appointments ≡ m.appointments
  pub config : n.config ≡ m.config
  pub answers : n.answers ≡ m.answers
  pub order : length_of (order_of n 0) ≡ max (length_of (order_of m 0)) most

pub ruled_on : (k new : Kept) (m n : Machine) (most : ℕ) → new.rule ≡ k.rule → new.order ≡ max k.order most → Continues most m n → IsRuled k m → IsRuled new n
ruled_on k new m n most rule order c r = record {
  known = r.known;
  rule = rule ∙ r.rule;
  appointed = subst (AreNoted r.known.appointed) (sym c.appointments) r.appointed;
  current = r.current ∙ sym c.config;
  answers = r.answers ∙ sym c.answers;
  order = order ∙ (ap (λ l. max l most) r.order ∙ sym c.order);
}

pub max_none : (n : ℕ) → max n 0 ≡ n
max_none n = grind arith

pub ruled_still : (k new : Kept) (m n : Machine) → new.rule ≡ k.rule → new.order ≡ k.order → Continues 0 m n → IsRuled k m → IsRuled new n
ruled_still k new m n rule order c r = ruled_on k new m n 0 rule (order ∙ sym (max_none k.order)) c r

-- machines of this world that differ neither in the order nor in what was decided
pub continues_standing : (entries : List Entry) (acknowledged others : List TxnId) (first then : Replica) (txns more : List (TxnId × Txn)) (course : Course) (most : ℕ) → first.loss ≡ 0 → then.loss ≡ 0 → most ≤ length entries → Continues most (standing entries acknowledged first txns course) (standing entries others then more course)
continues_standing entries acknowledged others first then txns more course most loss still low =
    let same : 0 + length entries ≡ max (0 + length entries) most = grind (arith, low) in
    record { appointments = refl; config = refl; answers = refl; order = rw (loss, still) same }

-- ---- a booted world

booted_role : (role : Role) (last : ℕ) (r : Open) (images : Areas → Type 0) (m : Machine) → AsRole role last r images m → is_booted m ≡ true
booted_role Other last r images m s = subst (λ n. is_booted n ≡ true) (sym s.rests.is) (standing_booted s.entries s.rests.acknowledged (resting s.rests.course r.shown) s.rests.txns s.rests.course)
booted_role (Primary epoch active) last r images m s = subst (λ n. is_booted n ≡ true) (sym s.runs.is) (standing_booted s.runs.entries s.runs.acknowledged (serving s.runs.course (length s.runs.entries) r.front.begins s.runs.grants) s.runs.txns s.runs.course)

booted_replica : (o : Option Open) (last : ℕ) (images : Areas → Type 0) (m : Machine) → AsReplica o last images m → is_booted m ≡ true
booted_replica None last images m s = subst (λ n. is_booted n ≡ true) (sym s.is_shut.is) (standing_booted s.entries s.is_shut.acknowledged (shut s.is_shut.course s.is_shut.shown) s.is_shut.txns s.is_shut.course)
booted_replica (Some r) last images m s = booted_role r.role last r images m s

pub booted_stands : (k : Kept) (images : Areas → Type 0) (m : Machine) → has_booted k ≡ true → StandsFor k images m → is_booted m ≡ true
booted_stands k images m e s = booted_replica k.replica k.last images m (replica_of k images m e s)

pub up_role : (role : Role) (last : ℕ) (r : Open) (images : Areas → Type 0) (m : Machine) → AsRole role last r images m → (replica m 0).up ≡ true
up_role Other last r images m s = rw s.rests.is refl
up_role (Primary epoch active) last r images m s = rw s.runs.is refl

-- ---- as time goes on

serving_later : (last number : ℕ) (r : Open) (images : Areas → Type 0) (m : Machine) → last ≤ number → Serving last r images m → Serving number r images m
serving_later last number r images m h s = record { runs = s.runs; ruled = s.ruled; log = s.log; is_open = s.is_open; epoch = s.epoch; fence = s.fence; commits = s.commits; short = let o = s.short in omega (arith, o, h); few = let o = s.few in omega (arith, o, h); recorded = s.recorded }

resting_later : (last number : ℕ) (r : Open) (images : Areas → Type 0) (m : Machine) → last ≤ number → Resting last r images m → Resting number r images m
resting_later last number r images m h s = record { entries = s.entries; rests = s.rests; log = s.log; is_open = s.is_open; sound = sound_later s.entries s.rests.txns s.rests.course last number s.log h s.sound; hidden = s.hidden; shows = s.shows; few = let o = s.few in omega (arith, o, h) }

closed_later : (last number : ℕ) (images : Areas → Type 0) (m : Machine) → last ≤ number → Closed last images m → Closed number images m
closed_later last number images m h s = record { entries = s.entries; is_shut = s.is_shut; sound = λ c is. let l = s.sound c is in (l.0, l.1, sound_later s.entries s.is_shut.txns s.is_shut.course last number l.0 h l.2) }

role_later : (role : Role) (last number : ℕ) (r : Open) (images : Areas → Type 0) (m : Machine) → last ≤ number → AsRole role last r images m → AsRole role number r images m
role_later Other last number r images m h s = resting_later last number r images m h s
role_later (Primary epoch active) last number r images m h s = serving_later last number r images m h s

pub replica_later : (o : Option Open) (last number : ℕ) (images : Areas → Type 0) (m : Machine) → last ≤ number → AsReplica o last images m → AsReplica o number images m
replica_later None last number images m h s = closed_later last number images m h s
replica_later (Some r) last number images m h s = role_later r.role last number r images m h s

later_by : (booted : Bool) (k : Kept) (number : ℕ) (images : Areas → Type 0) (m : Machine) → has_booted k ≡ booted → k.last ≤ number → StandsFor k images m → StandsFor (record k { last = number }) images m
later_by true k number images m e h s = as_replica (record k { last = number }) images m e (replica_later k.replica k.last number images m h (replica_of k images m e s)) (ruled_as k (record k { last = number }) m refl refl (ruled_of k images m e s))
later_by false k number images m e h s = let n = new_of k images m e s in as_new (record k { last = number }) images m e (record { is = n.is; closed = n.closed; unordered = n.unordered; empty = n.empty })

pub stands_later : (k : Kept) (number : ℕ) (images : Areas → Type 0) (m : Machine) → k.last ≤ number → StandsFor k images m → StandsFor (record k { last = number }) images m
stands_later k number images m h s = later_by (has_booted k) k number images m refl h s

-- ---- where no image is new

pub open_within : (r : Open) (log : Log) (images now : Areas → Type 0) → Within images now → IsOpen r log images → IsOpen r log now
open_within r log images now within o = record {
  first = o.first;
  stands = λ c is. o.stands c (within c is);
  agrees = o.agrees;
  opened = record { low = o.opened.low; settled = λ c is. o.opened.settled c (within c is); taken = λ c is. o.opened.taken c (within c is) };
  not_closed = o.not_closed;
}

role_within : (role : Role) (last : ℕ) (r : Open) (images now : Areas → Type 0) (m : Machine) → Within images now → AsRole role last r images m → AsRole role last r now m
role_within Other last r images now m within s = record { entries = s.entries; rests = s.rests; log = s.log; is_open = open_within r s.log images now within s.is_open; sound = s.sound; hidden = s.hidden; shows = s.shows; few = s.few }
role_within (Primary epoch active) last r images now m within s = record { runs = s.runs; ruled = s.ruled; log = s.log; is_open = open_within r s.log images now within s.is_open; epoch = s.epoch; fence = s.fence; commits = s.commits; short = s.short; few = s.few; recorded = s.recorded }

replica_within : (o : Option Open) (last : ℕ) (images now : Areas → Type 0) (m : Machine) → Within images now → AsReplica o last images m → AsReplica o last now m
replica_within None last images now m within s = record { entries = s.entries; is_shut = s.is_shut; sound = λ c is. s.sound c (within c is) }
replica_within (Some r) last images now m within s = role_within r.role last r images now m within s

within_by : (booted : Bool) (k : Kept) (images now : Areas → Type 0) (m : Machine) → has_booted k ≡ booted → Within images now → StandsFor k images m → StandsFor k now m
within_by true k images now m e within s = as_replica k now m e (replica_within k.replica k.last images now m within (replica_of k images m e s)) (ruled_of k images m e s)
within_by false k images now m e within s = let n = new_of k images m e s in as_new k now m e (record { is = n.is; closed = n.closed; unordered = n.unordered; empty = λ c is. n.empty c (within c is) })

pub stands_within : (k : Kept) (images now : Areas → Type 0) (m : Machine) → Within images now → StandsFor k images m → StandsFor k now m
stands_within k images now m within s = within_by (has_booted k) k images now m refl within s

pub still_within : (images now : Areas → Type 0) (m : Machine) → Within images now → StillHolds m images → StillHolds m now
still_within images now m within still booted c is = still booted c (within c is)

-- ---- whether the replica is open

pub none_of : {A : Type 0} (o : Option A) → is_some o ≡ false → o ≡ None
none_of None e = refl
none_of (Some x) e = absurd (false≢true (sym e))

pub some_of : {A : Type 0} (o : Option A) → is_some o ≡ true → (x : A) × (o ≡ Some x)
some_of None e = absurd (false≢true e)
some_of (Some x) e = (x, refl)

pub closed_stands : (k : Kept) (images : Areas → Type 0) (m : Machine) → has_booted k ≡ true → k.replica ≡ None → Closed k.last images m → IsRuled k m → StandsFor k images m
closed_stands k images m booted none s ruled = as_replica k images m booted (subst (λ o. AsReplica o k.last images m) (sym none) s) ruled

pub open_stands : (k : Kept) (images : Areas → Type 0) (m : Machine) (r : Open) → has_booted k ≡ true → k.replica ≡ Some r → AsRole r.role k.last r images m → IsRuled k m → StandsFor k images m
open_stands k images m r booted some s ruled = as_replica k images m booted (subst (λ o. AsReplica o k.last images m) (sym some) s) ruled
