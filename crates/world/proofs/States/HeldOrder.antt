-- At each state that world and disk stand for, the disk holds what was acknowledged.
use Rattle.std.proofs.Common.{◌≡◌, ◌∙◌, sym, subst, ℕ, Bool, true, false, List, [], map, Option, Some, None, Ok, refl, append-nil, length}
use Rattle.std.proofs.lemmas.Bool.{false≢true}
use Rattle.disk_model.specs.Disk.{Areas, Each}
use Rattle.log_store.specs.declared.kept.Kept.{Kept as Log}
use Rattle.log_store.specs.Durable.{durable, StandFor}
use Rattle.order_machine.specs.Order.{Entry}
use Rattle.order_machine.specs.Machine.{Machine, is_booted}
use Rattle.replica_model.specs.declared.role.Role.{Role}
use Rattle.replica_model.specs.declared.role.Role.TheVariants.{Other, Primary}
use Rattle.replica.specs.Open.{Open}
use Rattle.world.specs.Disks.{as_commit}
use Rattle.world.specs.Kept.{Kept, has_booted}
use Rattle.world.specs.Standing.{serving, resting, shut}
use Rattle.world.specs.World.{StandsFor, AsReplica, AsRole, Serving, Resting, Closed, StillHolds}
use Rattle.world.proofs.States.Later.{new_of, replica_of}
use Rattle.world.proofs.States.Logs.{BeginsWith, begins_still}

pub of_one : (entries : List Entry) (images : Areas → Type 0) (log : Log) → StandFor log images → BeginsWith entries log → Each images (λ c. (l : Log) × (durable c ≡ Ok l) × BeginsWith entries l)
of_one entries images log stands begins c is = (log, stands c is, begins)

pub still_serving : (last : ℕ) (r : Open) (images : Areas → Type 0) (m : Machine) → Serving last r images m → StillHolds m images
still_serving last r images m s =
    subst (λ n. StillHolds n images) (sym s.runs.is)
    (begins_still s.runs.entries s.runs.acknowledged (serving s.runs.course (length s.runs.entries) r.front.begins s.runs.grants) s.runs.txns s.runs.course images refl (of_one s.runs.entries images s.log s.is_open.stands ([], append-nil (map as_commit s.runs.entries) ∙ s.commits)))

pub still_resting : (last : ℕ) (r : Open) (images : Areas → Type 0) (m : Machine) → Resting last r images m → StillHolds m images
still_resting last r images m s =
    subst (λ n. StillHolds n images) (sym s.rests.is)
    (begins_still s.entries s.rests.acknowledged (resting s.rests.course r.shown) s.rests.txns s.rests.course images refl (of_one s.entries images s.log s.is_open.stands (s.sound.more, s.sound.holds)))

pub still_closed : (last : ℕ) (images : Areas → Type 0) (m : Machine) → Closed last images m → StillHolds m images
still_closed last images m s =
    subst (λ n. StillHolds n images) (sym s.is_shut.is)
    (begins_still s.entries s.is_shut.acknowledged (shut s.is_shut.course s.is_shut.shown) s.is_shut.txns s.is_shut.course images refl (λ c is. let l = s.sound c is in (l.0, l.1, (l.2.more, l.2.holds))))

still_role : (role : Role) (last : ℕ) (r : Open) (images : Areas → Type 0) (m : Machine) → AsRole role last r images m → StillHolds m images
still_role Other last r images m s = still_resting last r images m s
still_role (Primary epoch active) last r images m s = still_serving last r images m s

still_replica : (o : Option Open) (last : ℕ) (images : Areas → Type 0) (m : Machine) → AsReplica o last images m → StillHolds m images
still_replica None last images m s = still_closed last images m s
still_replica (Some r) last images m s = still_role r.role last r images m s

still_by : (booted : Bool) (k : Kept) (images : Areas → Type 0) (m : Machine) → has_booted k ≡ booted → StandsFor k images m → StillHolds m images
still_by true k images m e s = still_replica k.replica k.last images m (replica_of k images m e s)
still_by false k images m e s = λ b. absurd (let n = new_of k images m e s in false≢true (subst (λ w. is_booted w ≡ true) n.is b))

pub stands_still : (k : Kept) (images : Areas → Type 0) (m : Machine) → StandsFor k images m → StillHolds m images
stands_still k images m s = still_by (has_booted k) k images m refl s
