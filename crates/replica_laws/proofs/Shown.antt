-- What a replica shows is what the model's shows.
use Rattle.std.proofs.Common.{◌≡◌, ◌∙◌, refl, ap, ℕ, ◌+◌, ◌-◌, length, take, arith, Option, Some, None}
use Rattle.rc_base.specs.declared.ids.Lsn.{Lsn}
use Rattle.disk_model.specs.Disk.{Areas}
use Rattle.txn_table.specs.Log.{commits_in}
use Rattle.txn_table.specs.Whole.{Whole, last_position, epoch_of}
use Rattle.replica_model.specs.declared.role.Role.{Role}
use Rattle.replica_model.specs.declared.role.Role.TheVariants.{Other, Primary}
use Rattle.replica_model.specs.OpenReplica as model
use Rattle.replica_model.specs.OpenReplica.{OpenReplica, Leading, last_lsn, shown_commits, view_of, contents_of}
use Rattle.replica.specs.Open.{Open, commits_to, state_of}
use Rattle.replica.specs.Step.{is_active}
use Rattle.replica_laws.specs.Agreement.{AgreesOn, IsRoleOf}

whole_last : (x : Open) (o : OpenReplica) (images : Areas → Type 0) (a : AgreesOn x o images) → last_position o.disk ≡ length a.kept.records
whole_last x o images a = let e : 0 + length a.kept.records ≡ length a.kept.records = omega arith in ap last_position a.disk ∙ e

pub last_is : (x : Open) (o : OpenReplica) (images : Areas → Type 0) → AgreesOn x o images → last_position o.disk ≡ x.last.0
last_is x o images a = whole_last x o images a ∙ a.agrees.last

pub lsn_is : (x : Open) (o : OpenReplica) (images : Areas → Type 0) → AgreesOn x o images → last_lsn o ≡ x.last
lsn_is x o images a = ap (λ (n : ℕ). let l : Lsn = record { 0 = n } in l) (last_is x o images a)

pub epoch_is : (x : Open) (o : OpenReplica) (images : Areas → Type 0) → AgreesOn x o images → epoch_of o.disk ≡ x.epoch
epoch_is x o images a = ap epoch_of a.disk ∙ a.agrees.epoch

pub fence_is : (x : Open) (o : OpenReplica) (images : Areas → Type 0) → AgreesOn x o images → o.disk.fence ≡ x.fence
fence_is x o images a = ap (λ (w : Whole). w.fence) a.disk ∙ a.agrees.fence

pub commits_is : (x : Open) (o : OpenReplica) (images : Areas → Type 0) (a : AgreesOn x o images) → shown_commits o ≡ commits_to x.stable.0 a.kept.records
commits_is x o images a =
    let e : x.stable.0 - 0 ≡ x.stable.0 = omega arith in
    ap (λ (w : Whole). shown_commits (record o { disk = w })) a.disk
    ∙ (ap (λ (n : ℕ). commits_in (take (n - 0) a.kept.records)) a.stable ∙ ap (λ (n : ℕ). commits_in (take n a.kept.records)) e)

pub view_is : (x : Open) (o : OpenReplica) (images : Areas → Type 0) → AgreesOn x o images → view_of o ≡ x.shown
view_is x o images a =
    let none : o.disk.start.count ≡ 0 = ap (λ (w : Whole). w.start.count) a.disk in
    let count = ap length (commits_is x o images a) in
    omega (arith, none, count, a.agrees.shown)

pub contents_is : (x : Open) (o : OpenReplica) (images : Areas → Type 0) → AgreesOn x o images → contents_of o ≡ x.contents
contents_is x o images a =
    ap (λ (w : Whole). contents_of (record o { disk = record o.disk { start = w.start } })) a.disk
    ∙ (ap state_of (commits_of x o images a) ∙ a.agrees.contents)
  where
    commits_of : (x : Open) (o : OpenReplica) (images : Areas → Type 0) (a : AgreesOn x o images) → commits_in (take (o.stable - 0) o.disk.log) ≡ commits_to x.stable.0 a.kept.records
    commits_of x o images a =
        let e : o.stable - 0 ≡ x.stable.0 = omega (arith, a.stable) in
        ap (λ (n : ℕ). commits_in (take n o.disk.log)) e ∙ ap (λ (w : Whole). commits_in (take x.stable.0 w.log)) a.disk

role_active : (id : ℕ) (role : Role) (leading : Option Leading) (o : OpenReplica) → o.leading ≡ leading → IsRoleOf id role leading → model.is_active o ≡ is_active role
role_active id Other None o is r = ap (λ (m : Option Leading). model.is_active (record o { leading = m })) is
role_active id Other (Some l) o is r = absurd r
role_active id (Primary epoch active) None o is r = absurd r
role_active id (Primary epoch active) (Some l) o is r = ap (λ (m : Option Leading). model.is_active (record o { leading = m })) is ∙ r.active

pub active_is : (x : Open) (o : OpenReplica) (images : Areas → Type 0) → AgreesOn x o images → model.is_active o ≡ is_active x.role
active_is x o images a = role_active x.id x.role o.leading o refl a.role
