-- What a replica keeps is told by the model's value that it agrees with.
use Rattle.std.proofs.Common.{◌≡◌, ◌∙◌, refl, sym, ap, ℕ, List, length, drop, Option, Some, None}
use Rattle.std.proofs.Math.Seq.{drop-append_seam}
use Rattle.rc_base.specs.declared.ids.Epoch.{Epoch}
use Rattle.rc_base.specs.declared.ids.Lsn.{Lsn}
use Rattle.coll_model.specs.Effect.{State}
use Rattle.disk_model.specs.Disk.{Areas}
use Rattle.txn_table.specs.declared.committed.Committed.{Committed}
use Rattle.txn_table.specs.Log.{commits_from}
use Rattle.txn_table.specs.Whole.{Whole}
use Rattle.replica_model.specs.declared.role.Role.{Role}
use Rattle.replica_model.specs.declared.role.Role.TheVariants.{Other, Primary}
use Rattle.replica_model.specs.OpenReplica.{OpenReplica, Leading, unshown_commits}
use Rattle.replica.specs.Open.{Open, commits_to}
use Rattle.replica_laws.specs.Agreement.{AgreesOn, IsRoleOf, role_of, kept_of}
use Rattle.replica_laws.specs.Laws.{ViewsAgree}
use Rattle.replica_laws.proofs.Shown.{lsn_is, epoch_is, fence_is, commits_is, view_is, contents_is}

role_is : (id : ℕ) (role : Role) (m : Option Leading) → IsRoleOf id role m → role ≡ role_of m
role_is id Other None r = refl
role_is id Other (Some l) r = absurd r
role_is id (Primary epoch active) None r = absurd r
role_is id (Primary epoch active) (Some l) r = ap (λ (e : Epoch). Primary e active) (sym r.epoch) ∙ ap (Primary l.epoch) (sym r.active)

ahead_is : (x : Open) (o : OpenReplica) (images : Areas → Type 0) (a : AgreesOn x o images) → unshown_commits o ≡ x.ahead
ahead_is x o images a =
    let shown : List Committed = commits_to x.stable.0 a.kept.records in
    ap (λ (cs : List Committed). drop (length cs) (commits_from o.disk.start o.disk.log)) (commits_is x o images a)
    ∙ (ap (λ (w : Whole). drop (length shown) (commits_from w.start w.log)) a.disk
    ∙ (ap (drop (length shown)) a.agrees.commits ∙ drop-append_seam shown x.ahead))

pub views_agree : (images : Areas → Type 0) → ViewsAgree images
views_agree images x o a = record {
  same =
      ap (λ (n : ℕ). record x { id = n }) (sym a.id)
      ∙ (ap (λ (e : Epoch). record x { id = o.id; fence = e }) (sym (fence_is x o images a))
      ∙ (ap (λ (e : Epoch). record x { id = o.id; fence = o.disk.fence; epoch = e }) (sym (epoch_is x o images a))
      ∙ (ap (λ (l : Lsn). record (kept_of x.log o) { last = l; stable = x.stable; shown = x.shown; contents = x.contents; ahead = x.ahead; role = x.role; front = x.front }) (sym (lsn_is x o images a))
      ∙ (ap (λ (n : ℕ). record (kept_of x.log o) { stable = record { 0 = n }; shown = x.shown; contents = x.contents; ahead = x.ahead; role = x.role; front = x.front }) (sym a.stable)
      ∙ (ap (λ (n : ℕ). record (kept_of x.log o) { shown = n; contents = x.contents; ahead = x.ahead; role = x.role; front = x.front }) (sym (view_is x o images a))
      ∙ (ap (λ (s : State). record (kept_of x.log o) { contents = s; ahead = x.ahead; role = x.role; front = x.front }) (sym (contents_is x o images a))
      ∙ (ap (λ (cs : List Committed). record (kept_of x.log o) { ahead = cs; role = x.role; front = x.front }) (sym (ahead_is x o images a))
      ∙ ap (λ (r : Role). record (kept_of x.log o) { role = r; front = x.front }) (role_is x.id x.role o.leading a.role))))))));
  front = a.front;
}
