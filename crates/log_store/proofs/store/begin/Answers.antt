use Rattle.std.proofs.Common.{◌≡◌, ◌≢◌, ◌∙◌, sym, ap, subst, ℕ, List, [], ◌∷◌, ◌++◌, Some, Ok, Result}
use Rattle.disk_model.specs.Disk.{Changes, Follows}
use Rattle.gated_log.specs.Blocks.{Gains, KeepsOrGains}
use Rattle.log_records.specs.declared.record.Physical.{Physical}
use Rattle.log_records.specs.declared.record.Physical.TheVariants.{Head}
use Rattle.log_records.specs.declared.record.Record.{Record}
use Rattle.rc_base.specs.declared.ids.Epoch.{Epoch}
use Rattle.barrier_group.specs.Group.{spelled}
use Rattle.log_store.specs.declared.kept.Kept.{Kept}
use Rattle.rc_base.specs.Ids.{no_epoch}
use Rattle.log_store.specs.Fold.{Place}
use Rattle.log_store.proofs.Opening.{begins, begun_each}
use Rattle.log_store.proofs.store.begin.Goals as goal

-- a group of one record
one_item : (items old : List Physical) (item : Physical) → items ≡ old ++ item ∷ [] → old ≡ [] → items ≡ item ∷ []
one_item items old item is none = is ∙ ap (λ (xs : List Physical). xs ++ item ∷ []) none

has_some : (items : List Physical) (item : Physical) → items ≡ item ∷ [] → items ≢ []
has_some items item is none = let wrong : item ∷ [] ≡ [] = sym is ∙ none in absurd cc

pub returns-clause-stop : goal.returns-clause-stop
returns-clause-stop g c =
    let old = g.D.Disk.images c.args.disk.now in
    let new = g.D.Disk.images c.flush.new.disk in
    let items = c.push.new.self in
    let is = one_item items c.new-group.result (Head 1 c.args.partition) c.in_ok-push.ensures.ok c.new-group.ensures in
    let some = has_some items (Head 1 c.args.partition) is in
    begins old new c.args.partition items is c.flush.ensures.physical c.requires.none
    (subst (λ (a : ℕ). Follows (Changes a (KeepsOrGains (spelled items))) old new) c.requires.log.0 (c.flush.ensures.stop some))

pub returns-in-Ok-clause-stop : goal.returns-in-Ok-clause-stop
returns-in-Ok-clause-stop g c =
    let old = g.D.Disk.images c.args.disk.now in
    let new = g.D.Disk.images c.flush.new.disk in
    let items = c.push.new.self in
    let is = one_item items c.new-group.result (Head 1 c.args.partition) c.in_ok-push.ensures.ok c.new-group.ensures in
    let some = has_some items (Head 1 c.args.partition) is in
    begins old new c.args.partition items is c.flush.ensures.physical c.requires.none
    (subst (λ (a : ℕ). Follows (Changes a (KeepsOrGains (spelled items))) old new) c.requires.log.0 (c.flush.ensures.stop some))

pub returns-in-Ok-clause-found : goal.returns-in-Ok-clause-found
returns-in-Ok-clause-found g c d there =
    let old = g.D.Disk.images c.args.disk.now in
    let new = g.D.Disk.images c.flush.new.disk in
    let items = c.push.new.self in
    let is = one_item items c.new-group.result (Head 1 c.args.partition) c.in_ok-push.ensures.ok c.new-group.ensures in
    let some = has_some items (Head 1 c.args.partition) is in
    let follows = subst (λ (a : ℕ). Follows (Changes a (Gains (spelled items))) old new) c.requires.log.0 (c.in-Ok.ensures.gains some) in
    (begun_each old new c.args.partition items is c.flush.ensures.physical c.requires.none follows d there).holds
    ∙ ap (λ (rs : List (Epoch × Record)). let kept : Kept = record { identity = Some c.args.partition; fence = no_epoch; records = rs } in let r : Result Kept Place = Ok kept in r) (sym c.new.ensures)
