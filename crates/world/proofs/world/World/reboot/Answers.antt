use Rattle.std.proofs.Common.{◌∙◌, ap, refl, arith}
use Rattle.std.proofs.lemmas.Result.{err_from_is_err_and}
use Rattle.events.specs.declared.event.Event.TheVariants.{Reboot}
use Rattle.world.specs.Handling.{already_up_in}
use Rattle.world.specs.Kept.{Kept, has_booted}
use Rattle.world.proofs.Exits.Guards.{unrefused_once, unrefused_reboot}
use Rattle.world.proofs.Exits.Limits.{servable}
use Rattle.world.proofs.Exits.Common.{memory_handles, marks_same}
use Rattle.world.proofs.States.Later.{none_of, closed_of}
use Rattle.world.proofs.Mounts.Reboot.{reboot_does, reboot_rise, reboot_others, closed_still}
use Rattle.world.proofs.world.World.reboot.Goals as goal

pub returns-in_err-self-inside : goal.returns-in_err-self-inside
returns-in_err-self-inside g c =
    let k = c.args.self.now in
    let images = g.M.Disk.images c.args.disk.now in
    let allowed = unrefused_once k (already_up_in k) c.requires.allowed in
    let none = none_of k.replica (unrefused_reboot k allowed.1) in
    memory_handles g.M.Disk.images g.M.Disk.faults g.M.Disk.marks k k c.args.disk.now c.open_replica.new.disk c.args.number (Reboot 0) c.from_residual.result c.in_err-self-inside.ensures.cause.later c.in_err-self-inside.ensures.marks
    (λ m s. closed_still k.last images _ m c.in_err-self-inside.ensures.stop (closed_of k images m allowed.0 none s)) (err_from_is_err_and _ c.from_residual.ensures.1)

pub returns : goal.returns
returns g c =
    let k = c.args.self.now in
    let disk = c.open_replica.new.disk in
    let done = c.in_ok-self-inside.ensures in
    let allowed = unrefused_once k (already_up_in k) c.requires.allowed in
    let none = none_of k.replica (unrefused_reboot k allowed.1) in
    let o = c.in_ok-self-inside.field-0 in
    record {
      serves = reboot_does k _ (g.M.Disk.images c.args.disk.now) (g.M.Disk.images disk) (g.M.Disk.seen disk) o c.new-lines.result c.open_replica.new.lines c.new-lines.ensures allowed.0 none (omega (arith, c.requires.ready.rising)) (ap (λ (x : Kept). has_booted x) c.self.view_is ∙ allowed.0) (ap (λ (x : Kept). x.rule) c.self.view_is) (ap (λ (x : Kept). x.order) c.self.view_is) refl (g.met.M.CrashDisk.tells disk) (g.met.M.Disk.seen_is_image disk) done.stop done.opened done.fresh done.told done.faulted;
      servable = λ m s. servable m (Reboot 0) refl;
      last = refl;
      others = reboot_others o c.new-lines.result c.open_replica.new.lines c.new-lines.ensures done.told done.faulted;
      counted = reboot_rise o c.new-lines.result c.open_replica.new.lines _ _ c.new-lines.ensures done.told done.faulted done.cause;
      armed = done.marks ∙ marks_same (Reboot 0) c.open_replica.new.lines (g.M.Disk.marks c.args.disk.now) refl;
    }
