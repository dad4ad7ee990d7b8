use Rattle.std.proofs.Common.{◌∙◌, ap, refl, arith}
use Rattle.std.proofs.lemmas.Result.{err_from_is_err_and}
use Rattle.events.specs.declared.event.Event.TheVariants.{Arm}
use Rattle.world.specs.Kept.{Kept}
use Rattle.world.specs.Handling.{down_in}
use Rattle.world.proofs.Exits.FaultCounts.{rose_none}
use Rattle.world.proofs.Exits.Guards.{unrefused_once, unrefused_up}
use Rattle.world.proofs.Exits.Limits.{servable}
use Rattle.world.proofs.Exits.Common.{memory_handles, handed_memory, done_others, done_faultless, marks_of_done}
use Rattle.world.proofs.States.Later.{some_of}
use Rattle.world.proofs.Exits.Asides.{arm_does}
use Rattle.world.proofs.States.HeldOrder.{stands_still}
use Rattle.world.proofs.world.World.arm.Goals as goal

pub returns-in_err-lines : goal.returns-in_err-lines
returns-in_err-lines g c =
    memory_handles g.M.Disk.images g.M.Disk.faults g.M.Disk.marks c.args.self.now c.answered.new.self c.args.disk.now c.args.disk.now c.args.number (Arm 0 c.args.calls) c.from_residual.result (omega arith) refl (λ m s. stands_still c.args.self.now (g.M.Disk.images c.args.disk.now) m s)
    (handed_memory _ _ (err_from_is_err_and _ c.from_residual.ensures.1) c.in_err-lines.ensures.memory)

pub returns : goal.returns
returns g c =
    let k = c.args.self.now in
    let done = c.in_ok-lines.ensures in
    let allowed = unrefused_once k (down_in k 0) c.requires.allowed in
    let there = some_of k.replica (unrefused_up k 0 allowed.1) in
    record {
      serves = arm_does k c.answered.new.self _ _ there.0 c.args.calls c.args.number _ allowed.0 there.1 (omega (arith, c.requires.ready.rising)) c.arm.ensures.stays.no_image_more done.stays done.lines;
      servable = λ m s. servable m (Arm 0 c.args.calls) refl;
      last = ap (λ (x : Kept). x.last) done.stays;
      others = done_others c.in_ok-lines.lines done.lines;
      counted = rose_none _ _ (let f = c.arm.ensures.stays.same_faults in omega (arith, f)) _ (done_faultless 0 c.in_ok-lines.lines done.lines);
      armed = c.arm.ensures.marks ∙ marks_of_done (Arm 0 c.args.calls) c.in_ok-lines.lines (g.M.Disk.marks c.args.disk.now) done.lines;
    }
