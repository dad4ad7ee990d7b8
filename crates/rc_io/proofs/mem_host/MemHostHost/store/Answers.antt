use Rattle.std.proofs.Common.{◌≡◌, ◌↔◌, ◌∙◌, true, false, Some, Ok, IsErrOf, refl, ap, arith, rules}
use Rattle.disk_model.specs.declared.disk.DiskError.{DiskError}
use Rattle.disk_model.specs.declared.disk.DiskError.TheVariants.{Failed}
use Rattle.rc_io.specs.Calls.{Turns, is_listed}
use Rattle.rc_io.specs.declared.mem_host.Folder.{Folder}
use Rattle.rc_io.proofs.DiskIn.{lent_disk, IsAt-lt, disk_in-set_same, disk_in-set_other, name-at}
use Rattle.rc_io.proofs.mem_host.MemHostHost.store.Goals as goal

-- a call that isn't listed doesn't fail
unlisted : {T : Type 0} (v : T) (t u : Turns) → is_listed t ≡ false → Some t ≡ Some u → IsErrOf {E = DiskError} (Ok v) Failed ↔ (is_listed u ≡ true)
unlisted v t u none same = ((λ e. absurd (search rules)), λ yes. absurd (cc (none, same, yes)))

pub index_mut-found-requires : goal.index_mut-found-requires
index_mut-found-requires c = omega (arith, IsAt-lt c.place.new.folders.items c.args.folder.now c.in_ok-at.at c.in_ok-at.ensures.at, c.place.new.folders.ok.0)

pub returns : goal.returns
returns c =
    let folders = c.place.new.folders.items in
    let folder = c.args.folder.now in
    let at = c.in_ok-at.at in
    let found = c.index_mut-found.result.now in
    let here = c.in_ok-at.ensures.at in
    let none : is_listed c.args.self.now.calls ≡ false = cc (c.turn.ensures.listed, c.is_err.ensures.value, c.if-is_err.false) in
    let name : found.name ≡ folder = ap (λ (f : Folder). f.name) c.index_mut-found.ensures.value ∙ name-at folders folder at found here in (
      (
        refl,
        (λ w _. record {
          there = disk_in-set_same folders folder at (record { name = found.name; disk = w }) here name;
          elsewhere = λ other n. disk_in-set_other folders folder other at (record { name = found.name; disk = w }) here name n ∙ c.in_ok-at.ensures.elsewhere other n;
          later = c.turn.ensures.cause.later;
          counted = ap (λ (t : Turns). Some t) c.turn.ensures.after;
        }),
        tt,
      ),
      (lent_disk _ _ folders folder at found here c.in_ok-at.ensures.there c.index_mut-found.ensures.value, λ t is. unlisted _ c.args.self.now.calls t none is),
    )
