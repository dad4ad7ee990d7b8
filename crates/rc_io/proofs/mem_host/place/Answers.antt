use Rattle.std.proofs.Common.{◌≡◌, ◌∙◌, ℕ, subst, sym, ap, arith, length, position}
use Rattle.rc_io.specs.Folders.{IsAt}
use Rattle.rc_io.proofs.DiskIn.{named, IsAt-from_position, none_from_position, opens_found, opens_made, made_at, pushed_other}
use Rattle.rc_io.proofs.mem_host.place.Goals as goal

pub returns-in-Some-clause-at : goal.returns-in-Some-clause-at
returns-in-Some-clause-at c = IsAt-from_position c.args.folders.now.items c.args.name.now c.in-Some.at (c.in-Some.ensures ∙ ap (position (named c.args.name.now)) c.deref.ensures.value)

pub returns-in-Some-clause-there : goal.returns-in-Some-clause-there
returns-in-Some-clause-there c = opens_found _ c.args.folders.now.items c.args.name.now c.in-Some.at (IsAt-from_position c.args.folders.now.items c.args.name.now c.in-Some.at (c.in-Some.ensures ∙ ap (position (named c.args.name.now)) c.deref.ensures.value))

pub returns-in-Ok-clause-at : goal.returns-in-Ok-clause-at
returns-in-Ok-clause-at c =
    let xs = c.args.folders.now.items in
    let P : ℕ → Type 0 = IsAt c.push.new.folders.items c.args.name.now in
    let l : length xs ≡ c.len-at.result = omega (arith, c.len-at.ensures, c.args.folders.now.ok.0) in
    subst P l (made_at xs c.push.new.folders.items c.args.name.now c.new.result (none_from_position xs c.args.name.now (sym c.in_default.is ∙ (c.find.ensures ∙ ap (position (named c.args.name.now)) c.deref.ensures.value))) c.in-Ok.ensures.ok)

pub returns-in-Ok-clause-there : goal.returns-in-Ok-clause-there
returns-in-Ok-clause-there c =
    let xs = c.args.folders.now.items in
    opens_made _ xs c.push.new.folders.items c.args.name.now c.new.result (none_from_position xs c.args.name.now (sym c.in_default.is ∙ (c.find.ensures ∙ ap (position (named c.args.name.now)) c.deref.ensures.value))) c.in-Ok.ensures.ok c.new.ensures.empty

pub returns-in-Ok-clause-elsewhere : goal.returns-in-Ok-clause-elsewhere
returns-in-Ok-clause-elsewhere c = λ other n. pushed_other c.push.result c.args.folders.now.items c.push.new.folders.items c.args.name.now other c.new.result c.push.ensures.ok c.push.ensures.err n
