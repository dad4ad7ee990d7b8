use Rattle.std.proofs.Common.{◌≡◌, ◌∙◌, ◌+◌, ◌≤◌, ◌∷◌, [], ℕ, List, length, take, sym, ap, subst, arith}
use Rattle.std.proofs.lemmas.List.{length-take}
use Rattle.disk_model.specs.Disk.{written, Torn, Cut}
use Rattle.gated_log.specs.Blocks.{IsAtRest, Keeps, open_blocks}
use Rattle.gated_log.proofs.Opening.{Parts, parts}
use Rattle.gated_log.proofs.Ends.{cut_keeps, torn_end, written_end, was_at_rest}
use Rattle.gated_log.proofs.Steps.{Both, then, there, becomes, each_after}
use Rattle.gated_log.proofs.log.repair.Goals as goal

pub returns-then-is_at_rest-clause-settled : goal.returns-then-is_at_rest-clause-settled
returns-then-is_at_rest-clause-settled g c s image =
    let bytes = c.args.bytes.now in
    let p : Parts bytes = parts (length bytes) bytes (omega arith) (λ i. omega (arith, c.type_inv.bytes i)) in
    let rests = c.is_at_rest.ensures c.if-is_at_rest.true in
    subst (λ (l : List ℕ). IsAtRest l c.args.end) (sym (c.requires.same s image)) (was_at_rest bytes c.args.end p c.requires.place rests.0 rests.1)

pub returns-in_err-cut_behind-clause-stop : goal.returns-in_err-cut_behind-clause-stop
returns-in_err-cut_behind-clause-stop g c =
    let bytes = c.args.bytes.now in
    let end = c.args.end in
    let p : Parts bytes = parts (length bytes) bytes (omega arith) (λ i. omega (arith, c.type_inv.bytes i)) in
    there c.args.area (λ x. x ≡ bytes) (Cut (end + 1)) Keeps (g.D.Disk.images c.args.disk.now) (g.D.Disk.images c.cut_behind.new.disk) c.requires.same
    (λ x y e cut. cut_keeps bytes y end p c.requires.place (subst (λ (l : List ℕ). Cut (end + 1) l y) e cut) ∙ ap open_blocks (sym e))
    c.cut_behind.ensures.stop

pub write_through-requires : goal.write_through-requires
write_through-requires g c s is =
    let bytes = c.args.bytes.now in
    let end = c.args.end in
    each_after c.args.area (λ x. x ≡ bytes) (λ y. end ≤ length y) (λ x y. y ≡ take (end + 1) x) (g.D.Disk.images c.args.disk.now) (g.D.Disk.images c.cut_behind.new.disk) c.requires.same
    (λ x y e t. omega (arith, ap length t, length-take (end + 1) x, ap length e, c.requires.within))
    c.in_ok-cut_behind.ensures.ok
    s (g.met.D.Disk.seen_is_image c.cut_behind.new.disk s is)

pub returns-in_err-write_through-clause-stop : goal.returns-in_err-write_through-clause-stop
returns-in_err-write_through-clause-stop g c =
    let bytes = c.args.bytes.now in
    let end = c.args.end in
    let old = g.D.Disk.images c.args.disk.now in
    let mid = g.D.Disk.images c.cut_behind.new.disk in
    let new = g.D.Disk.images c.write_through.new.disk in
    let p : Parts bytes = parts (length bytes) bytes (omega arith) (λ i. omega (arith, c.type_inv.bytes i)) in
    there c.args.area (λ x. x ≡ bytes) (Both (λ x y. y ≡ take (end + 1) x) (Torn end 1)) Keeps old new c.requires.same
    (λ x z e both. torn_end bytes both.0 z end p c.requires.place (both.1 ∙ ap (λ (l : List ℕ). take (end + 1) l) e) both.2 ∙ ap open_blocks (sym e))
    (then c.args.area (λ x y. y ≡ take (end + 1) x) (Torn end 1) old mid new c.in_ok-cut_behind.ensures.ok c.write_through.ensures.stop)

pub returns-clause-stop : goal.returns-clause-stop
returns-clause-stop g c =
    let bytes = c.args.bytes.now in
    let end = c.args.end in
    let old = g.D.Disk.images c.args.disk.now in
    let mid = g.D.Disk.images c.cut_behind.new.disk in
    let new = g.D.Disk.images c.write_through.new.disk in
    let p : Parts bytes = parts (length bytes) bytes (omega arith) (λ i. omega (arith, c.type_inv.bytes i)) in
    there c.args.area (λ x. x ≡ bytes) (Both (λ x y. y ≡ take (end + 1) x) (Torn end 1)) Keeps old new c.requires.same
    (λ x z e both. torn_end bytes both.0 z end p c.requires.place (both.1 ∙ ap (λ (l : List ℕ). take (end + 1) l) e) both.2 ∙ ap open_blocks (sym e))
    (then c.args.area (λ x y. y ≡ take (end + 1) x) (Torn end 1) old mid new c.in_ok-cut_behind.ensures.ok c.write_through.ensures.stop)

pub returns-clause-blocks : goal.returns-clause-blocks
returns-clause-blocks g c =
    let bytes = c.args.bytes.now in
    let end = c.args.end in
    let old = g.D.Disk.images c.args.disk.now in
    let mid = g.D.Disk.images c.cut_behind.new.disk in
    let new = g.D.Disk.images c.write_through.new.disk in
    let p : Parts bytes = parts (length bytes) bytes (omega arith) (λ i. omega (arith, c.type_inv.bytes i)) in
    let second = becomes c.args.area (written end (0 ∷ [])) mid new c.in_ok-write_through.ensures.ok in
    each_after c.args.area (λ x. x ≡ bytes) (λ z. open_blocks z ≡ open_blocks bytes) (Both (λ x y. y ≡ take (end + 1) x) (λ y z. z ≡ written end (0 ∷ []) y)) old new c.requires.same
    (λ x z e both. (written_end bytes both.0 z end p c.requires.place (both.1 ∙ ap (λ (l : List ℕ). take (end + 1) l) e) both.2).0)
    (then c.args.area (λ x y. y ≡ take (end + 1) x) (λ y z. z ≡ written end (0 ∷ []) y) old mid new c.in_ok-cut_behind.ensures.ok second)

pub returns-clause-settled : goal.returns-clause-settled
returns-clause-settled g c =
    let bytes = c.args.bytes.now in
    let end = c.args.end in
    let old = g.D.Disk.images c.args.disk.now in
    let mid = g.D.Disk.images c.cut_behind.new.disk in
    let new = g.D.Disk.images c.write_through.new.disk in
    let p : Parts bytes = parts (length bytes) bytes (omega arith) (λ i. omega (arith, c.type_inv.bytes i)) in
    let second = becomes c.args.area (written end (0 ∷ [])) mid new c.in_ok-write_through.ensures.ok in
    each_after c.args.area (λ x. x ≡ bytes) (λ z. IsAtRest z end) (Both (λ x y. y ≡ take (end + 1) x) (λ y z. z ≡ written end (0 ∷ []) y)) old new c.requires.same
    (λ x z e both. (written_end bytes both.0 z end p c.requires.place (both.1 ∙ ap (λ (l : List ℕ). take (end + 1) l) e) both.2).1)
    (then c.args.area (λ x y. y ≡ take (end + 1) x) (λ y z. z ≡ written end (0 ∷ []) y) old mid new c.in_ok-cut_behind.ensures.ok second)
