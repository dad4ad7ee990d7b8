use Rattle.std.proofs.Common.{◌≡◌, ◌∙◌, ◌⊎◌, ◌++◌, ◌∷◌, [], ℕ, List, length, take, inl, refl, sym, ap, subst, arith}
use Rattle.std.proofs.lemmas.List.{take_all, length-append}
use Rattle.disk_model.specs.Disk.{Changes, Follows}
use Rattle.gated_log.specs.Blocks.{open_blocks, spelling, KeepsPrefix, HasThese, HasNoneOrThese}
use Rattle.gated_log.proofs.Ends.{rests, first_open, at_rest_left}
use Rattle.gated_log.proofs.Steps.{stays_put, weaken}
use Rattle.gated_log.proofs.log.fresh_area.Goals as goal

pub returns-in_err-whole-clause-stop : goal.returns-in_err-whole-clause-stop
returns-in_err-whole-clause-stop g c =
    let images = g.D.Disk.images c.args.disk.now in
    inl (stays_put c.args.area KeepsPrefix images images (λ x. (length (open_blocks x), sym (take_all (length (open_blocks x)) (open_blocks x) (omega arith)))) (λ s image. image))

pub replace-requires-clause-first : goal.replace-requires-clause-first
replace-requires-clause-first g c =
    ap (λ (l : List ℕ). take 1 l) (c.deref.ensures.value ∙ c.in_ok-whole.ensures.bytes) ∙ first_open c.args.payloads.now (0 ∷ []) c.requires.some

pub returns-in_err-replace-clause-stop : goal.returns-in_err-replace-clause-stop
returns-in_err-replace-clause-stop g c =
    let payloads = c.args.payloads.now in
    let old = g.D.Disk.images c.args.disk.now in
    let new = g.D.Disk.images c.replace.new.disk in
    let opens : open_blocks c.deref.result.now ≡ payloads = ap open_blocks (c.deref.ensures.value ∙ c.in_ok-whole.ensures.bytes) ∙ (rests payloads 0 (spelling payloads ++ 0 ∷ []) c.requires.payloads (omega arith) refl).0 in
    subst (λ (l : List (List ℕ)). Follows (Changes c.args.area KeepsPrefix) old new ⊎ Follows (Changes c.args.area (HasNoneOrThese l)) old new) opens c.replace.ensures.stop

pub returns-clause-stop : goal.returns-clause-stop
returns-clause-stop g c =
    let payloads = c.args.payloads.now in
    let old = g.D.Disk.images c.args.disk.now in
    let new = g.D.Disk.images c.replace.new.disk in
    let opens : open_blocks c.deref.result.now ≡ payloads = ap open_blocks (c.deref.ensures.value ∙ c.in_ok-whole.ensures.bytes) ∙ (rests payloads 0 (spelling payloads ++ 0 ∷ []) c.requires.payloads (omega arith) refl).0 in
    subst (λ (l : List (List ℕ)). Follows (Changes c.args.area KeepsPrefix) old new ⊎ Follows (Changes c.args.area (HasNoneOrThese l)) old new) opens c.replace.ensures.stop

pub returns-clause-these : goal.returns-clause-these
returns-clause-these g c =
    let payloads = c.args.payloads.now in
    let opens : open_blocks c.deref.result.now ≡ payloads = ap open_blocks (c.deref.ensures.value ∙ c.in_ok-whole.ensures.bytes) ∙ (rests payloads 0 (spelling payloads ++ 0 ∷ []) c.requires.payloads (omega arith) refl).0 in
    weaken c.args.area (λ x y. y ≡ c.deref.result.now) (HasThese payloads) (g.D.Disk.images c.args.disk.now) (g.D.Disk.images c.replace.new.disk) (λ x y e. ap open_blocks e ∙ opens) c.in_ok-replace.ensures.done

pub returns-clause-settled : goal.returns-clause-settled
returns-clause-settled g c s image =
    let payloads = c.args.payloads.now in
    let before = c.in_ok-replace.ensures.done s image in
    at_rest_left payloads _ _ c.requires.payloads (before.2.there ∙ c.deref.ensures.value ∙ c.in_ok-whole.ensures.bytes)
    (omega (arith, ap length c.in_ok-whole.ensures.bytes, length-append (spelling payloads) (0 ∷ []), c.in_ok-whole.whole.ok.0))
