use Rattle.std.proofs.Common.{◌≡◌, ◌∙◌, ◌-◌, ◌∷◌, [], ℕ, List, length, take, drop, inl, inr, sym, ap}
use Rattle.std.proofs.lemmas.List.{take_rest}
use Rattle.disk_model.specs.Disk.{written, Torn, Cut}
use Rattle.gated_log.specs.Blocks.{open_blocks, KeepsPrefix, HasNoneOrThese}
use Rattle.gated_log.proofs.Ends.{cut_prefix, torn_empty, torn_rest, torn_first, first_written, rest_written, gate_written, first_and_rest}
use Rattle.gated_log.proofs.Steps.{Both, then, becomes, weaken}
use Rattle.gated_log.proofs.log.replace.Goals as goal

pub returns-in_err-cut_through-clause-stop : goal.returns-in_err-cut_through-clause-stop
returns-in_err-cut_through-clause-stop g c =
    let area = c.args.area in
    let images = g.D.Disk.images in
    let i0 = images c.args.disk.now in
    let i1 = images c.cut_through.new.disk in
    inl (weaken area (Cut 0) KeepsPrefix i0 i1 (λ x y cut. cut_prefix 0 x y cut) c.cut_through.ensures.stop)

pub returns-in_err-write_through-clause-stop : goal.returns-in_err-write_through-clause-stop
returns-in_err-write_through-clause-stop g c =
    let area = c.args.area in
    let images = g.D.Disk.images in
    let i0 = images c.args.disk.now in
    let i1 = images c.cut_through.new.disk in
    let step1 = becomes area (take 0) i0 i1 c.in_ok-cut_through.ensures.ok in
    let i2 = images c.write_through.new.disk in
    inl (weaken area (Both (λ x y. y ≡ []) (Torn 0 1)) KeepsPrefix i0 i2 (λ x z both. (0, torn_empty both.0 z both.1 both.2))
    (then area (λ x y. y ≡ []) (Torn 0 1) i0 i1 i2 step1 c.write_through.ensures.stop))

pub returns-in_err-write_through-2-clause-stop : goal.returns-in_err-write_through-2-clause-stop
returns-in_err-write_through-2-clause-stop g c =
    let area = c.args.area in
    let images = g.D.Disk.images in
    let i0 = images c.args.disk.now in
    let i1 = images c.cut_through.new.disk in
    let step1 = becomes area (take 0) i0 i1 c.in_ok-cut_through.ensures.ok in
    let i2 = images c.write_through.new.disk in
    let step2 = weaken area (Both (λ x y. y ≡ []) (λ y z. z ≡ written 0 (0 ∷ []) y)) (λ x z. z ≡ 0 ∷ []) i0 i2 (λ x z both. first_written both.0 z both.1 both.2)
    (then area (λ x y. y ≡ []) (λ y z. z ≡ written 0 (0 ∷ []) y) i0 i1 i2 step1 (becomes area (written 0 (0 ∷ [])) i1 i2 c.in_ok-write_through.ensures.ok)) in
    let i3 = images c.write_through-2.new.disk in
    let whole = c.args.whole.now in
    let more = take (length whole - 1) (drop 1 whole) in
    inl (weaken area (Both (λ x y. y ≡ 0 ∷ []) (Torn 1 (length more))) KeepsPrefix i0 i3 (λ x z both. (0, torn_rest (length more) both.0 z both.1 both.2))
    (then area (λ x y. y ≡ 0 ∷ []) (Torn 1 (length more)) i0 i2 i3 step2 c.write_through-2.ensures.stop))

pub returns-in_err-write_through-3-clause-stop : goal.returns-in_err-write_through-3-clause-stop
returns-in_err-write_through-3-clause-stop g c =
    let area = c.args.area in
    let images = g.D.Disk.images in
    let i0 = images c.args.disk.now in
    let i1 = images c.cut_through.new.disk in
    let step1 = becomes area (take 0) i0 i1 c.in_ok-cut_through.ensures.ok in
    let i2 = images c.write_through.new.disk in
    let step2 = weaken area (Both (λ x y. y ≡ []) (λ y z. z ≡ written 0 (0 ∷ []) y)) (λ x z. z ≡ 0 ∷ []) i0 i2 (λ x z both. first_written both.0 z both.1 both.2)
    (then area (λ x y. y ≡ []) (λ y z. z ≡ written 0 (0 ∷ []) y) i0 i1 i2 step1 (becomes area (written 0 (0 ∷ [])) i1 i2 c.in_ok-write_through.ensures.ok)) in
    let i3 = images c.write_through-2.new.disk in
    let whole = c.args.whole.now in
    let more = take (length whole - 1) (drop 1 whole) in
    let step3 = weaken area (Both (λ x y. y ≡ 0 ∷ []) (λ y z. z ≡ written 1 more y)) (λ x z. z ≡ 0 ∷ more) i0 i3 (λ x z both. rest_written more both.0 z both.1 both.2)
    (then area (λ x y. y ≡ 0 ∷ []) (λ y z. z ≡ written 1 more y) i0 i2 i3 step2 (becomes area (written 1 more) i2 i3 c.in_ok-write_through-2.ensures.ok)) in
    let i4 = images c.write_through-3.new.disk in
    let whole_is : whole ≡ 1 ∷ more = first_and_rest whole c.requires.first ∙ ap (λ (l : List ℕ). 1 ∷ l) (sym (take_rest whole 1)) in
    inr (weaken area (Both (λ x y. y ≡ 0 ∷ more) (Torn 0 1)) (HasNoneOrThese (open_blocks whole)) i0 i4 (λ x z both. torn_first more both.0 z (open_blocks whole) both.1 (ap open_blocks (sym whole_is)) both.2)
    (then area (λ x y. y ≡ 0 ∷ more) (Torn 0 1) i0 i3 i4 step3 c.write_through-3.ensures.stop))

pub returns-clause-stop : goal.returns-clause-stop
returns-clause-stop g c =
    let area = c.args.area in
    let images = g.D.Disk.images in
    let i0 = images c.args.disk.now in
    let i1 = images c.cut_through.new.disk in
    let step1 = becomes area (take 0) i0 i1 c.in_ok-cut_through.ensures.ok in
    let i2 = images c.write_through.new.disk in
    let step2 = weaken area (Both (λ x y. y ≡ []) (λ y z. z ≡ written 0 (0 ∷ []) y)) (λ x z. z ≡ 0 ∷ []) i0 i2 (λ x z both. first_written both.0 z both.1 both.2)
    (then area (λ x y. y ≡ []) (λ y z. z ≡ written 0 (0 ∷ []) y) i0 i1 i2 step1 (becomes area (written 0 (0 ∷ [])) i1 i2 c.in_ok-write_through.ensures.ok)) in
    let i3 = images c.write_through-2.new.disk in
    let whole = c.args.whole.now in
    let more = take (length whole - 1) (drop 1 whole) in
    let step3 = weaken area (Both (λ x y. y ≡ 0 ∷ []) (λ y z. z ≡ written 1 more y)) (λ x z. z ≡ 0 ∷ more) i0 i3 (λ x z both. rest_written more both.0 z both.1 both.2)
    (then area (λ x y. y ≡ 0 ∷ []) (λ y z. z ≡ written 1 more y) i0 i2 i3 step2 (becomes area (written 1 more) i2 i3 c.in_ok-write_through-2.ensures.ok)) in
    let i4 = images c.write_through-3.new.disk in
    let whole_is : whole ≡ 1 ∷ more = first_and_rest whole c.requires.first ∙ ap (λ (l : List ℕ). 1 ∷ l) (sym (take_rest whole 1)) in
    inr (weaken area (Both (λ x y. y ≡ 0 ∷ more) (Torn 0 1)) (HasNoneOrThese (open_blocks whole)) i0 i4 (λ x z both. torn_first more both.0 z (open_blocks whole) both.1 (ap open_blocks (sym whole_is)) both.2)
    (then area (λ x y. y ≡ 0 ∷ more) (Torn 0 1) i0 i3 i4 step3 c.write_through-3.ensures.stop))

pub returns-clause-done : goal.returns-clause-done
returns-clause-done g c =
    let area = c.args.area in
    let images = g.D.Disk.images in
    let i0 = images c.args.disk.now in
    let i1 = images c.cut_through.new.disk in
    let step1 = becomes area (take 0) i0 i1 c.in_ok-cut_through.ensures.ok in
    let i2 = images c.write_through.new.disk in
    let step2 = weaken area (Both (λ x y. y ≡ []) (λ y z. z ≡ written 0 (0 ∷ []) y)) (λ x z. z ≡ 0 ∷ []) i0 i2 (λ x z both. first_written both.0 z both.1 both.2)
    (then area (λ x y. y ≡ []) (λ y z. z ≡ written 0 (0 ∷ []) y) i0 i1 i2 step1 (becomes area (written 0 (0 ∷ [])) i1 i2 c.in_ok-write_through.ensures.ok)) in
    let i3 = images c.write_through-2.new.disk in
    let whole = c.args.whole.now in
    let more = take (length whole - 1) (drop 1 whole) in
    let step3 = weaken area (Both (λ x y. y ≡ 0 ∷ []) (λ y z. z ≡ written 1 more y)) (λ x z. z ≡ 0 ∷ more) i0 i3 (λ x z both. rest_written more both.0 z both.1 both.2)
    (then area (λ x y. y ≡ 0 ∷ []) (λ y z. z ≡ written 1 more y) i0 i2 i3 step2 (becomes area (written 1 more) i2 i3 c.in_ok-write_through-2.ensures.ok)) in
    let i4 = images c.write_through-3.new.disk in
    let whole_is : whole ≡ 1 ∷ more = first_and_rest whole c.requires.first ∙ ap (λ (l : List ℕ). 1 ∷ l) (sym (take_rest whole 1)) in
    weaken area (Both (λ x y. y ≡ 0 ∷ more) (λ y z. z ≡ written 0 (1 ∷ []) y)) (λ x z. z ≡ whole) i0 i4 (λ x z both. gate_written more both.0 z both.1 both.2 ∙ sym whole_is)
    (then area (λ x y. y ≡ 0 ∷ more) (λ y z. z ≡ written 0 (1 ∷ []) y) i0 i3 i4 step3 (becomes area (written 0 (1 ∷ [])) i3 i4 c.in_ok-write_through-3.ensures.ok))
