-- What a disk in memory keeps after a change was asked.
use Rattle.std.proofs.Common.{◌≡◌, ◌-◌, ◌∙◌, ◌||◌, ◌∷◌, ◌++◌, [], true, false, Bool, Some, sym, ap, if◌then◌else◌}
use Rattle.std.specs.Option.{option_map}
use Rattle.disk_model.specs.Disk.{with_area}
use Rattle.disk_model.specs.Changes.{left_of}
use Rattle.disk_model.specs.Kept.{Kept, is_spent, after_change}
use Rattle.disk_model.specs.declared.change.Change.{Change}

pub same_kept : (a b : Kept) → a.shown ≡ b.shown → a.synced ≡ b.synced → a.pending ≡ b.pending → a.calls_left ≡ b.calls_left → a.failed ≡ b.failed → a ≡ b
same_kept a b shown synced pending left failed = λ i. record { shown = shown i; synced = synced i; pending = pending i; calls_left = left i; failed = failed i }

or_is : (a b c : Bool) → a ≡ false → b ≡ c → (a || b) ≡ c
or_is a b c first second = ap (λ (x : Bool). x || b) first ∙ second

-- the change is done
pub asks : (change : Change) (k new : Kept) → k.failed ≡ false → is_spent k.calls_left ≡ false → new.shown ≡ with_area change.area (left_of change.edit 1) k.shown → new.synced ≡ k.synced → new.pending ≡ k.pending ++ change ∷ [] → new.calls_left ≡ option_map (λ n. n - 1) k.calls_left → new.failed ≡ k.failed → new ≡ after_change change k
asks change k new works goes_on shown synced pending left failed = same_kept new (after_change change k)
    (shown ∙ ap (λ (b : Bool). if b then k.shown else with_area change.area (left_of change.edit 1) k.shown) (sym goes_on))
    synced
    (pending ∙ ap (λ (b : Bool). if b then k.pending else k.pending ++ change ∷ []) (sym works))
    left
    (failed ∙ works ∙ sym (or_is k.failed (is_spent k.calls_left) false works goes_on))

-- the armed call fails
pub armed_asks : (change : Change) (k new : Kept) → k.failed ≡ false → k.calls_left ≡ Some 0 → new.shown ≡ k.shown → new.synced ≡ k.synced → new.pending ≡ k.pending ++ change ∷ [] → new.calls_left ≡ option_map (λ n. n - 1) k.calls_left → new.failed ≡ true → new ≡ after_change change k
armed_asks change k new works spent shown synced pending left failed = same_kept new (after_change change k)
    (shown ∙ ap (λ (b : Bool). if b then k.shown else with_area change.area (left_of change.edit 1) k.shown) (sym (ap is_spent spent)))
    synced
    (pending ∙ ap (λ (b : Bool). if b then k.pending else k.pending ++ change ∷ []) (sym works))
    left
    (failed ∙ sym (or_is k.failed (is_spent k.calls_left) true works (ap is_spent spent)))
