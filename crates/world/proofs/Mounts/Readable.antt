-- What an opening of a disk that held a log, or none, leaves there.
use Rattle.std.proofs.Common.{◌≡◌, ◌∙◌, sym, refl, ⊎_elim, Ok, Err, Option, Some, None}
use Rattle.std.specs.Option.{ForSome, IsSome}
use Rattle.std.proofs.lemmas.Bool.{false≢true}
use Rattle.disk_model.specs.Disk.{Areas, Each, Follows}
use Rattle.log_store.specs.declared.kept.Kept.{Kept as Log}
use Rattle.log_store.specs.Durable.{durable}
use Rattle.log_store.specs.Fold.{Place}
use Rattle.log_store.specs.Store.{KeepsOrBegins}

abbrev pub IsReadable : (Areas → Type 0) → Type 0
IsReadable images = Each images (λ c. (log : Log) × (durable c ≡ Ok log))

-- each image is a log's
still_readable : (old images : Areas → Type 0) → Follows (KeepsOrBegins 0) old images → IsReadable old → IsReadable images
still_readable old images follows readable c is =
    let from = follows c is in
    let log = readable from.0 from.1 in
    ⊎_elim (λ kept. (log.0, kept ∙ log.1)) (λ begun. (_, begun.1)) from.2.0

-- what reads give is an image
pub an_image : (seen : Option Areas) (images : Areas → Type 0) → IsSome seen → ForSome seen images → (c : Areas) × images c
an_image None images some shown = absurd (false≢true some)
an_image (Some c) images some shown = (c, shown c refl)

-- so not each image is wrong
pub never_corrupt : (seen : Option Areas) (old images : Areas → Type 0) (place : Place) → IsSome seen → ForSome seen images → Follows (KeepsOrBegins 0) old images → IsReadable old → Each images (λ c. durable c ≡ Err place) → ⊥
never_corrupt seen old images place some shown follows readable wrong =
    let there = an_image seen images some shown in
    let log = still_readable old images follows readable there.0 there.1 in
    let told = sym log.1 ∙ wrong there.0 there.1 in
    cc
