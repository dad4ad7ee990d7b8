-- How the steps of a log on its area join, over all images of a disk.
use Rattle.std.proofs.Common.{◌≡◌, ℕ, List, Option, Some, None, refl, ◌∙◌, ap}
use Rattle.std.specs.Option.{ForSome, option_map}
use Rattle.disk_model.specs.Disk.{Areas, with_area, Changes, Becomes, Follows, Within, Each}
use Rattle.disk_model.proofs.Areas.{with_area_there, with_area_elsewhere}
use Rattle.gated_log.specs.Log.{StaysElsewhere}

-- two steps of an area, one after the other
abbrev pub Both : (List ℕ → List ℕ → Type 0) → (List ℕ → List ℕ → Type 0) → List ℕ → List ℕ → Type 0
Both S T x z = (y : List ℕ) × S x y × T y z

pub then : (area : ℕ) (S T : List ℕ → List ℕ → Type 0) (old mid new : Areas → Type 0) → Follows (Changes area S) old mid → Follows (Changes area T) mid new → Follows (Changes area (Both S T)) old new
then area S T old mid new first second c image =
    let after = second c image in
    let before = first after.0 after.1 in (
      before.0,
      before.1,
      record {
        there = (after.0 area, before.2.there, after.2.there);
        elsewhere = λ b other. after.2.elsewhere b other ∙ before.2.elsewhere b other;
      },
    )

-- the step says what it says where the area had the property before
pub there : (area : ℕ) (P : List ℕ → Type 0) (S T : List ℕ → List ℕ → Type 0) (old new : Areas → Type 0) → Each old (λ c. P (c area)) → ((x y : List ℕ) → P x → S x y → T x y) → Follows (Changes area S) old new → Follows (Changes area T) old new
there area P S T old new has weaker step c image =
    let before = step c image in (
      before.0,
      before.1,
      record {
        there = weaker (before.0 area) (c area) (has before.0 before.1) before.2.there;
        elsewhere = before.2.elsewhere;
      },
    )

pub becomes : (area : ℕ) (f : List ℕ → List ℕ) (old new : Areas → Type 0) → Follows (Becomes area f) old new → Follows (Changes area (λ x y. y ≡ f x)) old new
becomes area f old new step c image =
    let before = step c image in (
      before.0,
      before.1,
      record {
        there = ap (λ (a : Areas). a area) before.2 ∙ with_area_there area f before.0;
        elsewhere = λ b other. ap (λ (a : Areas). a b) before.2 ∙ with_area_elsewhere area b f before.0 other;
      },
    )

-- a property of the area in each image, after a step
pub each_after : (area : ℕ) (P Q : List ℕ → Type 0) (S : List ℕ → List ℕ → Type 0) (old new : Areas → Type 0) → Each old (λ c. P (c area)) → ((x y : List ℕ) → P x → S x y → Q y) → Follows (Changes area S) old new → Each new (λ c. Q (c area))
each_after area P Q S old new has gives step c image =
    let before = step c image in
    gives (before.0 area) (c area) (has before.0 before.1) before.2.there

pub stays_put : (area : ℕ) (S : List ℕ → List ℕ → Type 0) (old new : Areas → Type 0) → ((x : List ℕ) → S x x) → Within old new → Follows (Changes area S) old new
stays_put area S old new same within c image = (c, within c image, record { there = same (c area); elsewhere = λ b other. refl })

pub within_then : (step : Areas → Areas → Type 0) (old mid new : Areas → Type 0) → Within old mid → Follows step mid new → Follows step old new
within_then step old mid new within follows c image =
    let before = follows c image in
    (before.0, within before.0 before.1, before.2)

pub then_within : (step : Areas → Areas → Type 0) (old mid new : Areas → Type 0) → Follows step old mid → Within mid new → Follows step old new
then_within step old mid new follows within c image = follows c (within c image)

-- what reads give is an image
pub seen_has : (area : ℕ) (P : List ℕ → Type 0) (seen : Option Areas) (images : Areas → Type 0) → ForSome seen images → Each images (λ c. P (c area)) → ForSome seen (λ s. P (s area))
seen_has area P seen images law has s is = has s (law s is)

pub elsewhere_with : (area : ℕ) (f : List ℕ → List ℕ) (old new : Option Areas) → new ≡ option_map (with_area area f) old → StaysElsewhere area old new
elsewhere_with area f old new is b other = ap (λ (o : Option Areas). option_map (λ (s : Areas). s b) o) is ∙ at_each old
  where
    at_each : (o : Option Areas) → option_map (λ (s : Areas). s b) (option_map (with_area area f) o) ≡ option_map (λ (s : Areas). s b) o
    at_each None = refl
    at_each (Some s) = ap (λ (l : List ℕ). Some l) (with_area_elsewhere area b f s other)

pub elsewhere_then : (area : ℕ) (old mid new : Option Areas) → StaysElsewhere area old mid → StaysElsewhere area mid new → StaysElsewhere area old new
elsewhere_then area old mid new first second b other = second b other ∙ first b other

pub elsewhere_same : (area : ℕ) (old new : Option Areas) → new ≡ old → StaysElsewhere area old new
elsewhere_same area old new is b other = ap (λ (o : Option Areas). option_map (λ (s : Areas). s b) o) is

pub weaken : (area : ℕ) (S T : List ℕ → List ℕ → Type 0) (old new : Areas → Type 0) → ((x y : List ℕ) → S x y → T x y) → Follows (Changes area S) old new → Follows (Changes area T) old new
weaken area S T old new weaker step c image =
    let before = step c image in
    (before.0, before.1, record { there = weaker (before.0 area) (c area) before.2.there; elsewhere = before.2.elsewhere })

-- the area of each image after a step that leaves the same whatever was there
pub each_left : (area : ℕ) (Q : List ℕ → Type 0) (S : List ℕ → List ℕ → Type 0) (old new : Areas → Type 0) → ((x y : List ℕ) → S x y → Q y) → Follows (Changes area S) old new → Each new (λ c. Q (c area))
each_left area Q S old new gives step c image =
    let before = step c image in
    gives (before.0 area) (c area) before.2.there
