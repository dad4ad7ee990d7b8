-- Every step, over a disk that tells its bytes.
use Rattle.std.proofs.Common.{refl, Option, Some, None}
use Rattle.std.specs.Option.{ForSome, IsSome}
use Rattle.std.proofs.lemmas.Bool.{false≢true}
use Rattle.disk_model.specs.Disk.{Areas}
use Rattle.replica_model.specs.declared.step.StepEvent.TheVariants as steps
use Rattle.replica_laws.specs.Laws.{AppointsAgree, StepsAgree}
use Rattle.replica_laws.proofs.QuietSteps.{inspections_agree, activations_agree}
use Rattle.replica_laws.proofs.Surveys.{surveys_agree}
use Rattle.replica_laws.proofs.Barriers.{barriers_agree}
use Rattle.replica_laws.proofs.EveryCall.{calls_agree}
use Rattle.replica_laws.proofs.Appointments as appointments

-- what it tells is one of its images
image_of : (seen : Option Areas) (images : Areas → Type 0) → IsSome seen → ForSome seen images → (c : Areas) × images c
image_of None images tells is = absurd (false≢true tells)
image_of (Some c) images tells is = (c, is c refl)

pub appoints_agree : (before now : Areas → Type 0) (seen : Option Areas) → IsSome seen → ForSome seen before → AppointsAgree before now
appoints_agree before now seen tells is = let image = image_of seen before tells is in appointments.appoints_agree before now image.0 image.1

pub steps_agree : (before now : Areas → Type 0) (seen : Option Areas) → IsSome seen → ForSome seen before → StepsAgree before now
steps_agree before now seen tells is (steps.Client call) = calls_agree before now call
steps_agree before now seen tells is (steps.Survey e) = surveys_agree before now e
steps_agree before now seen tells is (steps.Appoint a) = appoints_agree before now seen tells is a
steps_agree before now seen tells is (steps.Activate e) = activations_agree before now e
steps_agree before now seen tells is steps.Barrier = barriers_agree before now
steps_agree before now seen tells is steps.Inspect = inspections_agree before now
