-- What a replica alone computes of a step is what the model says, whatever its disk does.
use Rattle.std.proofs.Common.{◌∙◌, refl, Option}
use Rattle.std.specs.Option.{ForSome, IsSome}
use Rattle.disk_model.specs.Disk.{Areas}
use Rattle.log_store.specs.Growth.{after}
use Rattle.txn_front.proofs.Fronts.{AreAlike-itself}
use Rattle.replica_model.specs.Steps.{step_result}
use Rattle.replica.specs.Open.{Open}
use Rattle.replica.specs.Step.{block, stepped}
use Rattle.replica.proofs.Lengthened.{steps_to, identity_after}
use Rattle.replica.proofs.Stepped.{agrees_in}
use Rattle.replica_laws.specs.Agreement.{IsStep}
use Rattle.replica_laws.specs.Laws.{ComputedAgree}
use Rattle.replica_laws.proofs.EveryStep.{steps_agree}
use Rattle.replica_laws.proofs.Views.{views_agree}

-- a disk of which nothing is left
abbrev nothing_left : Areas → Type 0
nothing_left c = ⊥

pub computed_agree : (before : Areas → Type 0) (seen : Option Areas) → IsSome seen → ForSome seen before → ComputedAgree before
computed_agree before seen tells is event x o a may =
    let new : Open = record (stepped x event) { log = x.log } in
    let s : IsStep x new event before nothing_left = record {
      kept = record { same = refl; front = AreAlike-itself new.front };
      agrees = λ v stands held. (
        λ c none. absurd none,
        agrees_in x.log (stepped x event).front (stepped x event) (after v (block x event)) (steps_to x v event held may).agrees (AreAlike-itself (stepped x event).front) (identity_after v x event ∙ held.identity),
      );
      opened = record { low = a.opened.low; settled = λ c none. absurd none; taken = λ c none. absurd none };
      not_closed = a.not_closed;
    } in
    let done = steps_agree before nothing_left seen tells is event x new o a may s in
    record { outcome = done.outcome; then = views_agree nothing_left new (step_result o event) done.then }
