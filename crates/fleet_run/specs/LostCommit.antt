-- A run of a fleet: a commit whose step is cut off behind its write is shown by the primary of a later epoch. Replica 0 is the only member.
use Rattle.std.specs.Prelude.{ℕ, List, [], ◌∷◌}
use Rattle.rc_base.specs.declared.ids.Epoch.{Epoch}
use Rattle.rc_base.specs.declared.ids.TxnId.{TxnId}
use Rattle.coll_model.specs.declared.op.Kind.TheVariants.{Dict}
use Rattle.coll_model.specs.declared.op.Op.TheVariants as ops
use Rattle.events.specs.declared.call.Call.TheVariants as calls
use Rattle.events.specs.declared.event.Event.TheVariants.{Boot, Client, Crash, Reboot, Survey, Appoint}
use Rattle.order_machine.specs.declared.observation.Observation.TheVariants as says
use Rattle.order_machine.specs.Transitions.{first_epoch}
use Rattle.order_machine.specs.Legal.{Step}
use Rattle.fleet_run.specs.Scenes.{FleetState}
use Rattle.fleet_run.specs.Plans.{IsFleetRun}

abbrev pub second_epoch : Epoch
second_epoch = record { loss = 0; number = 2 }

abbrev pub the_txn : TxnId
the_txn = record { epoch = first_epoch; n = 1 }

-- d, the name of a dictionary
abbrev pub the_name : List ℕ
the_name = 100 ∷ []

-- the commit's step fails; its replica is crashed, opened again and appointed anew; and then its order comes
abbrev pub lost_steps : List Step
lost_steps =
    record { number = 1; event = Boot 0 (0 ∷ []); lines = says.Up 0 ∷ says.View 0 0 ∷ says.Active 0 ∷ says.Done ∷ [] }
    ∷ record { number = 2; event = Client 0 calls.Begin; lines = says.Txn the_txn ∷ [] }
    ∷ record { number = 3; event = Client 0 (calls.Make the_txn the_name Dict); lines = says.True ∷ [] }
    ∷ record { number = 4; event = Client 0 (calls.Commit the_txn); lines = says.Fault 0 ∷ [] }
    ∷ record { number = 5; event = Crash 0 0; lines = says.Done ∷ [] }
    ∷ record { number = 6; event = Reboot 0; lines = says.Up 0 ∷ says.View 0 0 ∷ [] }
    ∷ record { number = 7; event = Survey 0 second_epoch; lines = says.Progress 0 first_epoch 5 ∷ [] }
    ∷ record { number = 8; event = Appoint second_epoch 0 (0 ∷ []); lines = says.Order the_txn (ops.Make the_name Dict ∷ []) ∷ says.View 0 1 ∷ says.Active 0 ∷ says.Done ∷ [] }
    ∷ []

-- there is such a run
pub record LostCommit : Type 0 where
  pub state : FleetState
  pub run : IsFleetRun lost_steps state
