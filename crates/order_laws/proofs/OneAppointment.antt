-- A run in which the primary is appointed again.
use Rattle.std.proofs.Common.{◌∙◌, [], ◌∷◌, refl, sym, inl}
use Rattle.std.proofs.lemmas.Bool.{false≢true}
use Rattle.events.specs.declared.event.Event.TheVariants.{Client, Survey, Appoint, Activate}
use Rattle.events.specs.declared.call.Call.TheVariants.{Commit}
use Rattle.order_machine.specs.declared.observation.Observation.TheVariants as says
use Rattle.order_machine.specs.Machine.{Machine, empty_machine, replica}
use Rattle.order_machine.specs.Transitions.{first_epoch, new_role}
use Rattle.order_machine.specs.Legal.{IsWhole, AreWhole, moved}
use Rattle.order_laws.specs.Laws.{first_txn, second_epoch, one_appointment}
use Rattle.order_machine.proofs.Machines.{not_alone}
use Rattle.order_laws.proofs.OneCommit.{holds_behind, none_pending, no_roles, whole_boot, begun_machine, whole_begin}

-- ---- a survey

abbrev surveyed : Machine
surveyed = moved begun_machine (Survey 0 second_epoch) (says.Progress 0 first_epoch 2 ∷ [])

whole_survey : IsWhole begun_machine (Survey 0 second_epoch) (says.Progress 0 first_epoch 2 ∷ [])
whole_survey = record {
  may = (record { named = refl; in_rank = refl; next = refl; goes_on = refl; row = (refl, inl (refl, refl), refl) }, tt);
  complete = record { opened = refl; grown = refl; mounted = refl; told = refl; answered = refl };
  holds = record {
    not_shown = λ r t h. absurd (false≢true (sym (none_pending surveyed (refl, tt) r t) ∙ h));
    alone = λ r h. absurd (not_alone surveyed r (no_roles surveyed (replica surveyed 0) refl refl r) h);
  };
}

-- ---- an appointment

abbrev appointed : Machine
appointed = moved surveyed (Appoint second_epoch 0 (0 ∷ [])) (says.Active 0 ∷ says.Done ∷ [])

whole_appoint : IsWhole surveyed (Appoint second_epoch 0 (0 ∷ [])) (says.Active 0 ∷ says.Done ∷ [])
whole_appoint = record {
  may = (
    record {
      named = refl;
      in_rank = refl;
      next = refl;
      goes_on = refl;
      row = record {
        role = new_role second_epoch;
        has = refl;
        not_yet = refl;
        shows = λ t ack le. absurd (false≢true ack);
        acts = refl;
      };
    },
    (record { named = refl; in_rank = refl; next = refl; goes_on = refl; row = refl }, tt),
  );
  complete = record { opened = refl; grown = refl; mounted = refl; told = refl; answered = refl };
  holds = holds_behind appointed (replica appointed 0) refl refl (none_pending appointed (refl, tt));
}

-- ---- the transaction has ended

abbrev ended : Machine
ended = moved appointed (Client 0 (Commit first_txn)) (says.Ended first_txn ∷ [])

whole_ended : IsWhole appointed (Client 0 (Commit first_txn)) (says.Ended first_txn ∷ [])
whole_ended = record {
  may = (record { named = refl; in_rank = refl; next = refl; goes_on = refl; row = (refl, refl) }, tt);
  complete = record { opened = refl; grown = refl; mounted = refl; told = refl; answered = refl };
  holds = holds_behind ended (replica ended 0) refl refl (none_pending ended (refl, (refl, tt)));
}

-- ---- the activation

abbrev activated : Machine
activated = moved ended (Activate second_epoch) (says.Done ∷ [])

whole_activate : IsWhole ended (Activate second_epoch) (says.Done ∷ [])
whole_activate = record {
  may = (record { named = refl; in_rank = refl; next = refl; goes_on = refl; row = refl }, tt);
  complete = record { opened = refl; grown = refl; mounted = refl; told = refl; answered = refl };
  holds = holds_behind activated (replica activated 0) refl refl (none_pending activated (refl, (refl, tt)));
}

pub one_appointment_is_whole : AreWhole [] empty_machine one_appointment
one_appointment_is_whole = (whole_boot, (whole_begin, (whole_survey, (whole_appoint, (whole_ended, (whole_activate, tt))))))
