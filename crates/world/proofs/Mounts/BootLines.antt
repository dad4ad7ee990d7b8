-- The boot of a world of replica 0, and the faults that can stand in it.
use Rattle.std.proofs.Common.{◌≡◌, zero, suc, List, [], ◌∷◌, ◌++◌, true, false, refl, sym, ap, arith, inl, inr}
use Rattle.std.proofs.lemmas.Bool.{false≢true}
use Rattle.std.proofs.lemmas.Option.{none-some}
use Rattle.events.specs.declared.event.Event.{Event}
use Rattle.events.specs.declared.event.Event.TheVariants.{Boot}
use Rattle.order_machine.specs.declared.observation.Observation.{Observation}
use Rattle.order_machine.specs.declared.observation.Observation.TheVariants as says
use Rattle.order_machine.specs.Machine.{empty_machine}
use Rattle.order_machine.specs.Transitions.{Position, May, HoldsBehind, opened, first_epoch, new_role}
use Rattle.order_machine.specs.Legal.{behind, IsWhole, moved}
use Rattle.order_machine.proofs.Machines.{not_alone}
use Rattle.order_machine.proofs.Machines.{never_put}
use Rattle.world.specs.Standing.{first_course, serving, shut, standing}
use Rattle.world.proofs.States.RoleEnd.{holds_without_role}

abbrev pub boot : Event
boot = Boot 0 (0 ∷ [])

abbrev at_lines : List Observation → Position
at_lines lines = behind (opened empty_machine boot) lines

-- ---- its lines

abbrev pub mounted : List Observation
mounted = says.Up 0 ∷ says.View 0 0 ∷ []

abbrev pub boot_lines : List Observation
boot_lines = says.Up 0 ∷ says.View 0 0 ∷ says.Active 0 ∷ says.Done ∷ []

up_may : May (at_lines []) (says.Up 0)
up_may = record { named = refl; in_rank = refl; next = refl; goes_on = refl; row = (refl, ([], refl)) }

view_may : May (at_lines (says.Up 0 ∷ [])) (says.View 0 0)
view_may = record {
  named = refl;
  in_rank = refl;
  next = refl;
  goes_on = refl;
  row = record {
    within = omega arith;
    all_that_grew = λ e. absurd (false≢true e);
    grew_here = λ e. absurd (false≢true e);
    more = λ e. absurd (none-some 0 (sym e));
    primary = λ e. absurd (none-some 0 (sym e));
    acts = refl;
  };
}

active_may : May (at_lines mounted) (says.Active 0)
active_may = record {
  named = refl;
  in_rank = refl;
  next = refl;
  goes_on = refl;
  row = record {
    role = new_role first_epoch;
    has = refl;
    not_yet = refl;
    shows = λ t ack le. absurd (false≢true ack);
    acts = refl;
  };
}

done_may : May (at_lines (mounted ++ says.Active 0 ∷ [])) says.Done
done_may = record { named = refl; in_rank = refl; next = refl; goes_on = refl; row = (refl, refl, refl) }

-- ---- the boot

holds_booted : HoldsBehind (standing [] [] (serving (first_course true) 0 0 []) [] (first_course true))
holds_booted = record {
  not_shown = λ r t h. absurd (false≢true h);
  alone = elim [
    | zero ↦ λ h. (refl, λ t. refl)
    | suc r ↦ λ h. absurd (not_alone (standing [] [] (serving (first_course true) 0 0 []) [] (first_course true)) (suc r) (ap (λ x. x.role) (never_put (suc r))) h)
  ];
}

pub boot_serves : IsWhole empty_machine (Boot 0 (0 ∷ [])) (says.Up 0 ∷ says.View 0 0 ∷ says.Active 0 ∷ says.Done ∷ [])
    × (moved empty_machine (Boot 0 (0 ∷ [])) (says.Up 0 ∷ says.View 0 0 ∷ says.Active 0 ∷ says.Done ∷ []) ≡ standing [] [] (serving (first_course true) 0 0 []) [] (first_course true))
boot_serves = (
  record {
    may = (up_may, (view_may, (active_may, (done_may, tt))));
    complete = record { opened = refl; grown = refl; mounted = refl; told = refl; answered = refl };
    holds = holds_booted;
  },
  refl,
)

-- ---- faults

-- the disk faults as the replica is opened
pub boot_mount_faults : IsWhole empty_machine (Boot 0 (0 ∷ [])) (says.Fault 0 ∷ [])
    × (moved empty_machine (Boot 0 (0 ∷ [])) (says.Fault 0 ∷ []) ≡ standing [] [] (shut (first_course false) 0) [] (first_course false))
boot_mount_faults = (
  record {
    may = (record { named = refl; in_rank = refl; next = refl; goes_on = refl; row = inl (inl (refl, ([], refl))) }, tt);
    complete = record { opened = refl; grown = refl; mounted = refl; told = refl; answered = refl };
    holds = holds_without_role [] [] (shut (first_course false) 0) [] (first_course false) refl;
  },
  refl,
)

-- as it starts its epoch
pub boot_start_faults : IsWhole empty_machine (Boot 0 (0 ∷ [])) (says.Up 0 ∷ says.View 0 0 ∷ says.Fault 0 ∷ [])
    × (moved empty_machine (Boot 0 (0 ∷ [])) (says.Up 0 ∷ says.View 0 0 ∷ says.Fault 0 ∷ []) ≡ standing [] [] (shut (first_course false) 0) [] (first_course false))
boot_start_faults = (
  record {
    may = (
      up_may,
      (
        view_may,
        (
          record { named = refl; in_rank = refl; next = refl; goes_on = refl; row = inl (inr (refl, refl, refl, refl, refl)) },
          tt,
        ),
      ),
    );
    complete = record { opened = refl; grown = refl; mounted = refl; told = refl; answered = refl };
    holds = holds_without_role [] [] (shut (first_course false) 0) [] (first_course false) refl;
  },
  refl,
)

-- and as it logs, behind the answer, that it became active
pub boot_barrier_faults : IsWhole empty_machine (Boot 0 (0 ∷ [])) (says.Up 0 ∷ says.View 0 0 ∷ says.Active 0 ∷ says.Done ∷ says.Fault 0 ∷ [])
    × (moved empty_machine (Boot 0 (0 ∷ [])) (says.Up 0 ∷ says.View 0 0 ∷ says.Active 0 ∷ says.Done ∷ says.Fault 0 ∷ []) ≡ standing [] [] (shut (first_course true) 0) [] (first_course true))
boot_barrier_faults = (
  record {
    may = (up_may, (view_may, (active_may, (done_may, (fault_may, tt)))));
    complete = record { opened = refl; grown = refl; mounted = refl; told = refl; answered = refl };
    holds = holds_without_role [] [] (shut (first_course true) 0) [] (first_course true) refl;
  },
  refl,
)
  where
    fault_may : May (at_lines boot_lines) (says.Fault 0)
    fault_may = record {
      named = refl;
      in_rank = refl;
      next = refl;
      goes_on = refl;
      row = inr (record { acts = refl; rose = refl; answered = refl; nothing_due = λ t h. absurd (false≢true h); is_up = refl });
    }
