-- A crash of a booted world's replica, and its reboot.
use Rattle.std.proofs.Common.{◌≡◌, ℕ, ◌≤◌, length, List, [], ◌∷◌, false, None, refl, sym, arith, inl}
use Rattle.std.proofs.lemmas.Bool.{false≢true}
use Rattle.std.proofs.lemmas.Option.{none-some}
use Rattle.rc_base.specs.declared.ids.TxnId.{TxnId}
use Rattle.events.specs.declared.event.Event.TheVariants.{Crash, Reboot}
use Rattle.order_machine.specs.declared.observation.Observation.TheVariants as says
use Rattle.order_machine.specs.Order.{Entry}
use Rattle.order_machine.specs.Machine.{Machine, Replica, Txn, ended_at}
use Rattle.order_machine.specs.Transitions.{opened}
use Rattle.order_machine.specs.Legal.{IsWhole, moved}
use Rattle.world.specs.Standing.{Course, resting, shut, standing}
use Rattle.world.proofs.States.Booted.{standing_booted, once_standing}
use Rattle.world.proofs.States.Beginnings.{served_from}
use Rattle.world.proofs.States.RoleEnd.{holds_without_role}

abbrev pub crashed : Replica → Replica
crashed first = record first { up = false; role = None; grants = [] }

pub crash_serves : (entries : List Entry) (acknowledged : List TxnId) (first : Replica) (txns : List (TxnId × Txn)) (course : Course) (pick : ℕ) →
    IsWhole (standing entries acknowledged first txns course) (Crash 0 pick) (says.Done ∷ [])
    × (moved (standing entries acknowledged first txns course) (Crash 0 pick) (says.Done ∷ []) ≡ standing entries acknowledged (crashed first) (ended_at 0 txns) course)
crash_serves entries acknowledged first txns course pick =
    let m : Machine = standing entries acknowledged first txns course in
    served_from m (Crash 0 pick) (says.Done ∷ []) (opened m (Crash 0 pick)) (λ n. n ≡ standing entries acknowledged (crashed first) (ended_at 0 txns) course)
    (once_standing m None (standing_booted entries acknowledged first txns course)) refl
    (record {
      may = (record { named = refl; in_rank = refl; next = refl; goes_on = refl; row = refl }, tt);
      complete = record { opened = refl; grown = refl; mounted = refl; told = refl; answered = refl };
      holds = holds_without_role entries acknowledged (crashed first) (ended_at 0 txns) course refl;
    })
    refl

pub reboot_serves : (entries : List Entry) (acknowledged : List TxnId) (last : ℕ) (txns : List (TxnId × Txn)) (course : Course) (shown : ℕ) → shown ≤ length entries →
    IsWhole (standing entries acknowledged (shut course last) txns course) (Reboot 0) (says.Up 0 ∷ says.View 0 shown ∷ [])
    × (moved (standing entries acknowledged (shut course last) txns course) (Reboot 0) (says.Up 0 ∷ says.View 0 shown ∷ []) ≡ standing entries acknowledged (resting course shown) txns course)
reboot_serves entries acknowledged last txns course shown within =
    let m : Machine = standing entries acknowledged (shut course last) txns course in
    served_from m (Reboot 0) (says.Up 0 ∷ says.View 0 shown ∷ []) (opened m (Reboot 0)) (λ n. n ≡ standing entries acknowledged (resting course shown) txns course)
    (once_standing m None (standing_booted entries acknowledged (shut course last) txns course)) refl
    (record {
      may = (
        record { named = refl; in_rank = refl; next = refl; goes_on = refl; row = (refl, ([], refl)) },
        (
          record {
            named = refl;
            in_rank = refl;
            next = refl;
            goes_on = refl;
            row = record {
              within = omega arith;
              all_that_grew = λ e. absurd (false≢true e);
              grew_here = λ e. absurd (false≢true e);
              more = λ e. absurd (none-some 0 (sym e));
              primary = λ e. absurd (none-some 0 (sym e));
              acts = refl;
            };
          },
          tt,
        ),
      );
      complete = record { opened = refl; grown = refl; mounted = refl; told = refl; answered = refl };
      holds = holds_without_role entries acknowledged (resting course shown) txns course refl;
    })
    refl

-- its disk faults as the replica is opened
pub reboot_faults : (entries : List Entry) (acknowledged : List TxnId) (last : ℕ) (txns : List (TxnId × Txn)) (course : Course) →
    IsWhole (standing entries acknowledged (shut course last) txns course) (Reboot 0) (says.Fault 0 ∷ [])
    × (moved (standing entries acknowledged (shut course last) txns course) (Reboot 0) (says.Fault 0 ∷ []) ≡ standing entries acknowledged (shut course last) (ended_at 0 txns) course)
reboot_faults entries acknowledged last txns course =
    let m : Machine = standing entries acknowledged (shut course last) txns course in
    served_from m (Reboot 0) (says.Fault 0 ∷ []) (opened m (Reboot 0)) (λ n. n ≡ standing entries acknowledged (shut course last) (ended_at 0 txns) course)
    (once_standing m None (standing_booted entries acknowledged (shut course last) txns course)) refl
    (record {
      may = (record { named = refl; in_rank = refl; next = refl; goes_on = refl; row = inl (refl, ([], refl)) }, tt);
      complete = record { opened = refl; grown = refl; mounted = refl; told = refl; answered = refl };
      holds = holds_without_role entries acknowledged (shut course last) (ended_at 0 txns) course refl;
    })
    refl
