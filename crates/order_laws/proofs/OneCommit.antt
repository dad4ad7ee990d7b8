-- A run that commits one transaction, line by line.
use Rattle.std.proofs.Common.{◌≡◌, ◌∙◌, ℕ, zero, suc, ◌≤◌, Bool, true, false, not, ◌&&◌, ◌||◌, cond, eqb, List, [], ◌∷◌, replicate, get_or, Some, None, refl, sym, ap, subst, inl, inr, arith}
use Rattle.std.specs.List.{AllByRecursion}
use Rattle.std.specs.Map.{lookup}
use Rattle.std.specs.Option.{option_map_or}
use Rattle.std.proofs.lemmas.Bool.{false≢true, cases_lt, cond_both, and_right}
use Rattle.std.proofs.lemmas.List.{get_or-replicate, get_or_past, length-replicate}
use Rattle.std.proofs.lemmas.Option.{none-some}
use Rattle.rc_base.specs.declared.ids.TxnId.{TxnId}
use Rattle.events.specs.declared.event.Event.TheVariants.{Boot, Client}
use Rattle.events.specs.declared.call.Call.TheVariants.{Begin, Commit}
use Rattle.order_machine.specs.declared.observation.Observation.{Observation}
use Rattle.order_machine.specs.declared.observation.Observation.TheVariants as says
use Rattle.rc_base.specs.Ids.{is_txn}
use Rattle.order_machine.specs.Machine.{Machine, Replica, Txn, empty_machine, never_opened, replica, role_of, has_role, is_acknowledged, is_active, is_pending}
use Rattle.order_machine.specs.Transitions.{HoldsBehind, first_epoch, new_role}
use Rattle.order_machine.specs.Legal.{IsWhole, moved}
use Rattle.order_machine.proofs.Machines.{not_alone}
use Rattle.order_laws.specs.Laws.{first_txn, OneCommitIsWhole}

-- ---- the other replicas

never_put : (r : ℕ) → get_or (replicate 8 never_opened) r never_opened ≡ never_opened
never_put r =
    elim (cases_lt r 8) [
      | inl lt ↦ get_or-replicate 8 r never_opened never_opened lt
      | inr le ↦ get_or_past (replicate 8 never_opened) r never_opened (subst (λ n. n ≤ r) (sym (length-replicate 8 never_opened)) le)
    ]

no_role : (m : Machine) (first : Replica) → m.replicas ≡ first ∷ replicate 8 never_opened → (r : ℕ) → role_of m (suc r) ≡ None
no_role m first e r = ap (λ xs. (get_or xs (suc r) never_opened).role) e ∙ ap (λ x. x.role) (never_put r)

pub no_roles : (m : Machine) (first : Replica) → m.replicas ≡ first ∷ replicate 8 never_opened → first.role ≡ None → (r : ℕ) → role_of m r ≡ None
no_roles m first e none zero = ap (λ xs. (get_or xs 0 never_opened).role) e ∙ none
no_roles m first e none (suc r) = no_role m first e r

-- behind an event with nothing pending, in a world of replica 0
pub holds_behind : (m : Machine) (first : Replica) → m.replicas ≡ first ∷ replicate 8 never_opened → is_active m 0 ≡ true → ((r : ℕ) (t : TxnId) → is_pending m r t ≡ false) → HoldsBehind m
holds_behind m first e active none = record {
  not_shown = λ r t h. absurd (false≢true (sym (none r t) ∙ h));
  alone = elim [ zero ↦ λ h. (active, none 0) | suc r ↦ λ h. absurd (not_alone m (suc r) (no_role m first e r) h) ];
}

-- where no commit was asked, nothing is pending
asked_at : (r : ℕ) (t : TxnId) (txns : List (TxnId × Txn)) → AllByRecursion (λ entry. entry.1.asked ≡ false) txns → option_map_or (λ x. x.asked && eqb x.home r) (lookup (is_txn t) txns) false ≡ false
asked_at r t [] all = refl
asked_at r t (entry ∷ txns) all =
    cond_both (is_txn t entry.0) (Some entry.1) (lookup (is_txn t) txns) (λ o. option_map_or (λ x. x.asked && eqb x.home r) o false ≡ false)
    (λ _. ap (λ b. b && eqb entry.1.home r) all.0) (λ _. asked_at r t txns all.1)

pub none_pending : (m : Machine) → AllByRecursion (λ entry. entry.1.asked ≡ false) m.txns → (r : ℕ) (t : TxnId) → is_pending m r t ≡ false
none_pending m all r t = ap (λ b. b && (has_role m r t.epoch && not (is_acknowledged m t))) (asked_at r t m.txns all)

-- ---- boot

abbrev pub boot_lines : List Observation
boot_lines = says.Up 0 ∷ says.View 0 0 ∷ says.Active 0 ∷ says.Done ∷ []

abbrev pub booted : Machine
booted = moved empty_machine (Boot 0 (0 ∷ [])) boot_lines

pub whole_boot : IsWhole empty_machine (Boot 0 (0 ∷ [])) boot_lines
whole_boot = record {
  may = (
    record { named = refl; in_rank = refl; next = refl; goes_on = refl; row = (refl, ([], refl)) },
    (
      record {
        named = refl;
        in_rank = refl;
        next = refl;
        goes_on = refl;
        row = record {
          within = omega arith;
          all_that_grew = λ e. absurd (false≢true e);
          grew_here = λ e. absurd (false≢true e);
          more = λ e. absurd (none-some 0 (sym e));
          primary = λ e. absurd (none-some 0 (sym e));
          acts = refl;
        };
      },
      (
        record {
          named = refl;
          in_rank = refl;
          next = refl;
          goes_on = refl;
          row = record {
            role = new_role first_epoch;
            has = refl;
            not_yet = refl;
            shows = λ t ack le. absurd (false≢true ack);
            acts = refl;
          };
        },
        (
          record { named = refl; in_rank = refl; next = refl; goes_on = refl; row = (refl, refl, refl) },
          tt,
        ),
      ),
    ),
  );
  complete = record { opened = refl; grown = refl; mounted = refl; told = refl; answered = refl };
  holds = holds_behind booted (replica booted 0) refl refl (none_pending booted tt);
}

-- ---- begin

abbrev pub begun_machine : Machine
begun_machine = moved booted (Client 0 Begin) (says.Txn first_txn ∷ [])

abbrev begun_txn : Txn
begun_txn = record { home = 0; shown_at_begin = 0; calls = []; live = true; asked = false }

pub whole_begin : IsWhole booted (Client 0 Begin) (says.Txn first_txn ∷ [])
whole_begin = record {
  may = (record { named = refl; in_rank = refl; next = refl; goes_on = refl; row = (refl, refl) }, tt);
  complete = record { opened = refl; grown = refl; mounted = refl; told = refl; answered = refl };
  holds = holds_behind begun_machine (replica begun_machine 0) refl refl (none_pending begun_machine (refl, tt));
}

-- ---- commit

abbrev commit_lines : List Observation
commit_lines = says.Order first_txn [] ∷ says.View 0 1 ∷ says.Committed first_txn ∷ []

abbrev committed_machine : Machine
committed_machine = moved begun_machine (Client 0 (Commit first_txn)) commit_lines

abbrev asked_txn : Txn
asked_txn = record begun_txn { live = false; asked = true }

-- it is acknowledged
not_pending : (here : Bool) (r : ℕ) (role : Bool) → (option_map_or (λ x. x.asked && eqb x.home r) (cond here (Some asked_txn) (cond here (Some begun_txn) None)) false && (role && not (here || false))) ≡ false
not_pending true r role = and_right (eqb 0 r) (role && false) (and_right role false refl)
not_pending false r role = refl

whole_commit : IsWhole begun_machine (Client 0 (Commit first_txn)) commit_lines
whole_commit = record {
  may = (
    record { named = refl; in_rank = refl; next = refl; goes_on = refl; row = record { txn = asked_txn; known = refl; new = refl; asked = refl; whole = refl; replays = tt } },
    (
      record {
        named = refl;
        in_rank = refl;
        next = refl;
        goes_on = refl;
        row = record {
          within = omega arith;
          all_that_grew = λ e. refl;
          grew_here = λ e. refl;
          more = λ e. omega arith;
          primary = λ e. refl;
          acts = refl;
        };
      },
      (
        record {
          named = refl;
          in_rank = refl;
          next = refl;
          goes_on = refl;
          row = record {
            pending = refl;
            shown = refl;
            first = λ u h. absurd (false≢true h);
            elsewhere = elim [
              | zero ↦ λ role has active le. refl
              | suc r ↦ λ role has active le. absurd (none-some role (sym (ap (λ x. x.role) (never_put r)) ∙ has))
            ];
          };
        },
        tt,
      ),
    ),
  );
  complete = record { opened = refl; grown = refl; mounted = refl; told = refl; answered = refl };
  holds = holds_behind committed_machine (replica committed_machine 0) refl refl (λ r t. not_pending (is_txn t first_txn) r (has_role committed_machine r t.epoch));
}

pub one_commit_is_whole : OneCommitIsWhole
one_commit_is_whole = record { whole = (whole_boot, (whole_begin, (whole_commit, tt))); acknowledged = refl }
