-- A primary alone whose log is stable has nothing to look at.
use Rattle.std.proofs.Common.{◌≡◌, ◌∙◌, refl, sym, ap, subst, ℕ, zero, suc, max, Bool, true, false, cond, List, [], ◌∷◌, length, drop, arith, Option, Some, None, inl, inr, ◌⊎◌}
use Rattle.std.specs.Map.{lookup}
use Rattle.std.specs.Prelude.{unwrap_or, nat_le, nat_lt, ◌&&◌, ◌||◌, not, ◌==◌}
use Rattle.std.specs.Option.{option_map_or}
use Rattle.std.proofs.lemmas.Bool.{eq-eqb}
use Rattle.std.proofs.lemmas.Bool.Decides.{nat_tests}
use Rattle.rc_base.specs.Quorum.{write_quorum}
use Rattle.disk_model.specs.Disk.{Areas}
use Rattle.events.specs.declared.answer.Answer.{Answer}
use Rattle.txn_table.specs.declared.committed.Committed.{Committed}
use Rattle.txn_table.specs.Whole.{last_position}
use Rattle.replica_model.specs.declared.role.Role.{Role}
use Rattle.replica_model.specs.declared.role.Role.TheVariants.{Other, Primary}
use Rattle.replica_model.specs.OpenReplica as model
use Rattle.replica_model.specs.OpenReplica.{OpenReplica, Leading, shown_commits, view_of}
use Rattle.replica_model.specs.Quorums.{reached_by, has_quorum, is_reached, greatest, quorum_number, is_of_epoch, stable_at, newly_shown, txns_of, unlocked_all, acknowledged_by, acknowledging, looked}
use Rattle.replica_model.specs.Steps.{outcome_of}
use Rattle.replica.specs.Open.{Open, HasRole}
use Rattle.replica.specs.Step.{quiet}
use Rattle.replica_laws.specs.Agreement.{AgreesOn, IsRoleOf}
use Rattle.replica_laws.proofs.Shown.{last_is, view_is, active_is}

-- ---- the quorum number of a primary alone

greatest_end : (passes : ℕ → Bool) (n : ℕ) → passes n ≡ true → greatest passes n ≡ n
greatest_end passes zero h = refl
greatest_end passes (suc n) h = ap (λ (b : Bool). cond b (suc n) (greatest passes n)) h

one_holds : (reached : ℕ → ℕ) (id place : ℕ) → nat_le place (reached id) ≡ true → has_quorum reached place (id ∷ []) ≡ true
one_holds reached id place h = ap (λ (b : Bool). nat_le (write_quorum 1) (length (cond b (id ∷ []) []))) h

-- it has reached its own end
own_end : (o : OpenReplica) (l : Leading) → nat_le (last_position o.disk) (reached_by o l o.id) ≡ true
own_end o l =
    let same : (o.id == o.id) ≡ true = eq-eqb o.id o.id refl in
    let own : reached_by o l o.id ≡ last_position o.disk = ap (λ (b : Bool). cond b (last_position o.disk) (unwrap_or (lookup (λ other. o.id == other) l.reached) 0)) same in
    ap (λ (n : ℕ). nat_le (last_position o.disk) n) own ∙ itself (last_position o.disk)
  where
    itself : (n : ℕ) → nat_le n n ≡ true
    itself n = grind (arith, nat_tests)

end_reached : (o : OpenReplica) (l : Leading) → l.current ≡ o.id ∷ [] → (l.previous ≡ None) ⊎ (l.previous ≡ Some (o.id ∷ [])) → is_reached o l (last_position o.disk) ≡ true
end_reached o l current previous = by previous
  where
    holds : has_quorum (reached_by o l) (last_position o.disk) (o.id ∷ []) ≡ true
    holds = one_holds (reached_by o l) o.id (last_position o.disk) (own_end o l)

    own : has_quorum (reached_by o l) (last_position o.disk) l.current ≡ true
    own = ap (has_quorum (reached_by o l) (last_position o.disk)) current ∙ holds

    before : Option (List ℕ) → Bool
    before m = option_map_or (λ (members : List ℕ). has_quorum (reached_by o l) (last_position o.disk) members) m true

    by : (l.previous ≡ None) ⊎ (l.previous ≡ Some (o.id ∷ [])) → is_reached o l (last_position o.disk) ≡ true
    by (inl none) = ap (λ (b : Bool). b && before l.previous) own ∙ ap before none
    by (inr alone) = ap (λ (b : Bool). b && before l.previous) own ∙ (ap before alone ∙ holds)

pub number_alone : (o : OpenReplica) (l : Leading) → l.current ≡ o.id ∷ [] → (l.previous ≡ None) ⊎ (l.previous ≡ Some (o.id ∷ [])) → quorum_number o l ≡ last_position o.disk
unfolding quorum_number
number_alone o l current previous = greatest_end (is_reached o l) (last_position o.disk) (end_reached o l current previous)

-- ---- nothing new is shown

drop_all : {A : Type 0} (xs : List A) → drop (length xs) xs ≡ []
drop_all [] = refl
drop_all (x ∷ xs) = drop_all xs

pub none_new : (o : OpenReplica) → newly_shown o o ≡ []
none_new o = drop_all (shown_commits o)

none_acknowledged : (o : OpenReplica) → acknowledged_by o o ≡ []
none_acknowledged o = ap (λ (cs : List Committed). option_map_or (λ (l : Leading). txns_of l.epoch cs) o.leading []) (none_new o) ∙ by o.leading
  where
    by : (m : Option Leading) → option_map_or (λ (l : Leading). txns_of l.epoch []) m [] ≡ []
    by None = refl
    by (Some l) = refl

pub acknowledges_none : (o : OpenReplica) → acknowledging o o ≡ o
acknowledges_none o = ap (λ ts. record o { front = unlocked_all o.front ts }) (none_acknowledged o)

-- a primary that is active and alone, whose log is stable
stays : (o : OpenReplica) (l : Leading) → o.leading ≡ Some l → l.active ≡ true → o.stable ≡ last_position o.disk → stable_at o l (last_position o.disk) ≡ o
stays o l some active stable =
    let most : max o.stable (last_position o.disk) ≡ o.stable = grind (arith, stable) in
    let made : record l { active = true } ≡ l = ap (λ (b : Bool). record l { active = b }) (sym active) in
    ap (λ (b : Bool). cond (b || is_of_epoch o.disk l.epoch (last_position o.disk)) (record o { stable = max o.stable (last_position o.disk); leading = Some (record l { active = true }) }) o) active
    ∙ (ap (λ (n : ℕ). record o { stable = n; leading = Some (record l { active = true }) }) most
    ∙ ap (λ (m : Option Leading). record o { leading = m }) (ap Some made ∙ sym some))

primary_rests : (o : OpenReplica) (l : Leading) → o.leading ≡ Some l → l.active ≡ true → l.current ≡ o.id ∷ [] → (l.previous ≡ None) ⊎ (l.previous ≡ Some (o.id ∷ [])) → o.stable ≡ last_position o.disk → looked o ≡ o
primary_rests o l some active current previous stable =
    ap (λ (m : Option Leading). option_map_or (λ (k : Leading). acknowledging o (stable_at o k (quorum_number o k))) m o) some
    ∙ (ap (λ (n : ℕ). acknowledging o (stable_at o l n)) (number_alone o l current previous)
    ∙ (ap (acknowledging o) (stays o l some active stable) ∙ acknowledges_none o))

pub rests : (x : Open) (o : OpenReplica) (images : Areas → Type 0) → AgreesOn x o images → looked o ≡ o
rests x o images a = by x.role o.leading refl a.role a.agrees.role
  where
    by : (role : Role) (m : Option Leading) → o.leading ≡ m → IsRoleOf x.id role m → HasRole x a.kept.records role → looked o ≡ o
    by Other None is r h = ap (λ (m : Option Leading). option_map_or (λ (k : Leading). acknowledging o (stable_at o k (quorum_number o k))) m o) is
    by Other (Some l) is r h = absurd r
    by (Primary epoch active) None is r h = absurd r
    by (Primary epoch active) (Some l) is r h =
        let number = sym a.id in
        primary_rests o l is (r.active ∙ h.active)
        (r.current ∙ ap (λ (n : ℕ). n ∷ []) number)
        (subst (λ (n : ℕ). (l.previous ≡ None) ⊎ (l.previous ≡ Some (n ∷ []))) number r.previous)
        (a.stable ∙ (ap (λ l. l.0) h.stable ∙ sym (last_is x o images a)))

-- ---- what is told where nothing changes

no_rise : (o : OpenReplica) → nat_lt (view_of o) (view_of o) || (model.is_active o && not (model.is_active o)) ≡ false
no_rise o = by (model.is_active o) (below (view_of o))
  where
    below : (n : ℕ) → nat_lt n n ≡ false
    below n = grind (arith, nat_tests)

    by : (b : Bool) → nat_lt (view_of o) (view_of o) ≡ false → nat_lt (view_of o) (view_of o) || (b && not b) ≡ false
    by true is = ap (λ (c : Bool). c || false) is
    by false is = ap (λ (c : Bool). c || false) is

pub quiet_is : (x : Open) (o : OpenReplica) (images : Areas → Type 0) (answer : Option Answer) → AgreesOn x o images → outcome_of answer o o ≡ quiet x answer
quiet_is x o images answer a =
    ap (λ cs. record (outcome_of answer o o) { commits = cs }) (none_new o)
    ∙ (ap (λ ts. record (outcome_of answer o o) { commits = []; acknowledged = ts }) (none_acknowledged o)
    ∙ (ap (λ (b : Bool). record (outcome_of answer o o) { commits = []; acknowledged = []; barrier_due = b }) (no_rise o)
    ∙ (ap (λ (n : ℕ). record (outcome_of answer o o) { commits = []; acknowledged = []; barrier_due = false; shown = n }) (view_is x o images a)
    ∙ ap (λ (b : Bool). record (quiet x answer) { active = b }) (active_is x o images a))))
