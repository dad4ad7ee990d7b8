-- A begin, and a commit that is asked, leave what goes on at a primary alike in the machine.
use Rattle.std.proofs.Common.{◌≡◌, ◌∙◌, ℕ, ◌+◌, ◌≤◌, true, false, Bool, cond, List, get_or, refl, sym, ap, ap₂, subst, inl, inr, Option, Some, None, is_some}
use Rattle.std.specs.Prelude.{option_map}
use Rattle.std.specs.Option.{option_map_or}
use Rattle.std.proofs.lemmas.Bool.{cases_Bool, eq-eqb, false≢true, both_ways, false_from_ne_true}
use Rattle.std.proofs.lemmas.List.{get_or-set_same}
use Rattle.rc_base.specs.declared.ids.TxnId.{TxnId}
use Rattle.rc_base.specs.Ids.{is_txn}
use Rattle.rc_base.proofs.SameIds.{is_txn-true}
use Rattle.coll_model.specs.Effect.{folded}
use Rattle.key_locks.specs.Grants.{Grant, released}
use Rattle.events.specs.declared.call.Call.{Call}
use Rattle.events.specs.declared.answer.Answer.TheVariants as answers
use Rattle.events.specs.declared.answer.Reply.{Reply}
use Rattle.events.specs.Answers.{plain, live_reply}
use Rattle.events.specs.Calls.{CallRecord}
use Rattle.txn_table.specs.Whole.{last_position}
use Rattle.events.specs.declared.call.Call.TheVariants as calls
use Rattle.replica_model.specs.declared.step.StepEvent.TheVariants as steps
use Rattle.replica_model.specs.OpenReplica.{OpenReplica, contents_of}
use Rattle.fleet_run.specs.Fronts.{FrontAgrees, BeginsKeepFronts, CommitsKeepFronts, EndsKeepFronts}
use Rattle.fleet_run.proofs.OwnCalls.{live_of, with_call, live_own, live_other, noted_machine, GoesAlike, stable_contents, up_there}
use Rattle.std.specs.Ordering.{nat_cmp}
use Rattle.std.specs.List.Sorted.{IsStrictlySortedBy}
use Rattle.std.specs.Map.{keys_of, remove_entry}
use Rattle.std.specs.BTreeMap.{is_at}
use Rattle.txn_front.specs.Front.{begun, txn_at, numbered}
use Rattle.txn_front.proofs.Fronts.{going_of-begun, going_of-begun_other, going_of-ended_other, found_live}
use Rattle.txn_front.proofs.Entries.{look_at_removed}
use Rattle.order_machine.specs.Clients.{begun as begun_machine, new_txn, one_more_begun}
use Rattle.replica_model.specs.Records.{step_block, reply}
use Rattle.replica_model.specs.Steps.{written, with_block}
use Rattle.txn_front.specs.Front as front
use Rattle.txn_front.specs.Front.{Going, Fronted, going_of}
use Rattle.order_machine.specs.Order.{Order, state_at, empty_order}
use Rattle.order_machine.specs.Machine.{Machine, Role, Txn, Replica, replica, role_of, grants_of, live_txn, txn_of, put_txn, put_grants, is_active, never_opened}
use Rattle.order_machine.specs.Clients.{answered_at, noted, begun_by}
use Rattle.order_machine.specs.Transitions.{asking}
use Rattle.fleet_run.proofs.Acknowledged.{self_txn}
use Rattle.fleet_run.proofs.Looking.{some_same}

flip : (t u : TxnId) → is_txn t u ≡ false → is_txn u t ≡ false
flip t u other = false_from_ne_true (is_txn u t) (λ same. both_ways (is_txn t u) other (subst (λ (v : TxnId). is_txn t v ≡ true) (sym (is_txn-true u t same)) (self_txn t)))

-- ---- a begin

module _ (m : Machine) (r : ℕ) (o : OpenReplica) (told : Reply) (is : FrontAgrees m r o) (within : o.stable ≤ last_position o.disk) (answered : reply o calls.Begin ≡ Some told) where
  abbrev new : TxnId
  new = txn_at o.front (o.front.begins + 1)

  told_is : told ≡ plain (answers.Txn (txn_at o.front (o.front.begins + 1)))
  told_is = sym (some_same (plain (answers.Txn new)) told (sym (ap (λ (b : Bool). cond b (Some (plain (answers.Txn new))) (Some (plain (answers.NotActive o.id)))) is.active) ∙ answered))

  abbrev after_begin : Machine
  after_begin = begun_machine m r (txn_at o.front (o.front.begins + 1))

  machine_is : answered_at (asking m r calls.Begin) r calls.Begin told ≡ begun_machine m r (txn_at o.front (o.front.begins + 1))
  machine_is = ap (λ (x : Reply). begun_by m r x.answer) told_is

  replica_now : replica (begun_machine m r (txn_at o.front (o.front.begins + 1))) r ≡ record (replica m r) { role = option_map one_more_begun (role_of m r) }
  replica_now = get_or-set_same m.replicas r _ never_opened (up_there m r is.up)

  new_live : live_txn (begun_machine m r (txn_at o.front (o.front.begins + 1))) r (txn_at o.front (o.front.begins + 1)) ≡ Some (new_txn m r)
  new_live =
      ap (λ (b : Bool). live_of r (cond b (Some (new_txn m r)) (txn_of m new))) (self_txn new)
      ∙ ap (λ (b : Bool). cond b (Some (new_txn m r)) None) (eq-eqb r r refl)

  going_now : (u : TxnId) → GoesAlike (going_of (begun o.front) u) (live_txn (begun_machine m r (txn_at o.front (o.front.begins + 1))) r u)
  going_now u = elim (cases_Bool (is_txn new u)) [
    | inl own ↦ subst (λ (v : TxnId). GoesAlike (going_of (begun o.front) v) (live_txn after_begin r v)) (is_txn-true new u own)
        (subst (λ (z : Option Going). GoesAlike z (live_txn after_begin r new)) (sym (going_of-begun o.front)) (new_txn m r, new_live, refl))
    | inr other ↦
        let live : live_txn after_begin r u ≡ live_txn m r u = ap (λ (b : Bool). live_of r (cond b (Some (new_txn m r)) (txn_of m u))) (flip new u other) in
        subst (λ (y : Option Txn). GoesAlike (going_of (begun o.front) u) y) (sym live) (subst (λ (z : Option Going). GoesAlike z (live_txn m r u)) (sym (going_of-begun_other o.front u other)) (is.going u))
  ]

  begin_call : FrontAgrees (answered_at (asking m r calls.Begin) r calls.Begin told) r (written o (steps.Client calls.Begin))
  begin_call =
      let x : OpenReplica = record (with_block o (steps.Client calls.Begin)) { front = begun o.front } in
      let behind : written o (steps.Client calls.Begin) ≡ x = ap (λ (b : Bool). cond b x o) is.active in
      subst (λ (y : OpenReplica). FrontAgrees (answered_at (asking m r calls.Begin) r calls.Begin told) r y) (sym behind) (subst (λ (z : Machine). FrontAgrees z r x) (sym machine_is) (record {
        number = is.number;
        up = ap (λ (y : Replica). y.up) replica_now ∙ is.up;
        active = is.active;
        role = (
          one_more_begun is.role.0,
          ap (λ (y : Replica). y.role) replica_now ∙ ap (option_map one_more_begun) is.role.1,
          is.role.2,
          is.role.3,
          ap (λ (k : ℕ). k + 1) is.role.4,
        );
        contents =
            stable_contents (step_block o (steps.Client calls.Begin)) o.disk o.stable within ∙ is.contents
            ∙ sym (ap (λ (y : Replica). state_at (get_or m.orders y.loss empty_order) y.show) replica_now);
        grants = is.grants ∙ sym (ap (λ (y : Replica). y.grants) replica_now);
        going = going_now;
      }))

pub begins_keep_fronts : BeginsKeepFronts
begins_keep_fronts m r o told is within answered = begin_call m r o told is within answered

-- ---- a commit

module _ (m : Machine) (r : ℕ) (o : OpenReplica) (t : TxnId) (is : FrontAgrees m r o) (rising : IsStrictlySortedBy nat_cmp (keys_of o.front.live)) (within : o.stable ≤ last_position o.disk) (answered : reply o (calls.Commit t) ≡ None) where
  -- it goes on, since else the call would be answered
  goes : (going : Option Going) → going_of o.front t ≡ going → (g : Going) × (going_of o.front t ≡ Some g)
  goes (Some g) some = (g, some)
  goes None none =
      let told : Some (plain (answers.Ended t)) ≡ None =
      sym (ap (λ (b : Bool). cond b (front.told o.front (contents_of o) (calls.Commit t)) (Some (plain (answers.NotActive o.id)))) is.active
      ∙ ap (λ (x : Option Going). option_map_or (λ (going : Going). live_reply o.front.grants (folded (contents_of o) going.ops) t (calls.Commit t)) x (Some (plain (answers.Ended t)))) none) ∙ answered in
      absurd (false≢true (sym (ap is_some told)))

  active_machine : is_active m r ≡ true
  active_machine = ap (λ (x : Option Role). option_map_or (λ role. role.active) x false) is.role.1 ∙ is.role.2

  module _ (g : Going) (some : going_of o.front t ≡ Some g) (x : Txn) (known : live_txn m r t ≡ Some x) where
    abbrev ended : Txn
    ended = record x { live = false; asked = true }

    machine_asked : asking m r (calls.Commit t) ≡ put_txn m t (record x { live = false; asked = true })
    machine_asked =
        ap (λ (b : Bool). option_map_or (λ (x : Txn). put_txn m t (record x { live = false; asked = true })) (cond b (live_txn m r t) None) m) active_machine
        ∙ ap (λ (y : Option Txn). option_map_or (λ (x : Txn). put_txn m t (record x { live = false; asked = true })) y m) known

    abbrev done_front : Fronted
    done_front = record o.front { live = remove_entry (is_at (nat_cmp t.n)) o.front.live }

    front_done : front.done o.front t ≡ record o.front { live = remove_entry (is_at (nat_cmp t.n)) o.front.live }
    front_done = ap (λ (y : Option Going). option_map_or (λ (going : Going). let f : Fronted = record o.front { live = remove_entry (is_at (nat_cmp t.n)) o.front.live } in f) y o.front) some

    gone : going_of (record o.front { live = remove_entry (is_at (nat_cmp t.n)) o.front.live }) t ≡ None
    gone = ap (λ (b : Bool). cond b (numbered t.n (remove_entry (is_at (nat_cmp t.n)) o.front.live)) None) (found_live o.front t g some).0 ∙ look_at_removed t.n o.front.live rising

    beside : (u : TxnId) → is_txn t u ≡ false → going_of (record o.front { live = remove_entry (is_at (nat_cmp t.n)) o.front.live }) u ≡ going_of o.front u
    beside u other =
        ap (λ (f : Fronted). going_of f u) (sym (ap (λ (y : Option Going). option_map_or (λ (going : Going). let f : Fronted = record o.front { live = remove_entry (is_at (nat_cmp t.n)) o.front.live; grants = released o.front.grants t } in f) y o.front) some))
        ∙ going_of-ended_other o.front t u other

    going_done : (u : TxnId) → GoesAlike (going_of (record o.front { live = remove_entry (is_at (nat_cmp t.n)) o.front.live }) u) (live_txn (put_txn m t (record x { live = false; asked = true })) r u)
    going_done u = elim (cases_Bool (is_txn t u)) [
      | inl own ↦ subst (λ (v : TxnId). GoesAlike (going_of done_front v) (live_txn (put_txn m t ended) r v)) (is_txn-true t u own)
          (subst (λ (z : Option Going). GoesAlike z (live_txn (put_txn m t ended) r t)) (sym gone) (ap (λ (b : Bool). live_of r (cond b (Some ended) (txn_of m t))) (self_txn t)))
      | inr other ↦
          let live : live_txn (put_txn m t ended) r u ≡ live_txn m r u = ap (λ (b : Bool). live_of r (cond b (Some ended) (txn_of m u))) (flip t u other) in
          subst (λ (y : Option Txn). GoesAlike (going_of done_front u) y) (sym live) (subst (λ (z : Option Going). GoesAlike z (live_txn m r u)) (sym (beside u other)) (is.going u))
    ]

    commit_asked : FrontAgrees (asking m r (calls.Commit t)) r (written o (steps.Client (calls.Commit t)))
    commit_asked =
        let y : OpenReplica = record (with_block o (steps.Client (calls.Commit t))) { front = done_front } in
        let behind : written o (steps.Client (calls.Commit t)) ≡ y =
        ap (λ (b : Bool). cond b (record (with_block o (steps.Client (calls.Commit t))) { front = front.done o.front t }) o) is.active
        ∙ ap (λ (f : Fronted). let z : OpenReplica = record (with_block o (steps.Client (calls.Commit t))) { front = f } in z) front_done in
        subst (λ (z : OpenReplica). FrontAgrees (asking m r (calls.Commit t)) r z) (sym behind) (subst (λ (z : Machine). FrontAgrees z r y) (sym machine_asked) (record {
          number = is.number;
          up = is.up;
          active = is.active;
          role = is.role;
          contents = stable_contents (step_block o (steps.Client (calls.Commit t))) o.disk o.stable within ∙ is.contents;
          grants = is.grants;
          going = going_done;
        }))

  commit_goes : FrontAgrees (asking m r (calls.Commit t)) r (written o (steps.Client (calls.Commit t)))
  commit_goes =
      let g = goes (going_of o.front t) refl in
      let x = subst (λ (z : Option Going). GoesAlike z (live_txn m r t)) g.1 (is.going t) in
      commit_asked g.0 g.1 x.0 x.1

pub commits_keep_fronts : CommitsKeepFronts
commits_keep_fronts m r o t is rising within answered = commit_goes m r o t is rising within answered

-- ---- calls of a transaction that has ended, and aborts

module _ (m : Machine) (r : ℕ) (o : OpenReplica) (t : TxnId) (is : FrontAgrees m r o) (rising : IsStrictlySortedBy nat_cmp (keys_of o.front.live)) (within : o.stable ≤ last_position o.disk) where
  -- a call of a transaction that doesn't go on is noted, and changes nothing else
  noted_call : (c : CallRecord) (call : Call) → going_of o.front t ≡ None → FrontAgrees (noted m t c) r (with_block o (steps.Client call))
  noted_call c call none =
      let kept = noted_machine m t c (txn_of m t) in
      let at : replica (noted m t c) r ≡ replica m r = ap (λ (rs : List Replica). get_or rs r never_opened) kept.0 in
      let ended_live : live_txn m r t ≡ None = subst (λ (z : Option Going). GoesAlike z (live_txn m r t)) none (is.going t) in
      record {
        number = is.number;
        up = ap (λ (y : Replica). y.up) at ∙ is.up;
        active = is.active;
        role = (is.role.0, ap (λ (y : Replica). y.role) at ∙ is.role.1, is.role.2, is.role.3, is.role.4);
        contents = stable_contents (step_block o (steps.Client call)) o.disk o.stable within ∙ is.contents ∙ sym (ap₂ (λ (os : List Order) (y : Replica). state_at (get_or os y.loss empty_order) y.show) kept.1 at);
        grants = is.grants ∙ sym (ap (λ (y : Replica). y.grants) at);
        going = λ u. elim (cases_Bool (is_txn t u)) [
          | inl own ↦ subst (λ (v : TxnId). GoesAlike (going_of o.front v) (live_txn (noted m t c) r v)) (is_txn-true t u own)
              (subst (λ (z : Option Going). GoesAlike z (live_txn (noted m t c) r t)) (sym none) (live_own m r t c ∙ ap (option_map (with_call c)) ended_live))
          | inr other ↦ subst (λ (y : Option Txn). GoesAlike (going_of o.front u) y) (sym (live_other m r t c u (flip t u other))) (is.going u)
        ];
      }

  machine_active : is_active m r ≡ true
  machine_active = ap (λ (x : Option Role). option_map_or (λ role. role.active) x false) is.role.1 ∙ is.role.2

  commit_ended : (told : Reply) → going_of o.front t ≡ None → FrontAgrees (answered_at (asking m r (calls.Commit t)) r (calls.Commit t) told) r (written o (steps.Client (calls.Commit t)))
  commit_ended told none =
      let live : live_txn m r t ≡ None = subst (λ (z : Option Going). GoesAlike z (live_txn m r t)) none (is.going t) in
      let asks : asking m r (calls.Commit t) ≡ m =
      ap (λ (b : Bool). option_map_or (λ (x : Txn). put_txn m t (record x { live = false; asked = true })) (cond b (live_txn m r t) None) m) machine_active
      ∙ ap (λ (y : Option Txn). option_map_or (λ (x : Txn). put_txn m t (record x { live = false; asked = true })) y m) live in
      let front_same : front.done o.front t ≡ o.front = ap (λ (y : Option Going). option_map_or (λ (going : Going). let f : Fronted = record o.front { live = remove_entry (is_at (nat_cmp t.n)) o.front.live } in f) y o.front) none in
      let behind : written o (steps.Client (calls.Commit t)) ≡ with_block o (steps.Client (calls.Commit t)) =
      ap (λ (b : Bool). cond b (record (with_block o (steps.Client (calls.Commit t))) { front = front.done o.front t }) o) is.active
      ∙ ap (λ (f : Fronted). let z : OpenReplica = record (with_block o (steps.Client (calls.Commit t))) { front = f } in z) front_same in
      let c : CallRecord = record { call = calls.Commit t; answer = told.answer; op = told.op } in
      subst (λ (z : OpenReplica). FrontAgrees (answered_at (asking m r (calls.Commit t)) r (calls.Commit t) told) r z) (sym behind)
      (subst (λ (k : Machine). FrontAgrees (noted k t c) r (with_block o (steps.Client (calls.Commit t)))) (sym asks) (noted_call c (calls.Commit t) none))

  abort_ended : (told : Reply) → going_of o.front t ≡ None → FrontAgrees (answered_at (asking m r (calls.Abort t)) r (calls.Abort t) told) r (written o (steps.Client (calls.Abort t)))
  abort_ended told none =
      let live : live_txn m r t ≡ None = subst (λ (z : Option Going). GoesAlike z (live_txn m r t)) none (is.going t) in
      let asks : asking m r (calls.Abort t) ≡ m =
      ap (λ (b : Bool). option_map_or (λ (x : Txn). put_txn (put_grants m r (released (grants_of m r) t)) t (record x { live = false })) (cond b (live_txn m r t) None) m) machine_active
      ∙ ap (λ (y : Option Txn). option_map_or (λ (x : Txn). put_txn (put_grants m r (released (grants_of m r) t)) t (record x { live = false })) y m) live in
      let front_same : front.ended o.front t ≡ o.front = ap (λ (y : Option Going). option_map_or (λ (going : Going). let f : Fronted = record o.front { live = remove_entry (is_at (nat_cmp t.n)) o.front.live; grants = released o.front.grants t } in f) y o.front) none in
      let behind : written o (steps.Client (calls.Abort t)) ≡ with_block o (steps.Client (calls.Abort t)) =
      ap (λ (b : Bool). cond b (record (with_block o (steps.Client (calls.Abort t))) { front = front.ended o.front t }) o) is.active
      ∙ ap (λ (f : Fronted). let z : OpenReplica = record (with_block o (steps.Client (calls.Abort t))) { front = f } in z) front_same in
      let c : CallRecord = record { call = calls.Abort t; answer = told.answer; op = told.op } in
      subst (λ (z : OpenReplica). FrontAgrees (answered_at (asking m r (calls.Abort t)) r (calls.Abort t) told) r z) (sym behind)
      (subst (λ (k : Machine). FrontAgrees (noted k t c) r (with_block o (steps.Client (calls.Abort t)))) (sym asks) (noted_call c (calls.Abort t) none))

  -- an abort of a transaction that goes on ends it, and lets its locks go
  abort_live : (told : Reply) (g : Going) → going_of o.front t ≡ Some g → (x : Txn) → live_txn m r t ≡ Some x → FrontAgrees (answered_at (asking m r (calls.Abort t)) r (calls.Abort t) told) r (written o (steps.Client (calls.Abort t)))
  abort_live told g some x known =
      let gs = released (grants_of m r) t in
      let over : Txn = record x { live = false } in
      let k : Machine = put_txn (put_grants m r gs) t over in
      let c : CallRecord = record { call = calls.Abort t; answer = told.answer; op = told.op } in
      let f1 : Fronted = record o.front { live = remove_entry (is_at (nat_cmp t.n)) o.front.live; grants = released o.front.grants t } in
      let asks : asking m r (calls.Abort t) ≡ k =
      ap (λ (b : Bool). option_map_or (λ (x : Txn). put_txn (put_grants m r (released (grants_of m r) t)) t (record x { live = false })) (cond b (live_txn m r t) None) m) machine_active
      ∙ ap (λ (y : Option Txn). option_map_or (λ (x : Txn). put_txn (put_grants m r (released (grants_of m r) t)) t (record x { live = false })) y m) known in
      let front_now : front.ended o.front t ≡ f1 = ap (λ (y : Option Going). option_map_or (λ (going : Going). let f : Fronted = record o.front { live = remove_entry (is_at (nat_cmp t.n)) o.front.live; grants = released o.front.grants t } in f) y o.front) some in
      let y : OpenReplica = record (with_block o (steps.Client (calls.Abort t))) { front = f1 } in
      let behind : written o (steps.Client (calls.Abort t)) ≡ y =
      ap (λ (b : Bool). cond b (record (with_block o (steps.Client (calls.Abort t))) { front = front.ended o.front t }) o) is.active
      ∙ ap (λ (f : Fronted). let z : OpenReplica = record (with_block o (steps.Client (calls.Abort t))) { front = f } in z) front_now in
      let kept = noted_machine k t c (txn_of k t) in
      let at : replica (noted k t c) r ≡ record (replica m r) { grants = gs } = ap (λ (rs : List Replica). get_or rs r never_opened) kept.0 ∙ get_or-set_same m.replicas r _ never_opened (up_there m r is.up) in
      let own_live : live_txn k r t ≡ None = ap (λ (b : Bool). live_of r (cond b (Some over) (txn_of m t))) (self_txn t) in
      let own_gone : going_of f1 t ≡ None = ap (λ (b : Bool). cond b (numbered t.n (remove_entry (is_at (nat_cmp t.n)) o.front.live)) None) (found_live o.front t g some).0 ∙ look_at_removed t.n o.front.live rising in
      let going : (u : TxnId) → GoesAlike (going_of f1 u) (live_txn (noted k t c) r u) = λ u. elim (cases_Bool (is_txn t u)) [
        | inl own ↦ subst (λ (v : TxnId). GoesAlike (going_of f1 v) (live_txn (noted k t c) r v)) (is_txn-true t u own)
            (subst (λ (z : Option Going). GoesAlike z (live_txn (noted k t c) r t)) (sym own_gone) (live_own k r t c ∙ ap (option_map (with_call c)) own_live))
        | inr other ↦
            let live : live_txn (noted k t c) r u ≡ live_txn m r u = live_other k r t c u (flip t u other) ∙ ap (λ (b : Bool). live_of r (cond b (Some over) (txn_of m u))) (flip t u other) in
            let same : going_of f1 u ≡ going_of o.front u = ap (λ (f : Fronted). going_of f u) (sym front_now) ∙ going_of-ended_other o.front t u other in
            subst (λ (z : Option Txn). GoesAlike (going_of f1 u) z) (sym live) (subst (λ (z : Option Going). GoesAlike z (live_txn m r u)) (sym same) (is.going u))
      ] in
      subst (λ (z : OpenReplica). FrontAgrees (answered_at (asking m r (calls.Abort t)) r (calls.Abort t) told) r z) (sym behind) (subst (λ (z : Machine). FrontAgrees (noted z t c) r y) (sym asks) (record {
        number = is.number;
        up = ap (λ (z : Replica). z.up) at ∙ is.up;
        active = is.active;
        role = (is.role.0, ap (λ (z : Replica). z.role) at ∙ is.role.1, is.role.2, is.role.3, is.role.4);
        contents = stable_contents (step_block o (steps.Client (calls.Abort t))) o.disk o.stable within ∙ is.contents ∙ sym (ap₂ (λ (os : List Order) (z : Replica). state_at (get_or os z.loss empty_order) z.show) kept.1 at);
        grants = ap (λ (gs : List Grant). released gs t) is.grants ∙ sym (ap (λ (z : Replica). z.grants) at);
        going = going;
      }))

  abort_call : (told : Reply) (going : Option Going) → going_of o.front t ≡ going → FrontAgrees (answered_at (asking m r (calls.Abort t)) r (calls.Abort t) told) r (written o (steps.Client (calls.Abort t)))
  abort_call told None none = abort_ended told none
  abort_call told (Some g) some = let x = subst (λ (z : Option Going). GoesAlike z (live_txn m r t)) some (is.going t) in abort_live told g some x.0 x.1

  -- the commit of one that goes on has no answer
  commit_call : (told : Reply) (going : Option Going) → going_of o.front t ≡ going → reply o (calls.Commit t) ≡ Some told → FrontAgrees (answered_at (asking m r (calls.Commit t)) r (calls.Commit t) told) r (written o (steps.Client (calls.Commit t)))
  commit_call told None none answered = commit_ended told none
  commit_call told (Some g) some answered =
      let nothing_told : reply o (calls.Commit t) ≡ None =
      ap (λ (b : Bool). cond b (front.told o.front (contents_of o) (calls.Commit t)) (Some (plain (answers.NotActive o.id)))) is.active
      ∙ ap (λ (x : Option Going). option_map_or (λ (going : Going). live_reply o.front.grants (folded (contents_of o) going.ops) t (calls.Commit t)) x (Some (plain (answers.Ended t)))) some in
      absurd (false≢true (ap is_some (sym nothing_told ∙ answered)))

pub ends_keep_fronts : EndsKeepFronts
ends_keep_fronts m r o t told is rising within = (λ answered. abort_call m r o t is rising within told (going_of o.front t) refl, λ answered. commit_call m r o t is rising within told (going_of o.front t) refl answered)
