-- A call on a collection leaves what goes on at a primary alike in the machine.
use Rattle.std.proofs.Common.{◌≡◌, ◌∙◌, ℕ, zero, suc, ◌+◌, ◌-◌, ◌<◌, ◌≤◌, true, false, Bool, cond, List, [], ◌∷◌, ◌++◌, length, take, get_or, refl, sym, ap, ap₂, subst, inl, inr, arith, Option, Some, None}
use Rattle.std.specs.Prelude.{MatchOption, option_map, option_and_then, ◌&&◌, ◌==◌}
use Rattle.std.specs.Option.{option_map_or}
use Rattle.std.specs.List.{filter_map}
use Rattle.std.proofs.lemmas.Bool.{cases_Bool, cases_lt, false≢true, both_ways, false_from_ne_true}
use Rattle.std.proofs.lemmas.List.{append-nil, append_assoc, take-append-le, get_or-set_same, get_or_past}
use Rattle.std.proofs.lemmas.List.Elements.{filter_map-append}
use Rattle.rc_base.specs.declared.ids.Lsn.{Lsn}
use Rattle.rc_base.specs.declared.ids.TxnId.{TxnId}
use Rattle.rc_base.specs.Ids.{is_txn}
use Rattle.rc_base.proofs.SameIds.{is_txn-true}
use Rattle.coll_model.specs.Effect.{State, folded}
use Rattle.coll_model.specs.declared.op.Op.{Op}
use Rattle.key_locks.specs.Grants.{Grant}
use Rattle.events.specs.declared.call.Call.{Call}
use Rattle.events.specs.declared.answer.Answer.TheVariants as answers
use Rattle.events.specs.declared.answer.Reply.{Reply}
use Rattle.events.specs.Answers.{plain, live_reply}
use Rattle.events.specs.Calls.{CallRecord, txn_named, ops_in}
use Rattle.events.specs.Locking.{locks_at, taken}
use Rattle.txn_table.specs.Log.{Items, commits_from}
use Rattle.txn_table.specs.Held.{contents_after}
use Rattle.txn_table.specs.declared.base.Base.{Base}
use Rattle.txn_table.specs.Whole.{Whole, contents_to, last_position}
use Rattle.log_records.specs.declared.record.Physical.{Physical}
use Rattle.log_records.specs.declared.record.Physical.TheVariants as physicals
use Rattle.std.specs.Map.{lookup}
use Rattle.events.specs.declared.call.Call.TheVariants as calls
use Rattle.replica_model.specs.declared.step.StepEvent.TheVariants as steps
use Rattle.replica_model.specs.OpenReplica.{OpenReplica, contents_of, last_lsn}
use Rattle.fleet_run.specs.Fronts.{FrontAgrees, CollectionCallsKeepFronts, is_on_collection}
use Rattle.replica_model.specs.Records.{appended, with_record, step_block, logged_by, reply}
use Rattle.replica_model.specs.Steps.{noted as step_noted, written, with_block, front_behind}
use Rattle.txn_front.specs.Front as front
use Rattle.txn_front.specs.Front.{Going, Fronted, going_of}
use Rattle.txn_front.specs.Index.{noted as front_noted}
use Rattle.txn_front.proofs.Fronts.{going_of-called, going_of-called_other, going_of-logged, going_of-logged_other, called_live, called_ended}
use Rattle.order_machine.specs.Order.{Order, state_at, empty_order}
use Rattle.order_machine.specs.Machine.{Machine, Role, Txn, Replica, replica, grants_of, live_txn, txn_of, put_txn, put_grants, ops_of, is_active, never_opened}
use Rattle.order_machine.specs.Clients.{answered_at, noted, seen, begun_by}
use Rattle.order_machine.specs.Transitions.{asking, asking_locks}
use Rattle.fleet_run.proofs.Acknowledged.{self_txn}

-- the transaction, if it goes on at r
abbrev pub live_of : ℕ → Option Txn → Option Txn
live_of r y = cond (option_map_or (λ x. x.live && (x.home == r)) y false) y None

-- with one more call
abbrev pub with_call : CallRecord → Txn → Txn
with_call c x = record x { calls = x.calls ++ c ∷ [] }

live_step : (r : ℕ) (c : CallRecord) (x : Txn) (b : Bool) → cond b (Some (with_call c x)) None ≡ option_map (with_call c) (cond b (Some x) None)
live_step r c x true = refl
live_step r c x false = refl

live_called : (r : ℕ) (c : CallRecord) (y : Option Txn) → live_of r (option_map (with_call c) y) ≡ option_map (with_call c) (live_of r y)
live_called r c None = refl
live_called r c (Some x) = live_step r c x (x.live && (x.home == r))

module _ (m : Machine) (r : ℕ) (t : TxnId) (c : CallRecord) where
  noted_own : (y : Option Txn) → txn_of m t ≡ y → txn_of (option_map_or (λ x. put_txn m t (with_call c x)) y m) t ≡ option_map (with_call c) (txn_of m t)
  noted_own None known = known ∙ ap (option_map (with_call c)) (sym known)
  noted_own (Some x) known = ap (λ (b : Bool). cond b (Some (with_call c x)) (txn_of m t)) (self_txn t) ∙ ap (option_map (with_call c)) (sym known)

  noted_other : (u : TxnId) (y : Option Txn) → is_txn u t ≡ false → txn_of (option_map_or (λ x. put_txn m t (with_call c x)) y m) u ≡ txn_of m u
  noted_other u None apart = refl
  noted_other u (Some x) apart = ap (λ (b : Bool). cond b (Some (with_call c x)) (txn_of m u)) apart

  -- the transaction has one more call, and the others are as they were
  pub live_own : live_txn (noted m t c) r t ≡ option_map (with_call c) (live_txn m r t)
  live_own = ap (live_of r) (noted_own (txn_of m t) refl) ∙ live_called r c (txn_of m t)

  pub live_other : (u : TxnId) → is_txn u t ≡ false → live_txn (noted m t c) r u ≡ live_txn m r u
  live_other u apart = ap (live_of r) (noted_other u (txn_of m t) apart)

-- ---- the disk

-- a block lengthens the log
appended_grows : (items : List Physical) (w : Whole) → ((appended w items).start ≡ w.start) × ((more : Items) × ((appended w items).log ≡ w.log ++ more))
appended_grows [] w = (refl, ([], sym (append-nil w.log)))
appended_grows (physicals.Fence epoch ∷ items) w = appended_grows items (with_record w (physicals.Fence epoch))
appended_grows (physicals.Logical lsn epoch body ∷ items) w =
    let rest = appended_grows items (with_record w (physicals.Logical lsn epoch body)) in
    (rest.0, ((epoch, body) ∷ rest.1.0, rest.1.1 ∙ append_assoc w.log ((epoch, body) ∷ []) rest.1.0))
appended_grows (physicals.TruncateTail lsn ∷ items) w = appended_grows items w
appended_grows (physicals.CheckpointDone slot at len ∷ items) w = appended_grows items w
appended_grows (physicals.Reset slot at len ∷ items) w = appended_grows items w
appended_grows (physicals.Head generation partition ∷ items) w = appended_grows items w

-- and leaves what was stable
pub stable_contents : (items : List Physical) (w : Whole) (s : ℕ) → s ≤ last_position w → contents_to (appended w items) s ≡ contents_to w s
stable_contents items w s within =
    let g = appended_grows items w in
    let k = s - w.start.at.0 in
    let low : k ≤ length w.log = omega (arith, within) in
    ap₂ (λ (b : Base) (log : Items). contents_after b.contents (commits_from b (take (s - b.at.0) log))) g.0 g.1.1
    ∙ ap (λ (log : Items). contents_after w.start.contents (commits_from w.start log)) (take-append-le k w.log g.1.0 low)

-- ---- the front

-- what goes on is the same, whatever the last record is
abbrev pub GoesAlike : Option Going → Option Txn → Type 0
GoesAlike going live = MatchOption going (live ≡ None) (λ going. (x : Txn) × (live ≡ Some x) × (going.ops ≡ ops_of x))

pub last_alike : (lsn : Lsn) (going : Option Going) (live : Option Txn) → GoesAlike going live → GoesAlike (option_map (λ (g : Going). let h : Going = record g { last = lsn } in h) going) live
last_alike lsn None live is = is
last_alike lsn (Some g) live is = is

-- the same epoch, begins and locks
record SameFront (f g : Fronted) : Type 0 where
  epoch : g.epoch ≡ f.epoch
  begins : g.begins ≡ f.begins
  grants : g.grants ≡ f.grants

logged_front : (f : Fronted) (t : TxnId) (lsn : Lsn) (going : Option Going) → SameFront f (option_map_or (λ g. front.with_going t.n (record g { last = lsn }) f) going f)
logged_front f t lsn None = record { epoch = refl; begins = refl; grants = refl }
logged_front f t lsn (Some g) = record { epoch = refl; begins = refl; grants = refl }

operated_front : (f : Fronted) (n : ℕ) (g : Going) (op : Option Op) → SameFront f (front.operated n g op f)
operated_front f n g None = record { epoch = refl; begins = refl; grants = refl }
operated_front f n g (Some op) = record { epoch = refl; begins = refl; grants = refl }

-- the last record of a call is noted, or there was none
noted_alike : (count : ℕ) (call : Call) (lsn : Lsn) (f : Fronted) (t : TxnId) (live : TxnId → Option Txn) → txn_named call ≡ Some t → ((u : TxnId) → GoesAlike (going_of f u) (live u))
    → SameFront f (step_noted count call lsn f) × ((u : TxnId) → GoesAlike (going_of (step_noted count call lsn f) u) (live u))
noted_alike zero call lsn f t live named is = (record { epoch = refl; begins = refl; grants = refl }, is)
noted_alike (suc n) call lsn f t live named is =
    let same : option_map_or (λ (u : TxnId). front.logged f u lsn) (txn_named call) f ≡ front.logged f t lsn = ap (λ (x : Option TxnId). option_map_or (λ (u : TxnId). front.logged f u lsn) x f) named in (
      subst (λ (g : Fronted). SameFront f g) (sym same) (logged_front f t lsn (going_of f t)),
      λ u. subst (λ (g : Fronted). GoesAlike (going_of g u) (live u)) (sym same) (elim (cases_Bool (is_txn t u)) [
        | inl own ↦ subst (λ (v : TxnId). GoesAlike (going_of (front.logged f t lsn) v) (live v)) (is_txn-true t u own)
            (subst (λ (z : Option Going). GoesAlike z (live t)) (sym (going_of-logged f t lsn)) (last_alike lsn (going_of f t) (live t) (is t)))
        | inr other ↦ subst (λ (z : Option Going). GoesAlike z (live u)) (sym (going_of-logged_other f t lsn u other)) (is u)
      ]),
    )

-- the operation of a call, if it logged one
one_op : Option Op → List Op
one_op None = []
one_op (Some op) = op ∷ []

one_of : (c : CallRecord) (o : Option Op) → c.op ≡ o → filter_map (λ (k : CallRecord). k.op) (c ∷ []) ≡ one_op o
unfolding one_op
one_of c None none = rw (none) refl
one_of c (Some op) some = rw (some) refl

-- one more operation, or none
op_alike : (g : Going) (x : Txn) (c : CallRecord) (op : Option Op) → c.op ≡ op → g.ops ≡ ops_of x → (front_noted g op).ops ≡ ops_of (with_call c x)
unfolding one_op
op_alike g x c None none same = same ∙ sym (filter_map-append (λ (k : CallRecord). k.op) x.calls (c ∷ []) ∙ ap (λ (ops : List Op). filter_map (λ (k : CallRecord). k.op) x.calls ++ ops) (one_of c None none) ∙ append-nil (ops_in x.calls))
op_alike g x c (Some op) some same = ap (λ (ops : List Op). ops ++ op ∷ []) same ∙ sym (filter_map-append (λ (k : CallRecord). k.op) x.calls (c ∷ []) ∙ ap (λ (ops : List Op). filter_map (λ (k : CallRecord). k.op) x.calls ++ ops) (one_of c (Some op) some))

called_alike : (going : Option Going) (live : Option Txn) (c : CallRecord) → GoesAlike going live → GoesAlike (option_map (λ (g : Going). front_noted g c.op) going) (option_map (with_call c) live)
called_alike None live c is = ap (option_map (with_call c)) is
called_alike (Some g) live c is = (with_call c is.0, ap (option_map (with_call c)) is.1, op_alike g is.0 c c.op refl is.2)

-- ---- the machine

-- a replica with other locks
abbrev locked_replica : Machine → ℕ → List Grant → Replica
locked_replica m r gs = record (replica m r) { grants = gs }

-- what the machine is behind the locks of a call
record IsLocked (m n : Machine) (r : ℕ) (gs : List Grant) : Type 0 where
  txns : n.txns ≡ m.txns
  orders : n.orders ≡ m.orders
  at : replica n r ≡ record (replica m r) { grants = gs }

-- a replica that is up is there
pub up_there : (m : Machine) (r : ℕ) → (replica m r).up ≡ true → r < length m.replicas
up_there m r up = elim (cases_lt r (length m.replicas)) [
  | inl lt ↦ lt
  | inr past ↦ absurd (false≢true (sym (ap (λ (x : Replica). x.up) (get_or_past m.replicas r never_opened past)) ∙ up))
]

-- what noting a call leaves
pub noted_machine : (m : Machine) (t : TxnId) (c : CallRecord) (y : Option Txn) → ((option_map_or (λ x. put_txn m t (with_call c x)) y m).replicas ≡ m.replicas) × ((option_map_or (λ x. put_txn m t (with_call c x)) y m).orders ≡ m.orders)
noted_machine m t c None = (refl, refl)
noted_machine m t c (Some x) = (refl, refl)

module _ (m : Machine) (r : ℕ) (o : OpenReplica) (call : Call) (told : Reply) (t : TxnId) (is : FrontAgrees m r o) (named : txn_named call ≡ Some t) (within : o.stable ≤ last_position o.disk) (answered : reply o call ≡ Some told) (is_asking : asking m r call ≡ option_map_or (λ (t : TxnId). asking_locks m r t call) (txn_named call) m) (is_front : front_behind o call ≡ step_noted (length (logged_by o call)) call (record { 0 = (last_lsn o).0 + length (logged_by o call) }) (front.called o.front (contents_of o) call)) where
  abbrev c : CallRecord
  c = record { call = call; answer = told.answer; op = told.op }

  told_is : front.told o.front (contents_of o) call ≡ Some told
  told_is = sym (ap (λ (b : Bool). cond b (front.told o.front (contents_of o) call) (Some (plain (answers.NotActive o.id)))) is.active) ∙ answered

  abbrev called_front : Fronted
  called_front = front.called o.front (contents_of o) call

  active_machine : is_active m r ≡ true
  active_machine = ap (λ (x : Option Role). option_map_or (λ role. role.active) x false) is.role.1 ∙ is.role.2

  asking_is : asking m r call ≡ option_map_or (λ (x : Txn). put_grants m r (taken (grants_of m r) t (locks_at (seen m r x) call))) (live_txn m r t) m
  asking_is =
      is_asking ∙ ap (λ (x : Option TxnId). option_map_or (λ (t : TxnId). asking_locks m r t call) x m) named
      ∙ ap (λ (b : Bool). option_map_or (λ (x : Txn). put_grants m r (taken (grants_of m r) t (locks_at (seen m r x) call))) (cond b (live_txn m r t) None) m) active_machine

  -- the locks are the same in both
  locked : (going : Option Going) → going_of o.front t ≡ going → GoesAlike going (live_txn m r t) → (gs : List Grant) × IsLocked m (asking m r call) r gs × (called_front.grants ≡ gs) × (called_front.epoch ≡ o.front.epoch) × (called_front.begins ≡ o.front.begins)
  locked None none at =
      let same : asking m r call ≡ m = asking_is ∙ ap (λ (x : Option Txn). option_map_or (λ (x : Txn). put_grants m r (taken (grants_of m r) t (locks_at (seen m r x) call))) x m) at in
      let front_same : called_front ≡ o.front = called_ended o.front (contents_of o) call t named none in (
        grants_of m r,
        subst (λ (n : Machine). IsLocked m n r (grants_of m r)) (sym same) (record { txns = refl; orders = refl; at = refl }),
        ap (λ (f : Fronted). f.grants) front_same ∙ is.grants,
        ap (λ (f : Fronted). f.epoch) front_same,
        ap (λ (f : Fronted). f.begins) front_same,
      )
  locked (Some g) some at =
      let gs = taken (grants_of m r) t (locks_at (seen m r at.0) call) in
      let same : asking m r call ≡ put_grants m r gs = asking_is ∙ ap (λ (x : Option Txn). option_map_or (λ (x : Txn). put_grants m r (taken (grants_of m r) t (locks_at (seen m r x) call))) x m) at.1 in
      let state : folded (contents_of o) g.ops ≡ seen m r at.0 = ap₂ (λ (s : State) (ops : List Op). folded s ops) is.contents at.2 in
      let f1 : Fronted = record o.front { grants = taken o.front.grants t (locks_at (folded (contents_of o) g.ops) call) } in
      let op = option_and_then (λ (r : Reply). r.op) (live_reply o.front.grants (folded (contents_of o) g.ops) t call) in
      let front_same : called_front ≡ front.operated t.n g op f1 = called_live o.front (contents_of o) call t g named some in
      let kept = operated_front f1 t.n g op in (
        gs,
        subst (λ (n : Machine). IsLocked m n r gs) (sym same) (record { txns = refl; orders = refl; at = get_or-set_same m.replicas r (locked_replica m r gs) never_opened (up_there m r is.up) }),
        ap (λ (f : Fronted). f.grants) front_same ∙ kept.grants ∙ ap₂ (λ (gs : List Grant) (s : State). taken gs t (locks_at s call)) is.grants state,
        ap (λ (f : Fronted). f.epoch) front_same ∙ kept.epoch,
        ap (λ (f : Fronted). f.begins) front_same ∙ kept.begins,
      )

  pub collection_call : FrontAgrees (answered_at (asking m r call) r call told) r (written o (steps.Client call))
  collection_call =
      let k = asking m r call in
      let l = locked (going_of o.front t) refl (is.going t) in
      let lock = l.1 in
      let n = answered_at k r call told in
      let noted_is : n ≡ noted k t c = ap (λ (x : Option TxnId). option_map_or (λ (t : TxnId). noted k t c) x (begun_by k r told.answer)) named in
      let kept = noted_machine k t c (txn_of k t) in
      let replica_now : replica (noted k t c) r ≡ record (replica m r) { grants = l.0 } = ap (λ (rs : List Replica). get_or rs r never_opened) kept.0 ∙ lock.at in
      let orders_now : (noted k t c).orders ≡ m.orders = kept.1 ∙ lock.orders in
      let live_k : (u : TxnId) → live_txn k r u ≡ live_txn m r u = λ u. ap (λ (ts : List (TxnId × Txn)). live_of r (lookup (is_txn u) ts)) lock.txns in
      let going_called : (u : TxnId) → GoesAlike (going_of called_front u) (live_txn (noted k t c) r u) = λ u. elim (cases_Bool (is_txn t u)) [
        | inl own ↦ subst (λ (v : TxnId). GoesAlike (going_of called_front v) (live_txn (noted k t c) r v)) (is_txn-true t u own)
            (subst (λ (y : Option Txn). GoesAlike (going_of called_front t) y) (sym (live_own k r t c ∙ ap (option_map (with_call c)) (live_k t)))
            (subst (λ (z : Option Going). GoesAlike z (option_map (with_call c) (live_txn m r t)))
            (sym (going_of-called o.front (contents_of o) call t named ∙ ap (λ (x : Option Reply). option_map (λ (g : Going). front_noted g (option_and_then (λ (r : Reply). r.op) x)) (going_of o.front t)) told_is))
            (called_alike (going_of o.front t) (live_txn m r t) c (is.going t))))
        | inr other ↦
            let other_way : is_txn u t ≡ false = false_from_ne_true (is_txn u t) (λ same. both_ways (is_txn t u) other (subst (λ (v : TxnId). is_txn t v ≡ true) (sym (is_txn-true u t same)) (self_txn t))) in
            subst (λ (y : Option Txn). GoesAlike (going_of called_front u) y) (sym (live_other k r t c u other_way ∙ live_k u)) (subst (λ (z : Option Going). GoesAlike z (live_txn m r u)) (sym (going_of-called_other o.front (contents_of o) call t u named other)) (is.going u))
      ] in
      let count = length (logged_by o call) in
      let done = noted_alike count call (record { 0 = (last_lsn o).0 + count }) called_front t (λ (u : TxnId). live_txn (noted k t c) r u) named going_called in
      let x : OpenReplica = record (with_block o (steps.Client call)) { front = step_noted count call (record { 0 = (last_lsn o).0 + count }) called_front } in
      let behind : written o (steps.Client call) ≡ x =
      ap (λ (b : Bool). cond b (record (with_block o (steps.Client call)) { front = front_behind o call }) o) is.active ∙ ap (λ (f : Fronted). let y : OpenReplica = record (with_block o (steps.Client call)) { front = f } in y) is_front in
      subst (λ (y : OpenReplica). FrontAgrees n r y) (sym behind) (subst (λ (z : Machine). FrontAgrees z r x) (sym noted_is) (record {
        number = is.number;
        up = ap (λ (y : Replica). y.up) replica_now ∙ is.up;
        active = is.active;
        role = (
          is.role.0,
          ap (λ (y : Replica). y.role) replica_now ∙ is.role.1,
          is.role.2,
          is.role.3 ∙ sym (done.0.epoch ∙ l.3),
          is.role.4 ∙ sym (done.0.begins ∙ l.4),
        );
        contents =
            stable_contents (step_block o (steps.Client call)) o.disk o.stable within ∙ is.contents
            ∙ sym (ap₂ (λ (os : List Order) (y : Replica). state_at (get_or os y.loss empty_order) y.show) orders_now replica_now);
        grants = done.0.grants ∙ l.2 ∙ sym (ap (λ (y : Replica). y.grants) replica_now);
        going = done.1;
      }))

collection_case : (m : Machine) (r : ℕ) (o : OpenReplica) (call : Call) (told : Reply) → FrontAgrees m r o → is_on_collection call ≡ true → o.stable ≤ last_position o.disk → reply o call ≡ Some told → FrontAgrees (answered_at (asking m r call) r call told) r (written o (steps.Client call))
collection_case m r o calls.Begin told is on within answered = absurd (false≢true on)
collection_case m r o (calls.Make t name kind) told is on within answered = collection_call m r o (calls.Make t name kind) told t is refl within answered refl refl
collection_case m r o (calls.OnKey t name key call) told is on within answered = collection_call m r o (calls.OnKey t name key call) told t is refl within answered refl refl
collection_case m r o (calls.Commit t) told is on within answered = absurd (false≢true on)
collection_case m r o (calls.Abort t) told is on within answered = absurd (false≢true on)

pub collection_calls_keep_fronts : CollectionCallsKeepFronts
collection_calls_keep_fronts m r o call told is on within answered = collection_case m r o call told is on within answered
