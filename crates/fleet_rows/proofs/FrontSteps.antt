-- What goes on at a primary and in the machine, behind a call that logs nothing.
use Rattle.std.proofs.Common.{◌≡◌, ◌∙◌, ℕ, ◌+◌, ◌≤◌, max, Bool, true, false, cond, List, [], ◌∷◌, ◌++◌, length, Option, Some, None, refl, sym, ap, subst, inl, inr, arith, append-nil}
use Rattle.std.specs.Prelude.{◌&&◌, ◌||◌, ◌==◌, option_map}
use Rattle.std.specs.Option.{option_map_or}
use Rattle.std.specs.List.{cons_option}
use Rattle.std.specs.Map.{remove_entry, lookup, keys_of}
use Rattle.std.specs.List.Sorted.{IsStrictlySortedBy}
use Rattle.order_machine.specs.Order.{state_at}
use Rattle.std.specs.BTreeMap.{is_at}
use Rattle.std.specs.Ordering.{nat_cmp}
use Rattle.std.proofs.lemmas.Bool.{cases_Bool, eq-eqb, cond-true}
use Rattle.std.proofs.lemmas.Option.{none-some, same_Some}
use Rattle.std.proofs.lemmas.List.Elements.{filter_map-append}
use Rattle.rc_base.specs.declared.ids.TxnId.{TxnId}
use Rattle.rc_base.specs.Ids.{is_txn, is_epoch}
use Rattle.rc_base.proofs.SameIds.{is_txn-true, is_txn_same, is_txn_equivalence}
use Rattle.coll_model.specs.declared.op.Op.{Op}
use Rattle.coll_model.specs.Effect.{State, folded}
use Rattle.key_locks.specs.Grants.{Grant, Alike, released}
use Rattle.key_locks.proofs.Flat.{alike_released}
use Rattle.lock_laws.proofs.ProtectedGrants.{against-alike}
use Rattle.events.specs.declared.call.Call.{Call}
use Rattle.events.specs.declared.answer.Reply.{Reply}
use Rattle.events.specs.declared.answer.Answer.TheVariants as answers
use Rattle.events.specs.Calls.{CallRecord, txn_named}
use Rattle.events.specs.Locking.{locks_at}
use Rattle.events.specs.Answers.{plain, reply_to, locked_or, live_reply}
use Rattle.order_machine.specs.Machine.{Machine, Txn, replica, put_txn, put_grants, txn_of, role_of, grants_of, live_txn, ops_of, order_of}
use Rattle.order_machine.specs.Clients.{seen, served, next_txn, new_txn}
use Rattle.history_laws.proofs.CallCases.{with_call, aborted}
use Rattle.txn_front.specs.Front as front
use Rattle.txn_front.specs.Front.{Fronted, Going, going_of, numbered, txn_at}
use Rattle.txn_front.proofs.Entries.{look_at_removed, rising_inserted, rising_removed}
use Rattle.txn_front.proofs.Fronts.{found_live, going_of-begun, going_of-begun_other, going_of-ended_other}
use Rattle.replica_model.specs.OpenReplica.{OpenReplica, Leading}
use Rattle.replica_model.specs.Quorums.{looked, quorum_number, is_of_epoch, acknowledging, stable_at}
use Rattle.fleet_run.proofs.Looking.{risen, risen_settled}
use Rattle.txn_table.specs.declared.known.Known.{Known}
use Rattle.txn_table.specs.Commits.{with_txn}
use Rattle.txn_table.specs.Whole.{Whole, transactions_of}
use Rattle.fleet_rows.specs.Served.{IsFrontOf, IsLoggedBy, IsKnownAs}

-- ---- looking with another front

-- an active primary that has looked has what was reached as stable
pub reached_stable : (o : OpenReplica) (l : Leading) → o.leading ≡ Some l → l.active ≡ true → looked o ≡ o → quorum_number o l ≤ o.stable
reached_stable o l lead active settled =
    let n = quorum_number o l in
    let most : max o.stable n ≡ o.stable =
    ap (λ (b : Bool). (acknowledging o (cond (b || is_of_epoch o.disk l.epoch n) (record o { stable = max o.stable n; leading = Some (record l { active = true }) }) o)).stable) (sym active)
    ∙ ap (λ (x : Option Leading). (option_map_or (λ (y : Leading). acknowledging o (stable_at o y (quorum_number o y))) x o).stable) (sym lead)
    ∙ ap (λ (x : OpenReplica). x.stable) settled in
    omega (arith, most)

pub looked_front : (o : OpenReplica) (l : Leading) (f : Fronted) → o.leading ≡ Some l → l.active ≡ true → looked o ≡ o → looked (record o { front = f }) ≡ record o { front = f }
looked_front o l f lead active settled =
    let same : risen o l o.stable f ≡ record o { front = f } =
    ap (λ (b : Bool). let x : OpenReplica = record o { leading = Some (record l { active = b }); front = f } in x) (sym active)
    ∙ ap (λ (y : Option Leading). let x : OpenReplica = record o { leading = y; front = f } in x) (sym lead) in
    subst (λ (x : OpenReplica). looked x ≡ x) same (risen_settled o l o.stable f (reached_stable o l lead active settled))

-- ---- one answer in both

live_alike : (a b : List Grant) (x y : State) (t : TxnId) (call : Call) → Alike a b → x ≡ y → live_reply a x t call ≡ live_reply b y t call
live_alike a b x y t call alike same = ap (λ o. locked_or o (reply_to x call)) (against-alike a b alike t (locks_at x call)) ∙ ap (λ z. live_reply b z t call) same

-- the answer to a call of a transaction, by its operations
by_ops : List Grant → State → TxnId → Call → Option (List Op) → Option Reply
by_ops gs state t call o = option_map_or (λ ops. live_reply gs (folded state ops) t call) o (Some (plain (answers.Ended t)))

by_txn : (m : Machine) (r : ℕ) (t : TxnId) (call : Call) (o : Option Txn) → option_map_or (λ x. live_reply (grants_of m r) (seen m r x) t call) o (Some (plain (answers.Ended t)))
    ≡ option_map_or (λ ops. live_reply (grants_of m r) (folded (state_at (order_of m r) (replica m r).show) ops) t call) (option_map (λ (x : Txn). ops_of x) o) (Some (plain (answers.Ended t)))
by_txn m r t call None = refl
by_txn m r t call (Some x) = refl

by_going : (gs : List Grant) (state : State) (t : TxnId) (call : Call) (o : Option Going) → option_map_or (λ (g : Going). live_reply gs (folded state g.ops) t call) o (Some (plain (answers.Ended t)))
    ≡ option_map_or (λ ops. live_reply gs (folded state ops) t call) (option_map (λ (g : Going). g.ops) o) (Some (plain (answers.Ended t)))
by_going gs state t call None = refl
by_going gs state t call (Some g) = refl

by_alike : (a b : List Grant) (x y : State) (t : TxnId) (call : Call) (o : Option (List Op)) → Alike a b → x ≡ y
    → option_map_or (λ ops. live_reply a (folded x ops) t call) o (Some (plain (answers.Ended t))) ≡ option_map_or (λ ops. live_reply b (folded y ops) t call) o (Some (plain (answers.Ended t)))
by_alike a b x y t call None alike same = refl
by_alike a b x y t call (Some ops) alike same = live_alike a b (folded x ops) (folded y ops) t call alike (ap (λ (z : State). folded z ops) same)

-- a primary's answer is the machine's, where it shows the same and its next transaction is the same
pub told_same : (m : Machine) (r : ℕ) (f : Fronted) (state : State) (call : Call) → IsFrontOf m r f → state_at (order_of m r) (replica m r).show ≡ state → next_txn (role_of m r) ≡ txn_at f (f.begins + 1) → front.told f state call ≡ served m r call
told_same m r f state call is sees next = by (txn_named call)
  where
    by : (named : Option TxnId)
        → option_map_or (λ t. option_map_or (λ (g : Going). live_reply f.grants (folded state g.ops) t call) (going_of f t) (Some (plain (answers.Ended t)))) named (Some (plain (answers.Txn (txn_at f (f.begins + 1)))))
        ≡ option_map_or (λ t. option_map_or (λ x. live_reply (grants_of m r) (seen m r x) t call) (live_txn m r t) (Some (plain (answers.Ended t)))) named (Some (plain (answers.Txn (next_txn (role_of m r)))))
    by None = ap (λ (t : TxnId). Some (plain (answers.Txn t))) (sym next)
    by (Some t) = sym (
        by_txn m r t call (live_txn m r t)
        ∙ ap (λ (o : Option (List Op)). option_map_or (λ ops. live_reply (grants_of m r) (folded (state_at (order_of m r) (replica m r).show) ops) t call) o (Some (plain (answers.Ended t)))) (is.going t)
        ∙ by_alike (grants_of m r) f.grants (state_at (order_of m r) (replica m r).show) state t call (option_map (λ (g : Going). g.ops) (going_of f t)) is.grants sees
        ∙ sym (by_going f.grants state t call (going_of f t))
        )

-- ---- what is live

abbrev live_of : ℕ → Option Txn → Option Txn
live_of q o = cond (option_map_or (λ (x : Txn). x.live && (x.home == q)) o false) o None

abbrev ops_at : ℕ → Option Txn → Option (List Op)
ops_at q o = option_map (λ (x : Txn). ops_of x) (live_of q o)

pub put_other : (m : Machine) (q : ℕ) (t u : TxnId) (y : Txn) → is_txn u t ≡ false → ops_at q (txn_of (put_txn m t y) u) ≡ ops_at q (txn_of m u)
put_other m q t u y other = ap (λ (b : Bool). ops_at q (cond b (Some y) (txn_of m u))) other

pub put_own : (m : Machine) (q : ℕ) (t : TxnId) (y : Txn) → ops_at q (txn_of (put_txn m t y) t) ≡ ops_at q (Some y)
put_own m q t y = ap (λ (b : Bool). ops_at q (cond b (Some y) (txn_of m t))) (is_txn_same t)

pub live_one : (q : ℕ) (y : Txn) → y.live ≡ true → y.home ≡ q → ops_at q (Some y) ≡ Some (ops_of y)
live_one q y live home = ap (λ (b : Bool). option_map (λ (x : Txn). ops_of x) (cond (b && (y.home == q)) (Some y) None)) live ∙ ap (λ (b : Bool). option_map (λ (x : Txn). ops_of x) (cond b (Some y) None)) (eq-eqb y.home q home)

dead_one : (q : ℕ) (y : Txn) → y.live ≡ false → ops_at q (Some y) ≡ None
dead_one q y dead = ap (λ (b : Bool). option_map (λ (x : Txn). ops_of x) (cond (b && (y.home == q)) (Some y) None)) dead

pub quiet_ops : (x : Txn) (c : CallRecord) → c.op ≡ None → ops_of (with_call x c) ≡ ops_of x
quiet_ops x c none =
    filter_map-append (λ (k : CallRecord). k.op) x.calls (c ∷ [])
    ∙ ap (λ (o : Option Op). ops_of x ++ cons_option o []) none
    ∙ append-nil (ops_of x)

-- ---- one transaction changes in both

-- The machine and the front change at one transaction alone.
pub record ChangesAt (m n : Machine) (r : ℕ) (f g : Fronted) (t : TxnId) : Type 0 where
  pub grants : Alike (grants_of n r) g.grants
  pub own : option_map (λ (x : Txn). ops_of x) (live_txn n r t) ≡ option_map (λ (y : Going). y.ops) (going_of g t)
  pub live : (u : TxnId) → is_txn u t ≡ false → option_map (λ (x : Txn). ops_of x) (live_txn n r u) ≡ option_map (λ (x : Txn). ops_of x) (live_txn m r u)
  pub going : (u : TxnId) → is_txn t u ≡ false → going_of g u ≡ going_of f u
  pub rising : IsStrictlySortedBy nat_cmp (keys_of g.live)
  pub recorded : (y : Going) → going_of g t ≡ Some y → (y.last.0 == 0) ≡ (length y.ops == 0)

pub front_after : (m n : Machine) (r : ℕ) (f g : Fronted) (t : TxnId) → IsFrontOf m r f → ChangesAt m n r f g t → IsFrontOf n r g
front_after m n r f g t is c = record {
  grants = c.grants;
  going = λ u. elim (cases_Bool (is_txn u t)) [
    | inl here ↦ subst (λ (k : TxnId). option_map (λ (x : Txn). ops_of x) (live_txn n r k) ≡ option_map (λ (y : Going). y.ops) (going_of g k)) (sym (is_txn-true u t here)) c.own
    | inr other ↦ c.live u other ∙ is.going u ∙ ap (λ (o : Option Going). option_map (λ (y : Going). y.ops) o) (sym (c.going u (is_txn_equivalence.symm t u ∙ other)))
  ];
  rising = c.rising;
  recorded = λ u y there. elim (cases_Bool (is_txn u t)) [
    | inl here ↦ c.recorded y (subst (λ (k : TxnId). going_of g k ≡ Some y) (is_txn-true u t here) there)
    | inr other ↦ is.recorded u y (sym (c.going u (is_txn_equivalence.symm t u ∙ other)) ∙ there)
  ];
}

-- a transaction begins
pub begin_changes : (m n : Machine) (r : ℕ) (f : Fronted) → IsFrontOf m r f → grants_of n r ≡ grants_of m r → n.txns ≡ (txn_at f (f.begins + 1), new_txn m r) ∷ m.txns → IsFrontOf n r (front.begun f)
begin_changes m n r f is grants txns =
    let t = txn_at f (f.begins + 1) in
    let going : Going = record { last = record { 0 = 0 }; ops = [] } in
    front_after m n r f (front.begun f) t is (record {
      grants = subst (λ (gs : List Grant). Alike gs f.grants) (sym grants) is.grants;
      own =
          ap (λ (xs : List (TxnId × Txn)). ops_at r (lookup (is_txn t) xs)) txns ∙ put_own m r t (new_txn m r) ∙ live_one r (new_txn m r) refl refl
          ∙ sym (ap (λ (o : Option Going). option_map (λ (y : Going). y.ops) o) (going_of-begun f));
      live = λ u other. ap (λ (xs : List (TxnId × Txn)). ops_at r (lookup (is_txn u) xs)) txns ∙ put_other m r t u (new_txn m r) other;
      going = λ u other. going_of-begun_other f u other;
      rising = rising_inserted (f.begins + 1) going f.live is.rising;
      recorded = λ y there. subst (λ (z : Going). (z.last.0 == 0) ≡ (length z.ops == 0)) (same_Some going y (sym (going_of-begun f) ∙ there)) refl;
    })

-- a call of a live transaction that logs nothing: it may have more locks
pub locks_changes : (m : Machine) (r : ℕ) (f : Fronted) (t : TxnId) (x : Txn) (c : CallRecord) (gs hs : List Grant) → IsFrontOf m r f → txn_of m t ≡ Some x → x.live ≡ true → x.home ≡ r → c.op ≡ None → Alike gs hs → grants_of (put_grants m r gs) r ≡ gs
    → IsFrontOf (put_txn (put_grants m r gs) t (with_call x c)) r (record f { grants = hs })
locks_changes m r f t x c gs hs is known live home none alike now =
    let n : Machine = put_grants m r gs in
    let g : Fronted = record f { grants = hs } in
    front_after m (put_txn n t (with_call x c)) r f g t is (record {
      grants = subst (λ (ks : List Grant). Alike ks hs) (sym now) alike;
      own =
          put_own n r t (with_call x c) ∙ live_one r (with_call x c) live home ∙ ap (λ (ops : List Op). Some ops) (quiet_ops x c none)
          ∙ sym (ap (ops_at r) known ∙ live_one r x live home) ∙ is.going t;
      live = λ u other. put_other n r t u (with_call x c) other;
      going = λ u other. refl;
      rising = is.rising;
      recorded = λ y there. is.recorded t y there;
    })

pub ended_none : (f : Fronted) (t : TxnId) (y : Going) → IsStrictlySortedBy nat_cmp (keys_of f.live) → going_of f t ≡ Some y → going_of (front.ended f t) t ≡ None
ended_none f t y rising there =
    ap (λ (o : Option Going). going_of (option_map_or (λ (g : Going). record f { live = remove_entry (is_at (nat_cmp t.n)) f.live; grants = released f.grants t }) o f) t) there
    ∙ cond-true (is_epoch t.epoch f.epoch) (numbered t.n (remove_entry (is_at (nat_cmp t.n)) f.live)) None (found_live f t y there).0
    ∙ look_at_removed t.n f.live rising

-- an abort
pub abort_changes : (m : Machine) (r : ℕ) (f : Fronted) (t : TxnId) (x : Txn) (y : Going) (c : CallRecord) → IsFrontOf m r f → going_of f t ≡ Some y → grants_of (put_grants m r (released (grants_of m r) t)) r ≡ released (grants_of m r) t
    → IsFrontOf (put_txn (put_txn (put_grants m r (released (grants_of m r) t)) t (aborted x)) t (with_call (aborted x) c)) r (front.ended f t)
abort_changes m r f t x y c is there now =
    let n : Machine = put_grants m r (released (grants_of m r) t) in
    let k : Machine = put_txn n t (aborted x) in
    let g = front.ended f t in
    let shape : g ≡ record f { live = remove_entry (is_at (nat_cmp t.n)) f.live; grants = released f.grants t } =
    ap (λ (o : Option Going). option_map_or (λ (z : Going). record f { live = remove_entry (is_at (nat_cmp t.n)) f.live; grants = released f.grants t }) o f) there in
    let none = ended_none f t y is.rising there in
    front_after m (put_txn k t (with_call (aborted x) c)) r f g t is (record {
      grants = subst (λ (ks : List Grant). Alike ks g.grants) (sym now) (subst (λ (h : Fronted). Alike (released (grants_of m r) t) h.grants) (sym shape) (alike_released (grants_of m r) f.grants is.grants t));
      own = put_own k r t (with_call (aborted x) c) ∙ dead_one r (with_call (aborted x) c) refl ∙ sym (ap (λ (o : Option Going). option_map (λ (z : Going). z.ops) o) none);
      live = λ u other. put_other k r t u (with_call (aborted x) c) other ∙ put_other n r t u (aborted x) other;
      going = λ u other. going_of-ended_other f t u other;
      rising = subst (λ (h : Fronted). IsStrictlySortedBy nat_cmp (keys_of h.live)) (sym shape) (rising_removed t.n f.live is.rising);
      recorded = λ z at. absurd (none-some z (sym none ∙ at));
    })

-- ---- what the log knows of it

-- what begins isn't in the log yet
pub begin_logged : (w : Whole) (f : Fronted) → IsLoggedBy w f → IsLoggedBy w (front.begun f)
begin_logged w f is = record {
  begun = λ u g there. elim (cases_Bool (is_txn (txn_at f (f.begins + 1)) u)) [
    | inl same ↦ let here : u.n ≡ f.begins + 1 = ap (λ (k : TxnId). k.n) (sym (is_txn-true (txn_at f (f.begins + 1)) u same)) in omega (arith, here)
    | inr other ↦ let most = is.begun u g (sym (going_of-begun_other f u other) ∙ there) in omega (arith, most)
  ];
  each = λ u g there. elim (cases_Bool (is_txn (txn_at f (f.begins + 1)) u)) [
    | inl same ↦
        let t = txn_at f (f.begins + 1) in
        let here : t ≡ u = is_txn-true t u same in
        let new : Going = record { last = record { 0 = 0 }; ops = [] } in
        let own : new ≡ g = same_Some new g (sym (going_of-begun f) ∙ ap (going_of (front.begun f)) here ∙ there) in
        let none : with_txn t (transactions_of w) ≡ None = unknown t (with_txn t (transactions_of w)) refl refl refl in
        subst (λ (x : Going). IsKnownAs x (with_txn u (transactions_of w))) own (subst (λ (k : TxnId). IsKnownAs new (with_txn k (transactions_of w))) here (subst (IsKnownAs new) (sym none) (refl, refl)))
    | inr other ↦ is.each u g (sym (going_of-begun_other f u other) ∙ there)
  ];
  counted = λ u k there epoch. let most = is.counted u k there epoch in omega (arith, most);
}
  where
    unknown : (t : TxnId) (o : Option Known) → with_txn t (transactions_of w) ≡ o → t.epoch ≡ f.epoch → t.n ≡ f.begins + 1 → o ≡ None
    unknown t None e epoch n = refl
    unknown t (Some k) e epoch n = let most = is.counted t k e epoch in absurd (omega (arith, most, n))

-- one that is aborted goes on no more
pub abort_logged : (w : Whole) (f : Fronted) (t : TxnId) (y : Going) → IsStrictlySortedBy nat_cmp (keys_of f.live) → going_of f t ≡ Some y → IsLoggedBy w f → IsLoggedBy w (front.ended f t)
abort_logged w f t y rising there is =
    let g = front.ended f t in
    let shape : g ≡ record f { live = remove_entry (is_at (nat_cmp t.n)) f.live; grants = released f.grants t } =
    ap (λ (o : Option Going). option_map_or (λ (z : Going). record f { live = remove_entry (is_at (nat_cmp t.n)) f.live; grants = released f.grants t }) o f) there in
    let none = ended_none f t y rising there in
    record {
      begun = λ u z at. elim (cases_Bool (is_txn t u)) [
        | inl same ↦ absurd (none-some z (sym none ∙ ap (going_of g) (is_txn-true t u same) ∙ at))
        | inr other ↦ let most = is.begun u z (sym (going_of-ended_other f t u other) ∙ at) in let begins : g.begins ≡ f.begins = ap (λ (h : Fronted). h.begins) shape in omega (arith, most, begins)
      ];
      each = λ u z at. elim (cases_Bool (is_txn t u)) [
        | inl same ↦ absurd (none-some z (sym none ∙ ap (going_of g) (is_txn-true t u same) ∙ at))
        | inr other ↦ is.each u z (sym (going_of-ended_other f t u other) ∙ at)
      ];
      counted = λ u k known epoch. let most = is.counted u k known (epoch ∙ ap (λ (h : Fronted). h.epoch) shape) in let begins : g.begins ≡ f.begins = ap (λ (h : Fronted). h.begins) shape in omega (arith, most, begins);
    }
