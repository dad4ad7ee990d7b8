-- Guards: one transaction that is put, a commit more that is pending, one that is shown, and locks that are let go.
use Rattle.std.proofs.Common.{◌≡◌, ◌∙◌, ℕ, Bool, true, false, ◌||◌, cond, List, [], ◌∷◌, ◌++◌, All, map, Some, refl, sym, ap, subst}
use Rattle.std.specs.List.{AllByRecursion}
use Rattle.std.specs.Map.{lookup}
use Rattle.std.proofs.lemmas.Bool.{false≢true, false_from_ne_true}
use Rattle.std.proofs.lemmas.Option.{same_Some}
use Rattle.std.proofs.lemmas.List.Elements.{All-nil, All-cons, All-head, All-tail, All-push, All-weaker}
use Rattle.std.proofs.lemmas.Map.Keys.{IsDistinct-head, IsDistinct-tail}
use Rattle.rc_base.specs.declared.ids.TxnId.{TxnId}
use Rattle.rc_base.specs.Ids.{is_txn}
use Rattle.rc_base.proofs.SameIds.{is_txn-true, is_txn_flip}
use Rattle.coll_model.specs.declared.op.Op.{Op}
use Rattle.coll_model.specs.Effect.{State, folded}
use Rattle.key_locks.specs.Grants.{Grant, released}
use Rattle.events.specs.Calls.{CallRecord}
use Rattle.lock_laws.specs.Protected.{AreExclusive, AreProtected}
use Rattle.lock_laws.specs.OrderedStates.{IsOrdered}
use Rattle.lock_laws.proofs.ProtectedGrants.{AreExclusive-released}
use Rattle.lock_laws.proofs.ProtectedStates.{IsOrdered-folded}
use Rattle.lock_laws.proofs.ProtectedCalls.{AreProtected-behind_commit, AreProtected-released}
use Rattle.txn_table.specs.declared.committed.Committed.{Committed}
use Rattle.order_machine.specs.Machine.{Txn}
use Rattle.history_laws.specs.Texts.{state_after, has_commit}
use Rattle.history_laws.specs.LockGuards.{PendingCommit, LockGuard}
use Rattle.history_laws.specs.QuietCalls.{HomeStays}
use Rattle.history_laws.proofs.QuietSuffixes.{quiet_same_ops, quiet_protected, quiet_asked, quiet_live, quiet_home}
use Rattle.history_laws.proofs.TextSteps.{state_after-cons, once_fresh}

-- ---- two transactions

-- what was looked up under one name
same_txn : (txns : List (TxnId × Txn)) (t u : TxnId) (x y : Txn) → is_txn t u ≡ true → lookup (is_txn t) txns ≡ Some x → lookup (is_txn u) txns ≡ Some y → x ≡ y
same_txn txns t u x y same here there = same_Some x y (sym here ∙ (ap (λ (v : TxnId). lookup (is_txn v) txns) (is_txn-true t u same) ∙ there))

-- a live one isn't one that has ended
pub live_apart : (txns : List (TxnId × Txn)) (t u : TxnId) (x y : Txn) → lookup (is_txn t) txns ≡ Some x → lookup (is_txn u) txns ≡ Some y → x.live ≡ true → y.live ≡ false → is_txn t u ≡ false
live_apart txns t u x y here there live ended =
    false_from_ne_true (is_txn t u) (λ same. false≢true (sym ended ∙ (ap (λ (w : Txn). w.live) (sym (same_txn txns t u x y same here there)) ∙ live)))

-- ---- pending commits

module _ (txns : List (TxnId × Txn)) (gs : List Grant) (r : ℕ) (shown : State) where
  -- a live transaction isn't pending
  pub live_not_pending : (t : TxnId) (x : Txn) → lookup (is_txn t) txns ≡ Some x → x.live ≡ true → (pending : List Committed) → All (PendingCommit txns gs r shown) pending → has_commit pending t ≡ false
  live_not_pending t x known live [] all = refl
  live_not_pending t x known live (c ∷ pending) all =
      let p = All-head (PendingCommit txns gs r shown) c pending all in
      rw (live_apart txns t c.txn x p.txn known p.known live p.ended) (live_not_pending t x known live pending (All-tail (PendingCommit txns gs r shown) c pending all))

  -- what is protected is so where another one's commit is shown
  shown_protected : AreExclusive gs → IsOrdered shown → (c : Committed) → PendingCommit txns gs r shown c → (t : TxnId) (calls : List CallRecord) → is_txn t c.txn ≡ false → AreProtected gs t shown calls → AreProtected gs t (folded shown c.ops) calls
  shown_protected exclusive ordered c p t calls apart mine =
      subst (λ (ops : List Op). AreProtected gs t (folded shown ops) calls) (sym p.whole) (AreProtected-behind_commit gs t c.txn shown calls p.txn.calls exclusive apart ordered p.protected mine)

  shown_pending : AreExclusive gs → IsOrdered shown → (c : Committed) → PendingCommit txns gs r shown c → (later : List Committed) → AllByRecursion (λ u. is_txn c.txn u ≡ false) (map (λ d. d.txn) later) → All (PendingCommit txns gs r shown) later
      → All (PendingCommit txns gs r (folded shown c.ops)) later
  shown_pending exclusive ordered c p [] apart all = All-nil (PendingCommit txns gs r (folded shown c.ops))
  shown_pending exclusive ordered c p (d ∷ later) apart all =
      let q = All-head (PendingCommit txns gs r shown) d later all in
      All-cons (PendingCommit txns gs r (folded shown c.ops)) d later (record {
        txn = q.txn;
        known = q.known;
        requested = q.requested;
        ended = q.ended;
        home = q.home;
        whole = q.whole;
        protected = shown_protected exclusive ordered c p d.txn q.txn.calls (is_txn_flip d.txn c.txn ∙ apart.0) q.protected;
      }) (shown_pending exclusive ordered c p later apart.1 (All-tail (PendingCommit txns gs r shown) d later all))

  -- ---- one is shown

  shows_one : (c : Committed) (later : List Committed) → LockGuard txns gs r shown (c ∷ later) → LockGuard txns gs r (folded shown c.ops) later
  shows_one c later g =
      let p = All-head (PendingCommit txns gs r shown) c later g.unshown in
      record {
        ordered = IsOrdered-folded shown c.ops g.ordered;
        exclusive = g.exclusive;
        live = λ t x known home live. shown_protected g.exclusive g.ordered c p t x.calls (live_apart txns t c.txn x p.txn known p.known live p.ended) (g.live t x known home live);
        unshown = shown_pending g.exclusive g.ordered c p later (IsDistinct-head is_txn c.txn (map (λ d. d.txn) later) g.once) (All-tail (PendingCommit txns gs r shown) c later g.unshown);
        once = IsDistinct-tail is_txn c.txn (map (λ d. d.txn) later) g.once;
      }

-- the first of what is pending are shown
pub LockGuard-shown : (txns : List (TxnId × Txn)) (gs : List Grant) (r : ℕ) (shown : State) (now later : List Committed) → LockGuard txns gs r shown (now ++ later) → LockGuard txns gs r (state_after shown now) later
LockGuard-shown txns gs r shown [] later g = g
LockGuard-shown txns gs r shown (c ∷ now) later g =
    subst (λ (s : State). LockGuard txns gs r s later) (sym (state_after-cons shown c now)) (LockGuard-shown txns gs r (folded shown c.ops) now later (shows_one txns gs r shown c (now ++ later) g))

-- ---- one transaction is put

pending_put : (txns : List (TxnId × Txn)) (gs now : List Grant) (r : ℕ) (shown : State) (t : TxnId) (new : Txn) → ((x : Txn) → lookup (is_txn t) txns ≡ Some x → x.live ≡ true)
    → ((u : TxnId) (calls : List CallRecord) → is_txn u t ≡ false → AreProtected gs u shown calls → AreProtected now u shown calls) → (c : Committed) → PendingCommit txns gs r shown c → PendingCommit ((t, new) ∷ txns) now r shown c
pending_put txns gs now r shown t new live keeps c p =
    let other : is_txn c.txn t ≡ false = false_from_ne_true (is_txn c.txn t) (λ same. false≢true (sym p.ended ∙ live p.txn (subst (λ (v : TxnId). lookup (is_txn v) txns ≡ Some p.txn) (is_txn-true c.txn t same) p.known))) in
    record {
      txn = p.txn;
      known = ap (λ (b : Bool). cond b (Some new) (lookup (is_txn c.txn) txns)) other ∙ p.known;
      requested = p.requested;
      ended = p.ended;
      home = p.home;
      whole = p.whole;
      protected = keeps c.txn p.txn.calls other p.protected;
    }

-- in place of a live one, if any; with grants that keep what they protect of the others
pub LockGuard-put : (txns : List (TxnId × Txn)) (gs now : List Grant) (r : ℕ) (shown : State) (pending : List Committed) (t : TxnId) (new : Txn) → ((x : Txn) → lookup (is_txn t) txns ≡ Some x → x.live ≡ true) → AreExclusive now
    → ((u : TxnId) (calls : List CallRecord) → is_txn u t ≡ false → AreProtected gs u shown calls → AreProtected now u shown calls) → (new.home ≡ r → new.live ≡ true → AreProtected now t shown new.calls)
    → LockGuard txns gs r shown pending → LockGuard ((t, new) ∷ txns) now r shown pending
LockGuard-put txns gs now r shown pending t new live exclusive keeps own g = record {
  ordered = g.ordered;
  exclusive = exclusive;
  live = λ u x known home on. by u x home on (is_txn u t) refl known;
  unshown = All-weaker (PendingCommit txns gs r shown) (PendingCommit ((t, new) ∷ txns) now r shown) (pending_put txns gs now r shown t new live keeps) pending g.unshown;
  once = g.once;
}
  where
    by : (u : TxnId) (x : Txn) → x.home ≡ r → x.live ≡ true → (b : Bool) → is_txn u t ≡ b → cond b (Some new) (lookup (is_txn u) txns) ≡ Some x → AreProtected now u shown x.calls
    by u x home on true same e =
        let is : new ≡ x = same_Some new x e in
        subst (λ (v : TxnId). AreProtected now v shown x.calls) (sym (is_txn-true u t same))
        (subst (λ (w : Txn). AreProtected now t shown w.calls) is (own (ap (λ (w : Txn). w.home) is ∙ home) (ap (λ (w : Txn). w.live) is ∙ on)))
    by u x home on false other e = keeps u x.calls other (g.live u x e home on)

-- ---- one more is pending

pub LockGuard-push : (txns : List (TxnId × Txn)) (gs : List Grant) (r : ℕ) (shown : State) (pending : List Committed) (c : Committed) → LockGuard txns gs r shown pending → PendingCommit txns gs r shown c → has_commit pending c.txn ≡ false → LockGuard txns gs r shown (pending ++ c ∷ [])
LockGuard-push txns gs r shown pending c g here fresh = record {
  ordered = g.ordered;
  exclusive = g.exclusive;
  live = g.live;
  unshown = All-push (PendingCommit txns gs r shown) pending c g.unshown here;
  once = once_fresh pending c g.once fresh;
}

-- ---- locks are let go

has_none : (commits : List Committed) (t : TxnId) (c : Committed) → has_commit (c ∷ commits) t ≡ false → (is_txn t c.txn ≡ false) × (has_commit commits t ≡ false)
has_none commits t c h = by (is_txn t c.txn) (has_commit commits t) h
  where
    by : (a b : Bool) → (a || b) ≡ false → (a ≡ false) × (b ≡ false)
    by true b e = absurd (false≢true (sym e))
    by false b e = (refl, e)

pending_released : (txns : List (TxnId × Txn)) (gs : List Grant) (r : ℕ) (shown : State) (t : TxnId) (pending : List Committed) → has_commit pending t ≡ false → All (PendingCommit txns gs r shown) pending → All (PendingCommit txns (released gs t) r shown) pending
pending_released txns gs r shown t [] none all = All-nil (PendingCommit txns (released gs t) r shown)
pending_released txns gs r shown t (c ∷ pending) none all =
    let parts = has_none pending t c none in
    let p = All-head (PendingCommit txns gs r shown) c pending all in
    All-cons (PendingCommit txns (released gs t) r shown) c pending (record {
      txn = p.txn;
      known = p.known;
      requested = p.requested;
      ended = p.ended;
      home = p.home;
      whole = p.whole;
      protected = AreProtected-released gs t c.txn shown p.txn.calls parts.0 p.protected;
    }) (pending_released txns gs r shown t pending parts.1 (All-tail (PendingCommit txns gs r shown) c pending all))

-- those of a transaction that has ended and isn't pending
pub LockGuard-released : (txns : List (TxnId × Txn)) (gs : List Grant) (r : ℕ) (shown : State) (pending : List Committed) (t : TxnId) (x : Txn) → lookup (is_txn t) txns ≡ Some x → x.live ≡ false → has_commit pending t ≡ false
    → LockGuard txns gs r shown pending → LockGuard txns (released gs t) r shown pending
LockGuard-released txns gs r shown pending t x known ended none g = record {
  ordered = g.ordered;
  exclusive = AreExclusive-released gs t g.exclusive;
  live = λ u y there home live. AreProtected-released gs t u shown y.calls (is_txn_flip t u ∙ live_apart txns u t y x there known live ended) (g.live u y there home live);
  unshown = pending_released txns gs r shown t pending none g.unshown;
  once = g.once;
}

-- ---- other transactions

pending_home : (r : ℕ) (old new : List (TxnId × Txn)) → HomeStays r old new → (gs : List Grant) (shown : State) (c : Committed) → PendingCommit old gs r shown c → PendingCommit new gs r shown c
pending_home r old new stays gs shown c p =
    let found = stays.kept c.txn p.txn p.known p.home in
    let y : Txn = found.0 in
    record {
      txn = y;
      known = found.1;
      requested = quiet_asked p.txn y found.2 ∙ p.requested;
      ended = quiet_live p.txn y found.2 ∙ p.ended;
      home = quiet_home p.txn y found.2 ∙ p.home;
      whole = p.whole ∙ sym (quiet_same_ops p.txn y found.2);
      protected = quiet_protected gs c.txn shown p.txn y found.2 p.protected;
    }

pub LockGuard-home : (r : ℕ) (old new : List (TxnId × Txn)) → HomeStays r old new → (gs : List Grant) (shown : State) (pending : List Committed) → LockGuard old gs r shown pending → LockGuard new gs r shown pending
LockGuard-home r old new stays gs shown pending g = record {
  ordered = g.ordered;
  exclusive = g.exclusive;
  live = λ t y known home live.
      let was = stays.known t y known home in
      let x : Txn = was.0 in
      quiet_protected gs t shown x y was.2 (g.live t x was.1 (sym (quiet_home x y was.2) ∙ home) (sym (quiet_live x y was.2) ∙ live));
  unshown = All-weaker (PendingCommit old gs r shown) (PendingCommit new gs r shown) (pending_home r old new stays gs shown) pending g.unshown;
  once = g.once;
}
