-- The state that a replica shows, and the row of the order for a text's next commit.
use Rattle.std.proofs.Common.{◌≡◌, ◌∙◌, ℕ, ◌+◌, ◌-◌, true, false, List, [], ◌∷◌, ◌++◌, map, length, flat_map, Some, inl, inr, refl, sym, ap, subst, arith}
use Rattle.std.specs.List.{AllByRecursion}
use Rattle.std.specs.Map.{lookup}
use Rattle.std.proofs.lemmas.Bool.{false≢true, or_cases}
use Rattle.std.proofs.lemmas.List.{take_all}
use Rattle.std.proofs.lemmas.List.Folds.{flat_map-map}
use Rattle.std.specs.List.{IsDistinct}
use Rattle.rc_base.specs.declared.ids.TxnId.{TxnId}
use Rattle.rc_base.specs.Ids.{is_txn}
use Rattle.rc_base.proofs.SameIds.{is_txn-true}
use Rattle.coll_model.specs.Effect.{State, folded}
use Rattle.events.specs.Replay.{Replays}
use Rattle.events.proofs.Lists.{list_any-map}
use Rattle.lock_laws.specs.OrderedStates.{IsOrdered}
use Rattle.lock_laws.proofs.ProtectedStates.{IsOrdered-folded}
use Rattle.txn_table.specs.declared.committed.Committed.{Committed}
use Rattle.order_machine.specs.Order.{Order, Entry, length_of, first_of, state_at, holds}
use Rattle.order_machine.specs.Machine.{Machine, Txn, order_of, is_shown}
use Rattle.history_laws.specs.Texts.{operations_of, state_after, has_commit, AreOnce, SerialCommits}
use Rattle.history_laws.specs.LockGuards.{shown_at, entry_of, OrderCommits, ShownCommits}
use Rattle.history_laws.specs.Laws.{NextMayBeOrdered, ShownIsOrdered}
use Rattle.history_laws.proofs.TextSteps.{once_new, SerialCommits-at}
use Rattle.history_laws.proofs.GuardSteps.{live_apart}

-- ---- entries of the order as commits

state_of_entries : (start : State) (commits : List Committed) → folded start (flat_map (λ (e : Entry). e.ops) (map entry_of commits)) ≡ state_after start commits
state_of_entries start commits = ap (folded start) (flat_map-map (λ (e : Entry). e.ops) entry_of commits)

entries_hold : (t : TxnId) (commits : List Committed) → holds (map entry_of commits) t ≡ has_commit commits t
entries_hold t commits = list_any-map (λ (e : Entry). is_txn t e.txn) entry_of commits

pub shown_state : (m : Machine) (r : ℕ) (start : State) (shown : List Committed) → ShownCommits m r start shown → shown_at m r ≡ state_after start shown
shown_state m r start shown s =
    ap (λ (es : List Entry). folded (order_of m r).start (flat_map (λ e. e.ops) es)) s.entries
    ∙ (ap (λ (at : State). folded at (flat_map (λ (e : Entry). e.ops) (map entry_of shown))) s.start_is ∙ state_of_entries start shown)

pub shown_commit : (m : Machine) (r : ℕ) (start : State) (shown : List Committed) → ShownCommits m r start shown → (t : TxnId) → is_shown m r t ≡ has_commit shown t
shown_commit m r start shown s t = ap (λ (es : List Entry). holds es t) s.entries ∙ entries_hold t shown

-- the state after the whole order
whole_order : (o : Order) (start : State) (commits : List Committed) → OrderCommits o start commits → state_at o (length_of o) ≡ state_after start commits
whole_order o start commits is =
    let all : first_of o (length_of o) ≡ o.entries = take_all ((o.base + length o.entries) - o.base) o.entries (omega arith) in
    ap (λ (es : List Entry). folded o.start (flat_map (λ e. e.ops) es)) (all ∙ is.entries)
    ∙ (ap (λ (at : State). folded at (flat_map (λ (e : Entry). e.ops) (map entry_of commits))) is.start_is ∙ state_of_entries start commits)

-- ---- the transactions of a text

-- one of its commits is of a transaction that has ended
pub text_ended : (txns : List (TxnId × Txn)) (state : State) (commits : List Committed) (t : TxnId) → SerialCommits txns state commits → has_commit commits t ≡ true → (x : Txn) × (lookup (is_txn t) txns ≡ Some x) × (x.live ≡ false)
text_ended txns state [] t all has = absurd (false≢true has)
text_ended txns state (c ∷ commits) t all has =
    elim (or_cases (is_txn t c.txn) (has_commit commits t) has) [
      | inl same ↦ (all.0.txn, subst (λ (u : TxnId). lookup (is_txn u) txns ≡ Some all.0.txn) (sym (is_txn-true t c.txn same)) all.0.known, all.0.ended)
      | inr later ↦ text_ended txns (folded state c.ops) commits t all.1 later
    ]

-- a live transaction has no commit
pub live_not_committed : (txns : List (TxnId × Txn)) (state : State) (commits : List Committed) (t : TxnId) (x : Txn) → SerialCommits txns state commits → lookup (is_txn t) txns ≡ Some x → x.live ≡ true → has_commit commits t ≡ false
live_not_committed txns state [] t x all known live = refl
live_not_committed txns state (c ∷ commits) t x all known live =
    let s = all.0 in
    rw (live_apart txns t c.txn x s.txn known s.known live s.ended) (live_not_committed txns (folded state c.ops) commits t x all.1 known live)

-- what is apart from all is apart from the later ones
none_later : (t : TxnId) (first later : List Committed) → AllByRecursion (λ u. is_txn t u ≡ false) (map (λ c. c.txn) (first ++ later)) → has_commit later t ≡ false
none_later t [] [] all = refl
none_later t [] (c ∷ later) all = rw all.0 (none_later t [] later all.1)
none_later t (c ∷ first) later all = none_later t first later all.1

-- one of the first isn't among the later ones
pub once_apart : (first later : List Committed) (t : TxnId) → AreOnce (first ++ later) → has_commit first t ≡ true → has_commit later t ≡ false
unfolding IsDistinct
once_apart [] later t once has = absurd (false≢true has)
once_apart (c ∷ first) later t once has =
    elim (or_cases (is_txn t c.txn) (has_commit first t) has) [
      | inl same ↦ subst (λ (u : TxnId). has_commit later u ≡ false) (sym (is_txn-true t c.txn same)) (none_later c.txn first later once.0)
      | inr here ↦ once_apart first later t once.1 here
    ]

-- ---- the laws

pub shown_is_ordered : ShownIsOrdered
shown_is_ordered m r start shown ordered s = subst IsOrdered (sym (shown_state m r start shown s)) (IsOrdered-folded start (operations_of shown) ordered)

pub next_may_be_ordered : NextMayBeOrdered
next_may_be_ordered p start first later next text is =
    let s = SerialCommits-at p.machine.txns start first later next text.serial in
    let order : Order = order_of p.machine p.primary in
    record {
      txn = s.txn;
      known = s.known;
      new = ap (λ (es : List Entry). holds es next.txn) is.entries ∙ (entries_hold next.txn first ∙ once_new first later next text.once);
      asked = s.requested;
      whole = s.whole;
      replays = subst (λ (at : State). Replays at s.txn.calls) (sym (whole_order order start first is)) s.replays;
    }
