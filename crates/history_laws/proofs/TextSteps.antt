-- Texts: their beginnings, one commit more, and what leaves them texts.
use Rattle.std.proofs.Common.{◌≡◌, ◌∙◌, Bool, false, ◌||◌, List, [], ◌∷◌, ◌++◌, map, refl, sym, ap, ap₂, subst}
use Rattle.std.specs.List.{AllByRecursion, IsDistinct}
use Rattle.std.proofs.lemmas.List.{map_push}
use Rattle.std.proofs.lemmas.List.Sums.{fold-append}
use Rattle.std.proofs.lemmas.Map.Keys.{IsDistinct-push}
use Rattle.rc_base.specs.declared.ids.TxnId.{TxnId}
use Rattle.rc_base.specs.Ids.{is_txn}
use Rattle.rc_base.proofs.SameIds.{is_txn_flip, is_txn_equivalence}
use Rattle.coll_model.specs.Effect.{State, effect, folded}
use Rattle.events.proofs.Lists.{list_any-map}
use Rattle.txn_table.specs.declared.committed.Committed.{Committed}
use Rattle.order_machine.specs.Machine.{Txn}
use Rattle.history_laws.specs.Texts.{operations_of, state_after, has_commit, AreOnce, SerialCommit, SerialCommits, IsText}
use Rattle.history_laws.specs.QuietCalls.{SettledStay}
use Rattle.history_laws.proofs.QuietSuffixes.{quiet_same_ops, quiet_replays, quiet_asked, quiet_live}

-- ---- the state after commits

pub state_after-cons : (state : State) (c : Committed) (commits : List Committed) → state_after state (c ∷ commits) ≡ state_after (folded state c.ops) commits
state_after-cons state c commits = fold-append effect state c.ops (operations_of commits)

pub state_after-append : (state : State) (first later : List Committed) → state_after state (first ++ later) ≡ state_after (state_after state first) later
state_after-append state [] later = refl
state_after-append state (c ∷ first) later =
    state_after-cons state c (first ++ later) ∙ (state_after-append (folded state c.ops) first later ∙ ap (λ (s : State). state_after s later) (sym (state_after-cons state c first)))

-- ---- once

pub once_fresh : (commits : List Committed) (c : Committed) → AreOnce commits → has_commit commits c.txn ≡ false → AreOnce (commits ++ c ∷ [])
once_fresh commits c once fresh =
    subst (IsDistinct is_txn) (sym (map_push (λ (d : Committed). d.txn) commits c))
    (IsDistinct-push is_txn_equivalence (map (λ (d : Committed). d.txn) commits) c.txn once (list_any-map (is_txn c.txn) (λ (d : Committed). d.txn) commits ∙ fresh))

txns_front : (P : TxnId → Type 0) (first later : List Committed) → AllByRecursion P (map (λ c. c.txn) (first ++ later)) → AllByRecursion P (map (λ c. c.txn) first)
txns_front P [] later all = tt
txns_front P (c ∷ first) later all = (all.0, txns_front P first later all.1)

txns_at : (P : TxnId → Type 0) (first later : List Committed) (c : Committed) → AllByRecursion P (map (λ c. c.txn) (first ++ c ∷ later)) → P c.txn
txns_at P [] later c all = all.0
txns_at P (d ∷ first) later c all = txns_at P first later c all.1

pub once_front : (first later : List Committed) → AreOnce (first ++ later) → AreOnce first
unfolding IsDistinct
once_front [] later once = tt
once_front (c ∷ first) later once = (txns_front (λ y. is_txn c.txn y ≡ false) first later once.0, once_front first later once.1)

neither : (a b : Bool) → a ≡ false → b ≡ false → (a || b) ≡ false
neither a b e f = ap₂ (λ (p : Bool) (q : Bool). p || q) e f

-- a commit isn't among those before it
pub once_new : (first later : List Committed) (c : Committed) → AreOnce (first ++ c ∷ later) → has_commit first c.txn ≡ false
unfolding IsDistinct
once_new [] later c once = refl
once_new (d ∷ first) later c once =
    neither (is_txn c.txn d.txn) (has_commit first c.txn) (is_txn_flip c.txn d.txn ∙ txns_at (λ y. is_txn d.txn y ≡ false) first later c once.0) (once_new first later c once.1)

-- ---- commits that may stand where they stand

pub SerialCommits-front : (txns : List (TxnId × Txn)) (state : State) (first later : List Committed) → SerialCommits txns state (first ++ later) → SerialCommits txns state first
SerialCommits-front txns state [] later all = tt
SerialCommits-front txns state (c ∷ first) later all = (all.0, SerialCommits-front txns (folded state c.ops) first later all.1)

pub SerialCommits-at : (txns : List (TxnId × Txn)) (state : State) (first later : List Committed) (c : Committed) → SerialCommits txns state (first ++ c ∷ later) → SerialCommit txns (state_after state first) c
SerialCommits-at txns state [] later c all = all.0
SerialCommits-at txns state (d ∷ first) later c all =
    subst (λ (s : State). SerialCommit txns s c) (sym (state_after-cons state d first)) (SerialCommits-at txns (folded state d.ops) first later c all.1)

pub SerialCommits-push : (txns : List (TxnId × Txn)) (state : State) (commits : List Committed) (c : Committed) → SerialCommits txns state commits → SerialCommit txns (state_after state commits) c → SerialCommits txns state (commits ++ c ∷ [])
SerialCommits-push txns state [] c all last = (last, tt)
SerialCommits-push txns state (d ∷ commits) c all last =
    (all.0, SerialCommits-push txns (folded state d.ops) commits c all.1 (subst (λ (s : State). SerialCommit txns s c) (state_after-cons state d commits) last))

-- ---- other transactions

SerialCommit-settled : (old new : List (TxnId × Txn)) → SettledStay old new → (state : State) (c : Committed) → SerialCommit old state c → SerialCommit new state c
SerialCommit-settled old new stay state c s =
    let found = stay c.txn s.txn s.known s.requested s.ended in
    let y : Txn = found.0 in
    record {
      txn = y;
      known = found.1;
      requested = quiet_asked s.txn y found.2 ∙ s.requested;
      ended = quiet_live s.txn y found.2 ∙ s.ended;
      whole = s.whole ∙ sym (quiet_same_ops s.txn y found.2);
      replays = quiet_replays state s.txn y found.2 s.replays;
    }

SerialCommits-settled : (old new : List (TxnId × Txn)) → SettledStay old new → (state : State) (commits : List Committed) → SerialCommits old state commits → SerialCommits new state commits
SerialCommits-settled old new stay state [] all = tt
SerialCommits-settled old new stay state (c ∷ commits) all =
    (SerialCommit-settled old new stay state c all.0, SerialCommits-settled old new stay (folded state c.ops) commits all.1)

pub IsText-settled : (old new : List (TxnId × Txn)) → SettledStay old new → (start : State) (commits : List Committed) → IsText old start commits → IsText new start commits
IsText-settled old new stay start commits text = record { serial = SerialCommits-settled old new stay start commits text.serial; once = text.once }

pub IsText-front : (txns : List (TxnId × Txn)) (start : State) (first later : List Committed) → IsText txns start (first ++ later) → IsText txns start first
IsText-front txns start first later text = record { serial = SerialCommits-front txns start first later text.serial; once = once_front first later text.once }

pub IsText-push : (txns : List (TxnId × Txn)) (start : State) (commits : List Committed) (c : Committed) → IsText txns start commits → SerialCommit txns (state_after start commits) c → has_commit commits c.txn ≡ false → IsText txns start (commits ++ c ∷ [])
IsText-push txns start commits c text last fresh = record { serial = SerialCommits-push txns start commits c text.serial last; once = once_fresh commits c text.once fresh }
