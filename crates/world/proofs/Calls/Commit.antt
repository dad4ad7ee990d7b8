-- The commit at a booted world of a transaction that goes on.
use Rattle.std.proofs.Common.{◌≡◌, ◌∙◌, sym, ap, subst, ℕ, zero, suc, ◌+◌, ◌-◌, ◌≤◌, List, [], ◌∷◌, ◌++◌, length, take, flat_map, Bool, true, false, cond, ◌&&◌, ◌||◌, not, Option, Some, None, is_some, refl, arith, ◌==◌, length-append, append-nil, inl, inr, ◌⊎◌}
use Rattle.std.specs.Option.{option_map_or}
use Rattle.std.specs.List.{list_any}
use Rattle.std.specs.Map.{lookup}
use Rattle.std.proofs.lemmas.Bool.{false≢true, false_from_ne_true, or_cases, cond-true, or_parts}
use Rattle.std.proofs.lemmas.Grind.{flat_map-append}
use Rattle.std.proofs.lemmas.List.Folds.{list_any-append}
use Rattle.std.proofs.lemmas.List.Sums.{fold-append}
use Rattle.std.proofs.lemmas.Option.{none-some, same_Some}
use Rattle.std.proofs.Math.Bool.{or-false, or-true}
use Rattle.rc_base.specs.declared.ids.TxnId.{TxnId}
use Rattle.coll_model.specs.Effect.{State, effect, folded}
use Rattle.events.specs.declared.event.Event.TheVariants.{Client}
use Rattle.events.specs.declared.call.Call.TheVariants.{Commit}
use Rattle.order_machine.specs.declared.observation.Observation.{Observation}
use Rattle.order_machine.specs.declared.observation.Observation.TheVariants as says
use Rattle.rc_base.specs.Ids.{is_txn, is_epoch, epoch_le}
use Rattle.order_machine.specs.Order.{Entry, holds, before}
use Rattle.order_machine.specs.Machine.{Machine, Txn, Role, is_pending, is_shown, role_of, put_txn, ops_of, ended_at}
use Rattle.order_machine.specs.Clients.{answer}
use Rattle.events.specs.Replay.{Replays}
use Rattle.order_machine.specs.Transitions.{Position, May, opened, asking, going_at, at_start, after}
use Rattle.order_machine.specs.Legal.{IsWhole, moved}
use Rattle.rc_base.proofs.SameIds.{is_txn-true, is_txn_same, is_epoch-true, is_epoch_same, is_txn_equivalence}
use Rattle.key_locks.specs.Grants.{Grant, released}
use Rattle.lock_laws.specs.Protected.{AreProtected}
use Rattle.lock_laws.proofs.ProtectedGrants.{AreExclusive-released}
use Rattle.txn_front.specs.Front.{Fronted, Going, going_of}
use Rattle.world.specs.Running.{running, state_of, Runs, RunsWith, IsKept}
use Rattle.world.specs.Course.{IsCourse}
use Rattle.world.specs.World.{IsShutWith}
use Rattle.world.specs.Standing.{Course, standing, serving, shut}
use Rattle.world.proofs.States.NothingPending.{holds_behind, never_there}
use Rattle.world.proofs.Calls.Abort.{Ends}
use Rattle.world.proofs.Calls.Collection.{going_told}
use Rattle.world.proofs.States.Booted.{running_unrefused}
use Rattle.world.proofs.Calls.OneTxn.{at_own, at_other}
use Rattle.key_locks.proofs.Flat.{alike_released}
use Rattle.lock_laws.proofs.ProtectedCalls.{AreProtected-released, AreProtected-behind_commit, Replays-from_protected}
use Rattle.lock_laws.proofs.ProtectedStates.{IsOrdered-nil, IsOrdered-folded}
use Rattle.world.proofs.States.PastTxns.{past_of_runs}
use Rattle.world.proofs.Calls.Replies.{machine_of, IsKnown, known_of, answer_told, all_taken, state_is}
use Rattle.world.proofs.States.RoleEnd.{holds_without_role}
use Rattle.world.proofs.States.Beginnings.{served_from}

abbrev asked_of : Txn → Txn
asked_of x = record x { live = false; asked = true }

abbrev pub entry_of : TxnId → Going → Entry
entry_of t g = record { txn = t; ops = g.ops }

-- the machine at the second line and at the third: replica 0 shows this many transactions
abbrev grown : List Entry → List TxnId → List (TxnId × Txn) → ℕ → ℕ → List Grant → Course → Machine
grown entries acknowledged txns begins shown grants course = standing entries acknowledged (serving course shown begins grants) txns course

abbrev pub lines_of : TxnId → Going → ℕ → List Observation
lines_of t g shown = says.Order t g.ops ∷ says.View 0 (shown + 1) ∷ says.Committed t ∷ []

-- what a commit is about: the machine's lists, and the transaction with what it has done
pub record Scene : Type 0 where
  pub begins : ℕ
  pub entries : List Entry
  pub acknowledged : List TxnId
  pub txns : List (TxnId × Txn)
  pub grants : List Grant
  pub course : Course
  pub t : TxnId
  pub g : Going
  pub x : Txn

abbrev start_of : Scene → Position
start_of s = at_start (running s.entries s.acknowledged ((s.t, asked_of s.x) ∷ s.txns) s.begins s.grants s.course) (Client 0 (Commit s.t)) 0 None []

-- ---- facts of lists

before_new : (t : TxnId) (entries : List Entry) (e : Entry) → holds entries t ≡ false → is_txn t e.txn ≡ true → before t (entries ++ e ∷ []) ≡ entries
before_new t [] e h s = rw s refl
before_new t (x ∷ xs) e h s = let o = or_parts (is_txn t x.txn) (holds xs t) h in rw o.0 (ap (λ ys. x ∷ ys) (before_new t xs e o.1 s))

-- ---- the lines

order_may : (s : Scene) → holds s.entries s.t ≡ false → ops_of s.x ≡ s.g.ops → Replays (state_of s.entries) s.x.calls → May (start_of s) (says.Order s.t s.g.ops)
order_may s new logged replays = record {
  named = refl;
  in_rank = refl;
  next = refl;
  goes_on = refl;
  row = record {
    txn = asked_of s.x;
    known = rw (is_txn_same s.t) refl;
    new = new;
    asked = refl;
    whole = sym logged;
    replays = subst (λ state. Replays state s.x.calls) (sym (state_is s.entries (0 + length s.entries) (omega arith))) replays;
  };
}

view_may : (s : Scene) (shown : ℕ) → shown ≡ length s.entries → May (after (start_of s) (says.Order s.t s.g.ops)) (says.View 0 (shown + 1))
view_may s shown all = record {
  named = refl;
  in_rank = refl;
  next = refl;
  goes_on = refl;
  row = record {
    within = omega (arith, length-append s.entries (entry_of s.t s.g ∷ []));
    all_that_grew = λ _. omega (arith, length-append s.entries (entry_of s.t s.g ∷ []));
    grew_here = λ _. refl;
    more = λ _. omega arith;
    primary = λ _. refl;
    acts = refl;
  };
}

-- where the second line leads, and the third
abbrev third : Scene → ℕ → Position
third s shown = after (after (start_of s) (says.Order s.t s.g.ops)) (says.View 0 (shown + 1))

abbrev pub with_entry : List Entry → TxnId → Going → List Entry
with_entry entries t g = entries ++ entry_of t g ∷ []

shown_there : (entries : List Entry) (shown : ℕ) (t : TxnId) (g : Going) (u : TxnId) → shown ≡ length entries → holds (with_entry entries t g) u ≡ true → holds (take (shown + 1 - 0) (with_entry entries t g)) u ≡ true
shown_there entries shown t g u all h =
    let e : take (shown + 1 - 0) (with_entry entries t g) ≡ with_entry entries t g = all_taken (with_entry entries t g) (shown + 1) (omega (arith, length-append entries (entry_of t g ∷ []))) in
    rw e h

held_new : (entries : List Entry) (t : TxnId) (g : Going) → holds (with_entry entries t g) t ≡ true
held_new entries t g = list_any-append (λ e. is_txn t e.txn) entries (entry_of t g ∷ []) ∙ rw (is_txn_same t) (or-true (holds entries t))

held_more : (entries : List Entry) (t : TxnId) (g : Going) (u : TxnId) → holds entries u ≡ true → holds (with_entry entries t g) u ≡ true
held_more entries t g u h = list_any-append (λ e. is_txn u e.txn) entries (entry_of t g ∷ []) ∙ rw h refl

held_others : (entries : List Entry) (t : TxnId) (g : Going) (u : TxnId) → is_txn u t ≡ false → holds entries u ≡ false → holds (with_entry entries t g) u ≡ false
held_others entries t g u other h = list_any-append (λ e. is_txn u e.txn) entries (entry_of t g ∷ []) ∙ rw (h, other) refl

asked_and_acked : (f a c d : Bool) → (c ≡ true → f ≡ true → d ≡ true) → ((f && a) && (c && not d)) ≡ false
asked_and_acked false a c d g = refl
asked_and_acked true true true d g = let e = g refl refl in rw e refl
asked_and_acked true true false d g = refl
asked_and_acked true false c d g = refl

-- what else was asked isn't pending
others_done : (s : Scene) → ((u : TxnId) (y : Txn) → lookup (is_txn u) s.txns ≡ Some y → u.epoch ≡ s.course.latest → y.asked ≡ true → list_any (is_txn u) s.acknowledged ≡ true) →
    (shown : ℕ) (u : TxnId) (b : Bool) → is_txn u s.t ≡ b → b ≡ false → is_pending (third s shown).machine 0 u ≡ false
others_done s asked shown u true same off = absurd (false≢true (sym off))
others_done s asked shown u false other off = rw other (by_known (lookup (is_txn u) s.txns) (λ y e. asked u y e))
  where
    by_known : (o : Option Txn) → ((y : Txn) → o ≡ Some y → u.epoch ≡ s.course.latest → y.asked ≡ true → list_any (is_txn u) s.acknowledged ≡ true) →
        (option_map_or (λ y. y.asked && (y.home == 0)) o false && (is_epoch u.epoch s.course.latest && not (list_any (is_txn u) s.acknowledged))) ≡ false
    by_known None f = refl
    by_known (Some y) f = asked_and_acked y.asked (y.home == 0) (is_epoch u.epoch s.course.latest) (list_any (is_txn u) s.acknowledged) (λ here e. f y refl (is_epoch-true u.epoch s.course.latest here) e)

-- the third line
commit_may : (s : Scene) (shown : ℕ) → ((u : TxnId) (y : Txn) → lookup (is_txn u) s.txns ≡ Some y → u.epoch ≡ s.course.latest → y.asked ≡ true → list_any (is_txn u) s.acknowledged ≡ true) →
    s.x.home ≡ 0 → s.t.epoch ≡ s.course.latest → holds s.entries s.t ≡ false → list_any (is_txn s.t) s.acknowledged ≡ false → shown ≡ length s.entries →
    May (third s shown) (says.Committed s.t)
commit_may s shown asked home epoch not_held not_acked all =
    let there : is_shown (third s shown).machine 0 s.t ≡ true = shown_there s.entries shown s.t s.g s.t all (held_new s.entries s.t s.g) in
    record {
      named = refl;
      in_rank = refl;
      next = refl;
      goes_on = refl;
      row = record {
        pending = rw (is_txn_same s.t, home, is_epoch_of s.t epoch, not_acked) refl;
        shown = there;
        first = λ u h. others_done s asked shown u (is_txn u s.t) refl (false_from_ne_true (is_txn u s.t) (λ same. first_not u h same));
        elsewhere = λ q role is on above. elsewhere_at q role is there;
      };
    }
  where
    is_epoch_of : (u : TxnId) → u.epoch ≡ s.course.latest → is_epoch u.epoch s.course.latest ≡ true
    is_epoch_of u e = subst (λ x. is_epoch x s.course.latest ≡ true) (sym e) (is_epoch_same s.course.latest)

    first_not : (u : TxnId) → holds (before s.t (with_entry s.entries s.t s.g)) u ≡ true → is_txn u s.t ≡ true → ⊥
    first_not u h same =
        let b : before s.t (with_entry s.entries s.t s.g) ≡ s.entries = before_new s.t s.entries (entry_of s.t s.g) not_held (is_txn_same s.t) in
        let there : holds s.entries u ≡ true = rw b at h in
        let w : u ≡ s.t = is_txn-true u s.t same in
        let P : TxnId → Type 0 = λ v. holds s.entries v ≡ true in
        false≢true (sym not_held ∙ subst P w there)

    elsewhere_at : (q : ℕ) (role : Role) → role_of (third s shown).machine q ≡ Some role →
        is_shown (third s shown).machine 0 s.t ≡ true → is_shown (third s shown).machine q s.t ≡ true
    elsewhere_at zero role is there = there
    elsewhere_at (suc q) role is there = absurd (none-some role (let n = never_there 8 q in rw n at is))

-- ---- the machine behind them

abbrev scene_of : (front : Fronted) (shown : ℕ) (contents : State) (m : Machine) (h : Runs front shown contents m) (t : TxnId) (g : Going) → IsKnown front shown contents m h t g → Scene
scene_of front shown contents m h t g k = record { begins = front.begins; entries = h.entries; acknowledged = h.acknowledged; txns = h.txns; grants = h.grants; course = h.course; t = t; g = g; x = k.txn }

state_more : (entries : List Entry) (t : TxnId) (g : Going) → folded (state_of entries) g.ops ≡ state_of (with_entry entries t g)
state_more entries t g =
    sym (ap (folded []) (flat_map-append (λ e. e.ops) entries (entry_of t g ∷ []) ∙ ap (λ ops. flat_map (λ e. e.ops) entries ++ ops) (append-nil g.ops))
    ∙ fold-append effect [] (flat_map (λ e. e.ops) entries) g.ops)

each_done : (front new : Fronted) (shown : ℕ) (contents : State) (m : Machine) (h : Runs front shown contents m) (t : TxnId) (g : Going) (k : IsKnown front shown contents m h t g) → Ends front new t →
    (u : TxnId) (y : Txn) (b : Bool) → is_txn u t ≡ b → cond b (Some (asked_of k.txn)) (lookup (is_txn u) h.txns) ≡ Some y →
    IsKept h.course new (released h.grants t) (with_entry h.entries t g) (t ∷ h.acknowledged) u y
each_done front new shown contents m h t g k c u y true same e =
    let was = h.each t k.txn k.known in
    let own : going_of new t ≡ None = at_own front new front.begins t None (released front.grants t) c in
    let P : TxnId → Type 0 = λ v. IsKept h.course new (released h.grants t) (with_entry h.entries t g) (t ∷ h.acknowledged) v y in
    let Q : Txn → Type 0 = λ z. IsKept h.course new (released h.grants t) (with_entry h.entries t g) (t ∷ h.acknowledged) t z in
    subst P (sym (is_txn-true u t same)) (subst Q (same_Some (asked_of k.txn) y e) (record {
      home = was.home;
      within = was.within;
      begun = λ here. let b = was.begun here in let n = c.begins_now in omega (arith, b, n);
      on = ap is_some (sym own);
      here = λ on. absurd (false≢true on);
      asked = λ _ _. rw (is_txn_same t) refl;
      not_held = λ on. absurd (false≢true on);
      not_acknowledged = λ on. absurd (false≢true on);
      logged = λ f is. absurd (none-some f (sym own ∙ is));
      protected = λ on. absurd (false≢true on);
    }))
each_done front new shown contents m h t g k c u y false other e =
    let was = h.each u y e in
    let theirs = (h.each t k.txn k.known).protected k.on in
    let same = at_other front new front.begins t None (released front.grants t) c u other in
    record {
      home = was.home;
      within = was.within;
      begun = λ here. let b = was.begun here in let n = c.begins_now in omega (arith, b, n);
      on = was.on ∙ ap is_some (sym same);
      here = was.here;
      asked = λ here f. rw other (was.asked here f);
      not_held = λ on. held_others h.entries t g u other (was.not_held on);
      not_acknowledged = λ on. rw other (was.not_acknowledged on);
      logged = λ f is. was.logged f (sym same ∙ is);
      protected = λ on.
          subst (λ state. AreProtected (released h.grants t) u state y.calls) (ap (folded (state_of h.entries)) k.ops ∙ state_more h.entries t g)
          (AreProtected-released h.grants t u (folded (state_of h.entries) (ops_of k.txn)) y.calls (is_txn_equivalence.symm t u ∙ other)
          (AreProtected-behind_commit h.grants u t (state_of h.entries) y.calls k.txn.calls h.exclusive other (IsOrdered-folded [] (flat_map (λ e. e.ops) h.entries) IsOrdered-nil) theirs (was.protected on)));
    }

pub commit_runs : (front new : Fronted) (shown : ℕ) (contents : State) (m : Machine) (h : Runs front shown contents m) (t : TxnId) (g : Going) (k : IsKnown front shown contents m h t g) → Ends front new t →
    Runs new (shown + 1) (folded contents g.ops) (after (third (scene_of front shown contents m h t g k) shown) (says.Committed t)).machine
commit_runs front new shown contents m h t g k c = record {
  entries = with_entry h.entries t g;
  acknowledged = t ∷ h.acknowledged;
  txns = (t, asked_of k.txn) ∷ h.txns;
  grants = released h.grants t;
  course = h.course;
  is = ap (λ n. grown (with_entry h.entries t g) (t ∷ h.acknowledged) ((t, asked_of k.txn) ∷ h.txns) front.begins n (released h.grants t) h.course) more
      ∙ ap (λ b. running (with_entry h.entries t g) (t ∷ h.acknowledged) ((t, asked_of k.txn) ∷ h.txns) b (released h.grants t) h.course) (sym c.begins_now);
  epoch = c.epoch ∙ h.epoch;
  alike = λ name. alike_released h.grants front.grants h.alike t name ∙ c.grants_now name;
  exclusive = AreExclusive-released h.grants t h.exclusive;
  all_shown = more;
  sees = ap (λ s. folded s g.ops) h.sees ∙ state_more h.entries t g;
  each = λ u y e. each_done front new shown contents m h t g k c u y (is_txn u t) refl e;
  live_known = λ u f e. known_there u f e (is_txn u t) refl;
  held = λ u e. held_there u (is_txn u t) refl e;
  held_within = λ u e. within_there u (held_cases u e);
  held_begun = λ u e here. let b = c.begins_now in let n = begun_there u (held_cases u e) here in omega (arith, b, n);
}
  where
    more : shown + 1 ≡ length (with_entry h.entries t g)
    more = let a = h.all_shown in omega (arith, a, length-append h.entries (entry_of t g ∷ []))

    known_there : (u : TxnId) (f : Going) → going_of new u ≡ Some f → (b : Bool) → is_txn u t ≡ b → (y : Txn) × (cond b (Some (asked_of k.txn)) (lookup (is_txn u) h.txns) ≡ Some y)
    known_there u f e true same = (asked_of k.txn, refl)
    known_there u f e false other = h.live_known u f (sym (at_other front new front.begins t None (released front.grants t) c u other) ∙ e)

    held_there : (u : TxnId) (b : Bool) → is_txn u t ≡ b → (b || list_any (is_txn u) h.acknowledged) ≡ true → holds (with_entry h.entries t g) u ≡ true
    held_there u true same e = let w : u ≡ t = is_txn-true u t same in rw w (held_new h.entries t g)
    held_there u false other e = held_more h.entries t g u (h.held u e)

    held_cases : (u : TxnId) → holds (with_entry h.entries t g) u ≡ true → (holds h.entries u ≡ true) ⊎ ((is_txn u t || false) ≡ true)
    held_cases u e = or_cases (holds h.entries u) (is_txn u t || false) (sym (list_any-append (λ f. is_txn u f.txn) h.entries (entry_of t g ∷ [])) ∙ e)

    within_there : (u : TxnId) → (holds h.entries u ≡ true) ⊎ ((is_txn u t || false) ≡ true) → epoch_le u.epoch h.course.latest ≡ true
    within_there u (inl e) = h.held_within u e
    within_there u (inr e) = let w : u ≡ t = is_txn-true u t (sym (or-false (is_txn u t)) ∙ e) in subst (λ (v : TxnId). epoch_le v.epoch h.course.latest ≡ true) (sym w) (h.each t k.txn k.known).within

    begun_there : (u : TxnId) → (holds h.entries u ≡ true) ⊎ ((is_txn u t || false) ≡ true) → u.epoch ≡ h.course.latest → u.n ≤ front.begins
    begun_there u (inl e) here = h.held_begun u e here
    begun_there u (inr e) here = let w : u ≡ t = is_txn-true u t (sym (or-false (is_txn u t)) ∙ e) in subst (λ (v : TxnId). v.epoch ≡ h.course.latest → v.n ≤ front.begins) (sym w) (h.each t k.txn k.known).begun here

-- ---- the event

asked_commit : (front : Fronted) (shown : ℕ) (contents : State) (m : Machine) (h : Runs front shown contents m) (t : TxnId) (g : Going) (k : IsKnown front shown contents m h t g) → going_of front t ≡ Some g →
    opened (machine_of h) (Client 0 (Commit t)) ≡ start_of (scene_of front shown contents m h t g k)
asked_commit front shown contents m h t g k is =
    let n : Machine = machine_of h in
    let there : going_at n 0 t ≡ Some k.txn = cond-true _ (lookup (is_txn t) h.txns) None k.live_there ∙ k.known in
    let asked : asking n 0 (Commit t) ≡ running h.entries h.acknowledged ((t, asked_of k.txn) ∷ h.txns) front.begins h.grants h.course = ap (λ o. option_map_or (λ x. put_txn n t (asked_of x)) o n) there in
    let unanswered = answer_told front shown contents m h (Commit t) ∙ going_told front contents (Commit t) t g refl is in
    ap (λ w. at_start w (Client 0 (Commit t)) 0 (answer n 0 (Commit t)) []) asked
    ∙ ap (λ client. at_start (running h.entries h.acknowledged ((t, asked_of k.txn) ∷ h.txns) front.begins h.grants h.course) (Client 0 (Commit t)) 0 client []) unanswered

commit_lines : (front : Fronted) (shown : ℕ) (contents : State) (m : Machine) (h : Runs front shown contents m) (t : TxnId) (g : Going) (k : IsKnown front shown contents m h t g) →
    May (start_of (scene_of front shown contents m h t g k)) (says.Order t g.ops) × (May (after (start_of (scene_of front shown contents m h t g k)) (says.Order t g.ops)) (says.View 0 (shown + 1)) × May (third (scene_of front shown contents m h t g k) shown) (says.Committed t))
commit_lines front shown contents m h t g k =
    let s : Scene = scene_of front shown contents m h t g k in
    let was = h.each t k.txn k.known in (
      order_may s (was.not_held k.on) k.ops (Replays-from_protected h.grants t (state_of h.entries) k.txn.calls (was.protected k.on)),
      (
        view_may s shown h.all_shown,
        commit_may s shown (λ u y e here. (h.each u y e).asked here) was.home (was.here k.on) (was.not_held k.on) (was.not_acknowledged k.on) h.all_shown,
      ),
    )

pub commit_serves : (front new : Fronted) (shown : ℕ) (contents : State) (m : Machine) (t : TxnId) (g : Going) (h : Runs front shown contents m) → going_of front t ≡ Some g → Ends front new t →
    IsWhole m (Client 0 (Commit t)) (lines_of t g shown) × RunsWith (with_entry h.entries t g) h.course new (shown + 1) (folded contents g.ops) (moved m (Client 0 (Commit t)) (lines_of t g shown))
unfolding commit_runs
commit_serves front new shown contents m t g h is c =
    let n : Machine = machine_of h in
    let k = known_of front shown contents m h t g is in
    let p : Position = start_of (scene_of front shown contents m h t g k) in
    let may = commit_lines front shown contents m h t g k in
    let then = commit_runs front new shown contents m h t g k c in
    let P : Machine → Type 0 = λ at. IsWhole at (Client 0 (Commit t)) (lines_of t g shown) × RunsWith (with_entry h.entries t g) h.course new (shown + 1) (folded contents g.ops) (moved at (Client 0 (Commit t)) (lines_of t g shown)) in
    subst P (sym h.is) (served_from n (Client 0 (Commit t)) (lines_of t g shown) p (RunsWith (with_entry h.entries t g) h.course new (shown + 1) (folded contents g.ops)) (running_unrefused front shown contents m h (Commit t)) (asked_commit front shown contents m h t g k is)
    (record {
      may = (may.0, (may.1.0, (may.1.1, tt)));
      complete = record { opened = refl; grown = refl; mounted = refl; told = refl; answered = rw (is_txn_same t) refl };
      holds = holds_behind _ _ _ _ then;
    })
    (then, (refl, refl)))

-- a closed replica behind these decisions
abbrev pub IsShutFrom : Course → List Entry → Machine → Type 0
IsShutFrom course entries m = (shut_there : IsShutWith entries m) × (shut_there.course ≡ course)

-- the same, where the disk fails behind them
pub commit_faults : (front new : Fronted) (shown : ℕ) (contents : State) (m : Machine) (t : TxnId) (g : Going) (h : Runs front shown contents m) → IsCourse h.course → going_of front t ≡ Some g → Ends front new t →
    IsWhole m (Client 0 (Commit t)) (lines_of t g shown ++ says.Fault 0 ∷ []) × IsShutFrom h.course (with_entry h.entries t g) (moved m (Client 0 (Commit t)) (lines_of t g shown ++ says.Fault 0 ∷ []))
unfolding commit_runs
commit_faults front new shown contents m t g h ruled is c =
    let n : Machine = machine_of h in
    let k = known_of front shown contents m h t g is in
    let s : Scene = scene_of front shown contents m h t g k in
    let may = commit_lines front shown contents m h t g k in
    let then = commit_runs front new shown contents m h t g k c in
    let holds_then = holds_behind _ _ _ _ then in
    let q : Position = after (third s shown) (says.Committed t) in
    let fault_may : May q (says.Fault 0) = record {
      named = refl;
      in_rank = refl;
      next = refl;
      goes_on = refl;
      row = inr (record { acts = refl; rose = refl; answered = rw (is_txn_same t) refl; nothing_due = λ u p. holds_then.not_shown 0 u p; is_up = refl });
    } in
    let P : Machine → Type 0 = λ at. IsWhole at (Client 0 (Commit t)) (lines_of t g shown ++ says.Fault 0 ∷ []) × IsShutFrom h.course (with_entry h.entries t g) (moved at (Client 0 (Commit t)) (lines_of t g shown ++ says.Fault 0 ∷ [])) in
    subst P (sym h.is) (served_from n (Client 0 (Commit t)) (lines_of t g shown ++ says.Fault 0 ∷ []) (start_of s) (IsShutFrom h.course (with_entry h.entries t g)) (running_unrefused front shown contents m h (Commit t)) (asked_commit front shown contents m h t g k is)
    (record {
      may = (may.0, (may.1.0, (may.1.1, (fault_may, tt))));
      complete = record { opened = refl; grown = refl; mounted = refl; told = refl; answered = rw (is_txn_same t) refl };
      holds = holds_without_role (with_entry h.entries t g) (t ∷ h.acknowledged) (shut h.course (shown + 1)) (ended_at 0 ((t, asked_of k.txn) ∷ h.txns)) h.course refl;
    })
    (record { acknowledged = t ∷ h.acknowledged; txns = ended_at 0 ((t, asked_of k.txn) ∷ h.txns); course = h.course; shown = shown + 1; is = refl; ruled = ruled; past = past_of_runs new (shown + 1) (folded contents g.ops) _ then }, refl))
