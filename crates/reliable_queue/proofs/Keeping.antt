-- What each change of a queue keeps, and what it makes of the values at each version.
use Rattle.std.proofs.Common.{◌≡◌, ◌∙◌, ℕ, ◌+◌, ◌-◌, ◌<◌, ◌≤◌, min, List, [], ◌∷◌, ◌++◌, length, take, drop, get_or, refl, sym, ap, ap₂, subst, inl, inr, arith}
use Rattle.std.proofs.Math.Seq.{take-length}
use Rattle.std.proofs.lemmas.Bool.{cases_lt, lt-ltb, le-ltb}
use Rattle.std.proofs.lemmas.List.{length-take, length-take-le, length-drop, length_push, take-take, take-append-le, drop-append-le, drop-take, drop-drop, drop_all, take_more}
use Rattle.rc_base.specs.declared.ids.Lsn.{Lsn}
use Rattle.coll_model.specs.declared.op.Op.{Op}
use Rattle.coll_model.specs.declared.op.Op.TheVariants.{Make, Unmake, Put, Del, Push, Pop}
use Rattle.coll_model.specs.declared.contents.Contents.{Contents}
use Rattle.coll_model.specs.declared.contents.Contents.TheVariants.{Queue}
use Rattle.provider_law.specs.Views.{Written, alone}
use Rattle.reliable_queue.specs.Queues.{Versioned, IsQueue, empty_at, pushed, head_taken, rested, popped, operated, cut_to, merged, loaded, up_to, values_at}
use Rattle.reliable_queue.proofs.Versions.{Rise, Reach, all_from, all_by_place, rise_from, rise_by_place, up_to_most, all_to, up_to_rises, one_above, one_within, reach_more, reach_one, rise_one, all_take, rise_take, reach_take, up_to_take, all_drop, rise_drop, up_to_drop, none_left}

-- ---- the facts of a queue, one after another

pushes_rise : (q : Versioned) → IsQueue q → Rise q.pushes
pushes_rise q is = rise_from q.pushes is.pushes_rise

pops_rise : (q : Versioned) → IsQueue q → Rise q.pops
pops_rise q is = rise_from q.pops is.pops_rise

pushes_reach : (q : Versioned) → IsQueue q → Reach q.top.0 q.pushes
pushes_reach q is = all_from (λ (at : Lsn). at.0 ≤ q.top.0) q.pushes is.pushes_reach

pops_reach : (q : Versioned) → IsQueue q → Reach q.top.0 q.pops
pops_reach q is = all_from (λ (at : Lsn). at.0 ≤ q.top.0) q.pops is.pops_reach

-- all values, without those that were popped
full : (q : Versioned) (w : ℕ) → length q.values ≡ length q.pushes → Reach w q.pushes → Reach w q.pops → values_at q w ≡ drop (length q.pops) q.values
full q w each pushes pops =
    ap₂ (λ (m n : ℕ). drop m (take n q.values)) (all_to w q.pops pops) (all_to w q.pushes pushes ∙ sym each) ∙ ap (drop (length q.pops)) (take-length q.values)

-- so they rest from the top on
rests_above : (q : Versioned) → length q.values ≡ length q.pushes → Reach q.top.0 q.pushes → Reach q.top.0 q.pops → (w : ℕ) → q.top.0 ≤ w → values_at q w ≡ values_at q q.top.0
rests_above q each pushes pops w le =
    full q w each (reach_more q.top.0 w q.pushes le pushes) (reach_more q.top.0 w q.pops le pops) ∙ sym (full q q.top.0 each pushes pops)

pub made : (q : Versioned) → q.floor.0 ≤ q.top.0 → length q.values ≡ length q.pushes → Rise q.pushes → Rise q.pops → Reach q.top.0 q.pushes → Reach q.top.0 q.pops → ((w : ℕ) → up_to w q.pops ≤ up_to w q.pushes) → IsQueue q
made q order each pushes_up pops_up pushes pops enough = record {
  in_order = order;
  each = each;
  pushes_rise = rise_by_place q.pushes pushes_up;
  pops_rise = rise_by_place q.pops pops_up;
  pushes_reach = all_by_place (λ (at : Lsn). at.0 ≤ q.top.0) q.pushes pushes;
  pops_reach = all_by_place (λ (at : Lsn). at.0 ≤ q.top.0) q.pops pops;
  rests = rests_above q each pushes pops;
  enough = enough;
}

pub values_at_top : (q : Versioned) (w : ℕ) → IsQueue q → q.top.0 ≤ w → values_at q w ≡ drop (length q.pops) q.values
values_at_top q w is le =
    full q w is.each (reach_more q.top.0 w q.pushes le (pushes_reach q is)) (reach_more q.top.0 w q.pops le (pops_reach q is))

-- ---- a push

enough_pushed : (q : Versioned) (v : Lsn) → IsQueue q → q.top.0 ≤ v.0 → (w : ℕ) → up_to w q.pops ≤ up_to w (q.pushes ++ v ∷ [])
enough_pushed q v is le w =
    elim (cases_lt w v.0) [
      | inl lt ↦ subst (λ (n : ℕ). up_to w q.pops ≤ n) (sym (one_above w q.pushes v lt)) (is.enough w)
      | inr ge ↦
          let within : q.top.0 ≤ w = omega (arith, le, ge) in
          let all = one_within w q.pushes v (reach_more q.top.0 w q.pushes within (pushes_reach q is)) ge in
          omega (arith, all, is.enough w, up_to_most w q.pushes)
    ]

pub push_keeps : (q : Versioned) (v : Lsn) (value : List ℕ) → IsQueue q → q.top.0 ≤ v.0 → IsQueue (pushed q v value)
push_keeps q v value is le =
    made (pushed q v value) (omega (arith, is.in_order, le)) (omega (arith, length_push q.values value, is.each, length_push q.pushes v)) (rise_one q.pushes v (pushes_rise q is) (reach_more q.top.0 v.0 q.pushes le (pushes_reach q is))) ((pops_rise q is)) (reach_one v.0 q.pushes v (reach_more q.top.0 v.0 q.pushes le (pushes_reach q is)) (omega arith)) (reach_more q.top.0 v.0 q.pops le (pops_reach q is)) (enough_pushed q v is le)

few_pops : (q : Versioned) → IsQueue q → length q.pops ≤ length q.values
few_pops q is =
    let pops = all_to q.top.0 q.pops (pops_reach q is) in
    omega (arith, pops, is.enough q.top.0, up_to_most q.top.0 q.pushes, is.each)

pub push_below : (q : Versioned) (v : Lsn) (value : List ℕ) (w : ℕ) → IsQueue q → w < v.0 → values_at (pushed q v value) w ≡ values_at q w
push_below q v value w is lt =
    let few : up_to w q.pushes ≤ length q.values = omega (arith, up_to_most w q.pushes, is.each) in
    ap (λ (n : ℕ). drop (up_to w q.pops) (take n (q.values ++ value ∷ []))) (one_above w q.pushes v lt)
    ∙ ap (drop (up_to w q.pops)) (take-append-le (up_to w q.pushes) q.values (value ∷ []) few)

pub push_from : (q : Versioned) (v : Lsn) (value : List ℕ) (w : ℕ) → IsQueue q → q.top.0 ≤ v.0 → v.0 ≤ w → values_at (pushed q v value) w ≡ values_at q q.top.0 ++ value ∷ []
push_from q v value w is le ge =
    values_at_top (pushed q v value) w (push_keeps q v value is le) ge
    ∙ drop-append-le (length q.pops) q.values (value ∷ []) (few_pops q is)
    ∙ ap (λ (vs : List (List ℕ)). vs ++ value ∷ []) (sym (values_at_top q q.top.0 is (omega arith)))

-- ---- a pop

enough_popped : (q : Versioned) (v : Lsn) → IsQueue q → q.top.0 ≤ v.0 → length q.pops < length q.pushes → (w : ℕ) → up_to w (q.pops ++ v ∷ []) ≤ up_to w q.pushes
enough_popped q v is le more w =
    elim (cases_lt w v.0) [
      | inl lt ↦ subst (λ (n : ℕ). n ≤ up_to w q.pushes) (sym (one_above w q.pops v lt)) (is.enough w)
      | inr ge ↦
          let within : q.top.0 ≤ w = omega (arith, le, ge) in
          let pops = one_within w q.pops v (reach_more q.top.0 w q.pops within (pops_reach q is)) ge in
          let pushes = all_to w q.pushes (reach_more q.top.0 w q.pushes within (pushes_reach q is)) in
          omega (arith, pops, pushes, more)
    ]

pub pop_keeps : (q : Versioned) (v : Lsn) → IsQueue q → q.top.0 ≤ v.0 → length q.pops < length q.pushes → IsQueue (head_taken q v)
pop_keeps q v is le more =
    made (head_taken q v) (omega (arith, is.in_order, le)) is.each ((pushes_rise q is)) (rise_one q.pops v (pops_rise q is) (reach_more q.top.0 v.0 q.pops le (pops_reach q is))) (reach_more q.top.0 v.0 q.pushes le (pushes_reach q is)) (reach_one v.0 q.pops v (reach_more q.top.0 v.0 q.pops le (pops_reach q is)) (omega arith)) (enough_popped q v is le more)

pub pop_below : (q : Versioned) (v : Lsn) (w : ℕ) → w < v.0 → values_at (head_taken q v) w ≡ values_at q w
pop_below q v w lt = ap (λ (n : ℕ). drop n (take (up_to w q.pushes) q.values)) (one_above w q.pops v lt)

pub pop_from : (q : Versioned) (v : Lsn) (w : ℕ) → IsQueue q → q.top.0 ≤ v.0 → length q.pops < length q.pushes → v.0 ≤ w → values_at (head_taken q v) w ≡ drop 1 (values_at q q.top.0)
pop_from q v w is le more ge =
    values_at_top (head_taken q v) w (pop_keeps q v is le more) ge
    ∙ ap (λ (n : ℕ). drop n q.values) (length_push q.pops v)
    ∙ sym (drop-drop 1 (length q.pops) q.values)
    ∙ ap (drop 1) (sym (values_at_top q q.top.0 is (omega arith)))

-- ---- nothing

pub rest_keeps : (q : Versioned) (v : Lsn) → IsQueue q → q.top.0 ≤ v.0 → IsQueue (rested q v)
rest_keeps q v is le =
    made (rested q v) (omega (arith, is.in_order, le)) is.each ((pushes_rise q is)) ((pops_rise q is)) (reach_more q.top.0 v.0 q.pushes le (pushes_reach q is)) (reach_more q.top.0 v.0 q.pops le (pops_reach q is)) is.enough

-- nothing is there, where all that was pushed is popped
pub nothing_left : (q : Versioned) → IsQueue q → length q.pushes ≤ length q.pops → drop 1 (values_at q q.top.0) ≡ values_at q q.top.0
nothing_left q is all =
    let none : values_at q q.top.0 ≡ [] = values_at_top q q.top.0 is (omega arith) ∙ drop_all (length q.pops) q.values (omega (arith, all, is.each)) in
    ap (drop 1) none ∙ sym none

-- ---- an undo

reach_least : (a b : ℕ) (ats : List Lsn) → Reach a ats → Reach b ats → Reach (min a b) ats
reach_least a b [] x y = tt
reach_least a b (at ∷ ats) x y = (omega (arith, x.0, y.0), reach_least a b ats x.1 y.1)

pub cut_keeps : (q : Versioned) (v : Lsn) → IsQueue q → q.floor.0 ≤ v.0 → IsQueue (cut_to v q)
cut_keeps q v is le =
    made (cut_to v q) (omega (arith, is.in_order, le)) (length-take (up_to v.0 q.pushes) q.values ∙ ap (min (up_to v.0 q.pushes)) is.each ∙ sym (length-take (up_to v.0 q.pushes) q.pushes)) (rise_take (up_to v.0 q.pushes) q.pushes (pushes_rise q is)) (rise_take (up_to v.0 q.pops) q.pops (pops_rise q is)) (reach_least q.top.0 v.0 (take (up_to v.0 q.pushes) q.pushes) (all_take (λ (at : Lsn). at.0 ≤ q.top.0) (up_to v.0 q.pushes) q.pushes (pushes_reach q is)) (reach_take v.0 q.pushes)) (reach_least q.top.0 v.0 (take (up_to v.0 q.pops) q.pops) (all_take (λ (at : Lsn). at.0 ≤ q.top.0) (up_to v.0 q.pops) q.pops (pops_reach q is)) (reach_take v.0 q.pops)) (λ w. rw (up_to_take w v.0 q.pops, up_to_take w v.0 q.pushes) (is.enough (min w v.0)))

pub cut_values : (q : Versioned) (v : Lsn) (w : ℕ) → values_at (cut_to v q) w ≡ values_at q (min w v.0)
cut_values q v w =
    let fewer : up_to (min w v.0) q.pushes ≤ up_to v.0 q.pushes = up_to_rises (min w v.0) v.0 q.pushes (omega arith) in
    ap₂ (λ (m n : ℕ). drop m (take n (take (up_to v.0 q.pushes) q.values))) (up_to_take w v.0 q.pops) (up_to_take w v.0 q.pushes)
    ∙ ap (drop (up_to (min w v.0) q.pops)) (take-take (up_to (min w v.0) q.pushes) (up_to v.0 q.pushes) q.values fewer)

-- ---- a merge

enough_merged : (q : Versioned) (v : Lsn) → IsQueue q → (w : ℕ) → up_to w (drop (up_to v.0 q.pops) q.pops) ≤ up_to w (drop (up_to v.0 q.pops) q.pushes)
enough_merged q v is w =
    elim (cases_lt w v.0) [
      | inl lt ↦ subst (λ (n : ℕ). n ≤ up_to w (drop (up_to v.0 q.pops) q.pushes)) (sym (none_left w v.0 q.pops (omega (arith, lt)))) (omega arith)
      | inr ge ↦
          let gone = up_to_rises v.0 w q.pops ge in
          let pops = up_to_drop w (up_to v.0 q.pops) q.pops gone in
          let pushes = up_to_drop w (up_to v.0 q.pops) q.pushes (omega (arith, gone, is.enough w)) in
          omega (arith, pops, pushes, is.enough w)
    ]

pub merge_keeps : (q : Versioned) (v : Lsn) → IsQueue q → v.0 ≤ q.top.0 → IsQueue (merged v q)
merge_keeps q v is le =
    made (merged v q) le (length-drop (up_to v.0 q.pops) q.values ∙ ap (λ (n : ℕ). n - up_to v.0 q.pops) is.each ∙ sym (length-drop (up_to v.0 q.pops) q.pushes)) (rise_drop (up_to v.0 q.pops) q.pushes (pushes_rise q is)) (rise_drop (up_to v.0 q.pops) q.pops (pops_rise q is)) (all_drop (λ (at : Lsn). at.0 ≤ q.top.0) (up_to v.0 q.pops) q.pushes (pushes_reach q is)) (all_drop (λ (at : Lsn). at.0 ≤ q.top.0) (up_to v.0 q.pops) q.pops (pops_reach q is)) (enough_merged q v is)

pub merge_values : (q : Versioned) (v : Lsn) (w : ℕ) → IsQueue q → v.0 ≤ w → values_at (merged v q) w ≡ values_at q w
merge_values q v w is ge =
    let g = up_to v.0 q.pops in
    let p = up_to w q.pops in
    let n = up_to w q.pushes in
    let gone : g ≤ p = up_to_rises v.0 w q.pops ge in
    let few : g ≤ n = omega (arith, gone, is.enough w) in
    ap₂ (λ (a b : ℕ). drop a (take b (drop g q.values))) (up_to_drop w g q.pops gone) (up_to_drop w g q.pushes few)
    ∙ ap (drop (p - g)) (sym (drop-take g (n - g) q.values) ∙ ap (λ (k : ℕ). drop g (take k q.values)) (omega (arith, few)))
    ∙ drop-drop (p - g) g (take n q.values)
    ∙ ap (λ (k : ℕ). drop k (take n q.values)) (omega (arith, gone))

-- ---- reading

pub count_at : (q : Versioned) (w : ℕ) → IsQueue q → length (values_at q w) ≡ up_to w q.pushes - up_to w q.pops
count_at q w is =
    length-drop (up_to w q.pops) (take (up_to w q.pushes) q.values)
    ∙ ap (λ (n : ℕ). n - up_to w q.pops) (length-take-le (up_to w q.pushes) q.values (omega (arith, up_to_most w q.pushes, is.each)))

-- ---- as a provider

abbrev pub view : Versioned → ℕ → Contents
view q w = Queue (values_at q w)

pub push_written : (q : Versioned) (v : Lsn) (value : List ℕ) (n : Versioned) → IsQueue q → q.top.0 ≤ v.0 → n ≡ pushed q v value → Written v.0 q.floor.0 (view q) (view n) (Queue (values_at q q.top.0 ++ value ∷ []))
push_written q v value n is le new = record {
  below = λ w floor lt. ap (λ (m : Versioned). view m w) new ∙ ap Queue (push_below q v value w is lt);
  from = λ w ge. ap (λ (m : Versioned). view m w) new ∙ ap Queue (push_from q v value w is le ge);
}

pub popped_keeps : (q : Versioned) (v : Lsn) → IsQueue q → q.top.0 ≤ v.0 → IsQueue (popped q v)
popped_keeps q v is le =
    elim (cases_lt (length q.pops) (length q.pushes)) [
      | inl lt ↦ rw (lt-ltb (length q.pops) (length q.pushes) lt) (pop_keeps q v is le lt)
      | inr ge ↦ rw (le-ltb (length q.pops) (length q.pushes) ge) (rest_keeps q v is le)
    ]

pop_view_below : (q : Versioned) (v : Lsn) (w : ℕ) → w < v.0 → values_at (popped q v) w ≡ values_at q w
pop_view_below q v w lt =
    elim (cases_lt (length q.pops) (length q.pushes)) [
      | inl less ↦ rw (lt-ltb (length q.pops) (length q.pushes) less) (pop_below q v w lt)
      | inr ge ↦ rw (le-ltb (length q.pops) (length q.pushes) ge) refl
    ]

pop_view_from : (q : Versioned) (v : Lsn) (w : ℕ) → IsQueue q → q.top.0 ≤ v.0 → v.0 ≤ w → values_at (popped q v) w ≡ drop 1 (values_at q q.top.0)
pop_view_from q v w is le from =
    elim (cases_lt (length q.pops) (length q.pushes)) [
      | inl less ↦ rw (lt-ltb (length q.pops) (length q.pushes) less) (pop_from q v w is le less from)
      | inr ge ↦ rw (le-ltb (length q.pops) (length q.pushes) ge) (is.rests w (omega (arith, le, from)) ∙ sym (nothing_left q is ge))
    ]

pub pop_written : (q : Versioned) (v : Lsn) (n : Versioned) → IsQueue q → q.top.0 ≤ v.0 → n ≡ popped q v → Written v.0 q.floor.0 (view q) (view n) (Queue (drop 1 (values_at q q.top.0)))
pop_written q v n is le new = record {
  below = λ w floor lt. ap (λ (m : Versioned). view m w) new ∙ ap Queue (pop_view_below q v w lt);
  from = λ w ge. ap (λ (m : Versioned). view m w) new ∙ ap Queue (pop_view_from q v w is le ge);
}

rest_written : (q : Versioned) (v : Lsn) (n : Versioned) → IsQueue q → q.top.0 ≤ v.0 → n ≡ rested q v → Written v.0 q.floor.0 (view q) (view n) (Queue (values_at q q.top.0))
rest_written q v n is le new = record {
  below = λ w floor lt. ap (λ (m : Versioned). view m w) new;
  from = λ w ge. ap (λ (m : Versioned). view m w) new ∙ ap Queue (is.rests w (omega (arith, le, ge)));
}

pub written_by : (q : Versioned) (v : Lsn) (op : Op) (n : Versioned) → IsQueue q → q.top.0 ≤ v.0 → n ≡ operated q v op → Written v.0 q.floor.0 (view q) (view n) (alone (Queue (values_at q q.top.0)) op)
written_by q v (Make name kind) n is le new = rest_written q v n is le new
written_by q v (Unmake name) n is le new = rest_written q v n is le new
written_by q v (Put name key value) n is le new = rest_written q v n is le new
written_by q v (Del name key) n is le new = rest_written q v n is le new
written_by q v (Push name value) n is le new = push_written q v value n is le new
written_by q v (Pop name) n is le new = pop_written q v n is le new

pub operated_top : (q : Versioned) (v : Lsn) (op : Op) → ((operated q v op).top ≡ v) × ((operated q v op).floor ≡ q.floor)
operated_top q v (Make name kind) = (refl, refl)
operated_top q v (Unmake name) = (refl, refl)
operated_top q v (Put name key value) = (refl, refl)
operated_top q v (Del name key) = (refl, refl)
operated_top q v (Push name value) = (refl, refl)
operated_top q v (Pop name) =
    elim (cases_lt (length q.pops) (length q.pushes)) [
      | inl lt ↦ rw (lt-ltb (length q.pops) (length q.pushes) lt) (refl, refl)
      | inr ge ↦ rw (le-ltb (length q.pops) (length q.pushes) ge) (refl, refl)
    ]

pub empty_is : (v : Lsn) → IsQueue (empty_at v)
empty_is v = made (empty_at v) (omega arith) refl tt tt tt tt (λ w. omega arith)

-- the values that were loaded
pub load_views : (v : Lsn) (values : List (List ℕ)) (w : ℕ) (q : Versioned) → IsQueue q → q ≡ loaded v values → v.0 ≤ w → view q w ≡ Queue values
load_views v values w q is new le =
    let top : q.top.0 ≤ w = subst (λ (n : Versioned). n.top.0 ≤ w) (sym new) le in
    ap Queue (values_at_top q w is top ∙ ap (λ (n : Versioned). drop (length n.pops) n.values) new)

-- one value more is read
pub listed_more : (values : List (List ℕ)) (from place : ℕ) (d : List ℕ) → from ≤ place → place < length values → drop from (take place values) ++ get_or values place d ∷ [] ≡ drop from (take (place + 1) values)
listed_more values from place d le lt =
    sym (drop-append-le from (take place values) (get_or values place d ∷ []) (omega (arith, length-take-le place values (omega (arith, lt)))))
    ∙ ap (drop from) (sym (take_more values place d lt))
