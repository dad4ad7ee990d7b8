-- The one order.
use Rattle.std.proofs.Common.{◌≡◌, ℕ, ◌≤◌, Bool, true, ◌⊎◌, List, [], length, take, refl, ap, sym, ◌∙◌, subst, arith, inl, inr}
use Rattle.std.proofs.lemmas.Bool.{cases_lt}
use mathlib.Core.List.{IsPrefix}
use Rattle.fleet_laws.specs.Counting.{IsWriteQuorum}
use Rattle.fleet_laws.specs.Logs.{Entry, Agree}
use Rattle.fleet_laws.specs.Fleets.{Value, Fleet, IsAppointed, IsValueOf}
use Rattle.fleet_laws.specs.Choice.{IsChosen}
use Rattle.fleet_laws.specs.Invariant.{IsSound, Invariant}
use Rattle.fleet_laws.specs.Growth.{ComesAfter}
use Rattle.fleet_laws.specs.Moves.{Move, IsReached}
use Rattle.fleet_laws.specs.Moves.Run.{rests, moves}
use Rattle.fleet_laws.specs.Orders.{OnlyGrows, IsOrder, view}
use Rattle.fleet_laws.specs.Orders.IsOrder.{starts, stays, grows}
use Rattle.fleet_laws.proofs.Agreement.{agree_self}
use Rattle.fleet_laws.proofs.After.{history_after}
use Rattle.fleet_laws.proofs.Use.{chosen_within}
use Rattle.fleet_laws.proofs.Runs.{move_after, reached_invariant}
use Rattle.fleet_laws.proofs.Prefixes.{prefix_none, prefix_trans, prefix_shorter, prefix_back, take_begins, front_begins}
use Rattle.fleet_laws.proofs.Derived.{chosen_are_one, chosen_is_held}

module _ {R S : Type 0} (reading : List (Entry R) → List S) (only : OnlyGrows reading) where
  pub order_reached : (f : Fleet R) (order : List S) → IsOrder reading f order → IsReached f
  order_reached f order starts = rests
  order_reached f order (stays {f = b} {order = o} s move) = moves (order_reached b o s) move
  order_reached f order (grows {order = o} e l s a c le) = order_reached f o s

  -- the order is read from something that was chosen, if anything was shown
  abbrev IsRead : Fleet R → List S → Type 0
  IsRead f order = (order ≡ reading []) ⊎ ((e : ℕ) × (l : ℕ) × record { appointed : IsAppointed f e; chosen : IsChosen f e l; is : order ≡ reading (take l (f.history e)) })

  move_read : (f g : Fleet R) (order : List S) → Invariant f → Move f g → IsRead f order → IsRead g order
  move_read f g order i move h = elim h [
    | inl z ↦ inl z
    | inr x ↦ (
        let after : ComesAfter f g = move_after f g i move in
        let w : x.1 ≤ length (f.history x.0) = chosen_within f i x.0 x.1 x.2.appointed x.2.chosen in
        let same : Agree x.1 (f.history x.0) (g.history x.0) = history_after f g after x.0 x.1 (f.history x.0) x.2.appointed (agree_self x.1 (f.history x.0) w) in
        inr (
          x.0,
          x.1,
          record {
            appointed = after.appointed x.0 x.2.appointed;
            chosen = after.chosen x.0 x.1 x.2.appointed x.2.chosen;
            is = x.2.is ∙ ap reading same.same;
          },
        ))
  ]

  order_read : (f : Fleet R) (order : List S) → IsOrder reading f order → IsRead f order
  order_read f order starts = inl refl
  order_read f order (stays {f = b} {order = o} s move) = move_read b f o (reached_invariant b (order_reached b o s)) move (order_read b o s)
  order_read f order (grows e l s a c le) = inr (e, l, record { appointed = a; chosen = c; is = refl })

  -- the order and what is read from something chosen: one begins the other
  compare : (f : Fleet R) (order : List S) → IsOrder reading f order → (e l : ℕ) → IsAppointed f e → IsChosen f e l
      → IsPrefix order (reading (take l (f.history e))) ⊎ IsPrefix (reading (take l (f.history e))) order
  compare f order s e l a c = elim (order_read f order s) [
    | inl z ↦ inl (subst (λ o. IsPrefix o (reading (take l (f.history e)))) (sym z) (only [] (take l (f.history e)) (prefix_none (take l (f.history e)))))
    | inr x ↦ elim (chosen_are_one f (reached_invariant f (order_reached f order s)) x.0 e x.1 l x.2.appointed a x.2.chosen c) [
      | inl p ↦ inl (subst (λ o. IsPrefix o (reading (take l (f.history e)))) (sym x.2.is) (only (take x.1 (f.history x.0)) (take l (f.history e)) p))
      | inr p ↦ inr (subst (λ o. IsPrefix (reading (take l (f.history e))) o) (sym x.2.is) (only (take l (f.history e)) (take x.1 (f.history x.0)) p))
    ]
  ]

  both : (xs ys : List S) → IsPrefix xs ys ⊎ IsPrefix ys xs → (length xs ≤ length ys → IsPrefix xs ys) × (length ys ≤ length xs → IsPrefix ys xs)
  both xs ys h = elim h [
    | inl p ↦ (λ le. p, λ le. prefix_back xs ys p le)
    | inr p ↦ (λ le. prefix_back ys xs p le, λ le. p)
  ]

  pub order_grows : (f : Fleet R) (order : List S) → IsOrder reading f order → (e l : ℕ) → IsAppointed f e → IsChosen f e l
      → (length order ≤ length (reading (take l (f.history e))) → IsPrefix order (reading (take l (f.history e))))
      × (length (reading (take l (f.history e))) ≤ length order → IsPrefix (reading (take l (f.history e))) order)
  order_grows f order s e l a c = both order (reading (take l (f.history e))) (compare f order s e l a c)

  nothing_begins : (f : Fleet R) (order : List S) → IsOrder reading f order → IsPrefix (reading []) order
  nothing_begins f order s = elim (order_read f order s) [
    | inl z ↦ subst (λ o. IsPrefix (reading []) o) (sym z) (only [] [] (prefix_none []))
    | inr x ↦ subst (λ o. IsPrefix (reading []) o) (sym x.2.is) (only [] (take x.1 (f.history x.0)) (prefix_none (take x.1 (f.history x.0))))
  ]

  pub view_begins : (f : Fleet R) (order : List S) → IsOrder reading f order → (r : ℕ) (v : Value R) → IsValueOf f r v
      → (length (view reading v) ≤ length order → IsPrefix (view reading v) order) × (length order ≤ length (view reading v) → IsPrefix order (view reading v))
  view_begins f order s r v c =
      let i : Invariant f = reached_invariant f (order_reached f order s) in
      let sound : IsSound f r v = i.values r v c in
      both (view reading v) order (elim (sound.safe) [
        | inl z ↦ inl (subst (λ n. IsPrefix (reading (take n v.log)) order) (sym z) (nothing_begins f order s))
        | inr x ↦ (
            let whole : List S = reading (take x.1 (f.history x.0)) in
            let p : IsPrefix (view reading v) whole = subst (λ y. IsPrefix (reading y) whole) x.2.agree.same
            (only (take v.stable (f.history x.0)) (take x.1 (f.history x.0)) (take_begins v.stable x.1 (f.history x.0) x.2.past)) in
            elim (compare f order s x.0 x.1 x.2.appointed x.2.chosen) [
              | inr q ↦ inl (prefix_trans (view reading v) whole order p q)
              | inl q ↦ elim (cases_lt (length order) (length (view reading v))) [
                | inl lt ↦ inr (prefix_shorter order (view reading v) whole q p (omega arith))
                | inr ge ↦ inl (prefix_shorter (view reading v) order whole p q ge)
              ]
            ])
      ])

  pub order_held : (f : Fleet R) (order : List S) → IsOrder reading f order
      → (order ≡ reading []) ⊎ ((p : ℕ → Bool) × IsWriteQuorum p (f.current f.active) × ((m : ℕ) → p m ≡ true → (v : Value R) → IsValueOf f m v → IsPrefix order (reading v.log)))
  order_held f order s = elim (order_read f order s) [
    | inl z ↦ inl z
    | inr x ↦ (
        let h = chosen_is_held f (reached_invariant f (order_reached f order s)) x.0 x.1 x.2.appointed x.2.chosen in
        inr (
          h.0,
          h.1,
          λ m t v c.
              let g : Agree x.1 (f.history x.0) v.log = h.2 m t v c in
              subst (λ o. IsPrefix o (reading v.log)) (sym x.2.is)
              (subst (λ y. IsPrefix (reading y) (reading v.log)) (sym g.same) (only (take x.1 v.log) v.log (front_begins x.1 v.log))),
        ))
  ]
