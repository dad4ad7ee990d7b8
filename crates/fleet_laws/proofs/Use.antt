-- What the invariant says of one fleet.
use Rattle.std.proofs.Common.{◌≡◌, ℕ, ◌<◌, ◌≤◌, Bool, true, false, cond, ◌⊎◌, List, [], ◌∷◌, length, take, refl, sym, ◌∙◌, subst, arith, inl, inr}
use Rattle.std.proofs.lemmas.Bool.{cases_order, leb-true}
use Rattle.fleet_laws.specs.Counting.{IsWriteQuorum, IsWriteQuorumOfEach}
use Rattle.fleet_laws.specs.Logs.{Entry, Agree, epoch_at}
use Rattle.fleet_laws.specs.Fleets.{Value, Fleet, Configurations, IsAppointed, IsValueOf}
use Rattle.fleet_laws.specs.Choice.{IsChosen, MayBeChosen, Live, IsSafe, reaches, may_reach, configurations_of}
use Rattle.fleet_laws.specs.Invariant.{IsBranch, IsSound, Invariant}
use Rattle.fleet_laws.proofs.Agreement.{agree_sym, agree_trans, agree_less, agree_epoch}
use Rattle.fleet_laws.proofs.Counts.{meet, quorums_more}
use Rattle.fleet_laws.proofs.Tree.{epochs_rise}
use Rattle.fleet_laws.proofs.Puts.{may_reached}

-- what is chosen may be chosen
pub chosen_may : {R : Type 0} (f : Fleet R) (e l : ℕ) → IsChosen f e l → MayBeChosen f e l
chosen_may f e l c = record {
  from = c.from;
  by = quorums_more (reaches f.acknowledged e l) (may_reach f e l) (λ m h. may_reached f e l m (leb-true l (f.acknowledged m e) h)) (configurations_of f.configurations e) c.by;
}

each_step : (p : ℕ → Bool) (b : Bool) (now before : List ℕ) → IsWriteQuorumOfEach p (cond b (now ∷ []) (before ∷ now ∷ [])) → IsWriteQuorum p now
each_step p true now before w = w.0
each_step p false now before w = w.1.0

both_step : (p : ℕ → Bool) (b : Bool) (now before : List ℕ) → IsWriteQuorumOfEach p (before ∷ now ∷ []) → IsWriteQuorumOfEach p (cond b (now ∷ []) (before ∷ now ∷ []))
both_step p true now before w = w.1
both_step p false now before w = w

-- write quorums of the configuration before and of its own are enough for an epoch
pub both_enough : (p : ℕ → Bool) (c : Configurations) (e : ℕ) → IsWriteQuorumOfEach p (c.previous e ∷ c.current e ∷ []) → IsWriteQuorumOfEach p (configurations_of c e)
both_enough p c e w = both_step p (c.activated e) (c.current e) (c.previous e) w

-- a write quorum of each configuration of an epoch is one of its own
pub own_quorum : (p : ℕ → Bool) (c : Configurations) (e : ℕ) → IsWriteQuorumOfEach p (configurations_of c e) → IsWriteQuorum p (c.current e)
own_quorum p c e w = each_step p (c.activated e) (c.current e) (c.previous e) w

module _ {R : Type 0} (f : Fleet R) (i : Invariant f) where
  -- whoever has acknowledged what is chosen holds it, in each value
  pub chosen_holds : (e l : ℕ) → IsAppointed f e → IsChosen f e l → (m : ℕ) → reaches f.acknowledged e l m ≡ true → (v : Value R) → IsValueOf f m v → Agree l (f.history e) v.log
  chosen_holds e l a c m t v is = (i.values m v is).holds e l (leb-true l (f.acknowledged m e) t) (record { appointed = a; from = c.from; can = inr (chosen_may f e l c) })

  -- what is chosen is within the history
  pub chosen_within : (e l : ℕ) → IsAppointed f e → IsChosen f e l → l ≤ length (f.history e)
  chosen_within e l a c =
      let q : IsWriteQuorum (reaches f.acknowledged e l) (f.current e) = own_quorum (reaches f.acknowledged e l) f.configurations e c.by in
      let m = meet (reaches f.acknowledged e l) (reaches f.acknowledged e l) (f.current e) (omega (arith, q)) in
      let v = i.some_value m.0 in
      (chosen_holds e l a c m.0 m.2 v.0 v.1).left

  -- what is safe at a fence begins the history of each epoch from there on
  pub safe_in_later : (fence : ℕ) (log : List (Entry R)) (s e : ℕ) → IsSafe f.histories f.configurations f.acknowledged fence log s → s ≤ length log → fence ≤ e → IsAppointed f e
      → Agree s log (f.history e)
  safe_in_later fence log s e safe w le a = elim safe [
    | inl z ↦ record { left = w; right = omega (arith, z); same = subst (λ n. take n log ≡ take n (f.history e)) (sym z) refl }
    | inr x ↦ elim (cases_order x.0 e) [
      | inl is ↦ subst (λ d. Agree s log (f.history d)) is (agree_sym x.2.agree)
      | inr (inl lt) ↦ (
          let k = i.key x.0 e x.1 x.2.appointed a lt (chosen_may f x.0 x.1 x.2.chosen) in
          agree_trans (agree_sym x.2.agree) (agree_less s x.1 (f.history x.0) (f.history e) x.2.past k.1))
      | inr (inr gt) ↦ absurd (omega (arith, x.2.low, le, gt))
    ]
  ]

  -- all that is live and acknowledged at a replica stands in the history of an epoch that isn't below its fence
  pub kept : (r : ℕ) (v : Value R) → IsSound f r v → (d e l : ℕ) → v.fence ≤ e → IsAppointed f e → l ≤ f.acknowledged r d → Live f d l
      → Agree l v.log (f.history e) × ((d ≡ e) ⊎ (l < f.start e))
  kept r v s d e l le a ack live =
      let h : Agree l (f.history d) v.log = s.holds d l ack live in
      let b : IsBranch f.histories d = i.branches d live.appointed in
      elim (cases_order d e) [
        | inl is ↦ (subst (λ x. Agree l v.log (f.history x)) is (agree_sym h), inl is)
        | inr (inl lt) ↦ elim (live.can) [
          | inl latest ↦ absurd (omega (arith, latest, lt, i.appointments.latest e a))
          | inr m ↦ (
              let k = i.key d e l live.appointed a lt m in
              (agree_trans (agree_sym h) k.1, inr k.0))
        ]
        | inr (inr gt) ↦ absurd (
            let at : epoch_at v.log l ≡ d = sym (agree_epoch l l (f.history d) v.log (omega arith) h) ∙ b.own l live.from h.left in
            omega (arith, at, epochs_rise f.histories i.branches v.log s.canonical l (length v.log) h.right (omega arith), s.fenced, le, gt))
      ]
