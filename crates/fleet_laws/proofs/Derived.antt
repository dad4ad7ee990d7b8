-- What follows from the invariant.
use Rattle.std.proofs.Common.{◌≡◌, ℕ, zero, suc, ◌<◌, ◌≤◌, Bool, true, ◌⊎◌, List, length, take, refl, ap, sym, ◌∙◌, subst, arith, inl, inr}
use Rattle.std.proofs.lemmas.Bool.{cases_order, cases_lt, leb-true, le-leb}
use Rattle.std.proofs.lemmas.List.{take_all, length-take-le}
use mathlib.Core.List.{IsPrefix}
use Rattle.fleet_laws.specs.Counting.{IsWriteQuorum}
use Rattle.fleet_laws.specs.Logs.{Entry, Agree, LastAgreed, IsMarked, epoch_at, content_at, last_epoch}
use Rattle.fleet_laws.specs.Logs.Record.{EpochStart, Barrier}
use Rattle.fleet_laws.specs.Fleets.{Value, Fleet, IsAppointed, IsValueOf}
use Rattle.fleet_laws.specs.Choice.{IsChosen, IsSafe, IsCanonical, reaches}
use Rattle.fleet_laws.specs.Invariant.{IsBranch, IsSound, IsCopied, Invariant}
use Rattle.fleet_laws.specs.Growth.{ComesAfter}
use Rattle.fleet_laws.specs.Moves.{Turn, Copies}
use Rattle.fleet_laws.specs.Moves.Turn.{stays, follows, logs, raises, learns, forgets, rebases, undoes, jumps}
use Rattle.fleet_laws.proofs.Agreement.{agree_self, agree_sym, agree_trans, agree_less, agree_take, agree_epoch, agree_content}
use Rattle.fleet_laws.proofs.Tree.{epoch_at-zero, same_epoch_agree, begins_canonical, history_canonical, history_rises, past_start, epochs_rise, agrees_with_history}
use Rattle.fleet_laws.proofs.After.{after_self}
use Rattle.fleet_laws.proofs.Use.{chosen_may, chosen_holds, own_quorum, safe_in_later}
use Rattle.fleet_laws.proofs.Copying.{safe_length, stable_agrees, part_below, shared}
use Rattle.fleet_laws.proofs.Appointing.{start_is_no_barrier}
use Rattle.fleet_laws.proofs.Inheriting.{active_quorum}
use Rattle.fleet_laws.proofs.Turning.{turn_sound, goes_on, copy_of}
use Rattle.fleet_laws.proofs.Prefixes.{take_begins, agree_begins}

content_at-zero : {R : Type 0} (a : List (Entry R)) → content_at a 0 ≡ EpochStart
unfolding content_at
content_at-zero a = refl

module _ {R : Type 0} (f : Fleet R) (i : Invariant f) where
  pub same_prefix_lem : (r q : ℕ) (v w : Value R) → IsValueOf f r v → IsValueOf f q w → (n : ℕ) → n ≤ length v.log → n ≤ length w.log → epoch_at v.log n ≡ epoch_at w.log n → Agree n v.log w.log
  same_prefix_lem r q v w a b n x y is = same_epoch_agree f.histories i.branches v.log w.log (i.values r v a).canonical (i.values q w b).canonical n x y is

  part : (n : ℕ) (log : List (Entry R)) → IsCanonical f.histories log → IsCanonical f.histories (take n log)
  part n log c = elim (cases_lt (length log) n) [
    | inl past ↦ subst (λ x. IsCanonical f.histories x) (sym (take_all n log (omega (arith, past)))) c
    | inr w ↦ begins_canonical f.histories (take n log) log c (subst (λ x. Agree x (take n log) log) (sym (length-take-le n log w)) (agree_take n n log (omega arith) w))
  ]

  pub history_parts : (e n : ℕ) → IsAppointed f e → IsCanonical f.histories (take n (f.history e))
  history_parts e n a = part n (f.history e) (history_canonical f.histories i.branches e a)

  pub value_parts : (r n : ℕ) (v : Value R) → IsValueOf f r v → IsCanonical f.histories (take n v.log)
  value_parts r n v c = part n v.log (i.values r v c).canonical

  -- an EpochStart stands exactly where the epoch rises
  pub marked : (r : ℕ) (v : Value R) → IsValueOf f r v → IsMarked v.log
  marked r v c n lt =
      let s : IsSound f r v = i.values r v c in
      let t = s.canonical (suc n) (omega arith) lt in
      let y : ℕ = t.0 in
      let b : IsBranch f.histories y = i.branches y t.1.appointed in
      let from : f.start y ≤ suc n = past_start f.histories i.branches v.log s.canonical y (suc n) (omega arith) lt t.1.is in
      let same : content_at v.log (suc n) ≡ content_at (f.history y) (suc n) = agree_content (suc n) (suc n) v.log (f.history y) (omega arith) t.1.agree in
      let down : epoch_at v.log n ≡ epoch_at (f.history y) n = agree_epoch n (suc n) v.log (f.history y) (omega arith) t.1.agree in (
        λ is. elim (cases_lt (f.start y) (suc n)) [
          | inl past ↦ absurd (b.unmarked (suc n) past t.1.agree.right (sym same ∙ is))
          | inr first ↦ elim (b.root) [
            | inl one ↦ (let z : n ≡ 0 = omega (arith, one, first, from) in omega (arith, ap (epoch_at v.log) z, epoch_at-zero v.log, t.1.is, b.positive))
            | inr d ↦ (
                let g : Agree n (f.history y) (f.history d.0) = d.1.agree n (omega (arith, first)) in
                omega (arith, down, agree_epoch n n (f.history y) (f.history d.0) (omega arith) g, history_rises f.histories i.branches d.0 d.1.appointed n g.right, d.1.below, t.1.is))
          ]
        ],
        λ rises. elim (cases_lt (f.start y) (suc n)) [
          | inl past ↦ absurd (omega (arith, rises, down, b.own n (omega (arith, past)) (omega (arith, t.1.agree.right)), t.1.is))
          | inr first ↦ (let at : suc n ≡ f.start y = omega (arith, first, from) in same ∙ (ap (content_at (f.history y)) at ∙ b.marked))
        ],
      )

  -- what a Barrier names is safe
  pub barrier_safe : (r : ℕ) (v : Value R) → IsValueOf f r v → (n s : ℕ) → n ≤ length v.log → content_at v.log n ≡ Barrier s → IsSafe f.histories f.configurations f.acknowledged v.fence v.log s
  barrier_safe r v c zero s w is = absurd (start_is_no_barrier s (sym (content_at-zero v.log) ∙ is))
  barrier_safe r v c (suc n) s w is =
      let sound : IsSound f r v = i.values r v c in
      let t = sound.canonical (suc n) (omega arith) w in
      let from : f.start t.0 ≤ suc n = past_start f.histories i.branches v.log sound.canonical t.0 (suc n) (omega arith) w t.1.is in
      let b = i.barriers t.0 t.1.appointed (suc n) s from t.1.agree.right (sym (agree_content (suc n) (suc n) v.log (f.history t.0) (omega arith) t.1.agree) ∙ is) in
      inr (
        t.0,
        s,
        record {
          appointed = t.1.appointed;
          low = omega (arith, t.1.is, epochs_rise f.histories i.branches v.log sound.canonical (suc n) (length v.log) w (omega arith), sound.fenced);
          past = omega arith;
          chosen = b.1;
          agree = agree_sym (agree_less s (suc n) v.log (f.history t.0) (omega (arith, b.0)) t.1.agree);
        },
      )

  pub chosen_begins_later : (d e l : ℕ) → IsAppointed f d → IsAppointed f e → d < e → IsChosen f d l → (l < f.start e) × Agree l (f.history d) (f.history e)
  chosen_begins_later d e l ad ae lt c = i.key d e l ad ae lt (chosen_may f d l c)

  pub chosen_are_one : (d e l m : ℕ) → IsAppointed f d → IsAppointed f e → IsChosen f d l → IsChosen f e m
      → IsPrefix (take l (f.history d)) (take m (f.history e)) ⊎ IsPrefix (take m (f.history e)) (take l (f.history d))
  chosen_are_one d e l m ad ae c k = elim (cases_order d e) [
    | inl is ↦ subst (λ x. IsPrefix (take l (f.history d)) (take m (f.history x)) ⊎ IsPrefix (take m (f.history x)) (take l (f.history d))) is (elim (cases_lt l m) [
      | inl lt ↦ inl (take_begins l m (f.history d) (omega arith))
      | inr ge ↦ inr (take_begins m l (f.history d) ge)
    ])
    | inr (inl lt) ↦ (let x = chosen_begins_later d e l ad ae lt c in inl (agree_begins l m (f.history d) (f.history e) (omega (arith, x.0, k.from)) x.1))
    | inr (inr gt) ↦ (let x = chosen_begins_later e d m ae ad gt k in inr (agree_begins m l (f.history e) (f.history d) (omega (arith, x.0, c.from)) x.1))
  ]

  -- whoever has acknowledged what is chosen holds it later too
  holds_later : (g : Fleet R) → Invariant g → ComesAfter f g → (e l : ℕ) → IsAppointed f e → IsChosen f e l → (m : ℕ) → reaches f.acknowledged e l m ≡ true
      → (v : Value R) → IsValueOf g m v → Agree l (g.history e) v.log
  holds_later g j after e l a c m t v is = chosen_holds g j e l (after.appointed e a) (after.chosen e l a c) m
      (le-leb l (g.acknowledged m e) (omega (arith, leb-true l (f.acknowledged m e) t, after.acknowledged m e))) v is

  pub held_later : (g : Fleet R) → Invariant g → ComesAfter f g → (e l : ℕ) → IsAppointed f e → IsChosen f e l
      → (p : ℕ → Bool) × IsWriteQuorum p (f.current f.active) × ((m : ℕ) → p m ≡ true → (v : Value R) → IsValueOf g m v → Agree l (g.history e) v.log)
  held_later g j after e l a c = elim (cases_lt e f.active) [
    | inr recent ↦ (
      reaches f.acknowledged e l,
      active_quorum f i.appointments (reaches f.acknowledged e l) e a recent c.by,
      λ m t v is. holds_later g j after e l a c m t v is,
    )
    | inl old ↦ (
        let is_active = i.appointments.is_active e a in
        let aa : IsAppointed f f.active = i.appointments.activated f.active is_active in
        elim (i.appointments.chosen f.active is_active) [
          | inl is ↦ absurd (omega (arith, is, old, i.appointments.founder e a))
          | inr k ↦ (
              let x = j.key e f.active l (after.appointed e a) (after.appointed f.active aa) old (chosen_may g e l (after.chosen e l a c)) in (
                reaches f.acknowledged f.active (f.start f.active),
                own_quorum (reaches f.acknowledged f.active (f.start f.active)) f.configurations f.active k.by,
                λ m t v is. agree_trans x.1 (agree_less l (f.start f.active) (g.history f.active) v.log (omega (arith, x.0, after.start f.active aa))
                    (holds_later g j after f.active (f.start f.active) aa k m t v is)),
              ))
        ])
  ]

  pub chosen_is_held : (e l : ℕ) → IsAppointed f e → IsChosen f e l
      → (p : ℕ → Bool) × IsWriteQuorum p (f.current f.active) × ((m : ℕ) → p m ≡ true → (v : Value R) → IsValueOf f m v → Agree l (f.history e) v.log)
  chosen_is_held e l a c = held_later f i (after_self f) e l a c

  -- what a later history has after an EpochStart that is chosen and alone is of no epoch up to that one
  pub after_idle_start : (d e : ℕ) → IsAppointed f d → IsAppointed f e → d < e → IsChosen f d (f.start d) → length (f.history d) ≡ f.start d
      → (n : ℕ) → f.start d < n → n ≤ length (f.history e) → d < epoch_at (f.history e) n
  after_idle_start d e ad ae lt c idle n past w =
      let b : IsBranch f.histories d = i.branches d ad in
      let x = chosen_begins_later d e (f.start d) ad ae lt c in
      let t = history_canonical f.histories i.branches e ae n (omega (arith, past)) w in
      elim (cases_order t.0 d) [
        | inl is ↦ absurd (let in_ : n ≤ length (f.history d) = subst (λ y. n ≤ length (f.history y)) is t.1.agree.right in omega (arith, in_, idle, past))
        | inr (inl low) ↦ absurd (
            let g : Agree (f.start d) (f.history d) (f.history t.0) = agree_trans x.1 (agree_less (f.start d) n (f.history e) (f.history t.0) (omega (arith, past)) t.1.agree) in
            omega (arith, low, b.own (f.start d) (omega arith) b.within, agree_epoch (f.start d) (f.start d) (f.history d) (f.history t.0) (omega arith) g, history_rises f.histories i.branches t.0 t.1.appointed (f.start d) g.right))
        | inr (inr high) ↦ omega (arith, high, t.1.is)
      ]

  pub fenced_begins : (r e : ℕ) (v : Value R) → IsValueOf f r v → IsAppointed f e → v.fence ≤ e → f.start e ≤ length v.log → epoch_at v.log (f.start e) ≡ e → Agree (length v.log) v.log (f.history e)
  fenced_begins r e v c a le from at =
      let s : IsSound f r v = i.values r v c in
      let last : last_epoch v.log ≡ e = omega (arith, at, le, s.fenced, epochs_rise f.histories i.branches v.log s.canonical (f.start e) (length v.log) from (omega arith)) in
      agrees_with_history f.histories i.branches v.log s.canonical e (length v.log) (omega (arith, from, (i.branches e a).starts)) (omega arith) last

  pub stable_begins_later : (r e : ℕ) (v : Value R) → IsValueOf f r v → IsAppointed f e → v.fence ≤ e → Agree v.stable v.log (f.history e)
  stable_begins_later r e v c a le =
      let s : IsSound f r v = i.values r v c in
      safe_in_later f i v.fence v.log v.stable e s.safe (safe_length f v.fence v.stable v.log s.safe) le a

  pub undo_keeps_stable : (r e n k : ℕ) (v : Value R) → IsValueOf f r v → IsAppointed f e → v.fence ≤ e → n ≤ length (f.history e) → v.stable ≤ n → LastAgreed k v.log (take n (f.history e)) → v.stable ≤ k
  undo_keeps_stable r e n k v c a le w stable g = g.last v.stable (stable_agrees f i r e n v c a le w stable)

  pub copy_keeps_stable : (r e n head p : ℕ) → Copies f r e n head p → (v : Value R) → IsValueOf f r v → (v.stable < head) × (v.stable ≤ p) × ((m : ℕ) → Agree m v.log (f.history e) → m ≤ p)
  copy_keeps_stable r e n head p a v c =
      let low : v.stable < head = part_below f r e n head p i a v c in
      (low, omega (arith, low, a.behind), shared f r e n head p i a v c)

  -- a turn that doesn't raise the stable number keeps the log to it
  turn_keeps : (r : ℕ) (v w : Value R) → IsValueOf f r v → Turn f r v w → w.stable ≤ length w.log → w.stable ≤ v.stable → Agree w.stable v.log w.log
  turn_keeps r v w c stays in_ le = agree_self v.stable v.log in_
  turn_keeps r v w c (follows e m a fence from to is) in_ le =
      let s : IsSound f r v = i.values r v c in
      agree_less v.stable (length v.log) v.log (take m (f.history e)) (safe_length f v.fence v.stable v.log s.safe) (goes_on f i r e m v s a from to is)
  turn_keeps r v w c (logs e m a role from to is) in_ le =
      let s : IsSound f r v = i.values r v c in
      agree_less v.stable (length v.log) v.log (take m (f.history e)) (safe_length f v.fence v.stable v.log s.safe) (goes_on f i r e m v s a from to is)
  turn_keeps r v w c (raises e up) in_ le = agree_self v.stable v.log in_
  turn_keeps r v w c (learns n up safe) in_ le = agree_self n v.log in_
  turn_keeps r v w c (forgets n from to) in_ le = agree_self n v.log in_
  turn_keeps r v w c (rebases h b up from to) in_ le = agree_self v.stable v.log in_
  turn_keeps r v w c (undoes e n k a fence from to stable lt g) in_ le =
      agree_sym (agree_take v.stable k v.log (undo_keeps_stable r e n k v c a fence to stable g) g.agreed.left)
  turn_keeps r v w c (jumps e one is) in_ le =
      let k = copy_of f i r e one is in
      let x : IsCopied f e (f.copy_at r) v = k.1 v c in
      let g : Agree v.stable v.log (f.history e) = stable_begins_later r e v c k.0 x.fence in
      agree_less (f.copy_at r) v.stable v.log (take (f.copy_at r) (f.history e)) le
      (agree_trans g (agree_sym (agree_take v.stable (f.copy_at r) (f.history e) x.stable (safe_length f e (f.copy_at r) (f.history e) x.safe))))

  pub turn_keeps_view : (r : ℕ) (v w : Value R) → IsValueOf f r v → Turn f r v w → w.stable ≤ v.stable → Agree w.stable v.log w.log
  turn_keeps_view r v w c t le =
      let s : IsSound f r w = turn_sound f i r v w c (i.values r v c) t in
      turn_keeps r v w c t (safe_length f w.fence w.stable w.log s.safe) le
