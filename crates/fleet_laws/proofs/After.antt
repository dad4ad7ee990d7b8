-- What is known of a fleet is known of those that come after it.
use Rattle.std.proofs.Common.{◌≡◌, ℕ, ◌<◌, ◌≤◌, List, length, refl, ap, sym, ◌∙◌, arith, inl, inr}
use Rattle.std.proofs.lemmas.Bool.{cases_lt}
use Rattle.fleet_laws.specs.Logs.{Entry, Agree, epoch_at, content_at}
use Rattle.fleet_laws.specs.Logs.Record.{EpochStart, Barrier}
use Rattle.fleet_laws.specs.Fleets.{Value, Fleet, IsAppointed}
use Rattle.fleet_laws.specs.Choice.{IsChosen, MayBeChosen, Live, IsCanonical, IsSafe}
use Rattle.fleet_laws.specs.Invariant.{IsBranch, Appointments, IsSound, IsCopied, KeepsWhatMayBeChosen, HasTrueBarriers}
use Rattle.fleet_laws.specs.Growth.{ComesAfter}
use Rattle.fleet_laws.proofs.Agreement.{agree_self, agree_sym, agree_trans, agree_less, agree_epoch, agree_content}

pub after_self : {R : Type 0} (f : Fleet R) → ComesAfter f f
after_self f = record {
  appointed = λ e a. a;
  latest = omega arith;
  start = λ e a. refl;
  history = λ e a. agree_self (length (f.history e)) (f.history e) (omega arith);
  acknowledged = λ r e. omega arith;
  chosen = λ e l a c. c;
  may = λ e l a lt m. m;
}

module _ {R : Type 0} (f g : Fleet R) (after : ComesAfter f g) where
  pub history_after : (e n : ℕ) (log : List (Entry R)) → IsAppointed f e → Agree n log (f.history e) → Agree n log (g.history e)
  history_after e n log a h = agree_trans h (agree_less n (length (f.history e)) (f.history e) (g.history e) h.right (after.history e a))

  pub canonical_after : (log : List (Entry R)) → IsCanonical f.histories log → IsCanonical g.histories log
  canonical_after log c n one w =
      let t = c n one w in (
        t.0,
        record {
          is = t.1.is;
          appointed = after.appointed t.0 t.1.appointed;
          agree = history_after t.0 n log t.1.appointed t.1.agree;
        },
      )

  -- also at a greater fence, and in another log that has the same beginning
  pub safe_after : (fence high : ℕ) (log more : List (Entry R)) (s : ℕ) → fence ≤ high → Agree s log more → IsSafe f.histories f.configurations f.acknowledged fence log s
      → IsSafe g.histories g.configurations g.acknowledged high more s
  safe_after fence high log more s le same safe = elim safe [
    | inl z ↦ inl z
    | inr w ↦ (
        let at : IsAppointed f w.0 = w.2.appointed in
        inr (
          w.0,
          w.1,
          record {
            appointed = after.appointed w.0 at;
            low = omega (arith, w.2.low, le);
            past = w.2.past;
            chosen = after.chosen w.0 w.1 at w.2.chosen;
            agree = agree_trans (agree_sym (history_after w.0 s log at (agree_sym w.2.agree))) same;
          },
        ))
  ]

  -- what is live after was live before
  pub live_before : Appointments f.histories f.configurations f.acknowledged → (e l : ℕ) → IsAppointed f e → Live g e l → Live f e l
  live_before i e l a v = record {
    appointed = a;
    from = omega (arith, v.from, after.start e a);
    can = elim v.can [
      | inl is ↦ inl (omega (arith, is, after.latest, i.latest e a))
      | inr m ↦ elim (cases_lt e f.latest) [
        | inl lt ↦ inr (after.may e l a lt m)
        | inr ge ↦ inl (omega (arith, ge, i.latest e a))
      ]
    ];
  }

  -- a value stays sound at a replica where all that is acknowledged and live stands in its log
  pub sound_from : (r : ℕ) (v : Value R) → IsSound f r v → ((e l : ℕ) → l ≤ g.acknowledged r e → Live g e l → IsAppointed f e × Agree l (f.history e) v.log) → IsSound g r v
  sound_from r v s holds = record {
    canonical = canonical_after v.log s.canonical;
    head = s.head;
    base = s.base;
    fenced = s.fenced;
    holds = λ e l le live.
        let b = holds e l le live in
        agree_sym (history_after e l v.log b.0 (agree_sym b.1));
    safe = elim (s.safe) [
      | inl z ↦ inl z
      | inr w ↦ safe_after v.fence v.fence v.log v.log v.stable (omega arith) (agree_self v.stable v.log w.2.agree.right) s.safe
    ];
  }

  -- and so it does where nothing new is acknowledged
  pub sound_after : Appointments f.histories f.configurations f.acknowledged → (r : ℕ) (v : Value R) → IsSound f r v
      → ((e l : ℕ) → Live g e l → l ≤ g.acknowledged r e → IsAppointed f e × (l ≤ f.acknowledged r e)) → IsSound g r v
  sound_after i r v s back = sound_from r v s (λ e l le live.
      let b = back e l live le in
      (b.0, s.holds e l b.1 (live_before i e l b.0 live)))

  -- KEY stays for the epochs of before
  pub key_after : KeepsWhatMayBeChosen f → (d e l : ℕ) → IsAppointed f d → IsAppointed f e → d < e → e ≤ f.latest → MayBeChosen g d l
      → (l < g.start e) × Agree l (g.history d) (g.history e)
  key_after key d e l ad ae lt le m =
      let k = key d e l ad ae lt (after.may d l ad (omega (arith, lt, le)) m) in (
        omega (arith, k.0, after.start e ae),
        agree_trans (agree_sym (history_after d l (f.history d) ad (agree_self l (f.history d) k.1.left))) (history_after e l (f.history d) ae k.1),
      )

  -- a history that stays as it was, or goes on with its own entries, is a branch still
  pub branch_after : (e : ℕ) → IsAppointed f e → IsBranch f.histories e
      → ((n : ℕ) → length (f.history e) < n → n ≤ length (g.history e) → (epoch_at (g.history e) n ≡ e) × (content_at (g.history e) n ≡ EpochStart → ⊥)) → IsBranch g.histories e
  branch_after e a b own =
      let grows : Agree (length (f.history e)) (f.history e) (g.history e) = after.history e a in
      record {
        positive = b.positive;
        starts = omega (arith, b.starts, after.start e a);
        within = omega (arith, b.within, after.start e a, grows.right);
        own = λ n from w. elim (cases_lt (length (f.history e)) n) [
          | inl more ↦ (own n more w).0
          | inr old ↦ sym (agree_epoch n (length (f.history e)) (f.history e) (g.history e) old grows) ∙ b.own n (omega (arith, from, after.start e a)) old
        ];
        marked =
            ap (content_at (g.history e)) (after.start e a) ∙ (sym (agree_content (f.start e) (length (f.history e)) (f.history e) (g.history e) b.within grows) ∙ b.marked);
        unmarked = λ n from w is. elim (cases_lt (length (f.history e)) n) [
          | inl more ↦ (own n more w).1 is
          | inr old ↦ b.unmarked n (omega (arith, from, after.start e a)) old (agree_content n (length (f.history e)) (f.history e) (g.history e) old grows ∙ is)
        ];
        root = elim (b.root) [
          | inl one ↦ inl (omega (arith, one, after.start e a))
          | inr d ↦ inr (
            d.0,
            record {
              appointed = after.appointed d.0 d.1.appointed;
              below = d.1.below;
              agree = λ n lt.
                  let k : Agree n (f.history e) (f.history d.0) = d.1.agree n (omega (arith, lt, after.start e a)) in
                  history_after d.0 n (g.history e) d.1.appointed (agree_trans (agree_sym (history_after e n (f.history e) a (agree_self n (f.history e) k.left))) k);
            },
          )
        ];
      }

  -- Barriers stay true where new ones are
  pub barriers_after : (e : ℕ) → IsAppointed f e → HasTrueBarriers f e
      → ((n s : ℕ) → length (f.history e) < n → n ≤ length (g.history e) → content_at (g.history e) n ≡ Barrier s → (s < n) × IsChosen f e s) → HasTrueBarriers g e
  barriers_after e a b new n s from w is =
      let old : (s < n) × IsChosen f e s = elim (cases_lt (length (f.history e)) n) [
        | inl more ↦ new n s more w is
        | inr old ↦ b n s (omega (arith, from, after.start e a)) old (agree_content n (length (f.history e)) (f.history e) (g.history e) old (after.history e a) ∙ is)
      ] in
      (old.0, after.chosen e s a old.1)

  pub copied_after : (e c : ℕ) (v : Value R) → IsAppointed f e → IsCopied f e c v → ((n : ℕ) → Agree n v.log (g.history e) → Agree n v.log (f.history e)) → IsCopied g e c v
  copied_after e c v a k shared = record {
    fence = k.fence;
    safe = elim (k.safe) [
      | inl z ↦ inl z
      | inr w ↦ safe_after e e (f.history e) (g.history e) c (omega arith) (history_after e c (f.history e) a (agree_self c (f.history e) w.2.agree.right)) k.safe
    ];
    stable = k.stable;
    shared = λ n h. k.shared n (shared n h);
  }
