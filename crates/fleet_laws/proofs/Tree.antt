-- The histories are a tree, and logs of the tree are one where their epochs are.
use Rattle.std.proofs.Common.{◌≡◌, ℕ, zero, suc, ◌<◌, ◌≤◌, true, List, length, refl, ap, sym, ◌∙◌, subst, arith, inl, inr}
use Rattle.std.proofs.lemmas.Bool.{cases_lt}
use Rattle.fleet_laws.specs.Logs.{Entry, Agree, epoch_at}
use Rattle.fleet_laws.specs.Fleets.{Histories}
use Rattle.fleet_laws.specs.Choice.{IsCanonical}
use Rattle.fleet_laws.specs.Invariant.{IsBranch}
use Rattle.fleet_laws.proofs.Agreement.{agree_none, agree_self, agree_sym, agree_trans, agree_less, agree_epoch}

pub epoch_at-zero : {R : Type 0} (a : List (Entry R)) → epoch_at a 0 ≡ 0
unfolding epoch_at
epoch_at-zero a = refl

module _ {R : Type 0} (h : Histories R) (branches : (e : ℕ) → h.appointed e ≡ true → IsBranch h e) where
  -- no entry of a history has a later epoch
  history_below : (b e : ℕ) → e < b → h.appointed e ≡ true → (n : ℕ) → n ≤ length (h.history e) → epoch_at (h.history e) n ≤ e
  history_below zero e lt a n w = absurd (omega arith)
  history_below (suc b) e lt a n w = elim (cases_lt n (h.start e)) [
    | inr past ↦ omega (arith, (branches e a).own n past w)
    | inl before ↦ elim (branches e a).root [
      | inl one ↦ (let z : n ≡ 0 = omega (arith, one, before) in omega (arith, ap (epoch_at (h.history e)) z, epoch_at-zero (h.history e)))
      | inr d ↦ (
          let g : Agree n (h.history e) (h.history d.0) = d.1.agree n before in
          omega (arith, agree_epoch n n (h.history e) (h.history d.0) (omega arith) g, history_below b d.0 (omega (arith, d.1.below)) d.1.appointed n g.right, d.1.below))
    ]
  ]

  -- each beginning of a history is one of the history of its last epoch
  history_canonical_below : (b e : ℕ) → e < b → h.appointed e ≡ true → IsCanonical h (h.history e)
  history_canonical_below zero e lt a n one w = absurd (omega arith)
  history_canonical_below (suc b) e lt a n one w = elim (cases_lt n (h.start e)) [
    | inr past ↦ (e, record { is = (branches e a).own n past w; appointed = a; agree = agree_self n (h.history e) w })
    | inl before ↦ elim (branches e a).root [
      | inl s ↦ absurd (omega (arith, s, before, one))
      | inr d ↦ (
          let g : Agree n (h.history e) (h.history d.0) = d.1.agree n before in
          let c = history_canonical_below b d.0 (omega (arith, d.1.below)) d.1.appointed n one g.right in (
            c.0,
            record {
              is = agree_epoch n n (h.history e) (h.history d.0) (omega arith) g ∙ c.1.is;
              appointed = c.1.appointed;
              agree = agree_trans g c.1.agree;
            },
          ))
    ]
  ]

  pub history_canonical : (e : ℕ) → h.appointed e ≡ true → IsCanonical h (h.history e)
  history_canonical e a = history_canonical_below (suc e) e (omega arith) a

  pub history_rises : (e : ℕ) → h.appointed e ≡ true → (n : ℕ) → n ≤ length (h.history e) → epoch_at (h.history e) n ≤ e
  history_rises e a n w = history_below (suc e) e (omega arith) a n w

  -- epochs don't fall along a log of the tree
  pub epochs_rise : (a : List (Entry R)) → IsCanonical h a → (m n : ℕ) → m ≤ n → n ≤ length a → epoch_at a m ≤ epoch_at a n
  epochs_rise a c zero n le w = omega (arith, epoch_at-zero a)
  epochs_rise a c (suc m) n le w =
      let t = c n (omega arith) w in
      omega (arith, t.1.is, agree_epoch (suc m) n a (h.history t.0) le t.1.agree, history_rises t.0 t.1.appointed (suc m) (omega (arith, t.1.agree.right)))

  -- where a log of the tree has epoch e, it has its EpochStart
  pub past_start : (a : List (Entry R)) → IsCanonical h a → (e n : ℕ) → 1 ≤ n → n ≤ length a → epoch_at a n ≡ e → h.start e ≤ n
  past_start a c e n one w is =
      let t = c n one w in
      let same : t.0 ≡ e = sym t.1.is ∙ is in
      let ap' : h.appointed e ≡ true = subst (λ x. h.appointed x ≡ true) same t.1.appointed in
      let g : Agree n a (h.history e) = subst (λ x. Agree n a (h.history x)) same t.1.agree in
      let at : epoch_at (h.history e) n ≡ e = sym (agree_epoch n n a (h.history e) (omega arith) g) ∙ is in
      elim (cases_lt n (h.start e)) [
        | inr past ↦ past
        | inl before ↦ elim (branches e ap').root [
          | inl s ↦ absurd (omega (arith, s, before, one))
          | inr d ↦ (
              let k : Agree n (h.history e) (h.history d.0) = d.1.agree n before in
              absurd (omega (arith, at, agree_epoch n n (h.history e) (h.history d.0) (omega arith) k, history_rises d.0 d.1.appointed n k.right, d.1.below)))
        ]
      ]

  -- the log of the tree agrees with the history of the epoch that it has at a place
  pub agrees_with_history : (a : List (Entry R)) → IsCanonical h a → (e n : ℕ) → 1 ≤ n → n ≤ length a → epoch_at a n ≡ e → Agree n a (h.history e)
  agrees_with_history a c e n one w is =
      let t = c n one w in
      subst (λ x. Agree n a (h.history x)) (sym t.1.is ∙ is) t.1.agree

  pub same_epoch_agree : (a b : List (Entry R)) → IsCanonical h a → IsCanonical h b → (n : ℕ) → n ≤ length a → n ≤ length b → epoch_at a n ≡ epoch_at b n → Agree n a b
  same_epoch_agree a b c d zero v w is = agree_none a b
  same_epoch_agree a b c d (suc n) v w is =
      let t = d (suc n) (omega arith) w in
      agree_trans (agrees_with_history a c t.0 (suc n) (omega arith) v (is ∙ t.1.is)) (agree_sym t.1.agree)

-- a beginning of a log of the tree is one
pub begins_canonical : {R : Type 0} (h : Histories R) (a b : List (Entry R)) → IsCanonical h b → Agree (length a) a b → IsCanonical h a
begins_canonical h a b c g n one w =
    let k : Agree n a b = agree_less n (length a) a b w g in
    let t = c n one k.right in (
      t.0,
      record {
        is = agree_epoch n n a b (omega arith) k ∙ t.1.is;
        appointed = t.1.appointed;
        agree = agree_trans k t.1.agree;
      },
    )
