-- Whoever is appointed has all that may be chosen below.
use Rattle.std.proofs.Common.{◌≡◌, ℕ, ◌<◌, ◌≤◌, Bool, true, false, cond, List, [], ◌∷◌, length, refl, ap, sym, ◌∙◌, subst, arith, inl, inr}
use Rattle.std.specs.Prelude.{Contains}
use Rattle.std.proofs.lemmas.Bool.{cases_lt, cases_eq, cases_order, cases_Bool, both_ways}
use Rattle.fleet_laws.specs.Counting.{IsWriteQuorum, IsReadQuorum, IsWriteQuorumOfEach}
use Rattle.fleet_laws.specs.Logs.{Agree, epoch_at, last_epoch}
use Rattle.fleet_laws.specs.Fleets.{Value, Fleet, IsAppointed, IsValueOf}
use Rattle.fleet_laws.specs.Choice.{MayBeChosen, frozen, may_reach, configurations_of}
use Rattle.fleet_laws.specs.Invariant.{IsSurveyed, IsBefore, IsSound, IsBranch, Appointments, Invariant}
use Rattle.fleet_laws.specs.Moves.{Appoints}
use Rattle.fleet_laws.proofs.Counts.{meet}
use Rattle.fleet_laws.proofs.Agreement.{agree_sym, agree_trans, agree_less, agree_epoch, zero_of}
use Rattle.fleet_laws.proofs.Tree.{epochs_rise, past_start, agrees_with_history, epoch_at-zero}
use Rattle.fleet_laws.proofs.Puts.{first_member, is_frozen, may_cases}
use Rattle.fleet_laws.proofs.Use.{chosen_may, own_quorum}

-- a write quorum and a read quorum of one configuration share a member
pub quorums_share : (p q : ℕ → Bool) (c : List ℕ) → IsWriteQuorum p c → IsReadQuorum q c → (m : ℕ) × Contains c m × (p m ≡ true) × (q m ≡ true)
quorums_share p q c w r = meet p q c (omega arith)

first_quorum : (p : ℕ → Bool) (b : Bool) (now before : List ℕ) → b ≡ false → IsWriteQuorumOfEach p (cond b (now ∷ []) (before ∷ now ∷ [])) → IsWriteQuorum p before
first_quorum p true now before h w = absurd (both_ways true h refl)
first_quorum p false now before h w = w.0

-- from the epoch last activated on, each epoch needs a write quorum of that one's members
pub active_quorum : {R : Type 0} (f : Fleet R) → Appointments f.histories f.configurations f.acknowledged → (p : ℕ → Bool) (e : ℕ) → IsAppointed f e → f.active ≤ e
    → IsWriteQuorumOfEach p (configurations_of f.configurations e) → IsWriteQuorum p (f.current f.active)
active_quorum f i p e a le w = elim (cases_eq e f.active) [
  | inl is ↦ subst (λ x. IsWriteQuorum p (f.current x)) is (own_quorum p f.configurations e w)
  | inr ne ↦ elim (cases_Bool (f.activated e)) [
    | inl t ↦ absurd (ne (omega (arith, i.active e t, le)))
    | inr no_ ↦ elim (i.before e a) [
      | inl is ↦ absurd (ne (omega (arith, is, le, i.founder f.active (i.activated f.active (i.is_active e a)))))
      | inr x ↦ (
          let b : IsBefore f.configurations x.0 e = x.1 in
          let same : x.0 ≡ f.active = elim (cases_order x.0 f.active) [
            | inl same ↦ same
            | inr (inl lt) ↦ absurd (b.last f.active lt (omega (arith, le, λ (h : e ≡ f.active). ne h)) (i.is_active e a))
            | inr (inr gt) ↦ absurd (omega (arith, gt, i.active x.0 b.activated))
          ] in
          subst (λ c. IsWriteQuorum p c) (b.members ∙ ap f.current same) (first_quorum p (f.activated e) (f.current e) (f.previous e) no_ w))
    ]
  ]
]

module _ {R : Type 0} (f : Fleet R) (i : Invariant f) (e p : ℕ) (v : Value R) (a : Appoints f e p v) where
  pub primary_value : IsValueOf f p v
  primary_value = subst (λ vs. Contains vs v) (sym a.is_open) (first_member v [])

  surveyed_primary : IsSurveyed f p e
  surveyed_primary = i.surveys e p a.answered

  sound : IsSound f p v
  sound = i.values p v primary_value

  -- whoever answered may reach only what it has acknowledged
  answered_reached : (d l m : ℕ) → IsAppointed f d → f.answered e m ≡ true → may_reach f d l m ≡ true → l ≤ f.acknowledged m d
  answered_reached d l m ad ans may =
      let s : IsSurveyed f m e = i.surveys e m ans in
      let low : d < e = omega (arith, i.appointments.latest d ad, a.above) in
      elim (may_cases f d l m may) [
        | inl x ↦ x
        | inr open_ ↦ absurd (both_ways (frozen f d m) open_ (is_frozen f d m
            (λ is. elim (s.role) [
              | inl none ↦ omega (arith, none, is, (i.branches d ad).positive)
              | inr high ↦ omega (arith, high, is, low)
            ])
            (λ w c. omega (arith, s.fence w c, low))))
      ]

  -- the answer of a replica that has the history of d to l isn't greater than that of the new primary, which so has it too
  greater_has : (d l m : ℕ) → IsAppointed f d → MayBeChosen f d l → f.answered e m ≡ true → l ≤ f.acknowledged m d → Agree l (f.history d) v.log
  greater_has d l m ad may ans ack =
      let b : IsBranch f.histories d = i.branches d ad in
      let some = i.some_value m in
      let w : Value R = some.0 in
      let c : IsValueOf f m w = some.1 in
      let ws : IsSound f m w = i.values m w c in
      let h : Agree l (f.history d) w.log = ws.holds d l ack (record { appointed = ad; from = may.from; can = inr may }) in
      let at : epoch_at w.log l ≡ d = sym (agree_epoch l l (f.history d) w.log (omega arith) h) ∙ b.own l may.from h.left in
      let x : d ≤ last_epoch w.log = omega (arith, at, epochs_rise f.histories i.branches w.log ws.canonical l (length w.log) h.right (omega arith)) in
      let s : IsSurveyed f m e = i.surveys e m ans in
      let te : last_epoch w.log ≡ f.told_epoch e m = s.epoch a.above w c in
      let tl : length w.log ≡ f.told_length e m = s.length a.above w c in
      let pe : last_epoch v.log ≡ f.told_epoch e p = surveyed_primary.epoch a.above v primary_value in
      let pl : length v.log ≡ f.told_length e p = surveyed_primary.length a.above v primary_value in
      let long : (last_epoch v.log ≡ d) → l ≤ length v.log = λ is. elim (a.greatest m ans) [
        | inl lt ↦ absurd (omega (arith, lt, te, pe, x, is))
        | inr same ↦ omega (arith, same.1, tl, pl, h.right)
      ] in
      let high : d ≤ last_epoch v.log = elim (a.greatest m ans) [
        | inl lt ↦ omega (arith, lt, te, pe, x)
        | inr same ↦ omega (arith, same.0, te, pe, x)
      ] in
      let some_entry : 1 ≤ length v.log = elim (cases_lt 0 (length v.log)) [
        | inl one ↦ one
        | inr none ↦ absurd (omega (arith, high, b.positive, ap (epoch_at v.log) (zero_of (length v.log) none), epoch_at-zero v.log))
      ] in
      elim (cases_eq (last_epoch v.log) d) [
        | inl is ↦ agree_sym (agree_less l (length v.log) v.log (f.history d) (long is) (agrees_with_history f.histories i.branches v.log sound.canonical d (length v.log) some_entry (omega arith) is))
        | inr ne ↦ (
            let t = sound.canonical (length v.log) some_entry (omega arith) in
            let lt : d < t.0 = omega (arith, high, t.1.is, λ (y : last_epoch v.log ≡ d). ne y) in
            let k = i.key d t.0 l ad t.1.appointed lt may in
            let from : f.start t.0 ≤ length v.log = past_start f.histories i.branches v.log sound.canonical t.0 (length v.log) some_entry (omega arith) t.1.is in
            agree_trans k.1 (agree_sym (agree_less l (length v.log) v.log (f.history t.0) (omega (arith, k.0, from)) t.1.agree)))
      ]

  -- where the epoch isn't below the one last activated
  has_recent : (d l : ℕ) → IsAppointed f d → f.active ≤ d → MayBeChosen f d l → Agree l (f.history d) v.log
  has_recent d l ad le may =
      let m = quorums_share (may_reach f d l) (f.answered e) (f.current f.active) (active_quorum f i.appointments (may_reach f d l) d ad le may.by) a.quorum in
      greater_has d l m.0 ad may m.3 (answered_reached d l m.0 ad m.3 m.2)

  pub has_what_may_be_chosen : (d l : ℕ) → IsAppointed f d → MayBeChosen f d l → Agree l (f.history d) v.log
  has_what_may_be_chosen d l ad may = elim (cases_lt d f.active) [
    | inr recent ↦ has_recent d l ad recent may
    | inl old ↦ (
        let is_active = i.appointments.is_active d ad in
        let aa : IsAppointed f f.active = i.appointments.activated f.active is_active in
        elim (i.appointments.chosen f.active is_active) [
          | inl is ↦ absurd (omega (arith, is, old, i.appointments.founder d ad))
          | inr c ↦ (
              let k = i.key d f.active l ad aa old may in
              let g : Agree (f.start f.active) (f.history f.active) v.log = has_recent f.active (f.start f.active) aa (omega arith) (chosen_may f f.active (f.start f.active) c) in
              agree_trans k.1 (agree_less l (f.start f.active) (f.history f.active) v.log (omega (arith, k.0)) g))
        ])
  ]
