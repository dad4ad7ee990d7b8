-- An appointment keeps the invariant.
use Rattle.std.proofs.Common.{◌≡◌, ℕ, suc, ◌<◌, ◌≤◌, true, false, cond, ◌⊎◌, List, [], ◌∷◌, ◌++◌, length, refl, ap, sym, ◌∙◌, subst, arith, inl, inr}
use Rattle.std.proofs.lemmas.Bool.{cases_lt, both_ways}
use Rattle.std.proofs.lemmas.List.{length_push}
use Rattle.fleet_laws.specs.Counting.{IsWriteQuorumOfEach}
use Rattle.fleet_laws.specs.Logs.{Entry, Record, Agree, epoch_at, content_at}
use Rattle.fleet_laws.specs.Logs.Record.{EpochStart, Barrier}
use Rattle.fleet_laws.specs.Fleets.{Value, Fleet, IsAppointed}
use Rattle.fleet_laws.specs.Choice.{Chosen, Live, MayBeChosen, reaches, frozen, may_reach, configurations_of}
use Rattle.fleet_laws.specs.Invariant.{HasTrueBarriers, IsBranch, IsSurveyed, IsBefore, Appointments, Invariant}
use Rattle.fleet_laws.specs.Moves.{Appoints, appointed}
use Rattle.fleet_laws.specs.Growth.{ComesAfter}
use Rattle.fleet_laws.proofs.Counts.{quorums_more}
use Rattle.fleet_laws.proofs.Agreement.{agree_self, agree_sym, agree_trans, agree_less, agree_append}
use Rattle.fleet_laws.proofs.Growing.{epoch_behind, content_behind}
use Rattle.fleet_laws.proofs.After.{history_after, sound_after, branch_after, barriers_after, key_after, copied_after}
use Rattle.fleet_laws.proofs.Puts.{all_one, put_same, put_other, put_split, put_both, frozen_role, frozen_above, is_frozen, may_before}
use Rattle.fleet_laws.proofs.Inheriting.{primary_value, has_what_may_be_chosen}

pub start_is_no_barrier : {R : Type 0} (s : ℕ) → ◌≡◌ {A = Record R} EpochStart (Barrier s) → ⊥
start_is_no_barrier s h = cc

module _ {R : Type 0} (f : Fleet R) (e p : ℕ) (v : Value R) (members : List ℕ) (i : Invariant f) (a : Appoints f e p v) where
  abbrev g : Fleet R
  g = appointed f e p v members

  abbrev started : List (Entry R)
  started = v.log ++ record { epoch = e; content = EpochStart } ∷ []

  -- the appointed epochs of before are others
  other : (d : ℕ) → IsAppointed f d → d ≡ e → ⊥
  other d ad is = omega (arith, is, i.appointments.latest d ad, a.above)

  same_start : (d : ℕ) → IsAppointed f d → g.start d ≡ f.start d
  same_start d ad = put_other e (suc (length v.log)) f.start d (other d ad)

  same_history : (d : ℕ) → IsAppointed f d → g.history d ≡ f.history d
  same_history d ad = put_other e started f.history d (other d ad)

  same_configurations : (d : ℕ) → IsAppointed f d → configurations_of g.configurations d ≡ configurations_of f.configurations d
  same_configurations d ad =
      let now : g.current d ≡ f.current d = put_other e members f.current d (other d ad) in
      let before : g.previous d ≡ f.previous d = put_other e (f.current f.active) f.previous d (other d ad) in
      ap (λ c. cond (f.activated d) (c ∷ []) (g.previous d ∷ c ∷ [])) now ∙ ap (λ c. cond (f.activated d) (f.current d ∷ []) (c ∷ f.current d ∷ [])) before

  stays_frozen : (d q : ℕ) → IsAppointed f d → frozen f d q ≡ true → frozen g d q ≡ true
  stays_frozen d q ad h = is_frozen g d q
      (λ is. elim (put_split (λ x. x ≡ d) p e f.role q is) [
        | inl x ↦ other d ad (sym x.1)
        | inr x ↦ frozen_role f d q h x.1
      ])
      (λ w c. frozen_above f d q w h c)

  -- the appointment makes nothing possible that wasn't
  may_before_appointment : (d l : ℕ) → IsAppointed f d → MayBeChosen g d l → MayBeChosen f d l
  may_before_appointment d l ad m = record {
    from = omega (arith, m.from, same_start d ad);
    by = quorums_more (may_reach g d l) (may_reach f d l) (λ q. may_before f g d l q (λ x. inl x) (stays_frozen d q ad)) (configurations_of f.configurations d)
        (subst (λ cs. IsWriteQuorumOfEach (may_reach g d l) cs) (same_configurations d ad) m.by);
  }

  pub appoint_after : ComesAfter f g
  appoint_after = record {
    appointed = λ d ad. put_both (λ t. t ≡ true) e true f.appointed d (λ is. refl) (λ ne. ad);
    latest = omega (arith, a.above);
    start = same_start;
    history = λ d ad. subst (λ x. Agree (length (f.history d)) (f.history d) x) (sym (same_history d ad)) (agree_self (length (f.history d)) (f.history d) (omega arith));
    acknowledged = λ q d. omega arith;
    chosen = λ d l ad c. record {
      from = omega (arith, c.from, same_start d ad);
      by = subst (λ cs. IsWriteQuorumOfEach (reaches f.acknowledged d l) cs) (sym (same_configurations d ad)) c.by;
    };
    may = λ d l ad lt m. may_before_appointment d l ad m;
  }

  old_or_new : (d : ℕ) → IsAppointed g d → (d ≡ e) ⊎ IsAppointed f d
  old_or_new d h = elim (put_split (λ t. t ≡ true) e true f.appointed d h) [ inl x ↦ inl x.0 | inr x ↦ inr x.1 ]

  start_of_new : (d : ℕ) → d ≡ e → g.start d ≡ suc (length v.log)
  start_of_new d is = put_same e (suc (length v.log)) f.start d is

  history_of_new : (d : ℕ) → d ≡ e → g.history d ≡ started
  history_of_new d is = put_same e started f.history d is

  length_started : length started ≡ suc (length v.log)
  length_started = omega (arith, length_push v.log (record { epoch = e; content = EpochStart }))

  new_own : (n : ℕ) → suc (length v.log) ≤ n → n ≤ length started → epoch_at started n ≡ e
  new_own n from w = epoch_behind v.log (record { epoch = e; content = EpochStart } ∷ []) e n (all_one (λ x. x.epoch ≡ e) (record { epoch = e; content = EpochStart }) refl) from w

  new_content : (n : ℕ) → suc (length v.log) ≤ n → n ≤ length started → content_at started n ≡ EpochStart
  new_content n from w = content_behind v.log (record { epoch = e; content = EpochStart } ∷ []) (λ x. x ≡ EpochStart) n (all_one (λ x. x.content ≡ EpochStart) (record { epoch = e; content = EpochStart }) refl) from w

  new_root : (suc (length v.log) ≡ 1) ⊎ ((d : ℕ) × record {
    appointed : g.appointed d ≡ true;
    below : d < e;
    agree : (n : ℕ) → n < suc (length v.log) → Agree n started (g.history d);
  })
  new_root = elim (cases_lt 0 (length v.log)) [
    | inr none ↦ inl (omega (arith, none))
    | inl one ↦ (
        let t = (i.values p v (primary_value f i e p v a)).canonical (length v.log) one (omega arith) in
        inr (
          t.0,
          record {
            appointed = appoint_after.appointed t.0 t.1.appointed;
            below = omega (arith, i.appointments.latest t.0 t.1.appointed, a.above);
            agree = λ n lt. agree_trans (agree_sym (agree_append n v.log (record { epoch = e; content = EpochStart } ∷ []) (omega (arith, lt))))
                (history_after f g appoint_after t.0 n v.log t.1.appointed (agree_less n (length v.log) v.log (f.history t.0) (omega (arith, lt)) t.1.agree));
          },
        ))
  ]

  new_branch : IsBranch g.histories e
  new_branch =
      let s : g.start e ≡ suc (length v.log) = start_of_new e refl in
      let h : g.history e ≡ started = history_of_new e refl in
      record {
        positive = omega (arith, a.above);
        starts = omega (arith, s);
        within = omega (arith, s, ap length h, length_started);
        own = λ n from w. ap (λ x. epoch_at x n) h ∙ new_own n (omega (arith, from, s)) (omega (arith, w, ap length h));
        marked = ap (content_at (g.history e)) s ∙ (ap (λ x. content_at x (suc (length v.log))) h ∙ new_content (suc (length v.log)) (omega arith) (omega (arith, length_started)));
        unmarked = λ n from w is. omega (arith, from, s, w, ap length h, length_started);
        root = elim (new_root) [
          | inl x ↦ inl (omega (arith, x, s))
          | inr x ↦ inr (
            x.0,
            record {
              appointed = x.1.appointed;
              below = x.1.below;
              agree = λ n lt. subst (λ y. Agree n y (g.history x.0)) (sym h) (x.1.agree n (omega (arith, lt, s)));
            },
          )
        ];
      }

  branches : (d : ℕ) → IsAppointed g d → IsBranch g.histories d
  branches d h = elim (old_or_new d h) [
    | inl is ↦ subst (λ x. IsBranch g.histories x) (sym is) new_branch
    | inr ad ↦ branch_after f g appoint_after d ad (i.branches d ad) (λ n past w. absurd (omega (arith, past, w, ap length (same_history d ad))))
  ]

  barriers : (d : ℕ) → IsAppointed g d → HasTrueBarriers g d
  barriers d h n s from w is = elim (old_or_new d h) [
    | inl new ↦ (
        let t : g.history d ≡ started = history_of_new d new in
        absurd (start_is_no_barrier s (sym (new_content n (omega (arith, from, start_of_new d new)) (omega (arith, w, ap length t))) ∙ (ap (λ x. content_at x n) (sym t) ∙ is))))
    | inr ad ↦ barriers_after f g appoint_after d ad (i.barriers d ad) (λ m x past in_ eq. absurd (omega (arith, past, in_, ap length (same_history d ad)))) n s from w is
  ]

  active_appointed : IsAppointed f f.active
  active_appointed = i.appointments.activated f.active (i.appointments.is_active f.latest a.one)

  before : (d : ℕ) → IsAppointed g d → (d ≡ f.founder) ⊎ ((x : ℕ) × IsBefore g.configurations x d)
  before d h = elim (old_or_new d h) [
    | inl is ↦ inr (
      f.active,
      record {
        below = omega (arith, is, i.appointments.latest f.active active_appointed, a.above);
        activated = i.appointments.is_active f.latest a.one;
        last = λ x low high t. omega (arith, low, i.appointments.active x t);
        members = put_same e (f.current f.active) f.previous d is ∙ sym (put_other e members f.current f.active (other f.active active_appointed));
      },
    )
    | inr ad ↦ elim (i.appointments.before d ad) [
      | inl is ↦ inl is
      | inr x ↦ inr (
        x.0,
        record {
          below = x.1.below;
          activated = x.1.activated;
          last = x.1.last;
          members = put_other e (f.current f.active) f.previous d (other d ad) ∙ (x.1.members ∙ sym (put_other e members f.current x.0 (other x.0 (i.appointments.activated x.0 x.1.activated))));
        },
      )
    ]
  ]

  appointments : Appointments g.histories g.configurations f.acknowledged
  appointments = record {
    latest = λ d h. elim (old_or_new d h) [ inl is ↦ omega (arith, is) | inr ad ↦ omega (arith, i.appointments.latest d ad, a.above) ];
    is_latest = inr (put_same e true f.appointed e refl);
    activated = λ d t. appoint_after.appointed d (i.appointments.activated d t);
    active = i.appointments.active;
    is_active = λ d h. i.appointments.is_active f.latest a.one;
    founder = λ d h. elim (old_or_new d h) [
      | inl is ↦ omega (arith, is, i.appointments.founder f.latest a.one, a.above)
      | inr ad ↦ i.appointments.founder d ad
    ];
    is_founder = λ d h. i.appointments.is_founder f.latest a.one;
    before = before;
    chosen = λ d t. elim (i.appointments.chosen d t) [
      | inl is ↦ inl is
      | inr c ↦ (
          let ad : IsAppointed f d = i.appointments.activated d t in
          inr (subst (λ n. Chosen g.histories g.configurations f.acknowledged d n) (sym (same_start d ad)) (appoint_after.chosen d (f.start d) ad c)))
    ];
    known = λ q d one. appoint_after.appointed d (i.appointments.known q d one);
  }

  back : (q d l : ℕ) → Live g d l → l ≤ f.acknowledged q d → IsAppointed f d × (l ≤ f.acknowledged q d)
  back q d l live le = elim (old_or_new d live.appointed) [
    | inl is ↦ (i.appointments.known q d (omega (arith, le, live.from, start_of_new d is)), le)
    | inr ad ↦ (ad, le)
  ]

  key : (d c l : ℕ) → IsAppointed g d → IsAppointed g c → d < c → MayBeChosen g d l → (l < g.start c) × Agree l (g.history d) (g.history c)
  key d c l hd hc lt m = elim (old_or_new d hd) [
    | inl is ↦ absurd (omega (arith, is, lt, appointments.latest c hc))
    | inr ad ↦ elim (old_or_new c hc) [
      | inr ac ↦ key_after f g appoint_after i.key d c l ad ac lt (i.appointments.latest c ac) m
      | inl is ↦ (
          let h : Agree l (f.history d) v.log = has_what_may_be_chosen f i e p v a d l ad (may_before_appointment d l ad m) in (
            omega (arith, h.right, start_of_new c is),
            agree_trans (agree_sym (history_after f g appoint_after d l (f.history d) ad (agree_self l (f.history d) h.left)))
                (agree_trans h (subst (λ x. Agree l v.log x) (sym (history_of_new c is)) (agree_append l v.log (record { epoch = e; content = EpochStart } ∷ []) h.right))),
          ))
    ]
  ]

  surveys : (d q : ℕ) → f.answered d q ≡ true → IsSurveyed g q d
  surveys d q h =
      let s : IsSurveyed f q d = i.surveys d q h in
      record {
        role = put_both (λ x. (x ≡ 0) ⊎ (d ≤ x)) p e f.role q
            (λ is. elim (cases_lt e d) [
              | inl above ↦ absurd (both_ways (f.answered d q) (subst (λ y. f.answered d y ≡ false) (sym is) (a.latest_answer d above)) h)
              | inr low ↦ inr low
            ])
            (λ ne. s.role);
        fence = s.fence;
        epoch = λ lt. s.epoch (omega (arith, lt, a.above));
        length = λ lt. s.length (omega (arith, lt, a.above));
      }

  pub appoint_keeps : Invariant g
  appoint_keeps = record {
    appointments = appointments;
    branches = branches;
    barriers = barriers;
    some_value = i.some_value;
    values = λ q w c. sound_after f g appoint_after i.appointments q w (i.values q w c) (back q);
    key = key;
    surveys = surveys;
    copies = λ q one.
        let k = i.copies q one in (
          appoint_after.appointed (f.copying q) k.0,
          λ w c. copied_after f g appoint_after (f.copying q) (f.copy_at q) w k.0 (k.1 w c) (λ n h. subst (λ x. Agree n w.log x) (same_history (f.copying q) k.0) h),
        );
    primaries = λ q one. put_both (λ x. 1 ≤ x → IsAppointed g x) p e f.role q
        (λ is le. put_same e true f.appointed e refl)
        (λ ne le. appoint_after.appointed (f.role q) (i.primaries q le))
        one;
  }
