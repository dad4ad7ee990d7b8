-- The moves of the example.
use Rattle.std.proofs.Common.{◌≡◌, ℕ, ◌<◌, ◌≤◌, true, false, ◌⊎◌, List, [], ◌∷◌, refl, ap, sym, ◌∙◌, subst, arith, inl, inr}
use Rattle.std.proofs.lemmas.Bool.{cases_eq, cases_lt}
use Rattle.fleet_laws.specs.Logs.{Entry, Record, Agree, epoch_at}
use Rattle.fleet_laws.specs.Logs.Record.{EpochStart, Barrier, Other}
use Rattle.fleet_laws.specs.Fleets.{Value, Fleet, put, IsValueOf, empty_fleet, empty_value}
use Rattle.fleet_laws.specs.Choice.{IsChosen}
use Rattle.fleet_laws.specs.Moves.{Turn, booted, Changes, changed, acknowledged, grown, told, appointed, activated, Move, Run, IsReached}
use Rattle.fleet_laws.specs.Moves.Turn.{follows, logs, raises, undoes}
use Rattle.fleet_laws.specs.Moves.Move.{boot, change, acknowledge, grow, answer, appoint, activate}
use Rattle.fleet_laws.specs.Moves.Run.{rests, moves}
use Rattle.fleet_laws.specs.Example.{first_start, false_progress, second_start, UndoesFalseProgress}
use Rattle.fleet_laws.proofs.Agreement.{agree_epoch}
use Rattle.fleet_laws.proofs.Puts.{put_other, all_one, first_member}

abbrev trio : List ℕ
trio = 0 ∷ 1 ∷ 2 ∷ []

-- a value with this log and fence, of which nothing is stable
abbrev with_log : List (Entry ℕ) → ℕ → Value ℕ
with_log log fence = record { log = log; head = 0; base = 0; fence = fence; stable = 0 }

abbrev begun : Value ℕ
begun = with_log (first_start ∷ []) 1

abbrev ahead : Value ℕ
ahead = with_log (first_start ∷ false_progress ∷ []) 1

abbrev surveyed : Value ℕ
surveyed = with_log (first_start ∷ []) 2

abbrev empty_surveyed : Value ℕ
empty_surveyed = with_log [] 2

abbrev later : Value ℕ
later = with_log (first_start ∷ second_start ∷ []) 2

-- one replica takes another value by one turn
by_turn : (f : Fleet ℕ) (r : ℕ) (v w : Value ℕ) (role : ℕ) → IsValueOf f r v → Turn f r v w → (role ≡ 0) ⊎ (role ≡ f.role r) → Changes f r (w ∷ []) role 0
by_turn f r v w role c t keeps = record {
  some_value = omega arith;
  turns = all_one (λ x. (y : Value ℕ) × IsValueOf f r y × Turn f r y x) w (v, c, t);
  keeps_role = keeps;
  keeps_copy = inl refl;
}

-- epoch 1 is booted at 0, and its EpochStart chosen by 0 and 1
abbrev f1 : Fleet ℕ
f1 = booted empty_fleet 1 0 trio

abbrev f2 : Fleet ℕ
f2 = changed f1 0 (begun ∷ []) 1 0

abbrev f3 : Fleet ℕ
f3 = acknowledged f2 0 1 1

abbrev f4 : Fleet ℕ
f4 = changed f3 1 (begun ∷ []) 0 0

abbrev f5 : Fleet ℕ
f5 = acknowledged f4 1 1 1

-- 0 logs what no other has
abbrev f6 : Fleet ℕ
f6 = grown f5 1 (false_progress ∷ [])

abbrev f7 : Fleet ℕ
f7 = changed f6 0 (ahead ∷ []) 1 0

m1 : Move empty_fleet f1
m1 = boot 1 0 trio (record { positive = omega arith; first = λ d. refl; latest_answer = λ d lt. refl })

m2 : Move f1 f2
unfolding epoch_at
m2 = change 0 (begun ∷ []) 1 0 (by_turn f1 0 empty_value begun 1 (first_member empty_value []) (logs 1 1 refl refl (omega arith) (omega arith) refl) (inr refl))

m3 : Move f2 f3
unfolding epoch_at
m3 = acknowledge 0 1 1 begun (record { appointed = refl; is_open = refl; may = inl (omega arith); has = omega arith; within = omega arith; same = refl })

m4 : Move f3 f4
unfolding epoch_at
m4 = change 1 (begun ∷ []) 0 0 (by_turn f3 1 empty_value begun 0 (first_member empty_value []) (follows 1 1 refl (omega arith) (omega arith) (omega arith) refl) (inl refl))

m5 : Move f4 f5
unfolding epoch_at
m5 = acknowledge 1 1 1 begun (record { appointed = refl; is_open = refl; may = inl (omega arith); has = omega arith; within = omega arith; same = refl })

plain : ◌≡◌ {A = Record ℕ} (Other 7) EpochStart → ⊥
plain h = cc

no_barrier : (s : ℕ) → ◌≡◌ {A = Record ℕ} (Other 7) (Barrier s) → ⊥
no_barrier s h = cc

m6 : Move f5 f6
m6 = grow 0 1 (false_progress ∷ []) (record {
  appointed = refl;
  role = refl;
  own = all_one (λ x. x.epoch ≡ 1) false_progress refl;
  unmarked = all_one (λ x. x.content ≡ EpochStart → ⊥) false_progress plain;
  barriers = all_one (λ x. (s : ℕ) → x.content ≡ Barrier s → IsChosen f5 1 s) false_progress (λ s h. absurd (no_barrier s h));
})

m7 : Move f6 f7
unfolding epoch_at
m7 = change 0 (ahead ∷ []) 1 0 (by_turn f6 0 begun ahead 1 (first_member begun []) (logs 1 2 refl refl (omega arith) (omega arith) refl) (inr refl))

pub first_run : IsReached f7
first_run = moves (moves (moves (moves (moves (moves (moves rests m1) m2) m3) m4) m5) m6) m7

-- 1 and 2 answer the survey of epoch 2, and 1 is appointed
abbrev f8 : Fleet ℕ
f8 = changed f7 1 (surveyed ∷ []) 0 0

abbrev f9 : Fleet ℕ
f9 = told f8 2 1 surveyed

abbrev f10 : Fleet ℕ
f10 = changed f9 2 (empty_surveyed ∷ []) 0 0

abbrev f11 : Fleet ℕ
f11 = told f10 2 2 empty_surveyed

abbrev f12 : Fleet ℕ
f12 = appointed f11 2 1 surveyed trio

-- its EpochStart is chosen by 1 and 2, and it is activated
abbrev f13 : Fleet ℕ
f13 = changed f12 1 (later ∷ []) 2 0

abbrev f14 : Fleet ℕ
f14 = acknowledged f13 1 2 2

abbrev f15 : Fleet ℕ
f15 = changed f14 2 (later ∷ []) 0 0

abbrev f16 : Fleet ℕ
f16 = acknowledged f15 2 2 2

abbrev f17 : Fleet ℕ
f17 = activated f16

-- 0 undoes its false progress, and follows
abbrev f18 : Fleet ℕ
f18 = changed f17 0 (surveyed ∷ []) 0 0

abbrev f19 : Fleet ℕ
f19 = changed f18 0 (later ∷ []) 0 0

m8 : Move f7 f8
m8 = change 1 (surveyed ∷ []) 0 0 (by_turn f7 1 begun surveyed 0 (first_member begun []) (raises 2 (omega arith)) (inl refl))

m9 : Move f8 f9
m9 = answer 2 1 surveyed (record { above = omega arith; is_open = refl; fence = omega arith; role = refl })

m10 : Move f9 f10
m10 = change 2 (empty_surveyed ∷ []) 0 0 (by_turn f9 2 empty_value empty_surveyed 0 (first_member empty_value []) (raises 2 (omega arith)) (inl refl))

m11 : Move f10 f11
m11 = answer 2 2 empty_surveyed (record { above = omega arith; is_open = refl; fence = omega arith; role = refl })

none_later : (d : ℕ) → 2 < d → f11.answered d 1 ≡ false
none_later d lt =
    let ne : d ≡ 2 → ⊥ = λ is. omega (arith, is, lt) in
    ap (λ h. h 1) (put_other 2 (put 2 true (f10.answered 2)) f10.answered d ne) ∙ ap (λ h. h 1) (put_other 2 (put 1 true (f8.answered 2)) f8.answered d ne)

greatest : (r : ℕ) → (f11.told_epoch 2 r < f11.told_epoch 2 1) ⊎ ((f11.told_epoch 2 r ≡ f11.told_epoch 2 1) × (f11.told_length 2 r ≤ f11.told_length 2 1))
unfolding epoch_at
greatest r = elim (cases_eq r 1) [
  | inl is ↦ inr (ap (f11.told_epoch 2) is, omega (arith, ap (f11.told_length 2) is))
  | inr ne ↦ elim (cases_eq r 2) [
    | inl is ↦ subst (λ x. (f11.told_epoch 2 x < 1) ⊎ ((f11.told_epoch 2 x ≡ 1) × (f11.told_length 2 x ≤ 1))) (sym is) (inl (omega arith))
    | inr no_ ↦ inl (omega (arith, put_other 2 0 (f10.told_epoch 2) r no_, put_other 1 1 (f8.told_epoch 2) r ne))
  ]
]

m12 : Move f11 f12
m12 = appoint 2 1 surveyed trio (record {
  above = omega arith;
  one = refl;
  quorum = omega arith;
  answered = refl;
  latest_answer = none_later;
  greatest = λ r h. greatest r;
  is_open = refl;
})

m13 : Move f12 f13
unfolding epoch_at
m13 = change 1 (later ∷ []) 2 0 (by_turn f12 1 surveyed later 2 (first_member surveyed []) (logs 2 2 refl refl (omega arith) (omega arith) refl) (inr refl))

m14 : Move f13 f14
unfolding epoch_at
m14 = acknowledge 1 2 2 later (record { appointed = refl; is_open = refl; may = inl (omega arith); has = omega arith; within = omega arith; same = refl })

m15 : Move f14 f15
unfolding epoch_at
m15 = change 2 (later ∷ []) 0 0 (by_turn f14 2 empty_surveyed later 0 (first_member empty_surveyed []) (follows 2 2 refl (omega arith) (omega arith) (omega arith) refl) (inl refl))

m16 : Move f15 f16
unfolding epoch_at
m16 = acknowledge 2 2 2 later (record { appointed = refl; is_open = refl; may = inl (omega arith); has = omega arith; within = omega arith; same = refl })

second_chosen : IsChosen f16 2 2
second_chosen = record { from = omega arith; by = (omega arith, (omega arith, tt)) }

m17 : Move f16 f17
m17 = activate (record { appointed = refl; chosen = second_chosen })

parts : (m : ℕ) → Agree m (first_start ∷ false_progress ∷ []) (first_start ∷ second_start ∷ []) → m ≤ 1
unfolding epoch_at
parts m g = elim (cases_lt 1 m) [
  | inr low ↦ low
  | inl past ↦ (
      let e : 1 ≡ 2 = agree_epoch 2 m (first_start ∷ false_progress ∷ []) (first_start ∷ second_start ∷ []) (omega (arith, past)) g in
      absurd (omega (arith, e)))
]

m18 : Move f17 f18
m18 = change 0 (surveyed ∷ []) 0 0 (by_turn f17 0 ahead surveyed 0 (first_member ahead [])
    (undoes 2 2 1 refl (omega arith) (omega arith) (omega arith) (omega arith) (omega arith) (record {
      agreed = record { left = omega arith; right = omega arith; same = refl };
      last = parts;
    })) (inl refl))

m19 : Move f18 f19
unfolding epoch_at
m19 = change 0 (later ∷ []) 0 0 (by_turn f18 0 surveyed later 0 (first_member surveyed []) (follows 2 2 refl (omega arith) (omega arith) (omega arith) refl) (inl refl))

second_run : Run f7 f19
second_run = moves (moves (moves (moves (moves (moves (moves (moves (moves (moves (moves (moves rests m8) m9) m10) m11) m12) m13) m14) m15) m16) m17) m18) m19

pub example : (f : Fleet ℕ) × (g : Fleet ℕ) × UndoesFalseProgress f g
example = (
  f7,
  f19,
  record {
    reached = first_run;
    run = second_run;
    first_chosen = record { from = omega arith; by = (omega arith, tt) };
    progress = (ahead, record { is = first_member ahead []; log = refl });
    other = (begun, record { is = first_member begun []; log = refl });
    members = refl;
    activated = refl;
    chosen = record { from = omega arith; by = (omega arith, tt) };
    undone = (later, record { is = first_member later []; log = refl });
  },
)
