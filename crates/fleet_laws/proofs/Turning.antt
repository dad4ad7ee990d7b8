-- Each turn of a value keeps it sound.
use Rattle.std.proofs.Common.{◌≡◌, ℕ, ◌<◌, ◌≤◌, max, List, length, take, refl, ap, sym, subst, arith, inl, inr}
use Rattle.std.proofs.lemmas.Bool.{cases_lt}
use Rattle.std.proofs.lemmas.List.{length-take-le}
use Rattle.fleet_laws.specs.Logs.{Entry, Agree, LastAgreed, epoch_at, last_epoch}
use Rattle.fleet_laws.specs.Fleets.{Value, Fleet, IsAppointed, IsValueOf}
use Rattle.fleet_laws.specs.Choice.{IsSafe, IsCanonical}
use Rattle.fleet_laws.specs.Invariant.{IsSound, IsSurveyed, IsCopied, Invariant}
use Rattle.fleet_laws.specs.Moves.{Turn}
use Rattle.fleet_laws.specs.Moves.Turn.{stays, follows, logs, raises, learns, forgets, rebases, undoes, jumps}
use Rattle.fleet_laws.proofs.Agreement.{agree_self, agree_sym, agree_trans, agree_less, agree_take, agree_epoch}
use Rattle.fleet_laws.proofs.Tree.{same_epoch_agree, history_canonical, history_rises, begins_canonical, epochs_rise}
use Rattle.fleet_laws.proofs.After.{after_self, safe_after}
use Rattle.fleet_laws.proofs.Use.{kept}
use Rattle.fleet_laws.proofs.Copying.{safe_length, stable_agrees}

module _ {R : Type 0} (f : Fleet R) (i : Invariant f) where
  -- safe in the log is safe in a log that has the same beginning, under a fence that isn't lower
  keeps_safe : (fence high : ℕ) (log more : List (Entry R)) (s : ℕ) → fence ≤ high → Agree s log more → IsSafe f.histories f.configurations f.acknowledged fence log s
      → IsSafe f.histories f.configurations f.acknowledged high more s
  keeps_safe fence high log more s le g h = safe_after f f (after_self f) fence high log more s le g h

  part_canonical : (e m : ℕ) → IsAppointed f e → m ≤ length (f.history e) → IsCanonical f.histories (take m (f.history e))
  part_canonical e m a w = begins_canonical f.histories (take m (f.history e)) (f.history e) (history_canonical f.histories i.branches e a)
      (subst (λ x. Agree x (take m (f.history e)) (f.history e)) (sym (length-take-le m (f.history e) w)) (agree_take m m (f.history e) (omega arith) w))

  -- where the epochs are the same at the end of the log, the history goes on from it
  pub goes_on : (r e m : ℕ) (v : Value R) → IsSound f r v → IsAppointed f e → length v.log ≤ m → m ≤ length (f.history e) → last_epoch v.log ≡ epoch_at (f.history e) (length v.log)
      → Agree (length v.log) v.log (take m (f.history e))
  goes_on r e m v s a le w is = agree_trans
      (same_epoch_agree f.histories i.branches v.log (f.history e) s.canonical (history_canonical f.histories i.branches e a) (length v.log) (omega arith) (omega arith) is)
      (agree_sym (agree_take (length v.log) m (f.history e) le w))

  part_last : (e m : ℕ) → IsAppointed f e → m ≤ length (f.history e) → last_epoch (take m (f.history e)) ≤ e
  part_last e m a w =
      let n : length (take m (f.history e)) ≡ m = length-take-le m (f.history e) w in
      omega (arith, ap (epoch_at (take m (f.history e))) n, agree_epoch m m (take m (f.history e)) (f.history e) (omega arith) (agree_take m m (f.history e) (omega arith) w), history_rises f.histories i.branches e a m w)

  -- a log that goes on
  longer : (r e m fence : ℕ) (v : Value R) → IsSound f r v → IsAppointed f e → v.fence ≤ fence → e ≤ fence → m ≤ length (f.history e) → Agree (length v.log) v.log (take m (f.history e))
      → IsSound f r (record { log = take m (f.history e); head = v.head; base = v.base; fence = fence; stable = v.stable })
  longer r e m fence v s a le high w g = record {
    canonical = part_canonical e m a w;
    head = s.head;
    base = s.base;
    fenced = omega (arith, part_last e m a w, high);
    holds = λ d l ack live.
        let h : Agree l (f.history d) v.log = s.holds d l ack live in
        agree_trans h (agree_less l (length v.log) v.log (take m (f.history e)) h.right g);
    safe = keeps_safe v.fence fence v.log (take m (f.history e)) v.stable le
        (agree_less v.stable (length v.log) v.log (take m (f.history e)) (safe_length f v.fence v.stable v.log s.safe) g) s.safe;
  }

  -- false progress is undone: nothing that is stable goes, nor anything live that was acknowledged
  undone : (r e n k : ℕ) (v : Value R) → IsValueOf f r v → IsSound f r v → IsAppointed f e → v.fence ≤ e → f.start e ≤ n → n ≤ length (f.history e) → v.stable ≤ n → k < n
      → LastAgreed k v.log (take n (f.history e)) → IsSound f r (record { log = take k v.log; head = v.head; base = v.base; fence = e; stable = v.stable })
  undone r e n k v c s a le from w stable lt g =
      let t : Agree v.stable v.log (take n (f.history e)) = stable_agrees f i r e n v c a le w stable in
      let keeps : v.stable ≤ k = g.last v.stable t in
      let len : length (take k v.log) ≡ k = length-take-le k v.log g.agreed.left in
      let part : Agree k (take k v.log) v.log = agree_take k k v.log (omega arith) g.agreed.left in
      let within : (l : ℕ) → Agree l v.log (f.history e) → l ≤ k = λ l h. elim (cases_lt n l) [
        | inl past ↦ absurd (omega (arith, g.last n (agree_trans (agree_less n l v.log (f.history e) (omega arith) h) (agree_sym (agree_take n n (f.history e) (omega arith) w))), lt))
        | inr low ↦ g.last l (agree_trans h (agree_sym (agree_take l n (f.history e) low w)))
      ] in
      record {
        canonical = begins_canonical f.histories (take k v.log) v.log s.canonical (subst (λ x. Agree x (take k v.log) v.log) (sym len) part);
        head = s.head;
        base = s.base;
        fenced = omega (arith, ap (epoch_at (take k v.log)) len, agree_epoch k k (take k v.log) v.log (omega arith) part, epochs_rise f.histories i.branches v.log s.canonical k (length v.log) g.agreed.left (omega arith), s.fenced, le);
        holds = λ d l ack live.
            let x = kept f i r v s d e l le a ack live in
            agree_trans (s.holds d l ack live) (agree_sym (agree_less l k (take k v.log) v.log (within l x.0) part));
        safe = keeps_safe v.fence e v.log (take k v.log) v.stable le (agree_sym (agree_less v.stable k (take k v.log) v.log keeps part)) s.safe;
      }

  -- a full copy has all that the log had in common with the history
  jumped : (r e c : ℕ) (v : Value R) → IsSound f r v → IsAppointed f e → IsCopied f e c v
      → IsSound f r (record { log = take c (f.history e); head = c; base = c; fence = e; stable = c })
  jumped r e c v s a k =
      let w : c ≤ length (f.history e) = safe_length f e c (f.history e) k.safe in
      record {
        canonical = part_canonical e c a w;
        head = omega arith;
        base = omega arith;
        fenced = part_last e c a w;
        holds = λ d l ack live.
            let x = kept f i r v s d e l k.fence a ack live in
            agree_trans (s.holds d l ack live) (agree_trans x.0 (agree_sym (agree_take l c (f.history e) (k.shared l x.0) w)));
        safe = keeps_safe e e (f.history e) (take c (f.history e)) c (omega arith) (agree_sym (agree_take c c (f.history e) (omega arith) w)) k.safe;
      }

  -- the position of a full copy in progress, at the epoch that it is of
  pub copy_of : (r e : ℕ) → 1 ≤ e → f.copying r ≡ e → IsAppointed f e × ((v : Value R) → IsValueOf f r v → IsCopied f e (f.copy_at r) v)
  copy_of r e one is =
      let k = i.copies r (omega (arith, is, one)) in
      (subst (λ x. IsAppointed f x) is k.0, λ v c. subst (λ x. IsCopied f x (f.copy_at r) v) is (k.1 v c))

  pub turn_sound : (r : ℕ) (v w : Value R) → IsValueOf f r v → IsSound f r v → Turn f r v w → IsSound f r w
  turn_sound r v w c s stays = s
  turn_sound r v w c s (follows e m a le from to is) = longer r e m e v s a le (omega arith) to (goes_on r e m v s a from to is)
  turn_sound r v w c s (logs e m a role from to is) = longer r e m (max v.fence e) v s a (omega arith) (omega arith) to (goes_on r e m v s a from to is)
  turn_sound r v w c s (raises e le) = record {
    canonical = s.canonical;
    head = s.head;
    base = s.base;
    fenced = omega (arith, s.fenced, le);
    holds = s.holds;
    safe = keeps_safe v.fence e v.log v.log v.stable le (agree_self v.stable v.log (safe_length f v.fence v.stable v.log s.safe)) s.safe;
  }
  turn_sound r v w c s (learns n le safe) = record {
    canonical = s.canonical;
    head = s.head;
    base = omega (arith, s.base, le);
    fenced = s.fenced;
    holds = s.holds;
    safe = safe;
  }
  turn_sound r v w c s (forgets n from to) = record {
    canonical = s.canonical;
    head = s.head;
    base = from;
    fenced = s.fenced;
    holds = s.holds;
    safe = elim (s.safe) [
      | inl z ↦ inl (omega (arith, z, to))
      | inr x ↦ inr (
        x.0,
        x.1,
        record {
          appointed = x.2.appointed;
          low = x.2.low;
          past = omega (arith, to, x.2.past);
          chosen = x.2.chosen;
          agree = agree_less n v.stable (f.history x.0) v.log to x.2.agree;
        },
      )
    ];
  }
  turn_sound r v w c s (rebases h b le up to) = record {
    canonical = s.canonical;
    head = le;
    base = to;
    fenced = s.fenced;
    holds = s.holds;
    safe = s.safe;
  }
  turn_sound r v w c s (undoes e n k a le from to stable lt g) = undone r e n k v c s a le from to stable lt g
  turn_sound r v w c s (jumps e one is) = let k = copy_of r e one is in jumped r e (f.copy_at r) v s k.0 (k.1 v c)

  -- no turn lowers a fence
  pub turn_fence : (r : ℕ) (v w : Value R) → IsValueOf f r v → Turn f r v w → v.fence ≤ w.fence
  turn_fence r v w c stays = omega arith
  turn_fence r v w c (follows e m a le from to is) = le
  turn_fence r v w c (logs e m a role from to is) = omega arith
  turn_fence r v w c (raises e le) = le
  turn_fence r v w c (learns n le safe) = omega arith
  turn_fence r v w c (forgets n from to) = omega arith
  turn_fence r v w c (rebases h b le up to) = omega arith
  turn_fence r v w c (undoes e n k a le from to stable lt g) = le
  turn_fence r v w c (jumps e one is) = ((copy_of r e one is).1 v c).fence

  -- while no epoch is appointed from e on, a replica that answered the survey of e keeps its log
  pub turn_surveyed : (r e : ℕ) (v w : Value R) → f.latest < e → IsValueOf f r v → IsSurveyed f r e → Turn f r v w → w.log ≡ v.log
  turn_surveyed r e v w lt c s stays = refl
  turn_surveyed r e v w lt c s (follows d m a le from to is) = absurd (omega (arith, s.fence v c, i.appointments.latest d a, lt, le))
  turn_surveyed r e v w lt c s (logs d m a role from to is) = absurd (elim (s.role) [
    | inl none ↦ omega (arith, none, role, (i.branches d a).positive)
    | inr high ↦ omega (arith, high, role, i.appointments.latest d a, lt)
  ])
  turn_surveyed r e v w lt c s (raises d le) = refl
  turn_surveyed r e v w lt c s (learns n le safe) = refl
  turn_surveyed r e v w lt c s (forgets n from to) = refl
  turn_surveyed r e v w lt c s (rebases h b le up to) = refl
  turn_surveyed r e v w lt c s (undoes d n k a le from to stable less g) = absurd (omega (arith, s.fence v c, i.appointments.latest d a, lt, le))
  turn_surveyed r e v w lt c s (jumps d one is) = let k = copy_of r d one is in absurd (omega (arith, s.fence v c, i.appointments.latest d k.0, lt, (k.1 v c).fence))
