-- The moves of a fleet, each with its guard and what it changes, and the runs of moves.
use Rattle.std.specs.Prelude.{◌≡◌, ℕ, suc, ◌<◌, ◌≤◌, max, true, false, ◌⊎◌, List, [], ◌∷◌, ◌++◌, length, take, All}
use Rattle.fleet_laws.specs.Counting.{IsReadQuorum}
use Rattle.fleet_laws.specs.Logs.{Entry, Agree, LastAgreed, epoch_at, last_epoch}
use Rattle.fleet_laws.specs.Logs.Record.{EpochStart, Barrier}
use Rattle.fleet_laws.specs.Fleets.{Value, Fleet, put, IsAppointed, IsValueOf, empty_fleet}
use Rattle.fleet_laws.specs.Choice.{IsChosen, IsSafe}

-- One change of one value of replica r, with its guard. A step that fails, a crash and a mount leave values of these.
pub data Turn {R : Type 0} (f : Fleet R) (r : ℕ) (v : Value R) : Value R → Type 0 where
  -- nothing changes
  stays : Turn f r v v
  -- accepts a Replicate of epoch e: the history of e goes on where the log ends
  follows : (e m : ℕ) → IsAppointed f e → v.fence ≤ e → length v.log ≤ m → m ≤ length (f.history e) → last_epoch v.log ≡ epoch_at (f.history e) (length v.log)
      → Turn f r v (record { log = take m (f.history e); head = v.head; base = v.base; fence = e; stable = v.stable })
  -- the primary of e logs: its log goes on along the history of e
  logs : (e m : ℕ) → IsAppointed f e → f.role r ≡ e → length v.log ≤ m → m ≤ length (f.history e) → last_epoch v.log ≡ epoch_at (f.history e) (length v.log)
      → Turn f r v (record { log = take m (f.history e); head = v.head; base = v.base; fence = max v.fence e; stable = v.stable })
  -- raises its fence, for a survey or a packet
  raises : (e : ℕ) → v.fence ≤ e
      → Turn f r v (record { log = v.log; head = v.head; base = v.base; fence = e; stable = v.stable })
  -- learns that more is stable
  learns : (s : ℕ) → v.stable ≤ s → IsSafe f.histories f.configurations f.acknowledged v.fence v.log s
      → Turn f r v (record { log = v.log; head = v.head; base = v.base; fence = v.fence; stable = s })
  -- closes, and keeps of its stable number what its log says
  forgets : (s : ℕ) → v.base ≤ s → s ≤ v.stable
      → Turn f r v (record { log = v.log; head = v.head; base = v.base; fence = v.fence; stable = s })
  -- a checkpoint moves the base up, and a truncation the head
  rebases : (h b : ℕ) → h ≤ b → v.base ≤ b → b ≤ v.stable
      → Turn f r v (record { log = v.log; head = h; base = b; fence = v.fence; stable = v.stable })
  -- false progress is undone, to the last place at which the log agrees with what the primary of e has, which goes on from there
  undoes : (e n k : ℕ) → IsAppointed f e → v.fence ≤ e → f.start e ≤ n → n ≤ length (f.history e) → v.stable ≤ n → k < n → LastAgreed k v.log (take n (f.history e))
      → Turn f r v (record { log = take k v.log; head = v.head; base = v.base; fence = e; stable = v.stable })
  -- the last chunk of a full copy: the log is the history of its epoch to its position
  jumps : (e : ℕ) → 1 ≤ e → f.copying r ≡ e
      → Turn f r v (record { log = take (f.copy_at r) (f.history e); head = f.copy_at r; base = f.copy_at r; fence = e; stable = f.copy_at r })

-- boot: the first appointment
pub record Boots {R : Type 0} (f : Fleet R) (e p : ℕ) : Type 0 where
  pub positive : 1 ≤ e
  pub first : (d : ℕ) → f.appointed d ≡ false
  pub latest_answer : (d : ℕ) → e < d → f.answered d p ≡ false

abbrev pub booted : {R : Type 0} → Fleet R → ℕ → ℕ → List ℕ → Fleet R
booted f e p members = record f {
  histories = record {
    appointed = put e true f.appointed;
    start = put e 1 f.start;
    history = put e (record { epoch = e; content = EpochStart } ∷ []) f.history;
  };
  configurations = record {
    activated = put e true f.activated;
    latest = e;
    active = e;
    founder = e;
    current = put e members f.current;
    previous = put e members f.previous;
  };
  role = put p e f.role;
}

-- a replica changes: each value that it has or may have now comes from one of before by a turn. It keeps its role or loses it, and
-- a full copy in progress goes on only where nothing was changed that it rests on
pub record Changes {R : Type 0} (f : Fleet R) (r : ℕ) (values : List (Value R)) (role copying : ℕ) : Type 0 where
  pub some_value : 1 ≤ length values
  pub turns : All (λ w. (v : Value R) × IsValueOf f r v × Turn f r v w) values
  pub keeps_role : (role ≡ 0) ⊎ (role ≡ f.role r)
  pub keeps_copy : (copying ≡ 0) ⊎ ((copying ≡ f.copying r) × All (λ w. (v : Value R) × record {
    before : IsValueOf f r v;
    log : w.log ≡ v.log;
    fence : w.fence ≡ v.fence;
    stable : w.stable ≡ v.stable;
  }) values)

abbrev pub changed : {R : Type 0} → Fleet R → ℕ → List (Value R) → ℕ → ℕ → Fleet R
changed f r values role copying = record f { values = put r values f.values; role = put r role f.role; copying = put r copying f.copying }

-- a full copy begins at r: the plan of the primary of e, who has its history to n and a log that begins behind its head, leaves no common place above both heads
pub record Copies {R : Type 0} (f : Fleet R) (r e n head c : ℕ) : Type 0 where
  pub appointed : IsAppointed f e
  pub from : f.start e ≤ n
  pub within : n ≤ length (f.history e)
  pub behind : head ≤ c
  pub position : c ≤ n
  pub safe : IsSafe f.histories f.configurations f.acknowledged e (f.history e) c
  pub fence : (v : Value R) → IsValueOf f r v → v.fence ≤ e
  pub stable : (v : Value R) → IsValueOf f r v → v.stable ≤ n
  pub full : (v : Value R) → IsValueOf f r v → (m : ℕ) → Agree m v.log (take n (f.history e)) → (m < head) ⊎ (m < v.head)

abbrev pub copied : {R : Type 0} → Fleet R → ℕ → ℕ → ℕ → Fleet R
copied f r e c = record f { copying = put r e f.copying; copy_at = put r c f.copy_at }

-- an open replica acknowledges the history of e to l: its log has it, and its fence isn't above e, or it is the primary of e
pub record Acknowledges {R : Type 0} (f : Fleet R) (r e l : ℕ) (v : Value R) : Type 0 where
  pub appointed : IsAppointed f e
  pub is_open : f.values r ≡ v ∷ []
  pub may : (v.fence ≤ e) ⊎ (f.role r ≡ e)
  pub has : l ≤ length v.log
  pub within : l ≤ length (f.history e)
  pub same : epoch_at v.log l ≡ epoch_at (f.history e) l

abbrev pub acknowledged : {R : Type 0} → Fleet R → ℕ → ℕ → ℕ → Fleet R
acknowledged f r e l = record f { acknowledged = put r (put e (max (f.acknowledged r e) l) (f.acknowledged r)) f.acknowledged }

-- a primary of e logs entries of e, no EpochStart among them, and Barriers only of what is chosen: its history grows
pub record Grows {R : Type 0} (f : Fleet R) (r e : ℕ) (entries : List (Entry R)) : Type 0 where
  pub appointed : IsAppointed f e
  pub role : f.role r ≡ e
  pub own : All (λ x. x.epoch ≡ e) entries
  pub unmarked : All (λ x. x.content ≡ EpochStart → ⊥) entries
  pub barriers : All (λ x. (s : ℕ) → x.content ≡ Barrier s → IsChosen f e s) entries

abbrev pub grown : {R : Type 0} → Fleet R → ℕ → List (Entry R) → Fleet R
grown f e entries = record f { histories = record f.histories { history = put e (f.history e ++ entries) f.history } }

-- an open replica answers the survey of an epoch above all that were appointed
pub record Answers {R : Type 0} (f : Fleet R) (e r : ℕ) (v : Value R) : Type 0 where
  pub above : f.latest < e
  pub is_open : f.values r ≡ v ∷ []
  pub fence : e ≤ v.fence
  pub role : f.role r ≡ 0

abbrev pub told : {R : Type 0} → Fleet R → ℕ → ℕ → Value R → Fleet R
told f e r v = record f {
  answered = put e (put r true (f.answered e)) f.answered;
  told_epoch = put e (put r (last_epoch v.log) (f.told_epoch e)) f.told_epoch;
  told_length = put e (put r (length v.log) (f.told_length e)) f.told_length;
}

-- the rule of an appointment: a read quorum of the configuration last activated has answered, p has answered and to no later survey, and no answer is greater
-- than p's, by last epoch and then by length
pub record Appoints {R : Type 0} (f : Fleet R) (e p : ℕ) (v : Value R) : Type 0 where
  pub above : f.latest < e
  pub one : IsAppointed f f.latest
  pub quorum : IsReadQuorum (f.answered e) (f.current f.active)
  pub answered : f.answered e p ≡ true
  pub latest_answer : (d : ℕ) → e < d → f.answered d p ≡ false
  pub greatest : (r : ℕ) → f.answered e r ≡ true → (f.told_epoch e r < f.told_epoch e p) ⊎ ((f.told_epoch e r ≡ f.told_epoch e p) × (f.told_length e r ≤ f.told_length e p))
  pub is_open : f.values p ≡ v ∷ []

abbrev pub appointed : {R : Type 0} → Fleet R → ℕ → ℕ → Value R → List ℕ → Fleet R
appointed f e p v members = record f {
  histories = record {
    appointed = put e true f.appointed;
    start = put e (suc (length v.log)) f.start;
    history = put e (v.log ++ record { epoch = e; content = EpochStart } ∷ []) f.history;
  };
  configurations = record f.configurations {
    latest = e;
    current = put e members f.current;
    previous = put e (f.current f.active) f.previous;
  };
  role = put p e f.role;
}

-- the latest epoch is activated once its EpochStart is chosen
pub record Activates {R : Type 0} (f : Fleet R) : Type 0 where
  pub appointed : IsAppointed f f.latest
  pub chosen : IsChosen f f.latest (f.start f.latest)

abbrev pub activated : {R : Type 0} → Fleet R → Fleet R
activated f = record f { configurations = record f.configurations { activated = put f.latest true f.activated; active = f.latest } }

-- one move of the fleet
pub data Move {R : Type 0} (f : Fleet R) : Fleet R → Type 0 where
  boot : (e p : ℕ) (members : List ℕ) → Boots f e p → Move f (booted f e p members)
  change : (r : ℕ) (values : List (Value R)) (role copying : ℕ) → Changes f r values role copying → Move f (changed f r values role copying)
  copy : (r e n head c : ℕ) → Copies f r e n head c → Move f (copied f r e c)
  acknowledge : (r e l : ℕ) (v : Value R) → Acknowledges f r e l v → Move f (acknowledged f r e l)
  grow : (r e : ℕ) (entries : List (Entry R)) → Grows f r e entries → Move f (grown f e entries)
  answer : (e r : ℕ) (v : Value R) → Answers f e r v → Move f (told f e r v)
  appoint : (e p : ℕ) (v : Value R) (members : List ℕ) → Appoints f e p v → Move f (appointed f e p v members)
  activate : Activates f → Move f (activated f)

-- the moves lead from f to g, one after the other
pub data Run {R : Type 0} (f : Fleet R) : Fleet R → Type 0 where
  rests : Run f f
  moves : {g h : Fleet R} → Run f g → Move g h → Run f h

-- some run leads from the empty fleet to f
abbrev pub IsReached : {R : Type 0} → Fleet R → Type 0
IsReached f = Run empty_fleet f
