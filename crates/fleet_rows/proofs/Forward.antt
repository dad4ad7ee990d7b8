-- The acts of an event, the first one first.
use Rattle.std.proofs.Common.{◌≡◌, ◌∙◌, ℕ, false, ◌⊎◌, List, [], ◌∷◌, ◌++◌, refl, sym, ap, subst, inl, inr, append-nil}
use Rattle.std.specs.Prelude.{◌≢◌, Contains}
use Rattle.std.proofs.lemmas.List.{append_assoc}
use Rattle.txn_table.specs.Whole.{Whole}
use Rattle.order_machine.specs.declared.observation.Observation.{Observation}
use Rattle.order_machine.specs.declared.observation.Observation.TheVariants as says
use Rattle.order_machine.specs.Transitions.{Position}
use Rattle.order_machine.specs.Legal.{behind}
use Rattle.replica_model.specs.declared.step.StepEvent.{StepEvent}
use Rattle.replica_model.specs.OpenReplica.{OpenReplica, opened_over}
use Rattle.replica_model.specs.Records.{step_block}
use Rattle.replica_model.specs.Steps.{MayStep, step_result, step_outcome, cut_off}
use Rattle.events.specs.declared.event.Event.{Event}
use Rattle.fleet_run.specs.Scenes.{Scene, replica_at, held_by}
use Rattle.fleet_run.specs.Scenes.FleetReplica.{Open, Closed}
use Rattle.fleet_run.specs.Acts.{Act, How, Does, Goes, left_behind, lines_of_step, changed_at, opening_lines}
use Rattle.fleet_run.specs.Acts.Act.{Opens, Takes, Closes, Says}
use Rattle.fleet_run.specs.Acts.How.{Fine, Failed}
use Rattle.fleet_run.specs.Acts.Does.{opened, unopened, took, failed, closed, said}
use Rattle.fleet_run.specs.Acts.Goes.{starts, does}
use Rattle.fleet_run.proofs.MachineLines.{behind_event}
use Rattle.fleet_run.proofs.StepLines.{behind_append}

-- ---- the position

-- an act leaves the position behind its lines
pub does_position : (s t : Scene) (act : Act) (how : How) (lines : List Observation) → Does s act how lines t → t.position ≡ behind s.position lines
does_position s t act how lines (opened r ws w down there) = refl
does_position s t act how lines (unopened r ws down) = refl
does_position s t act how lines (took r o event closing up may) = refl
does_position s t act how lines (failed r o event closing up may logs) = refl
does_position s t act how lines (closed r) = refl
does_position s t act how lines (said more) = refl

pub does_event : (s t : Scene) (act : Act) (how : How) (lines : List Observation) → Does s act how lines t → t.position.event ≡ s.position.event
does_event s t act how lines d = ap (λ (p : Position). p.event) (does_position s t act how lines d) ∙ behind_event s.position lines

-- so do all acts
pub goes_position : (s : Scene) (acts : List Act) (lines : List Observation) (t : Scene) (rest : List Act) → Goes s acts lines t rest → t.position ≡ behind s.position lines
goes_position s acts lines t rest starts = refl
goes_position s acts lines t rest (does first mid act others how more u goes done) =
    does_position mid t act how more done ∙ ap (λ (p : Position). behind p more) (goes_position s acts first mid (act ∷ others) goes) ∙ sym (behind_append s.position first more)

-- ---- the first act

-- the first of the acts was done, and then the others
pub record First (s : Scene) (act : Act) (others : List Act) (lines : List Observation) (u : Scene) (rest : List Act) : Type 0 where
  pub how : How
  pub first : List Observation
  pub mid : Scene
  pub later : List Observation
  pub done : Does s act how first mid
  pub goes : Goes mid (left_behind s.position.event act how others) later u rest
  pub lines_are : lines ≡ first ++ later

-- where there are acts and they are done, one was the first
abbrev HasFirst : Scene → List Act → List Observation → Scene → List Act → Type 0
HasFirst s [] lines u rest = ⊥
HasFirst s (act ∷ others) lines u rest = First s act others lines u rest

abbrev Forward : Scene → List Act → List Observation → Scene → List Act → Type 0
Forward s acts lines u rest = ((acts ≡ rest) × (lines ≡ []) × (s ≡ u)) ⊎ HasFirst s acts lines u rest

more_done : (s : Scene) (acts : List Act) (lines : List Observation) (t : Scene) (act : Act) (others : List Act) (how : How) (more : List Observation) (u : Scene)
    → HasFirst s acts lines t (act ∷ others) → Does t act how more u → HasFirst s acts (lines ++ more) u (left_behind s.position.event act how others)
more_done s [] lines t act others how more u h d = absurd h
more_done s (a ∷ as') lines t act others how more u h d =
    let same : h.mid.position.event ≡ s.position.event = does_event s h.mid a h.how h.first h.done in
    record {
      how = h.how;
      first = h.first;
      mid = h.mid;
      later = h.later ++ more;
      done = h.done;
      goes = subst (λ (e : Event). Goes h.mid (left_behind s.position.event a h.how as') (h.later ++ more) u (left_behind e act how others)) same (does h.later t act others how more u h.goes d);
      lines_are = ap (λ (ls : List Observation). ls ++ more) h.lines_are ∙ append_assoc h.first h.later more;
    }

forward : (s : Scene) (acts : List Act) (lines : List Observation) (u : Scene) (rest : List Act) → Goes s acts lines u rest → Forward s acts lines u rest
forward s acts lines u rest starts = inl (refl, refl, refl)
forward s acts lines u rest (does before t act others how more w goes d) = by (forward s acts before t (act ∷ others) goes)
  where
    now : List Act → List Observation → Scene → Type 0
    now as' ls x = HasFirst s as' (ls ++ more) w (left_behind s.position.event act how others)

    first : (ls : List Observation) (x : Scene) → ls ≡ [] → s ≡ x → Does x act how more w → HasFirst s (act ∷ others) (ls ++ more) w (left_behind s.position.event act how others)
    first ls x none same done = record {
      how = how;
      first = more;
      mid = w;
      later = [];
      done = subst (λ (y : Scene). Does y act how more w) (sym same) done;
      goes = starts;
      lines_are = ap (λ (ks : List Observation). ks ++ more) none ∙ sym (append-nil more);
    }

    by : Forward s acts before t (act ∷ others) → Forward s acts (before ++ more) w (left_behind s.position.event act how others)
    by (inl same) = inr (subst (λ (as' : List Act). HasFirst s as' (before ++ more) w (left_behind s.position.event act how others)) (sym same.0) (first before t same.1 same.2 d))
    by (inr h) = inr (more_done s acts before t act others how more w h d)

-- acts that are all done begin with the first
pub first_act : (s : Scene) (act : Act) (others : List Act) (lines : List Observation) (u : Scene) → Goes s (act ∷ others) lines u [] → First s act others lines u []
first_act s act others lines u goes = by (forward s (act ∷ others) lines u [] goes)
  where
    no_acts : (a : Act) (as' : List Act) → a ∷ as' ≡ [] → ⊥
    no_acts a as' e = cc

    by : Forward s (act ∷ others) lines u [] → First s act others lines u []
    by (inl none) = absurd (no_acts act others none.0)
    by (inr h) = h

-- and none that are none
pub no_act : (s : Scene) (lines : List Observation) (u : Scene) → Goes s [] lines u [] → (lines ≡ []) × (u ≡ s)
no_act s lines u goes = by (forward s [] lines u [] goes)
  where
    by : Forward s [] lines u [] → (lines ≡ []) × (u ≡ s)
    by (inl none) = (none.1, sym none.2)
    by (inr h) = absurd h

-- ---- one act

-- a step was done, or the disk failed in it
pub record Took (s : Scene) (r : ℕ) (step : StepEvent) (closing : List Observation) (how : How) (lines : List Observation) (t : Scene) (o : OpenReplica) : Type 0 where
  pub how_is : how ≡ Fine (step_outcome o step).barrier_due
  pub lines_are : lines ≡ lines_of_step s.position.machine o step closing
  pub scene_is : t ≡ changed_at s r (Open (step_result o step)) (lines_of_step s.position.machine o step closing)

pub record Broke (s : Scene) (r : ℕ) (step : StepEvent) (how : How) (lines : List Observation) (t : Scene) (o : OpenReplica) : Type 0 where
  pub how_is : how ≡ Failed
  pub logs : step_block o step ≢ []
  pub lines_are : lines ≡ says.Fault r ∷ []
  pub scene_is : t ≡ changed_at s r (Closed (cut_off o step)) (says.Fault r ∷ [])

pub record Taken (s : Scene) (r : ℕ) (step : StepEvent) (closing : List Observation) (how : How) (lines : List Observation) (t : Scene) : Type 0 where
  pub replica : OpenReplica
  pub up : replica_at s.replicas r ≡ Open replica
  pub may : MayStep replica step
  pub went : Took s r step closing how lines t replica ⊎ Broke s r step how lines t replica

-- a mount took one of the values that the disk might hold, or failed
pub record Mounted (s : Scene) (r : ℕ) (how : How) (lines : List Observation) (t : Scene) (ws : List Whole) : Type 0 where
  pub value : Whole
  pub there : Contains ws value
  pub how_is : how ≡ Fine false
  pub lines_are : lines ≡ opening_lines r (opened_over r value)
  pub scene_is : t ≡ changed_at s r (Open (opened_over r value)) (opening_lines r (opened_over r value))

pub record Unmounted (s : Scene) (r : ℕ) (how : How) (lines : List Observation) (t : Scene) (ws : List Whole) : Type 0 where
  pub how_is : how ≡ Failed
  pub lines_are : lines ≡ says.Fault r ∷ []
  pub scene_is : t ≡ changed_at s r (Closed ws) (says.Fault r ∷ [])

pub record Opening (s : Scene) (r : ℕ) (how : How) (lines : List Observation) (t : Scene) : Type 0 where
  pub values : List Whole
  pub down : replica_at s.replicas r ≡ Closed values
  pub went : Mounted s r how lines t values ⊎ Unmounted s r how lines t values

-- what is known of an act that was done, by what it is
abbrev Known : Scene → Act → How → List Observation → Scene → Type 0
Known s (Opens r) how lines t = Opening s r how lines t
Known s (Takes r step closing) how lines t = Taken s r step closing how lines t
Known s (Closes r) how lines t = (how ≡ Fine false) × (lines ≡ []) × (t ≡ changed_at s r (Closed (held_by (replica_at s.replicas r))) [])
Known s (Says told) how lines t = (how ≡ Fine false) × (lines ≡ told) × (t ≡ record s { position = behind s.position told })

known : (s : Scene) (act : Act) (how : How) (lines : List Observation) (t : Scene) → Does s act how lines t → Known s act how lines t
known s act how lines t (opened r ws w down there) = record { values = ws; down = down; went = inl (record { value = w; there = there; how_is = refl; lines_are = refl; scene_is = refl }) }
known s act how lines t (unopened r ws down) = record { values = ws; down = down; went = inr (record { how_is = refl; lines_are = refl; scene_is = refl }) }
known s act how lines t (took r o event closing up may) = record { replica = o; up = up; may = may; went = inl (record { how_is = refl; lines_are = refl; scene_is = refl }) }
known s act how lines t (failed r o event closing up may logs) = record { replica = o; up = up; may = may; went = inr (record { how_is = refl; logs = logs; lines_are = refl; scene_is = refl }) }
known s act how lines t (closed r) = (refl, refl, refl)
known s act how lines t (said more) = (refl, refl, refl)

pub opening : (s : Scene) (r : ℕ) (how : How) (lines : List Observation) (t : Scene) → Does s (Opens r) how lines t → Opening s r how lines t
opening s r how lines t d = known s (Opens r) how lines t d

pub taken : (s : Scene) (r : ℕ) (step : StepEvent) (closing : List Observation) (how : How) (lines : List Observation) (t : Scene) → Does s (Takes r step closing) how lines t → Taken s r step closing how lines t
taken s r step closing how lines t d = known s (Takes r step closing) how lines t d

pub closed_is : (s : Scene) (r : ℕ) (how : How) (lines : List Observation) (t : Scene) → Does s (Closes r) how lines t → (how ≡ Fine false) × (lines ≡ []) × (t ≡ changed_at s r (Closed (held_by (replica_at s.replicas r))) [])
closed_is s r how lines t d = known s (Closes r) how lines t d

pub said_is : (s : Scene) (told : List Observation) (how : How) (lines : List Observation) (t : Scene) → Does s (Says told) how lines t → (how ≡ Fine false) × (lines ≡ told) × (t ≡ record s { position = behind s.position told })
said_is s told how lines t d = known s (Says told) how lines t d
