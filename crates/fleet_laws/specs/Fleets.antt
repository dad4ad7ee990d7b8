-- The state of an abstract fleet: what its disks hold, and the histories, configurations and acknowledgements that the laws speak of.
use Rattle.std.specs.Prelude.{◌≡◌, ℕ, Bool, false, true, cond, ◌==◌, List, [], ◌∷◌, Contains}
use Rattle.fleet_laws.specs.Logs.{Entry}

-- what a replica's disk holds, with its whole log: the position of the log's head and of its base, the fence, and the stable number.
-- Of an open replica it is the stable number that it keeps, of a closed one that of its log
pub record Value (R : Type 0) : Type 0 where
  pub log : List (Entry R)
  pub head : ℕ
  pub base : ℕ
  pub fence : ℕ
  pub stable : ℕ

-- which epochs were appointed, and for each the place of its EpochStart and its history: all that its primary had and has logged
pub record Histories (R : Type 0) : Type 0 where
  pub appointed : ℕ → Bool
  pub start : ℕ → ℕ
  pub history : ℕ → List (Entry R)

-- which epochs were activated, the latest appointed, the latest activated and the first one, and the members of each epoch and of the configuration before it
pub record Configurations : Type 0 where
  pub activated : ℕ → Bool
  pub latest : ℕ
  pub active : ℕ
  pub founder : ℕ
  pub current : ℕ → List ℕ
  pub previous : ℕ → List ℕ

-- the whole state. R is the type of the records that are no EpochStart and no Barrier. Histories, acknowledgements and what was told are ghosts: no replica keeps them all
pub record Fleet (R : Type 0) : Type 0 where
  pub histories : Histories R
  pub open histories use {appointed, start, history}
  pub configurations : Configurations
  pub open configurations use {activated, latest, active, founder, current, previous}
  -- to which place a replica has ever acknowledged an epoch's history, by replica and epoch
  pub acknowledged : ℕ → ℕ → ℕ
  -- an open replica's one value, or all that the disk of a closed one may hold
  pub values : ℕ → List (Value R)
  -- the epoch whose primary a replica is; 0 for none
  pub role : ℕ → ℕ
  -- which replicas have answered the survey of an epoch, and the last epoch and the length that they told, by epoch and replica
  pub answered : ℕ → ℕ → Bool
  pub told_epoch : ℕ → ℕ → ℕ
  pub told_length : ℕ → ℕ → ℕ
  -- the epoch of the full copy in progress at a replica, 0 for none, and its position
  pub copying : ℕ → ℕ
  pub copy_at : ℕ → ℕ

-- the function with a new value at one place
abbrev pub put : {A : Type 0} → ℕ → A → (ℕ → A) → ℕ → A
put n x f m = cond (m == n) x (f m)

-- epoch e was appointed, the boot included
abbrev pub IsAppointed : {R : Type 0} → Fleet R → ℕ → Type 0
IsAppointed f e = f.appointed e ≡ true

-- v is a value that replica r has, or may have
abbrev pub IsValueOf : {R : Type 0} → Fleet R → ℕ → Value R → Type 0
IsValueOf f r v = Contains (f.values r) v

-- an empty disk
abbrev pub empty_value : {R : Type 0} → Value R
empty_value = record { log = []; head = 0; base = 0; fence = 0; stable = 0 }

-- replicas with empty disks, and nothing appointed
abbrev pub empty_fleet : {R : Type 0} → Fleet R
empty_fleet = record {
  histories = record { appointed = λ e. false; start = λ e. 0; history = λ e. [] };
  configurations = record { activated = λ e. false; latest = 0; active = 0; founder = 0; current = λ e. []; previous = λ e. [] };
  acknowledged = λ r e. 0;
  values = λ r. empty_value ∷ [];
  role = λ r. 0;
  answered = λ e r. false;
  told_epoch = λ e r. 0;
  told_length = λ e r. 0;
  copying = λ r. 0;
  copy_at = λ r. 0;
}
