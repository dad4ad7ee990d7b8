-- What is chosen, and what may still be.
use Rattle.std.specs.Prelude.{◌≡◌, ℕ, ◌≤◌, Bool, true, cond, not, ◌&&◌, ◌||◌, ◌==◌, leb, ltb, ◌⊎◌, List, [], ◌∷◌, length}
use Rattle.fleet_laws.specs.Counting.{IsWriteQuorumOfEach}
use Rattle.fleet_laws.specs.Logs.{Entry, Agree, epoch_at}
use Rattle.fleet_laws.specs.Fleets.{Value, Histories, Configurations, Fleet, IsAppointed}

-- the configurations whose quorums an epoch needs: its own once it is activated, and until then the one before it too
abbrev pub configurations_of : Configurations → ℕ → List (List ℕ)
configurations_of c e = cond (c.activated e) (c.current e ∷ []) (c.previous e ∷ c.current e ∷ [])

-- whether a replica has acknowledged the history of e to place l
abbrev pub reaches : (ℕ → ℕ → ℕ) → ℕ → ℕ → ℕ → Bool
reaches acknowledged e l r = leb l (acknowledged r e)

-- the history of e to place l is chosen: its EpochStart is in it, and a write quorum of each of its configurations has acknowledged it
pub record Chosen {R : Type 0} (h : Histories R) (c : Configurations) (acknowledged : ℕ → ℕ → ℕ) (e l : ℕ) : Type 0 where
  pub from : h.start e ≤ l
  pub by : IsWriteQuorumOfEach (reaches acknowledged e l) (configurations_of c e)

abbrev pub IsChosen : {R : Type 0} → Fleet R → ℕ → ℕ → Type 0
IsChosen f e l = Chosen f.histories f.configurations f.acknowledged e l

-- each value has a fence above e
abbrev pub all_above : {R : Type 0} → ℕ → List (Value R) → Bool
all_above e [] = true
all_above e (v ∷ vs) = ltb e v.fence && all_above e vs

-- a replica that will never acknowledge anything more at e: it isn't the primary of e, and its fence is above e
abbrev pub frozen : {R : Type 0} → Fleet R → ℕ → ℕ → Bool
frozen f e r = not (f.role r == e) && all_above e (f.values r)

-- whether a replica has acknowledged place l at e, or still may
abbrev pub may_reach : {R : Type 0} → Fleet R → ℕ → ℕ → ℕ → Bool
may_reach f e l r = reaches f.acknowledged e l r || not (frozen f e r)

-- the history of e to place l may be chosen: a write quorum of each of its configurations has acknowledged it, or still may
pub record MayBeChosen {R : Type 0} (f : Fleet R) (e l : ℕ) : Type 0 where
  pub from : f.start e ≤ l
  pub by : IsWriteQuorumOfEach (may_reach f e l) (configurations_of f.configurations e)

-- what has to be held still: in the latest epoch whatever was acknowledged, in another what may be chosen
pub record Live {R : Type 0} (f : Fleet R) (e l : ℕ) : Type 0 where
  pub appointed : IsAppointed f e
  pub from : f.start e ≤ l
  pub can : (e ≡ f.latest) ⊎ MayBeChosen f e l

-- each beginning of the log is one of the history of its last epoch
abbrev pub IsCanonical : {R : Type 0} → Histories R → List (Entry R) → Type 0
IsCanonical h log = (n : ℕ) → 1 ≤ n → n ≤ length log →
    (e : ℕ) × record { is : epoch_at log n ≡ e; appointed : h.appointed e ≡ true; agree : Agree n log (h.history e) }

-- the first s entries of the log are chosen: they begin what was chosen at an epoch that isn't above the fence
abbrev pub IsSafe : {R : Type 0} → Histories R → Configurations → (ℕ → ℕ → ℕ) → ℕ → List (Entry R) → ℕ → Type 0
IsSafe h c acknowledged fence log s = (s ≡ 0) ⊎ ((e : ℕ) × (l : ℕ) × record {
  appointed : h.appointed e ≡ true;
  low : e ≤ fence;
  past : s ≤ l;
  chosen : Chosen h c acknowledged e l;
  agree : Agree s (h.history e) log;
})
