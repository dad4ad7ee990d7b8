-- What holds of the fleet after every run.
use Rattle.std.specs.Prelude.{◌≡◌, ℕ, ◌<◌, ◌≤◌, true, ◌⊎◌, length}
use Rattle.fleet_laws.specs.Logs.{Agree, epoch_at, content_at, last_epoch}
use Rattle.fleet_laws.specs.Logs.Record.{EpochStart, Barrier}
use Rattle.fleet_laws.specs.Fleets.{Value, Histories, Configurations, Fleet, IsAppointed, IsValueOf}
use Rattle.fleet_laws.specs.Choice.{Chosen, IsChosen, MayBeChosen, Live, IsCanonical, IsSafe}

-- the history of e is a branch of the tree: from its one EpochStart of e on it has e's own entries, and below that it is the history of an earlier epoch
pub record IsBranch {R : Type 0} (h : Histories R) (e : ℕ) : Type 0 where
  pub positive : 1 ≤ e
  pub starts : 1 ≤ h.start e
  pub within : h.start e ≤ length (h.history e)
  pub own : (n : ℕ) → h.start e ≤ n → n ≤ length (h.history e) → epoch_at (h.history e) n ≡ e
  pub marked : content_at (h.history e) (h.start e) ≡ EpochStart
  pub unmarked : (n : ℕ) → h.start e < n → n ≤ length (h.history e) → content_at (h.history e) n ≡ EpochStart → ⊥
  pub root : (h.start e ≡ 1) ⊎ ((d : ℕ) × record {
    appointed : h.appointed d ≡ true;
    below : d < e;
    agree : (n : ℕ) → n < h.start e → Agree n (h.history e) (h.history d);
  })

-- a was the epoch last activated when e was appointed, and its members are those before e's
pub record IsBefore (c : Configurations) (a e : ℕ) : Type 0 where
  pub below : a < e
  pub activated : c.activated a ≡ true
  pub last : (x : ℕ) → a < x → x < e → c.activated x ≡ true → ⊥
  pub members : c.previous e ≡ c.current a

-- the appointments: those that were activated have their EpochStart chosen, and each needs besides its own quorums those of the epoch last activated before it
pub record Appointments {R : Type 0} (h : Histories R) (c : Configurations) (acknowledged : ℕ → ℕ → ℕ) : Type 0 where
  pub latest : (e : ℕ) → h.appointed e ≡ true → e ≤ c.latest
  pub is_latest : (c.latest ≡ 0) ⊎ (h.appointed c.latest ≡ true)
  pub activated : (e : ℕ) → c.activated e ≡ true → h.appointed e ≡ true
  pub active : (e : ℕ) → c.activated e ≡ true → e ≤ c.active
  pub is_active : (e : ℕ) → h.appointed e ≡ true → c.activated c.active ≡ true
  pub founder : (e : ℕ) → h.appointed e ≡ true → c.founder ≤ e
  pub is_founder : (e : ℕ) → h.appointed e ≡ true → c.activated c.founder ≡ true
  pub before : (e : ℕ) → h.appointed e ≡ true → (e ≡ c.founder) ⊎ ((a : ℕ) × IsBefore c a e)
  pub chosen : (e : ℕ) → c.activated e ≡ true → (e ≡ c.founder) ⊎ Chosen h c acknowledged e (h.start e)
  pub known : (r e : ℕ) → 1 ≤ acknowledged r e → h.appointed e ≡ true

-- one value of a replica: a log of the tree, with head, base and stable number in order, that has all that this replica acknowledged and that is live
pub record IsSound {R : Type 0} (f : Fleet R) (r : ℕ) (v : Value R) : Type 0 where
  pub canonical : IsCanonical f.histories v.log
  pub head : v.head ≤ v.base
  pub base : v.base ≤ v.stable
  pub fenced : last_epoch v.log ≤ v.fence
  pub holds : (e l : ℕ) → l ≤ f.acknowledged r e → Live f e l → Agree l (f.history e) v.log
  pub safe : IsSafe f.histories f.configurations f.acknowledged v.fence v.log v.stable

-- KEY: a later epoch's history has, below its EpochStart, all that may be chosen at an earlier one
abbrev pub KeepsWhatMayBeChosen : {R : Type 0} → Fleet R → Type 0
KeepsWhatMayBeChosen f = (d e l : ℕ) → IsAppointed f d → IsAppointed f e → d < e → MayBeChosen f d l → (l < f.start e) × Agree l (f.history d) (f.history e)

-- an answered survey of e keeps the replica from all below e, and while e isn't appointed or passed, its log ends as it told
pub record IsSurveyed {R : Type 0} (f : Fleet R) (r e : ℕ) : Type 0 where
  pub role : (f.role r ≡ 0) ⊎ (e ≤ f.role r)
  pub fence : (v : Value R) → IsValueOf f r v → e ≤ v.fence
  pub epoch : f.latest < e → (v : Value R) → IsValueOf f r v → last_epoch v.log ≡ f.told_epoch e r
  pub length : f.latest < e → (v : Value R) → IsValueOf f r v → length v.log ≡ f.told_length e r

-- a full copy in progress brings what is safe, and all that the value shares with the history that it comes from
pub record IsCopied {R : Type 0} (f : Fleet R) (e c : ℕ) (v : Value R) : Type 0 where
  pub fence : v.fence ≤ e
  pub safe : IsSafe f.histories f.configurations f.acknowledged e (f.history e) c
  pub stable : v.stable ≤ c
  pub shared : (n : ℕ) → Agree n v.log (f.history e) → n ≤ c

-- what a Barrier of epoch e names stands below it, and is chosen at e
abbrev pub HasTrueBarriers : {R : Type 0} → Fleet R → ℕ → Type 0
HasTrueBarriers f e = (n s : ℕ) → f.start e ≤ n → n ≤ length (f.history e) → content_at (f.history e) n ≡ Barrier s → (s < n) × IsChosen f e s

-- all of it: of the appointments, the tree of histories and its Barriers, the values, the key, surveys, copies in progress and roles
pub record Invariant {R : Type 0} (f : Fleet R) : Type 0 where
  pub appointments : Appointments f.histories f.configurations f.acknowledged
  pub branches : (e : ℕ) → IsAppointed f e → IsBranch f.histories e
  pub barriers : (e : ℕ) → IsAppointed f e → HasTrueBarriers f e
  pub some_value : (r : ℕ) → (v : Value R) × IsValueOf f r v
  pub values : (r : ℕ) (v : Value R) → IsValueOf f r v → IsSound f r v
  pub key : KeepsWhatMayBeChosen f
  pub surveys : (e r : ℕ) → f.answered e r ≡ true → IsSurveyed f r e
  pub copies : (r : ℕ) → 1 ≤ f.copying r → IsAppointed f (f.copying r) × ((v : Value R) → IsValueOf f r v → IsCopied f (f.copying r) (f.copy_at r) v)
  pub primaries : (r : ℕ) → 1 ≤ f.role r → IsAppointed f (f.role r)
