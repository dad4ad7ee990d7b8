-- Arming and inspecting an open replica.
use Rattle.std.proofs.Common.{◌≡◌, ◌∙◌, sym, ap, subst, refl, ℕ, ◌-◌, ◌≤◌, Bool, true, List, [], ◌∷◌, ◌++◌, length, take, map, flat_map, Some, Ok, arith, append-nil}
use Rattle.std.proofs.lemmas.List.{take-append-le, take-map, take_all}
use Rattle.world.proofs.States.Logs.{ops_of_entries}
use Rattle.world.proofs.Epochs.Previous.{holds_role}
use Rattle.coll_model.specs.Effect.{folded}
use Rattle.disk_model.specs.Disk.{Areas, Within}
use Rattle.txn_table.specs.declared.committed.Committed.{Committed}
use Rattle.txn_table.specs.Log.{commits_in}
use Rattle.log_store.specs.declared.kept.Kept.{Kept as Log}
use Rattle.events.specs.declared.event.Event.TheVariants.{Arm, Inspect}
use Rattle.order_machine.specs.declared.observation.Observation.{Observation}
use Rattle.order_machine.specs.declared.observation.Observation.TheVariants as says
use Rattle.order_machine.specs.Order.{Entry, state_at}
use Rattle.order_machine.specs.Contents.{rows_of}
use Rattle.order_machine.specs.Machine.{Machine, replica, order_of}
use Rattle.order_machine.specs.Legal.{IsWhole, moved}
use Rattle.replica_model.specs.declared.role.Role.{Role}
use Rattle.replica_model.specs.declared.role.Role.TheVariants.{Other, Primary}
use Rattle.replica.specs.Open as opens
use Rattle.replica.specs.Open.{Open, AgreesWith, HasRole, commits_to}
use Rattle.world.specs.Disks.{as_commit}
use Rattle.world.specs.Kept.{Kept, has_booted}
use Rattle.world.specs.World.{StandsFor, AsRole, Serves}
use Rattle.world.proofs.Exits.AsideLines.{arm_serves, inspect_serves, inspection}
use Rattle.world.proofs.States.Later.{open_of, booted_stands, up_role, stands_later, stands_within, still_within}
use Rattle.world.proofs.States.HeldOrder.{stands_still}

-- ---- arm

pub arm_does : (k new : Kept) (images now : Areas → Type 0) (r : Open) (calls number : ℕ) (lines : List Observation) → has_booted k ≡ true → k.replica ≡ Some r → k.last ≤ number → Within images now → new ≡ record k { last = number } → lines ≡ says.Done ∷ [] → Serves k new images now (Arm 0 calls) (Ok lines)
arm_does k new images now r calls number lines booted some rising within kept told =
    subst (λ ls. Serves k new images now (Arm 0 calls) (Ok ls)) (sym told)
    (λ m s.
    let role = open_of k images m r booted some s in
    let done = arm_serves m calls (booted_stands k images m booted s) (up_role r.role k.last r images m role) (holds_role r.role k.last r images m role) in
    let later : StandsFor new now m = subst (λ w. StandsFor w now m) (sym kept) (stands_within (record k { last = number }) images now m within (stands_later k number images m rising s)) in
    (done.0, subst (λ n. StandsFor new now n) (sym done.1) later, still_within images now m within (stands_still k images m s)))

-- ---- inspect

-- commits that the order begins with leave the state that it has there
contents_at : (entries : List Entry) (shown hidden : List Committed) (n : ℕ) → shown ++ hidden ≡ map as_commit entries → length shown ≡ n → opens.state_of shown ≡ folded [] (flat_map (λ e. e.ops) (take (n - 0) entries))
contents_at entries shown hidden n e count =
    let z : n - 0 ≡ length shown = omega (arith, count) in
    let fits : length shown ≤ length shown = omega arith in
    let these : map as_commit (take (n - 0) entries) ≡ shown = ap (λ k. map as_commit (take k entries)) z ∙ (sym (take-map as_commit (length shown) entries) ∙ (ap (take (length shown)) (sym e) ∙ (take-append-le (length shown) shown hidden fits ∙ take_all (length shown) shown fits))) in
    ap (folded []) (ap (λ (cs : List Committed). flat_map (λ c. c.ops) cs) (sym these) ∙ ops_of_entries (take (n - 0) entries))

-- a primary shows all that its log commits
pub shown_by_primary : (r : Open) (log : Log) (epoch : _) (active : Bool) → r.role ≡ Primary epoch active → AgreesWith r log → commits_in log.records ≡ commits_to r.stable.0 log.records
shown_by_primary r log epoch active is agrees =
    let role : HasRole r log.records (Primary epoch active) = subst (HasRole r log.records) is agrees.role in
    agrees.commits ∙ (ap (λ ahead. commits_to r.stable.0 log.records ++ ahead) role.shown ∙ append-nil (commits_to r.stable.0 log.records))

-- what an open replica shows is the state that the machine has for it
shows_role : (role : Role) (last : ℕ) (r : Open) (images : Areas → Type 0) (m : Machine) → r.role ≡ role → AsRole role last r images m → r.contents ≡ state_at (order_of m 0) (replica m 0).show
shows_role Other last r images m is s =
    subst (λ n. r.contents ≡ state_at (order_of n 0) (replica n 0).show) (sym s.rests.is)
    (sym s.is_open.agrees.contents ∙ contents_at s.entries (commits_to r.stable.0 s.log.records) s.hidden r.shown s.shows s.is_open.agrees.shown)
shows_role (Primary epoch active) last r images m is s =
    let all : commits_to r.stable.0 s.log.records ≡ map as_commit s.runs.entries = sym (s.commits ∙ shown_by_primary r s.log epoch active is s.is_open.agrees) in
    subst (λ n. r.contents ≡ state_at (order_of n 0) (replica n 0).show) (sym s.runs.is)
    (sym s.is_open.agrees.contents ∙ contents_at s.runs.entries (commits_to r.stable.0 s.log.records) [] (length s.runs.entries) (append-nil (commits_to r.stable.0 s.log.records) ∙ all) (s.is_open.agrees.shown ∙ s.runs.all_shown))

pub inspect_does : (k new : Kept) (images : Areas → Type 0) (r : Open) (number : ℕ) (lines : List Observation) → has_booted k ≡ true → k.replica ≡ Some r → k.last ≤ number → new ≡ record k { last = number } → lines ≡ says.State 0 (length (rows_of r.contents)) ∷ map says.Rows (rows_of r.contents) → Serves k new images images (Inspect 0) (Ok lines)
inspect_does k new images r number lines booted some rising kept told = λ m s.
    let role = open_of k images m r booted some s in
    let shows : r.contents ≡ state_at (order_of m 0) (replica m 0).show = shows_role r.role k.last r images m refl role in
    let is : inspection m ≡ lines = ap (λ state. says.State 0 (length (rows_of state)) ∷ map says.Rows (rows_of state)) (sym shows) ∙ sym told in
    let done = inspect_serves m (booted_stands k images m booted s) (up_role r.role k.last r images m role) (holds_role r.role k.last r images m role) in
    let later : StandsFor new images m = subst (λ w. StandsFor w images m) (sym kept) (stands_later k number images m rising s) in
    (subst (IsWhole m (Inspect 0)) is done.0, subst (λ n. StandsFor new images n) (sym done.1 ∙ ap (moved m (Inspect 0)) is) later, stands_still k images m s)
