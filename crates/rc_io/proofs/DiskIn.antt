-- On the folders of a host in memory.
use Rattle.std.proofs.Common.{◌≡◌, ◌≢◌, ◌∙◌, ℕ, zero, suc, ◌+◌, ◌<◌, ◌≤◌, List, [], ◌∷◌, ◌++◌, length, set, get_or, Bool, true, false, not, cond, Option, Some, None, Result, Ok, Err, OnOk, OnErr, refl, sym, ap, subst, unwrap_or, arith, nat_eq, position, nat_lt}
use Rattle.std.specs.List.{position_or_len}
use Rattle.std.specs.Cmp.Lexicographic.{pointwise, bytes_decides}
use Rattle.std.proofs.lemmas.Bool.{false_from_ne_true, false≢true}
use Rattle.std.proofs.lemmas.List.Sums.{prefix_len-le-length}
use Rattle.std.proofs.lemmas.Bool.Decides.{nat_tests}
use Rattle.disk_model.specs.Disk.{Areas}
use Rattle.disk_model.specs.declared.memory.MemDisk.{MemDisk}
use Rattle.rc_io.specs.declared.mem_host.Folder.{Folder}
use Rattle.rc_io.specs.Hosts.{IsFolders}
use Rattle.rc_io.specs.Folders.{disk_in, IsAt, Opens}
use Rattle.rc_io.proofs.RawLines.{some_place, none_place}

same_name : (xs ys : List ℕ) → xs ≡ ys → pointwise nat_eq xs ys ≡ true
same_name xs ys e = (bytes_decides xs ys).1 e

other_name : (xs ys : List ℕ) → xs ≢ ys → pointwise nat_eq xs ys ≡ false
other_name xs ys n = false_from_ne_true (pointwise nat_eq xs ys) (λ t. n ((bytes_decides xs ys).0 t))

at_true : {A : Type 0} (b : Bool) (x y : A) → b ≡ true → cond b x y ≡ x
at_true true x y h = refl
at_true false x y h = absurd (false≢true h)

at_false : {A : Type 0} (b : Bool) (x y : A) → b ≡ false → cond b x y ≡ y
at_false true x y h = absurd (false≢true (sym h))
at_false false x y h = refl

-- A folder that is added has its disk, and the others stay.
pub disk_in-push_other : (folders : List Folder) (name other : List ℕ) (disk : MemDisk) → other ≢ name → disk_in (folders ++ record { name = name; disk = disk } ∷ []) other ≡ disk_in folders other
disk_in-push_other [] name other disk n = at_false (pointwise nat_eq name other) (Some disk) None (other_name name other (λ e. n (sym e)))
disk_in-push_other (f ∷ fs) name other disk n = ap (cond (pointwise nat_eq f.name other) (Some f.disk)) (disk_in-push_other fs name other disk n)

push_step : (b : Bool) (d : MemDisk) (o p q : Option MemDisk) → cond b (Some d) o ≡ None → (o ≡ None → p ≡ q) → cond b (Some d) p ≡ q
push_step true d o p q h k = absurd (cc)
push_step false d o p q h k = k h

pub disk_in-push_same : (folders : List Folder) (name : List ℕ) (disk : MemDisk) → disk_in folders name ≡ None → disk_in (folders ++ record { name = name; disk = disk } ∷ []) name ≡ Some disk
disk_in-push_same [] name disk h = at_true (pointwise nat_eq name name) (Some disk) None (same_name name name refl)
disk_in-push_same (f ∷ fs) name disk h = push_step (pointwise nat_eq f.name name) f.disk (disk_in fs name) (disk_in (fs ++ record { name = name; disk = disk } ∷ []) name) (Some disk) h (disk_in-push_same fs name disk)

none_step : (b : Bool) (d : MemDisk) (o : Option MemDisk) → cond b (Some d) o ≡ None → (b ≡ false) × (o ≡ None)
none_step true d o h = absurd (cc)
none_step false d o h = (refl, h)

name_apart : (xs ys : List ℕ) → pointwise nat_eq xs ys ≡ false → xs ≢ ys
name_apart xs ys t e = false≢true (sym t ∙ same_name xs ys e)

pub IsAt-push : (folders : List Folder) (name : List ℕ) (disk : MemDisk) → disk_in folders name ≡ None → IsAt (folders ++ record { name = name; disk = disk } ∷ []) name (length folders)
IsAt-push [] name disk h = refl
IsAt-push (f ∷ fs) name disk h = let s = none_step (pointwise nat_eq f.name name) f.disk (disk_in fs name) h in (name_apart f.name name s.0, IsAt-push fs name disk s.1)

-- what is found by the place of a name
abbrev pub named : List ℕ → Folder → Bool
named name = λ folder. pointwise nat_eq folder.name name

IsAt_step : (b : Bool) (f : Folder) (fs : List Folder) (name : List ℕ) (at n : ℕ) → pointwise nat_eq f.name name ≡ b → at ≡ cond (not b) (1 + n) 0 → at < suc (length fs) → ((i : ℕ) → i ≡ n → i < length fs → IsAt fs name i) → IsAt (f ∷ fs) name at
IsAt_step true f fs name zero n t e l k = (bytes_decides f.name name).0 t
IsAt_step true f fs name (suc at) n t e l k = absurd (omega arith)
IsAt_step false f fs name zero n t e l k = absurd (omega arith)
IsAt_step false f fs name (suc at) n t e l k = (name_apart f.name name t, k at (omega arith) (omega arith))

IsAt-from_place : (folders : List Folder) (name : List ℕ) (at : ℕ) → at ≡ position_or_len (named name) folders → at < length folders → IsAt folders name at
IsAt-from_place [] name at e l = absurd (omega arith)
IsAt-from_place (f ∷ fs) name at e l = IsAt_step (pointwise nat_eq f.name name) f fs name at (position_or_len (named name) fs) refl e l (λ i a b. IsAt-from_place fs name i a b)

pub IsAt-from_position : (folders : List Folder) (name : List ℕ) (at : ℕ) → Some at ≡ position (named name) folders → IsAt folders name at
IsAt-from_position folders name at h =
    let n : ℕ = position_or_len (named name) folders in
    let s = some_place (nat_lt n (length folders)) at n h in
    IsAt-from_place folders name at s.0 (grind (arith, nat_tests))

gone_step : (b : Bool) (f : Folder) (fs : List Folder) (name : List ℕ) (n : ℕ) → suc (length fs) ≡ cond (not b) (1 + n) 0 → (length fs ≡ n → disk_in fs name ≡ None) → cond b (Some f.disk) (disk_in fs name) ≡ None
gone_step true f fs name n e k = absurd (omega arith)
gone_step false f fs name n e k = k (omega arith)

none_from_place : (folders : List Folder) (name : List ℕ) → length folders ≡ position_or_len (named name) folders → disk_in folders name ≡ None
none_from_place [] name e = refl
none_from_place (f ∷ fs) name e = gone_step (pointwise nat_eq f.name name) f fs name (position_or_len (named name) fs) e (none_from_place fs name)

pub none_from_position : (folders : List Folder) (name : List ℕ) → None ≡ position (named name) folders → disk_in folders name ≡ None
none_from_position folders name h =
    let n : ℕ = position_or_len (named name) folders in
    let t = none_place (nat_lt n (length folders)) n h in
    let le : n ≤ length folders = prefix_len-le-length _ folders in
    let past : length folders ≤ n = grind (arith, nat_tests) in
    none_from_place folders name (omega arith)

-- the disk at a place, before and after it is written
pub IsAt-lt : (folders : List Folder) (name : List ℕ) (at : ℕ) → IsAt folders name at → at < length folders
IsAt-lt [] name at h = absurd h
IsAt-lt (f ∷ fs) name zero h = omega arith
IsAt-lt (f ∷ fs) name (suc at) h = let l = IsAt-lt fs name at h.1 in omega arith

pub disk_in-at : (folders : List Folder) (name : List ℕ) (at : ℕ) (any : Folder) → IsAt folders name at → disk_in folders name ≡ Some (get_or folders at any).disk
disk_in-at [] name at any h = absurd h
disk_in-at (f ∷ fs) name zero any h = at_true (pointwise nat_eq f.name name) (Some f.disk) (disk_in fs name) (same_name f.name name h)
disk_in-at (f ∷ fs) name (suc at) any h = at_false (pointwise nat_eq f.name name) (Some f.disk) (disk_in fs name) (other_name f.name name h.0) ∙ disk_in-at fs name at any h.1

pub disk_in-set_same : (folders : List Folder) (name : List ℕ) (at : ℕ) (new : Folder) → IsAt folders name at → new.name ≡ name → disk_in (set folders at new) name ≡ Some new.disk
disk_in-set_same [] name at new h e = absurd h
disk_in-set_same (f ∷ fs) name zero new h e = at_true (pointwise nat_eq new.name name) (Some new.disk) (disk_in fs name) (same_name new.name name e)
disk_in-set_same (f ∷ fs) name (suc at) new h e = at_false (pointwise nat_eq f.name name) (Some f.disk) (disk_in (set fs at new) name) (other_name f.name name h.0) ∙ disk_in-set_same fs name at new h.1 e

pub disk_in-set_other : (folders : List Folder) (name other : List ℕ) (at : ℕ) (new : Folder) → IsAt folders name at → new.name ≡ name → other ≢ name → disk_in (set folders at new) other ≡ disk_in folders other
disk_in-set_other [] name other at new h e n = absurd h
disk_in-set_other (f ∷ fs) name other zero new h e n =
    at_false (pointwise nat_eq new.name other) (Some new.disk) (disk_in fs other) (other_name new.name other (λ q. n (sym q ∙ e))) ∙ sym (at_false (pointwise nat_eq f.name other) (Some f.disk) (disk_in fs other) (other_name f.name other (λ q. n (sym q ∙ h))))
disk_in-set_other (f ∷ fs) name other (suc at) new h e n = ap (cond (pointwise nat_eq f.name other) (Some f.disk)) (disk_in-set_other fs name other at new h.1 e n)

pub name-at : (folders : List Folder) (name : List ℕ) (at : ℕ) (any : Folder) → IsAt folders name at → (get_or folders at any).name ≡ name
name-at [] name at any h = absurd h
name-at (f ∷ fs) name zero any h = h
name-at (f ∷ fs) name (suc at) any h = name-at fs name at any h.1

pub pushed_same : {T E : Type 0} (r : Result T E) (xs ys : List Folder) (name : List ℕ) (disk : MemDisk) → OnOk r (ys ≡ xs ++ record { name = name; disk = disk } ∷ []) → disk_in xs name ≡ None → OnOk r (disk_in ys name ≡ Some disk)
pushed_same (Ok x) xs ys name disk a h = ap (λ q. disk_in q name) a ∙ disk_in-push_same xs name disk h
pushed_same (Err e) xs ys name disk a h = tt

pub pushed_other : {T E : Type 0} (r : Result T E) (xs ys : List Folder) (name other : List ℕ) (disk : MemDisk) → OnOk r (ys ≡ xs ++ record { name = name; disk = disk } ∷ []) → OnErr r (ys ≡ xs) → other ≢ name → disk_in ys other ≡ disk_in xs other
pushed_other (Ok x) xs ys name other disk a b n = ap (λ q. disk_in q other) a ∙ disk_in-push_other xs name other disk n
pushed_other (Err e) xs ys name other disk a b n = ap (λ q. disk_in q other) b

some_step : (b : Bool) (d : MemDisk) (o : Option MemDisk) → b ≡ true → (e : MemDisk) × (cond b (Some d) o ≡ Some e)
some_step b d o t = (d, at_true b (Some d) o t)

else_step : (b : Bool) (d : MemDisk) (o : Option MemDisk) → (e : MemDisk) × (o ≡ Some e) → b ≡ false → (e : MemDisk) × (cond b (Some d) o ≡ Some e)
else_step b d o w t = (w.0, at_false b (Some d) o t ∙ w.1)

some-at : (folders : List Folder) (name : List ℕ) (at : ℕ) → IsAt folders name at → (d : MemDisk) × (disk_in folders name ≡ Some d)
some-at [] name at h = absurd h
some-at (f ∷ fs) name zero h = some_step (pointwise nat_eq f.name name) f.disk (disk_in fs name) (same_name f.name name h)
some-at (f ∷ fs) name (suc at) h = else_step (pointwise nat_eq f.name name) f.disk (disk_in fs name) (some-at fs name at h.1) (other_name f.name name h.0)

same_opens : (seen : MemDisk → Option Areas) (o : Option MemDisk) (d : MemDisk) → o ≡ Some d → Opens seen o o
same_opens seen (Some x) d e = refl
same_opens seen None d e = absurd (cc)

-- A folder that is found has the disk that it had, and one that is made has the new one.
pub opens_found : (seen : MemDisk → Option Areas) (folders : List Folder) (name : List ℕ) (at : ℕ) → IsAt folders name at → Opens seen (disk_in folders name) (disk_in folders name)
opens_found seen folders name at h = let w = some-at folders name at h in same_opens seen (disk_in folders name) w.0 w.1

new_opens : (seen : MemDisk → Option Areas) (o o' : Option MemDisk) (d : MemDisk) → o ≡ None → o' ≡ Some d → seen d ≡ Some (λ _. []) → Opens seen o o'
new_opens seen (Some x) o' d a b s = absurd (cc)
new_opens seen None o' d a b s = (d, b, s)

pub opens_made : (seen : MemDisk → Option Areas) (xs ys : List Folder) (name : List ℕ) (d : MemDisk) → disk_in xs name ≡ None → ys ≡ xs ++ record { name = name; disk = d } ∷ [] → seen d ≡ Some (λ _. []) → Opens seen (disk_in xs name) (disk_in ys name)
opens_made seen xs ys name d h e s = new_opens seen (disk_in xs name) (disk_in ys name) d h (ap (λ q. disk_in q name) e ∙ disk_in-push_same xs name d h) s

pub made_at : (xs ys : List Folder) (name : List ℕ) (d : MemDisk) → disk_in xs name ≡ None → ys ≡ xs ++ record { name = name; disk = d } ∷ [] → IsAt ys name (length xs)
made_at xs ys name d h e = let P : List Folder → Type 0 = λ q. IsAt q name (length xs) in subst P (sym e) (IsAt-push xs name d h)

-- What is lent is what the folder has once it was looked for.
pub opens_lent : (seen : MemDisk → Option Areas) (o : Option MemDisk) (d : MemDisk) → Opens seen o (Some d) → IsFolders seen o d
opens_lent seen (Some x) d h = cc
opens_lent seen None d h = λ areas is area.
    let e : d ≡ h.0 = cc in
    let none : ℕ → List ℕ = λ _. [] in
    let p : Some areas ≡ Some none = sym is ∙ (ap seen e ∙ h.2) in
    ap (λ o. unwrap_or o areas area) p

pub lent_disk : (seen : MemDisk → Option Areas) (o : Option MemDisk) (folders : List Folder) (name : List ℕ) (at : ℕ) (found : Folder) → IsAt folders name at → Opens seen o (disk_in folders name) → found ≡ get_or folders at found → IsFolders seen o found.disk
lent_disk seen o folders name at found i h f =
    let e : disk_in folders name ≡ Some found.disk = disk_in-at folders name at found i ∙ ap (λ (x : Folder). Some x.disk) (sym f) in
    let P : Option MemDisk → Type 0 = Opens seen o in
    opens_lent seen o found.disk (subst P e h)
