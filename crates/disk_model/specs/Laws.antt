-- The laws of a disk in memory.
use Rattle.std.proofs.Common.{◌≡◌, inl, ℕ, zero, suc, ◌<◌, ◌^◌, List, [], ◌∷◌, length, Some, sym, subst, arith, lit<, Vec}
use Rattle.std.specs.declared.alloc.Global.{Global}
use Rattle.disk_model.specs.Disk.{Areas}
use Rattle.disk_model.specs.Changes.{held, images_of}
use Rattle.disk_model.specs.declared.change.Change.{Change}

-- no area is longer than a vector may be
pub held_bound : (vs : List (Vec ℕ Global)) (a : ℕ) → length (held vs a) < 2 ^ 63
held_bound [] a = lit< tt
held_bound (v ∷ vs) zero = omega (arith, v.ok.0, v.ok.1, v.small)
held_bound (v ∷ vs) (suc a) = held_bound vs a

pub same_some : {X : Type 0} (a b : X) → Some a ≡ Some b → a ≡ b
same_some a b e = cc

pub seen_is_one : (changes : List Change) (synced shown s : Areas) → Some shown ≡ Some s → images_of changes synced shown s
seen_is_one changes synced shown s is = inl (sym (same_some shown s is))

pub each_fits : (vs : List (Vec ℕ Global)) (s : Areas) → Some (held vs) ≡ Some s → (a : ℕ) → length (s a) < 2 ^ 63
each_fits vs s is a = subst (λ (t : Areas). length (t a) < 2 ^ 63) (same_some (held vs) s is) (held_bound vs a)
