-- Two logs that agree to a place.
use Rattle.std.proofs.Common.{◌≡◌, ℕ, zero, suc, ◌<◌, ◌≤◌, List, ◌++◌, length, take, get_or, refl, ap, sym, ◌∙◌, arith, length-append}
use Rattle.std.proofs.lemmas.List.{take-take, get_or-take, take-append-le, length-take-le}
use Rattle.fleet_laws.specs.Logs.{Entry, Agree, epoch_at, content_at, no_entry}

pub agree_none : {R : Type 0} (a b : List (Entry R)) → Agree 0 a b
agree_none a b = record { left = omega arith; right = omega arith; same = refl }

pub agree_self : {R : Type 0} (n : ℕ) (a : List (Entry R)) → n ≤ length a → Agree n a a
agree_self n a h = record { left = h; right = h; same = refl }

pub agree_sym : {R : Type 0} {n : ℕ} {a b : List (Entry R)} → Agree n a b → Agree n b a
agree_sym g = record { left = g.right; right = g.left; same = sym g.same }

pub agree_trans : {R : Type 0} {n : ℕ} {a b c : List (Entry R)} → Agree n a b → Agree n b c → Agree n a c
agree_trans g h = record { left = g.left; right = h.right; same = g.same ∙ h.same }

pub agree_less : {R : Type 0} (m n : ℕ) (a b : List (Entry R)) → m ≤ n → Agree n a b → Agree m a b
agree_less m n a b h g = record {
  left = omega (arith, g.left, h);
  right = omega (arith, g.right, h);
  same = sym (take-take m n a h) ∙ (ap (take m) g.same ∙ take-take m n b h);
}

pub agree_take : {R : Type 0} (m n : ℕ) (a : List (Entry R)) → m ≤ n → n ≤ length a → Agree m (take n a) a
agree_take m n a h w = record {
  left = omega (arith, length-take-le n a w);
  right = omega arith;
  same = take-take m n a h;
}

pub agree_append : {R : Type 0} (n : ℕ) (a b : List (Entry R)) → n ≤ length a → Agree n a (a ++ b)
agree_append n a b h = record {
  left = h;
  right = omega (arith, length-append a b);
  same = sym (take-append-le n a b h);
}

entry_at : {R : Type 0} (a b : List (Entry R)) (n m : ℕ) → m < n → take n a ≡ take n b → get_or a m no_entry ≡ get_or b m no_entry
entry_at a b n m h e = sym (get_or-take n a m no_entry h) ∙ (ap (λ x. get_or x m no_entry) e ∙ get_or-take n b m no_entry h)

pub agree_epoch : {R : Type 0} (m n : ℕ) (a b : List (Entry R)) → m ≤ n → Agree n a b → epoch_at a m ≡ epoch_at b m
unfolding epoch_at
agree_epoch zero n a b h g = refl
agree_epoch (suc m) n a b h g = ap (λ x. x.epoch) (entry_at a b n m h g.same)

pub agree_content : {R : Type 0} (m n : ℕ) (a b : List (Entry R)) → m ≤ n → Agree n a b → content_at a m ≡ content_at b m
unfolding content_at
agree_content zero n a b h g = refl
agree_content (suc m) n a b h g = ap (λ x. x.content) (entry_at a b n m h g.same)

pub zero_of : (n : ℕ) → n ≤ 0 → n ≡ 0
zero_of n h = omega arith
