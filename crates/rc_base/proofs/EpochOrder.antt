-- The order of epochs.
use Rattle.std.proofs.Common.{◌≡◌, ◌∙◌, ℕ, sym, ap₂, subst, true, false, arith}
use Rattle.std.proofs.lemmas.Bool.{false≢true}
use Rattle.std.proofs.lemmas.Bool.Decides.{nat_tests}
use Rattle.rc_base.specs.declared.ids.Epoch.{Epoch}
use Rattle.rc_base.specs.Ids.{no_epoch, is_epoch, epoch_lt, epoch_le}
use Rattle.rc_base.proofs.SameIds.{is_epoch_same}

-- ---- at or below

pub epoch_le_refl : (a : Epoch) → epoch_le a a ≡ true
epoch_le_refl a = grind (arith, nat_tests)

pub epoch_le_same : (a b : Epoch) → a ≡ b → epoch_le a b ≡ true
epoch_le_same a b same = subst (λ (e : Epoch). epoch_le a e ≡ true) same (epoch_le_refl a)

pub epoch_le_trans : (a b c : Epoch) → epoch_le a b ≡ true → epoch_le b c ≡ true → epoch_le a c ≡ true
epoch_le_trans a b c low up = grind (arith, nat_tests)

pub epoch_le_lt : (a b c : Epoch) → epoch_le a b ≡ true → epoch_lt b c ≡ true → epoch_lt a c ≡ true
epoch_le_lt a b c low up = grind (arith, nat_tests)

pub epoch_le_not : (a b : Epoch) → epoch_le a b ≡ true → epoch_lt b a ≡ true → ⊥
epoch_le_not a b low up = grind (arith, nat_tests)

-- ---- below

pub epoch_lt_le : (a b : Epoch) → epoch_lt a b ≡ true → epoch_le a b ≡ true
epoch_lt_le a b up = grind (arith, nat_tests)

pub epoch_lt_asym : (a b : Epoch) → epoch_lt a b ≡ true → epoch_lt b a ≡ false
epoch_lt_asym a b up = grind (arith, nat_tests)

-- 0.0 is below each epoch that another is below
pub epoch_lt_none : (a b : Epoch) → epoch_lt a b ≡ true → epoch_lt no_epoch b ≡ true
epoch_lt_none a b up = grind (arith, nat_tests)

-- below an epoch is below each that is not below it
pub epoch_lt_not_lt : (a b c : Epoch) → epoch_lt a b ≡ true → epoch_lt c b ≡ false → epoch_lt a c ≡ true
epoch_lt_not_lt a b c up down = grind (arith, nat_tests)

-- an epoch that isn't above a lower one isn't above the higher
pub epoch_not_lt_lt : (a b c : Epoch) → epoch_lt a b ≡ true → epoch_lt a c ≡ false → epoch_lt b c ≡ false
epoch_not_lt_lt a b c up down = grind (arith, nat_tests)

-- ---- the same

pub epoch_same_not_lt : (a b : Epoch) → is_epoch a b ≡ true → epoch_lt a b ≡ false
epoch_same_not_lt a b same = grind (arith, nat_tests)

same_loss : (a b : Epoch) → epoch_lt a b ≡ false → epoch_lt b a ≡ false → a.loss ≡ b.loss
same_loss a b not_below not_above = grind (arith, nat_tests)

same_number : (a b : Epoch) → epoch_lt a b ≡ false → epoch_lt b a ≡ false → a.number ≡ b.number
same_number a b not_below not_above = grind (arith, nat_tests)

-- two epochs are one where neither is below the other
pub epoch_same_from_neither : (a b : Epoch) → epoch_lt a b ≡ false → epoch_lt b a ≡ false → a ≡ b
epoch_same_from_neither a b not_below not_above =
    let epoch : (l n : ℕ) → Epoch = λ l n. record { loss = l; number = n } in
    ap₂ epoch (same_loss a b not_below not_above) (same_number a b not_below not_above)

-- ---- not the same

-- an epoch is none that is below it, or above
pub epoch_lt_not : (a b : Epoch) → epoch_lt a b ≡ true → is_epoch b a ≡ false
epoch_lt_not a b up = grind (arith, nat_tests)

pub epoch_lt_apart : (a b : Epoch) → epoch_lt a b ≡ true → a ≡ b → ⊥
epoch_lt_apart a b up same = false≢true (sym (epoch_lt_not a b up) ∙ subst (λ e. is_epoch b e ≡ true) (sym same) (is_epoch_same b))
