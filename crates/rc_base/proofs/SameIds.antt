-- The tests on epochs and transactions are those of equality.
use Rattle.std.proofs.Common.{◌≡◌, ℕ, Bool, true, ◌&&◌, eqb, refl, ap, ap₂, arith}
use Rattle.std.proofs.lemmas.Bool.{and_parts, and_from, eqb-true, eq-eqb}
use Rattle.std.proofs.lemmas.Bool.Decides.{nat_tests}
use Rattle.std.specs.Cmp.{IsEquivalence}
use Rattle.rc_base.specs.declared.ids.Epoch.{Epoch}
use Rattle.rc_base.specs.declared.ids.TxnId.{TxnId}
use Rattle.rc_base.specs.Ids.{is_epoch, is_txn}

pub is_epoch-true : (a b : Epoch) → is_epoch a b ≡ true → a ≡ b
is_epoch-true a b h =
    let parts = and_parts (eqb a.loss b.loss) (eqb a.number b.number) h in
    let same : (l n : ℕ) → Epoch = λ l n. record { loss = l; number = n } in
    ap₂ same (eqb-true a.loss b.loss parts.0) (eqb-true a.number b.number parts.1)

pub is_epoch_same : (a : Epoch) → is_epoch a a ≡ true
is_epoch_same a = and_from (eqb a.loss a.loss) (eqb a.number a.number) (eq-eqb a.loss a.loss refl) (eq-eqb a.number a.number refl)

pub is_txn-true : (a b : TxnId) → is_txn a b ≡ true → a ≡ b
is_txn-true a b h =
    let parts = and_parts (is_epoch a.epoch b.epoch) (eqb a.n b.n) h in
    let same : (e : Epoch) (n : ℕ) → TxnId = λ e n. record { epoch = e; n = n } in
    ap₂ same (is_epoch-true a.epoch b.epoch parts.0) (eqb-true a.n b.n parts.1)

pub is_txn_same : (a : TxnId) → is_txn a a ≡ true
is_txn_same a = and_from (is_epoch a.epoch a.epoch) (eqb a.n a.n) (is_epoch_same a.epoch) (eq-eqb a.n a.n refl)

eqb_flip : (a b : ℕ) → eqb a b ≡ eqb b a
eqb_flip a b = grind (arith, nat_tests)

pub is_txn_flip : (a b : TxnId) → is_txn a b ≡ is_txn b a
is_txn_flip a b =
    ap₂ (λ (e : Bool) (n : Bool). e && n) (ap₂ (λ (l : Bool) (n : Bool). l && n) (eqb_flip a.epoch.loss b.epoch.loss) (eqb_flip a.epoch.number b.epoch.number)) (eqb_flip a.n b.n)

pub is_txn_equivalence : IsEquivalence is_txn
is_txn_equivalence = record {
  refl = is_txn_same;
  symm = is_txn_flip;
  congr = λ x y z h. ap (λ w. is_txn w z) (is_txn-true x y h);
}
