-- What goes on under one number of a front is written or ends, and the others stay.
use Rattle.std.proofs.Common.{◌≡◌, ◌≢◌, ℕ, ◌==◌, List, [], ◌∷◌, Bool, true, false, cond, Option, Some, None, refl, sym, ap, subst, ◌∙◌, arith}
use Rattle.std.specs.Option.{option_map_or}
use Rattle.std.specs.List.Sorted.{IsStrictlySortedBy}
use Rattle.std.specs.Cmp.{nat_cmp_total}
use Rattle.std.specs.Ordering.{nat_cmp, is_eq, eq_by_cmp}
use Rattle.std.specs.declared.cmp.Ordering.{Ordering}
use Rattle.std.specs.declared.cmp.Ordering.TheVariants.{Less, Equal, Greater}
use Rattle.std.specs.Map.{lookup, keys_of, remove_entry}
use Rattle.std.specs.BTreeMap.{insert_entry, is_at}
use Rattle.std.proofs.lemmas.Bool.{false≢true}
use Rattle.std.proofs.lemmas.Bool.Decides.{nat_tests}
use Rattle.std.proofs.lemmas.Cmp.{eq_by_cmp_equiv}
use Rattle.std.proofs.lemmas.Map.{lookup-remove_entry}
use Rattle.std.proofs.lemmas.Map.Keys.{IsDistinct-from_sorted}
use Rattle.std.proofs.lemmas.Option.{none-some}
use Rattle.rc_base.specs.declared.ids.Epoch.{Epoch}
use Rattle.rc_base.specs.declared.ids.Lsn.{Lsn}
use Rattle.rc_base.specs.declared.ids.TxnId.{TxnId}
use Rattle.rc_base.specs.Ids.{is_epoch}
use Rattle.rc_base.proofs.SameIds.{is_epoch-true, is_epoch_same}
use Rattle.key_locks.specs.Grants.{Grant, released}
use Rattle.txn_front.specs.Front.{Fronted, Going, AreAlike, txn_at, numbered, going_of, with_going, logged, ended}
use Rattle.txn_front.proofs.Entries.{equal_same}

-- ---- entries by number

at_same : (n : ℕ) → is_eq (nat_cmp n n) ≡ true
at_same n = grind (arith, nat_tests)

at_other : (n m : ℕ) → n ≢ m → is_eq (nat_cmp n m) ≡ false
at_other n m away = by (n == m) refl
  where
    by : (b : Bool) → (n == m) ≡ b → is_eq (nat_cmp n m) ≡ false
    by true is = absurd (away (grind (arith, nat_tests)))
    by false is = grind (arith, nat_tests)

written_own : {X : Type 0} (n : ℕ) (x : X) (es : List (ℕ × X)) → lookup (is_at (nat_cmp n)) (insert_entry nat_cmp es n x) ≡ Some x
written_own n x [] = rw (at_same n) refl
written_own {X} n x (e ∷ es) = by (written_own n x es) (nat_cmp n e.0) refl
  where
    by : lookup (is_at (nat_cmp n)) (insert_entry nat_cmp es n x) ≡ Some x → (o : Ordering) → nat_cmp n e.0 ≡ o → lookup (is_at (nat_cmp n)) (insert_entry nat_cmp (e ∷ es) n x) ≡ Some x
    by rest Less at = rw (at, at_same n) refl
    by rest Equal at = rw (at, at) refl
    by rest Greater at = rw (at, at) rest

written_other : {X : Type 0} (m n : ℕ) (x : X) (es : List (ℕ × X)) → m ≢ n → lookup (is_at (nat_cmp m)) (insert_entry nat_cmp es n x) ≡ lookup (is_at (nat_cmp m)) es
written_other m n x [] away = rw (at_other m n away) refl
written_other {X} m n x (e ∷ es) away = by (written_other m n x es away) (nat_cmp n e.0) refl
  where
    by : lookup (is_at (nat_cmp m)) (insert_entry nat_cmp es n x) ≡ lookup (is_at (nat_cmp m)) es → (o : Ordering) → nat_cmp n e.0 ≡ o → lookup (is_at (nat_cmp m)) (insert_entry nat_cmp (e ∷ es) n x) ≡ lookup (is_at (nat_cmp m)) (e ∷ es)
    by rest Less at = rw (at, at_other m n away) refl
    by rest Equal at =
        let no : is_eq (nat_cmp m e.0) ≡ false = at_other m e.0 (λ same. away (same ∙ sym (equal_same n e.0 at))) in
        rw (at, no) refl
    by rest Greater at = rw at (ap (λ (o : Option X). cond (is_eq (nat_cmp m e.0)) (Some e.1) o) rest)

left_out : {X : Type 0} (m n : ℕ) (es : List (ℕ × X)) → IsStrictlySortedBy nat_cmp (keys_of es) → lookup (is_at (nat_cmp m)) (remove_entry (is_at (nat_cmp n)) es) ≡ cond (is_eq (nat_cmp n m)) None (lookup (is_at (nat_cmp m)) es)
left_out {X} m n es rising = lookup-remove_entry (eq_by_cmp_equiv nat_cmp_total) (is_at (nat_cmp n)) one m es (IsDistinct-from_sorted nat_cmp (keys_of es) rising)
  where
    one : (x y : ℕ) → is_at (nat_cmp n) x ≡ true → is_at (nat_cmp n) y ≡ eq_by_cmp nat_cmp x y
    one x y h = ap (λ (c : ℕ). is_eq (nat_cmp c y)) (at_is x h)
      where
        at_is : (x : ℕ) → is_at (nat_cmp n) x ≡ true → n ≡ x
        at_is x h = by (n == x) refl h
          where
            by : (b : Bool) → (n == x) ≡ b → is_eq (nat_cmp n x) ≡ true → n ≡ x
            by true is e = grind (arith, nat_tests)
            by false is e = absurd (false≢true (sym (at_other n x (λ same. grind (arith, nat_tests))) ∙ e))

-- ---- a front

-- this goes on under the number then, and all else is as it was
pub record Puts (f new : Fronted) (n : ℕ) (o : Option Going) : Type 0 where
  pub epoch : new.epoch ≡ f.epoch
  pub begins : new.begins ≡ f.begins
  pub own : numbered n new.live ≡ o
  pub others : (m : ℕ) → m ≢ n → numbered m new.live ≡ numbered m f.live

pub puts_written : (f : Fronted) (n : ℕ) (g : Going) → Puts f (with_going n g f) n (Some g)
puts_written f n g = record { epoch = refl; begins = refl; own = written_own n g f.live; others = λ m away. written_other m n g f.live away }

-- beside other grants
pub puts_granted : (f : Fronted) (n : ℕ) (g : Going) (grants : List Grant) → Puts f (with_going n g (record f { grants = grants })) n (Some g)
puts_granted f n g grants = record { epoch = refl; begins = refl; own = written_own n g f.live; others = λ m away. written_other m n g f.live away }

-- one write after another
pub puts_then : (f mid new : Fronted) (n : ℕ) (o p : Option Going) → Puts f mid n o → Puts mid new n p → Puts f new n p
puts_then f mid new n o p a b = record { epoch = b.epoch ∙ a.epoch; begins = b.begins ∙ a.begins; own = b.own; others = λ m away. b.others m away ∙ a.others m away }

-- the last of two writes
pub puts_over : (f mid new : Fronted) (n : ℕ) (o p : Option Going) → Puts f mid n o → Puts f new n p → Puts mid new n p
puts_over f mid new n o p a b = record { epoch = b.epoch ∙ sym a.epoch; begins = b.begins ∙ sym a.begins; own = b.own; others = λ m away. b.others m away ∙ sym (a.others m away) }

-- the transaction is the one of its number
pub record IsGoing (f : Fronted) (t : TxnId) (going : Going) : Type 0 where
  pub named : t ≡ txn_at f t.n
  pub is : numbered t.n f.live ≡ Some going

pub going_is : (f : Fronted) (t : TxnId) (going : Going) → going_of f t ≡ Some going → IsGoing f t going
going_is f t going h = by (is_epoch t.epoch f.epoch) refl h
  where
    by : (b : Bool) → is_epoch t.epoch f.epoch ≡ b → cond b (numbered t.n f.live) None ≡ Some going → IsGoing f t going
    by true is e = record { named = ap (λ (epoch : Epoch). let u : TxnId = record { epoch = epoch; n = t.n } in u) (is_epoch-true t.epoch f.epoch is); is = e }
    by false is e = absurd (none-some going e)

pub going_from : (f : Fronted) (t : TxnId) (going : Going) → IsGoing f t going → going_of f t ≡ Some going
going_from f t going h =
    let same : is_epoch t.epoch f.epoch ≡ true = subst (λ (e : Epoch). is_epoch e f.epoch ≡ true) (sym (ap (λ (u : TxnId). u.epoch) h.named)) (is_epoch_same f.epoch) in
    ap (λ (b : Bool). cond b (numbered t.n f.live) None) same ∙ h.is

-- what goes on behind a write
pub going_put : (f new : Fronted) (t : TxnId) (going next : Going) → going_of f t ≡ Some going → Puts f new t.n (Some next) → going_of new t ≡ Some next
going_put f new t going next h p =
    going_from new t next (record { named = (going_is f t going h).named ∙ ap (λ (epoch : Epoch). let u : TxnId = record { epoch = epoch; n = t.n } in u) (sym p.epoch); is = p.own })

pub puts_logged : (f : Fronted) (t : TxnId) (going : Going) (lsn : Lsn) → going_of f t ≡ Some going → Puts f (logged f t lsn) t.n (Some (record { last = lsn; ops = going.ops }))
puts_logged f t going lsn is =
    subst (λ (o : Option Going). Puts f (option_map_or (λ g. with_going t.n (record g { last = lsn }) f) o f) t.n (Some (record { last = lsn; ops = going.ops }))) (sym is)
    (puts_written f t.n (record { last = lsn; ops = going.ops }))

pub puts_ended : (f : Fronted) (t : TxnId) (going : Going) → going_of f t ≡ Some going → IsStrictlySortedBy nat_cmp (keys_of f.live) → Puts f (ended f t) t.n None
puts_ended f t going is rising =
    subst (λ (o : Option Going). Puts f (option_map_or (λ g. record f { live = remove_entry (is_at (nat_cmp t.n)) f.live; grants = released f.grants t }) o f) t.n None) (sym is) (record {
      epoch = refl;
      begins = refl;
      own = left_out t.n t.n f.live rising ∙ ap (λ (b : Bool). cond b None (numbered t.n f.live)) (at_same t.n);
      others = λ m away. left_out m t.n f.live rising ∙ ap (λ (b : Bool). cond b None (numbered m f.live)) (at_other t.n m (λ same. away (sym same)));
    })

-- the order of grants is none of what goes on
pub alike_going : (a b : Fronted) (t : TxnId) → AreAlike a b → going_of a t ≡ going_of b t
alike_going a b t h = ap (λ (f : Fronted). going_of f t) h.same
