-- Reading fields one after the other: what was taken is what was spelled, and what was spelled is taken again.
use Rattle.std.proofs.Common.{◌≡◌, ℕ, ◌+◌, Bool, true, false, cond, eqb, List, [], ◌∷◌, ◌++◌, length, Result, Ok, Err, refl, sym, ap, subst, ◌∙◌, append_assoc, inl, inr, ◌⊎◌}
use Rattle.std.proofs.lemmas.Bool.{eqb-true}
use Rattle.rc_base.specs.Fields.{Reader}
use Rattle.rc_base.proofs.FieldLaws.{IsBytes}
use Rattle.log_records.specs.Spelling.{byte, joined}
use Rattle.log_records.specs.Reading.{◌>>=◌}

pub joined-append : (xs ys : List (List ℕ)) → joined (xs ++ ys) ≡ joined xs ++ joined ys
joined-append [] ys = refl
joined-append (x ∷ xs) ys = ap (λ (t : List ℕ). x ++ t) (joined-append xs ys) ∙ sym (append_assoc x (joined xs) (joined ys))

-- the fields stand in front of the reader, which was moved behind them
pub record Step (r : Reader) (fields : List (List ℕ)) (after : Reader) : Type 0 where
  pub parts : r.rest ≡ joined fields ++ after.rest
  pub sums : after.place + length after.rest ≡ r.place + length r.rest
  pub small : IsBytes after.rest

pub Step-then : (a b c : Reader) (xs ys : List (List ℕ)) → Step a xs b → Step b ys c → Step a (xs ++ ys) c
Step-then a b c xs ys p q = record {
  parts = p.parts ∙ ap (λ (t : List ℕ). joined xs ++ t) q.parts ∙ sym (append_assoc (joined xs) (joined ys) c.rest) ∙ ap (λ (t : List ℕ). t ++ c.rest) (sym (joined-append xs ys));
  sums = q.sums ∙ p.sums;
  small = q.small;
}

-- the value of a step that did not fail
pub bind_ok : {A B : Type 0} (r : Result A ℕ) (f : A → Result B ℕ) (y : B) → (r >>= f) ≡ Ok y → (x : A) × (r ≡ Ok x) × (f x ≡ Ok y)
bind_ok (Ok x) f y e = (x, refl, e)
bind_ok (Err d) f y e = absurd cc

abbrev pub done : {A : Type 0} → A → Result A ℕ
done x = Ok x

-- a value with the reader behind it
abbrev pub gave : {X : Type 0} → X → Reader → Result (X × Reader) ℕ
gave x r = Ok (x, r)

pub ok_is : {A : Type 0} (x y : A) → done x ≡ done y → x ≡ y
ok_is x y e = cc

-- what a reader of the fields takes is spelled so
abbrev pub Takes : {X : Type 0} → (Reader → Result (X × Reader) ℕ) → (X → List (List ℕ)) → (X → Type 0) → Type 0
Takes {X} read fields Fits = (r : Reader) (x : X) (after : Reader) → IsBytes r.rest → read r ≡ gave x after → Fits x × Step r (fields x) after

-- it takes what is spelled so
abbrev pub Again : {X : Type 0} → (Reader → Result (X × Reader) ℕ) → (X → List (List ℕ)) → (X → Type 0) → Type 0
Again {X} read fields Fits = (r : Reader) (x : X) (rest : List ℕ) → Fits x → r.rest ≡ joined (fields x) ++ rest → (after : Reader) × (read r ≡ gave x after) × (after.rest ≡ rest)

-- ---- one, two and three parts of a value

module _ {A X : Type 0} (ra : Reader → Result (A × Reader) ℕ) (fa : A → List (List ℕ)) (Fa : A → Type 0) (make : A → X) where
  pub one_takes : Takes ra fa Fa → (r : Reader) (x : X) (after : Reader) → IsBytes r.rest → (ra r >>= λ a. gave (make a.0) a.1) ≡ gave x after → (a : A) × (make a ≡ x) × Fa a × Step r (fa a) after
  one_takes takes r x after small e =
      let b = bind_ok (ra r) (λ (a : A × Reader). gave (make a.0) a.1) (x, after) e in
      let same : ◌≡◌ {A = X × Reader} (make b.0.0, b.0.1) (x, after) = ok_is (make b.0.0, b.0.1) (x, after) b.2 in
      let t = takes r b.0.0 b.0.1 small b.1 in
      (b.0.0, ap (λ (p : X × Reader). p.0) same, t.0, subst (λ (q : Reader). Step r (fa b.0.0) q) (ap (λ (p : X × Reader). p.1) same) t.1)

  pub one_again : Again ra fa Fa → (r : Reader) (a : A) (rest : List ℕ) → Fa a → r.rest ≡ joined (fa a) ++ rest → (after : Reader) × ((ra r >>= λ x. gave (make x.0) x.1) ≡ gave (make a) after) × (after.rest ≡ rest)
  one_again again r a rest fits e =
      let p = again r a rest fits e in
      (p.0, ap (λ (z : Result (A × Reader) ℕ). z >>= λ x. gave (make x.0) x.1) p.1, p.2)

module _ {A B X : Type 0} (ra : Reader → Result (A × Reader) ℕ) (fa : A → List (List ℕ)) (Fa : A → Type 0) (rb : Reader → Result (B × Reader) ℕ) (fb : B → List (List ℕ)) (Fb : B → Type 0) (make : A → B → X) where
  pub two_takes : Takes ra fa Fa → Takes rb fb Fb → (r : Reader) (x : X) (after : Reader) → IsBytes r.rest
      → (ra r >>= λ a. rb a.1 >>= λ b. gave (make a.0 b.0) b.1) ≡ gave x after → (a : A) × (b : B) × (make a b ≡ x) × Fa a × Fb b × Step r (fa a ++ fb b) after
  two_takes ta tb r x after small e =
      let p = bind_ok (ra r) (λ (a : A × Reader). rb a.1 >>= λ b. gave (make a.0 b.0) b.1) (x, after) e in
      let t = ta r p.0.0 p.0.1 small p.1 in
      let q = one_takes rb fb Fb (make p.0.0) tb p.0.1 x after t.1.small p.2 in
      (p.0.0, q.0, q.1, t.0, q.2, Step-then r p.0.1 after (fa p.0.0) (fb q.0) t.1 q.3)

  pub two_again : Again ra fa Fa → Again rb fb Fb → (r : Reader) (a : A) (b : B) (rest : List ℕ) → Fa a → Fb b → r.rest ≡ joined (fa a ++ fb b) ++ rest
      → (after : Reader) × ((ra r >>= λ x. rb x.1 >>= λ y. gave (make x.0 y.0) y.1) ≡ gave (make a b) after) × (after.rest ≡ rest)
  two_again aa ab r a b rest fita fitb e =
      let regrouped : r.rest ≡ joined (fa a) ++ (joined (fb b) ++ rest) = e ∙ ap (λ (t : List ℕ). t ++ rest) (joined-append (fa a) (fb b)) ∙ append_assoc (joined (fa a)) (joined (fb b)) rest in
      let p = aa r a (joined (fb b) ++ rest) fita regrouped in
      let q = one_again rb fb Fb (make a) ab p.0 b rest fitb p.2 in
      (q.0, ap (λ (z : Result (A × Reader) ℕ). z >>= λ x. rb x.1 >>= λ y. gave (make x.0 y.0) y.1) p.1 ∙ q.1, q.2)

module _ {A B C X : Type 0} (ra : Reader → Result (A × Reader) ℕ) (fa : A → List (List ℕ)) (Fa : A → Type 0) (rb : Reader → Result (B × Reader) ℕ) (fb : B → List (List ℕ)) (Fb : B → Type 0) (rc : Reader → Result (C × Reader) ℕ) (fc : C → List (List ℕ)) (Fc : C → Type 0) (make : A → B → C → X) where
  pub three_takes : Takes ra fa Fa → Takes rb fb Fb → Takes rc fc Fc → (r : Reader) (x : X) (after : Reader) → IsBytes r.rest
      → (ra r >>= λ a. rb a.1 >>= λ b. rc b.1 >>= λ c. gave (make a.0 b.0 c.0) c.1) ≡ gave x after
      → (a : A) × (b : B) × (c : C) × (make a b c ≡ x) × Fa a × Fb b × Fc c × Step r (fa a ++ (fb b ++ fc c)) after
  three_takes ta tb tc r x after small e =
      let p = bind_ok (ra r) (λ (a : A × Reader). rb a.1 >>= λ b. rc b.1 >>= λ c. gave (make a.0 b.0 c.0) c.1) (x, after) e in
      let t = ta r p.0.0 p.0.1 small p.1 in
      let q = two_takes rb fb Fb rc fc Fc (make p.0.0) tb tc p.0.1 x after t.1.small p.2 in
      (p.0.0, q.0, q.1, q.2, t.0, q.3, q.4, Step-then r p.0.1 after (fa p.0.0) (fb q.0 ++ fc q.1) t.1 q.5)

  pub three_again : Again ra fa Fa → Again rb fb Fb → Again rc fc Fc → (r : Reader) (a : A) (b : B) (c : C) (rest : List ℕ) → Fa a → Fb b → Fc c → r.rest ≡ joined (fa a ++ (fb b ++ fc c)) ++ rest
      → (after : Reader) × ((ra r >>= λ x. rb x.1 >>= λ y. rc y.1 >>= λ z. gave (make x.0 y.0 z.0) z.1) ≡ gave (make a b c) after) × (after.rest ≡ rest)
  three_again aa ab ac r a b c rest fita fitb fitc e =
      let regrouped : r.rest ≡ joined (fa a) ++ (joined (fb b ++ fc c) ++ rest) = e ∙ ap (λ (t : List ℕ). t ++ rest) (joined-append (fa a) (fb b ++ fc c)) ∙ append_assoc (joined (fa a)) (joined (fb b ++ fc c)) rest in
      let p = aa r a (joined (fb b ++ fc c) ++ rest) fita regrouped in
      let q = two_again rb fb Fb rc fc Fc (make a) ab ac p.0 b c rest fitb fitc p.2 in
      (q.0, ap (λ (w : Result (A × Reader) ℕ). w >>= λ x. rb x.1 >>= λ y. rc y.1 >>= λ z. gave (make x.0 y.0 z.0) z.1) p.1 ∙ q.1, q.2)

-- ---- one of several forms, told by the byte in front

pub chosen : {A : Type 0} (b : Bool) (x y z : A) → cond b x y ≡ z → ((b ≡ true) × (x ≡ z)) ⊎ ((b ≡ false) × (y ≡ z))
chosen true x y z e = inl (refl, e)
chosen false x y z e = inr (refl, e)

-- what is read behind the tag is spelled so, with the tag in front
abbrev pub Branch : {X : Type 0} → (Reader → Result (X × Reader) ℕ) → ℕ → (X → List (List ℕ)) → (X → Type 0) → Type 0
Branch {X} read tag fields Fits = (r : Reader) (x : X) (after : Reader) → IsBytes r.rest → read r ≡ gave x after → Fits x × (body : List (List ℕ)) × (fields x ≡ byte tag ∷ body) × Step r body after

pub pick : {X : Type 0} (read : Reader → Result (X × Reader) ℕ) (tag : ℕ) (fields : X → List (List ℕ)) (Fits : X → Type 0) → Branch read tag fields Fits
    → (r r1 after : Reader) (x : X) (n : ℕ) → Step r (byte n ∷ []) r1 → (other : Result (X × Reader) ℕ) → (other ≡ gave x after → Fits x × Step r (fields x) after)
    → cond (eqb n tag) (read r1) other ≡ gave x after → Fits x × Step r (fields x) after
pick read tag fields Fits branch r r1 after x n step other next e =
    elim (chosen (eqb n tag) (read r1) other (gave x after) e) [
      | inl at_tag ↦
          let is : n ≡ tag = eqb-true n tag at_tag.0 in
          let b = branch r1 x after step.small at_tag.1 in
          let first : Step r (byte tag ∷ []) r1 = subst (λ (m : ℕ). Step r (byte m ∷ []) r1) is step in
          (b.0, subst (λ (fs : List (List ℕ)). Step r fs after) (sym b.2) (Step-then r r1 after (byte tag ∷ []) b.1 first b.3))
      | inr other_tag ↦ next other_tag.1
    ]

-- a form of the tag alone
pub leaf : {X : Type 0} (v : X) (tag : ℕ) (fields : X → List (List ℕ)) (Fits : X → Type 0) → Fits v → fields v ≡ byte tag ∷ [] → Branch (λ r. gave v r) tag fields Fits
leaf {X} v tag fields Fits fits is r x after small e =
    let same : ◌≡◌ {A = X × Reader} (v, r) (x, after) = ok_is (v, r) (x, after) e in
    subst (λ (p : X × Reader). Fits p.0 × (body : List (List ℕ)) × (fields p.0 ≡ byte tag ∷ body) × Step r body p.1) same (fits, [], is, record { parts = refl; sums = refl; small = small })

-- no form has the tag
pub nothing : {X : Type 0} (at : ℕ) (x : X) (after : Reader) {G : Type 0} → Err at ≡ gave x after → G
nothing at x after e = absurd cc
