-- What a decoder gives, from what its reading takes and takes again.
use Rattle.std.proofs.Common.{◌≡◌, ℕ, List, ◌++◌, length, drop, Result, Ok, Err, refl, sym, ap, ◌∙◌, arith, length-append}
use Rattle.std.specs.Prelude.{IfOk}
use Rattle.std.proofs.lemmas.List.{drop_at}
use Rattle.rc_base.specs.Fields.{Reader}
use Rattle.rc_base.proofs.FieldLaws.{IsBytes}
use Rattle.log_records.specs.declared.error.CodecError.{CodecError}
use Rattle.log_records.specs.declared.error.CodecError.TheVariants as errors
use Rattle.log_records.specs.Spelling.{joined, IsSpelled, IsReadAs, HasOneSpelling}
use Rattle.log_records.specs.Reading.{start, GivesFront}
use Rattle.log_records.proofs.Steps.{Takes, Again, gave, ok_is}

module _ {X : Type 0} (read : Reader → Result (X × Reader) ℕ) (fields : X → List (List ℕ)) (Fits : X → Type 0) where
  pub found_from : Takes read fields Fits → (result : Result (X × ℕ) CodecError) (bytes : List ℕ) → IsBytes bytes → GivesFront result (read (start bytes)) → IfOk result (IsSpelled fields Fits bytes)
  found_from takes (Ok d) bytes small given =
      let t = takes (start bytes) d.0 given.0 small given.1 in
      let text = joined (fields d.0) in
      let parts : bytes ≡ text ++ given.0.rest = t.1.parts in
      let len : d.1 ≡ length text = omega (arith, ap length parts, length-append text given.0.rest, t.1.sums, given.2) in
      let behind : drop d.1 bytes ≡ given.0.rest = ap (drop d.1) parts ∙ drop_at text given.0.rest d.1 (sym len) in
      (t.0, parts ∙ ap (λ (s : List ℕ). text ++ s) (sym behind), len)
  found_from takes (Err e) bytes small given = tt

  pub only_from : Again read fields Fits → (result : Result (X × ℕ) CodecError) (bytes : List ℕ) → GivesFront result (read (start bytes)) → (x : X) (rest : List ℕ) → Fits x → bytes ≡ joined (fields x) ++ rest → IsReadAs x result
  only_from again (Ok d) bytes given x rest fits e =
      let a = again (start bytes) x rest fits e in
      ap (λ (p : X × Reader). p.0) (ok_is (d.0, given.0) (x, a.0) (sym given.1 ∙ a.1))
  only_from again (Err errors.NoMemory) bytes given x rest fits e = refl
  only_from again (Err (errors.Bad at)) bytes given x rest fits e =
      let a = again (start bytes) x rest fits e in
      let wrong : ◌≡◌ {A = Result (X × Reader) ℕ} (Err at) (gave x a.0) = sym given ∙ a.1 in
      absurd cc

  pub one_spelling_from : Again read fields Fits → HasOneSpelling fields Fits
  one_spelling_from again x y behind_x behind_y fx fy e =
      let r = start (joined (fields x) ++ behind_x) in
      let p = again r x behind_x fx refl in
      let q = again r y behind_y fy e in
      let same : ◌≡◌ {A = X × Reader} (x, p.0) (y, q.0) = ok_is (x, p.0) (y, q.0) (sym p.1 ∙ q.1) in
      (ap (λ (s : X × Reader). s.0) same, sym p.2 ∙ ap (λ (s : X × Reader). s.1.rest) same ∙ q.2)
