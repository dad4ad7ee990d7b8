-- On a line that is given from what is held.
use Rattle.std.proofs.Common.{◌≡◌, ◌∙◌, ℕ, ◌+◌, List, ◌∷◌, ◌++◌, length, take, drop, sym, ap, arith, append_assoc}
use Rattle.std.proofs.lemmas.List.{length-take-le, take-append-drop}
use Rattle.rc_io.specs.Lines.{raw_lines}
use Rattle.rc_io.specs.Reader.{Reading}
use Rattle.rc_io.specs.Reading.{Answers, Numbers, Gives}
use Rattle.rc_io.specs.Ready.{HoldsLine, Is}
use Rattle.rc_io.specs.declared.look.Ready.TheVariants as ready
use Rattle.rc_io.specs.declared.line_reader.Next.{Next}
use Rattle.rc_io.specs.declared.line_reader.Next.TheVariants.{Line, End, Limit, Failed, NoMemory}
use Rattle.rc_io.proofs.RawLines.{holds-within, holds-short}

pub gives_numbers : (old mid new : Reading) (count : ℕ) (next : Next) → HoldsLine old.lines old.given mid.ahead count → mid.lines ≡ old.lines → Gives mid count new next → Numbers old new next
gives_numbers old mid new count (Line number text) h l g =
    let w = holds-within old.lines old.given mid.ahead count h in
    let s = holds-short old.lines old.given mid.ahead count h in
    let n : number ≡ old.lines + 1 = omega (arith, g.0, l) in
    let m : new.lines ≡ mid.lines + 1 = ap (λ (r : Reading). r.lines) g.2 in
    (n, omega (arith, g.0, m), omega (arith, w.few, n), omega (arith, s, ap length g.1))
gives_numbers old mid new count End h l g = absurd g
gives_numbers old mid new count (Limit which number) h l g = absurd g
gives_numbers old mid new count Failed h l g = absurd g
gives_numbers old mid new count NoMemory h l g = ap (λ (r : Reading). r.lines) g ∙ l

pub gives_answers : (old mid new : Reading) (rest rest' : List ℕ) (count : ℕ) (next : Next) → HoldsLine old.lines old.given mid.ahead count → mid.ahead ++ rest' ≡ old.ahead ++ rest → Is old.lines old.given mid.ahead rest' (ready.Line count) → mid.given ≡ old.given → Gives mid count new next → Answers old (old.ahead ++ rest) new (new.ahead ++ rest') next
gives_answers old mid new rest rest' count (Line number text) h s i l g =
    let raw : List ℕ = take count mid.ahead in
    let a : new.ahead ≡ drop count mid.ahead = ap (λ (r : Reading). r.ahead) g.2 in
    let b : new.given ≡ mid.given + count = ap (λ (r : Reading). r.given) g.2 in
    let n : length raw ≡ count = length-take-le count mid.ahead h.held in
    let t : mid.ahead ++ rest' ≡ raw ++ (drop count mid.ahead ++ rest') = ap (λ q. q ++ rest') (sym (take-append-drop count mid.ahead)) ∙ append_assoc raw (drop count mid.ahead) rest' in
    record {
      raw = raw;
      cut = sym s ∙ (t ∙ ap (λ q. raw ++ (q ++ rest')) (sym a));
      first = ap raw_lines (sym s) ∙ (i ∙ ap (λ q. raw ∷ raw_lines (q ++ rest')) (sym a));
      text_is = g.1;
      within = h.within;
      given = omega (arith, b, n, l);
    }
gives_answers old mid new rest rest' count End h s i l g = absurd g
gives_answers old mid new rest rest' count (Limit which number) h s i l g = absurd g
gives_answers old mid new rest rest' count Failed h s i l g = absurd g
gives_answers old mid new rest rest' count NoMemory h s i l g = record { same = ap (λ (r : Reading). r.ahead ++ rest') g ∙ s; given = ap (λ (r : Reading). r.given) g ∙ l }
