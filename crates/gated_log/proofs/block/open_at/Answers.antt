use Rattle.std.proofs.Common.{◌≡◌, ◌∙◌, drop, get_or, refl, arith}
use Rattle.std.proofs.lemmas.List.{length-drop}
use Rattle.gated_log.specs.Blocks.{length_at}
use Rattle.gated_log.proofs.Opening.{read_length, opens_with, opens_nothing}
use Rattle.gated_log.proofs.block.open_at.Goals as goal

pub returns-in_default : goal.returns-in_default
returns-in_default c =
    let bytes = c.args.bytes.now in
    opens_nothing bytes (λ e w. absurd (omega (arith, w.within, length-drop 1 bytes, c.in_default.len_below)))

pub returns-then-count-eq0 : goal.returns-then-count-eq0
returns-then-count-eq0 c =
    let bytes = c.args.bytes.now in
    let count : c.from_be_bytes-count.result ≡ length_at (drop 1 bytes) = c.from_be_bytes-count.ensures ∙ read_length bytes (get_or bytes 1 0) (get_or bytes 2 0) (get_or bytes 3 0) (get_or bytes 4 0) refl refl refl refl in
    opens_nothing bytes (λ e w. absurd (omega (arith, w.some, count, c.if-count-eq0.true)))

pub returns-then-count-gt-MAX_PAYLOAD : goal.returns-then-count-gt-MAX_PAYLOAD
returns-then-count-gt-MAX_PAYLOAD c =
    let bytes = c.args.bytes.now in
    let count : c.from_be_bytes-count.result ≡ length_at (drop 1 bytes) = c.from_be_bytes-count.ensures ∙ read_length bytes (get_or bytes 1 0) (get_or bytes 2 0) (get_or bytes 3 0) (get_or bytes 4 0) refl refl refl refl in
    opens_nothing bytes (λ e w. absurd (omega (arith, w.fits, count, c.if-count-gt-MAX_PAYLOAD.true)))

pub returns-then-bytes-count : goal.returns-then-bytes-count
returns-then-bytes-count c =
    let bytes = c.args.bytes.now in
    let count : c.from_be_bytes-count.result ≡ length_at (drop 1 bytes) = c.from_be_bytes-count.ensures ∙ read_length bytes (get_or bytes 1 0) (get_or bytes 2 0) (get_or bytes 3 0) (get_or bytes 4 0) refl refl refl refl in
    opens_nothing bytes (λ e w. absurd (omega (arith, w.within, count, length-drop 1 bytes, c.if-bytes-count.true)))

pub returns : goal.returns
returns c =
    let bytes = c.args.bytes.now in
    let count : c.from_be_bytes-count.result ≡ length_at (drop 1 bytes) = c.from_be_bytes-count.ensures ∙ read_length bytes (get_or bytes 1 0) (get_or bytes 2 0) (get_or bytes 3 0) (get_or bytes 4 0) refl refl refl refl in
    opens_with bytes c.from_be_bytes-count.result c.if-gate-ne1.false count (omega arith) (omega arith) (omega arith)
