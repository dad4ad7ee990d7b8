use Rattle.std.proofs.Common.{rules, ◌≡◌, ◌∙◌, ℕ, ◌+◌, ◌<◌, ◌≤◌, ◌++◌, length, take, drop, ap, arith}
use Rattle.std.proofs.Math.Seq.{take-append_seam}
use Rattle.disk_model.specs.Disk.{IsRead}
use Rattle.slot_store.specs.Slots.{slot_area}
use Rattle.slot_store.proofs.Reading.{reads_all, reads_these}
use Rattle.slot_store.proofs.store.SlotStore.read.Goals as goal

pub returns-then-count-len-clause-short : goal.returns-then-count-len-clause-short
returns-then-count-len-clause-short g c = λ end is s seen.
    let area = slot_area c.args.slot in
    let at_end : c.in_ok-end.end ≡ length (s area) = search rules in
    let buf = c.deref_mut.result.now in
    let long : length buf ≡ c.args.len = search rules in
    let read : IsRead (drop c.args.at (s area)) c.in_ok-count.count buf c.read_at.new.buf = search rules in
    let fits : c.args.at + c.args.len ≤ c.in_ok-end.end = search rules in
    let all : c.in_ok-count.count ≡ length buf = reads_all c.args.at c.in_ok-count.count (s area) buf c.read_at.new.buf read (omega (arith, at_end, long, fits)) in
    let less : c.in_ok-count.count < c.args.len = search rules in
    absurd (omega (arith, all, less, long))

pub returns-clause-read : goal.returns-clause-read
returns-clause-read g c = λ s seen.
    let area = slot_area c.args.slot in
    let at_end : c.in_ok-end.end ≡ length (s area) = search rules in
    let buf = c.deref_mut.result.now in
    let long : length buf ≡ c.args.len = search rules in
    let read : IsRead (drop c.args.at (s area)) c.in_ok-count.count buf c.read_at.new.buf = search rules in
    let fits : c.args.at + c.args.len ≤ c.in_ok-end.end = search rules in
    let these : c.read_at.new.buf ≡ take (length buf) (drop c.args.at (s area)) = reads_these c.args.at c.in_ok-count.count (s area) buf c.read_at.new.buf read (omega (arith, at_end, long, fits)) in
    let count : c.resize.new.self.len ≡ length c.read_at.new.buf = search rules in
    let told : c.from_vec.result ≡ c.read_at.new.buf =
    c.from_vec.ensures ∙ ap (λ (n : ℕ). take n (c.read_at.new.buf ++ drop (length c.read_at.new.buf) c.resize.new.self.items)) count ∙ take-append_seam c.read_at.new.buf (drop (length c.read_at.new.buf) c.resize.new.self.items) in
    told ∙ these ∙ ap (λ (n : ℕ). take n (drop c.args.at (s area))) long
