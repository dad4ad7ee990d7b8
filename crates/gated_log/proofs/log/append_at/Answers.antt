use Rattle.std.proofs.Common.{◌≡◌, ◌∙◌, ◌+◌, ◌≤◌, ◌∷◌, [], ℕ, List, length, inl, refl, sym, ap, subst, arith}
use Rattle.disk_model.specs.Disk.{written, Torn}
use Rattle.gated_log.specs.Blocks.{IsAtRest, KeepsOrGains, Gains, behind_gate}
use Rattle.gated_log.proofs.Ends.{length-at_rest, length-behind_gate, written_reaches, torn_behind, torn_gate, written_gate}
use Rattle.gated_log.proofs.Steps.{Both, then, there, becomes, each_after, stays_put, elsewhere_with, elsewhere_then}
use Rattle.gated_log.proofs.log.append_at.Goals as goal

pub write_through-requires : goal.write_through-requires
write_through-requires g c s is =
    omega (arith, length-at_rest (s c.args.area) c.args.end (c.requires.settled s (g.met.D.Disk.seen_is_image c.args.disk.now s is)))

pub write_through-requires-2 : goal.write_through-requires-2
write_through-requires-2 g c s is =
    let end = c.args.end in
    let body = c.deref.result.now in
    let mid = g.D.Disk.images c.write_through.new.disk in
    each_after c.args.area (λ x. IsAtRest x end) (λ y. end ≤ length y) (λ x y. y ≡ written (end + 1) body x) (g.D.Disk.images c.args.disk.now) mid c.requires.settled
    (λ x y r e. subst (λ (l : List ℕ). end ≤ length l) (sym e) (written_reaches x body end r))
    (becomes c.args.area (written (end + 1) body) (g.D.Disk.images c.args.disk.now) mid c.in_ok-write_through.ensures.ok)
    s (g.met.D.Disk.seen_is_image c.write_through.new.disk s is)

pub returns-in_err-body-clause-stop : goal.returns-in_err-body-clause-stop
returns-in_err-body-clause-stop g c =
    stays_put c.args.area (KeepsOrGains c.args.payload.now) (g.D.Disk.images c.args.disk.now) (g.D.Disk.images c.args.disk.now) (λ x. inl refl) (λ s image. image)

pub returns-in_err-write_through-clause-stop : goal.returns-in_err-write_through-clause-stop
returns-in_err-write_through-clause-stop g c =
    let end = c.args.end in
    let n = length c.deref.result.now in
    there c.args.area (λ x. IsAtRest x end) (Torn (end + 1) n) (KeepsOrGains c.args.payload.now) (g.D.Disk.images c.args.disk.now) (g.D.Disk.images c.write_through.new.disk) c.requires.settled
    (λ x y r torn. inl (torn_behind x y end n r torn)) c.write_through.ensures.stop

pub returns-in_err-write_through-2-clause-stop : goal.returns-in_err-write_through-2-clause-stop
returns-in_err-write_through-2-clause-stop g c =
    let end = c.args.end in
    let body = c.deref.result.now in
    let payload = c.args.payload.now in
    let body_is : body ≡ behind_gate payload = c.deref.ensures.value ∙ c.in_ok-body.ensures.body in
    let old = g.D.Disk.images c.args.disk.now in
    let mid = g.D.Disk.images c.write_through.new.disk in
    let new = g.D.Disk.images c.write_through-2.new.disk in
    let first = becomes c.args.area (written (end + 1) body) old mid c.in_ok-write_through.ensures.ok in
    there c.args.area (λ x. IsAtRest x end) (Both (λ x y. y ≡ written (end + 1) body x) (Torn end 1)) (KeepsOrGains payload) old new c.requires.settled
    (λ x z r both. torn_gate x both.0 z end payload r c.requires.payload (both.1 ∙ ap (λ (l : List ℕ). written (end + 1) l x) body_is) both.2)
    (then c.args.area (λ x y. y ≡ written (end + 1) body x) (Torn end 1) old mid new first c.write_through-2.ensures.stop)

pub returns-clause-stop : goal.returns-clause-stop
returns-clause-stop g c =
    let end = c.args.end in
    let body = c.deref.result.now in
    let payload = c.args.payload.now in
    let body_is : body ≡ behind_gate payload = c.deref.ensures.value ∙ c.in_ok-body.ensures.body in
    let old = g.D.Disk.images c.args.disk.now in
    let mid = g.D.Disk.images c.write_through.new.disk in
    let new = g.D.Disk.images c.write_through-2.new.disk in
    let first = becomes c.args.area (written (end + 1) body) old mid c.in_ok-write_through.ensures.ok in
    there c.args.area (λ x. IsAtRest x end) (Both (λ x y. y ≡ written (end + 1) body x) (Torn end 1)) (KeepsOrGains payload) old new c.requires.settled
    (λ x z r both. torn_gate x both.0 z end payload r c.requires.payload (both.1 ∙ ap (λ (l : List ℕ). written (end + 1) l x) body_is) both.2)
    (then c.args.area (λ x y. y ≡ written (end + 1) body x) (Torn end 1) old mid new first c.write_through-2.ensures.stop)

pub returns-clause-gains : goal.returns-clause-gains
returns-clause-gains g c =
    let end = c.args.end in
    let body = c.deref.result.now in
    let payload = c.args.payload.now in
    let body_is : body ≡ behind_gate payload = c.deref.ensures.value ∙ c.in_ok-body.ensures.body in
    let old = g.D.Disk.images c.args.disk.now in
    let mid = g.D.Disk.images c.write_through.new.disk in
    let new = g.D.Disk.images c.write_through-2.new.disk in
    let first = becomes c.args.area (written (end + 1) body) old mid c.in_ok-write_through.ensures.ok in
    let second = becomes c.args.area (written end (1 ∷ [])) mid new c.in_ok-write_through-2.ensures.ok in
    there c.args.area (λ x. IsAtRest x end) (Both (λ x y. y ≡ written (end + 1) body x) (λ y z. z ≡ written end (1 ∷ []) y)) (Gains payload) old new c.requires.settled
    (λ x z r both. (written_gate x both.0 z end payload r c.requires.payload (both.1 ∙ ap (λ (l : List ℕ). written (end + 1) l x) body_is) both.2).0)
    (then c.args.area (λ x y. y ≡ written (end + 1) body x) (λ y z. z ≡ written end (1 ∷ []) y) old mid new first second)

pub returns-clause-settled : goal.returns-clause-settled
returns-clause-settled g c =
    let end = c.args.end in
    let body = c.deref.result.now in
    let payload = c.args.payload.now in
    let body_is : body ≡ behind_gate payload = c.deref.ensures.value ∙ c.in_ok-body.ensures.body in
    let old = g.D.Disk.images c.args.disk.now in
    let mid = g.D.Disk.images c.write_through.new.disk in
    let new = g.D.Disk.images c.write_through-2.new.disk in
    let first = becomes c.args.area (written (end + 1) body) old mid c.in_ok-write_through.ensures.ok in
    let second = becomes c.args.area (written end (1 ∷ [])) mid new c.in_ok-write_through-2.ensures.ok in
    each_after c.args.area (λ x. IsAtRest x end) (λ z. IsAtRest z (end + 5 + length payload)) (Both (λ x y. y ≡ written (end + 1) body x) (λ y z. z ≡ written end (1 ∷ []) y)) old new c.requires.settled
    (λ x z r both. (written_gate x both.0 z end payload r c.requires.payload (both.1 ∙ ap (λ (l : List ℕ). written (end + 1) l x) body_is) both.2).1)
    (then c.args.area (λ x y. y ≡ written (end + 1) body x) (λ y z. z ≡ written end (1 ∷ []) y) old mid new first second)

pub returns-clause-elsewhere : goal.returns-clause-elsewhere
returns-clause-elsewhere g c =
    let seen = g.D.Disk.seen in
    elsewhere_then c.args.area (seen c.args.disk.now) (seen c.write_through.new.disk) (seen c.write_through-2.new.disk)
    (elsewhere_with c.args.area (written (c.args.end + 1) c.deref.result.now) (seen c.args.disk.now) (seen c.write_through.new.disk) c.in_ok-write_through.ensures.told)
    (elsewhere_with c.args.area (written c.args.end (1 ∷ [])) (seen c.write_through.new.disk) (seen c.write_through-2.new.disk) c.in_ok-write_through-2.ensures.told)

pub returns-clause-room : goal.returns-clause-room
returns-clause-room g c = omega (arith, c.in_ok-write_through.ensures.room, ap length (c.deref.ensures.value ∙ c.in_ok-body.ensures.body), length-behind_gate c.args.payload.now)
