-- What the writes and cuts of a log do to the blocks of its area.
use Rattle.std.proofs.Common.{◌≡◌, ◌≢◌, ◌⊎◌, inl, inr, ℕ, zero, suc, ◌+◌, ◌-◌, ◌≤◌, min, List, [], ◌∷◌, ◌++◌, length, take, drop, get_or, refl, sym, ◌∙◌, ap, subst, arith}
use Rattle.std.proofs.lemmas.List.{append-nil, append_assoc, length-append, length-take, length-take-le, length-drop, take_at, drop_at, take-append-drop, drop_more, drop_all, take_all, nil_from_length, get_or_at}
use Rattle.std.proofs.lemmas.Bool.{cases_eq, cases_lt}
use Rattle.std.specs.Int.{w32, to_be_bytes}
use Rattle.disk_model.specs.Disk.{written, Torn, Cut}
use Rattle.gated_log.specs.Blocks.{open_blocks, IsPayload, AllPayloads, block, behind_gate, spelling, IsAtRest, Keeps, KeepsOrGains, KeepsPrefix}
use Rattle.gated_log.proofs.Opening.{shut_front, lone_gate, front_nothing, front_prefix, open_spelling, length-block, Parts}

take_behind : (xs ys : List ℕ) (m n : ℕ) → m ≡ length xs + n → take m (xs ++ ys) ≡ xs ++ take n ys
take_behind [] ys m n is = let same : m ≡ n = omega arith in ap (λ (k : ℕ). take k ys) same
take_behind (x ∷ xs) ys zero n is = absurd (omega arith)
take_behind (x ∷ xs) ys (suc m) n is = ap (λ (l : List ℕ). x ∷ l) (take_behind xs ys m n (omega arith))

pub spelling-push : (payloads : List (List ℕ)) (payload : List ℕ) → spelling (payloads ++ payload ∷ []) ≡ spelling payloads ++ block payload
spelling-push [] payload = append-nil (block payload)
spelling-push (first ∷ payloads) payload = ap (λ (l : List ℕ). block first ++ l) (spelling-push payloads payload) ∙ sym (append_assoc (block first) (spelling payloads) (block payload))

pub AllPayloads-push : (payloads : List (List ℕ)) (payload : List ℕ) → AllPayloads payloads → IsPayload payload → AllPayloads (payloads ++ payload ∷ [])
AllPayloads-push [] payload all is = (is, tt)
AllPayloads-push (first ∷ payloads) payload all is = (all.0, AllPayloads-push payloads payload all.1 is)

-- open blocks and a gate that opens nothing
pub ends : (payloads : List (List ℕ)) (rest : List ℕ) → AllPayloads payloads → 1 ≤ length rest → open_blocks rest ≡ [] → open_blocks (spelling payloads ++ rest) ≡ payloads
ends payloads rest all more none = open_spelling payloads rest all more ∙ ap (λ (l : List (List ℕ)). payloads ++ l) none ∙ append-nil payloads

pub rests : (payloads : List (List ℕ)) (gate : ℕ) (bytes : List ℕ) → AllPayloads payloads → gate ≢ 1 → bytes ≡ spelling payloads ++ gate ∷ [] → (open_blocks bytes ≡ payloads) × IsAtRest bytes (length (spelling payloads))
rests payloads gate bytes all shut is =
    let has : open_blocks bytes ≡ payloads = ap open_blocks is ∙ ends payloads (gate ∷ []) all (omega arith) (lone_gate (gate ∷ []) (omega arith)) in (
      has,
      record {
        gate = gate;
        shut = shut;
        whole = is ∙ ap (λ (l : List (List ℕ)). spelling l ++ gate ∷ []) (sym has);
        payloads = subst AllPayloads (sym has) all;
        end_is = ap (λ (l : List (List ℕ)). length (spelling l)) (sym has);
      },
    )

pub length-at_rest : (bytes : List ℕ) (end : ℕ) → IsAtRest bytes end → length bytes ≡ end + 1
length-at_rest bytes end r = omega (arith, ap length r.whole, length-append (spelling (open_blocks bytes)) (r.gate ∷ []), r.end_is)

-- a torn write of one byte behind some bytes that stay
pub torn_one : (front behind old new : List ℕ) (gate at : ℕ) → old ≡ front ++ gate ∷ behind → at ≡ length front → Torn at 1 old new → (g : ℕ) × (new ≡ front ++ g ∷ behind)
torn_one front behind old new gate at is place torn =
    let size : length old ≡ at + 1 + length behind = omega (arith, ap length is, length-append front (gate ∷ behind), place) in
    let least : min at (length old) ≡ at = omega arith in
    let before : take at new ≡ front =
    ap (λ (n : ℕ). take n new) (sym least) ∙ torn.before ∙ ap (λ (l : List ℕ). take at l) is ∙ take_at front (gate ∷ behind) at (sym place) in
    let whole : old ≡ (front ++ gate ∷ []) ++ behind = is ∙ sym (append_assoc front (gate ∷ []) behind) in
    let after : drop (at + 1) new ≡ behind =
    torn.after ∙ ap (λ (l : List ℕ). drop (at + 1) l) whole ∙ drop_at (front ++ gate ∷ []) behind (at + 1) (omega (arith, length-append front (gate ∷ []), place)) in
    let rest : drop at new ≡ get_or new at 0 ∷ behind = drop_more new at 0 (omega (arith, torn.no_shorter, size)) ∙ ap (λ (l : List ℕ). get_or new at 0 ∷ l) after in
    (get_or new at 0, sym (take-append-drop at new) ∙ ap (λ (l : List ℕ). l ++ drop at new) before ∙ ap (λ (l : List ℕ). front ++ l) rest)

pub written_one : (front behind old : List ℕ) (gate byte at : ℕ) → old ≡ front ++ gate ∷ behind → at ≡ length front → written at (byte ∷ []) old ≡ front ++ byte ∷ behind
written_one front behind old gate byte at is place =
    let whole : old ≡ (front ++ gate ∷ []) ++ behind = is ∙ sym (append_assoc front (gate ∷ []) behind) in
    let before : take at old ≡ front = ap (λ (l : List ℕ). take at l) is ∙ take_at front (gate ∷ behind) at (sym place) in
    let after : drop (at + 1) old ≡ behind = ap (λ (l : List ℕ). drop (at + 1) l) whole ∙ drop_at (front ++ gate ∷ []) behind (at + 1) (omega (arith, length-append front (gate ∷ []), place)) in
    ap (λ (l : List ℕ). l ++ (byte ∷ []) ++ drop (at + 1) old) before
    ∙ ap (λ (l : List ℕ). front ++ (byte ∷ []) ++ l) after
    ∙ append_assoc front (byte ∷ []) behind

-- whatever a stop leaves behind the closed gate, the blocks stay
pub torn_behind : (old new : List ℕ) (end n : ℕ) → IsAtRest old end → Torn (end + 1) n old new → Keeps old new
torn_behind old new end n r torn =
    let size = length-at_rest old end r in
    let least : min (end + 1) (length old) ≡ end + 1 = omega (arith, size) in
    let ps = open_blocks old in
    let front : take (end + 1) new ≡ old = ap (λ (k : ℕ). take k new) (sym least) ∙ torn.before ∙ take_all (end + 1) old (omega (arith, size)) in
    let whole : new ≡ spelling ps ++ r.gate ∷ drop (end + 1) new =
    sym (take-append-drop (end + 1) new) ∙ ap (λ (l : List ℕ). l ++ drop (end + 1) new) (front ∙ r.whole) ∙ append_assoc (spelling ps) (r.gate ∷ []) (drop (end + 1) new) in
    ap open_blocks whole ∙ ends ps (r.gate ∷ drop (end + 1) new) r.payloads (omega arith) (shut_front r.gate (drop (end + 1) new) r.shut)

pub written_behind : (old : List ℕ) (end : ℕ) (payload : List ℕ) (r : IsAtRest old end) → written (end + 1) (behind_gate payload) old ≡ spelling (open_blocks old) ++ r.gate ∷ behind_gate payload
written_behind old end payload r =
    let size = length-at_rest old end r in
    let body = behind_gate payload in
    ap (λ (l : List ℕ). l ++ body ++ drop (end + 1 + length body) old) (take_all (end + 1) old (omega (arith, size)))
    ∙ ap (λ (l : List ℕ). old ++ body ++ l) (drop_all (end + 1 + length body) old (omega (arith, size)))
    ∙ append-nil (old ++ body)
    ∙ ap (λ (l : List ℕ). l ++ body) r.whole
    ∙ append_assoc (spelling (open_blocks old)) (r.gate ∷ []) body

opened : (payloads : List (List ℕ)) (payload : List ℕ) → spelling payloads ++ 1 ∷ behind_gate payload ≡ spelling (payloads ++ payload ∷ []) ++ 0 ∷ []
opened payloads payload = sym (append_assoc (spelling payloads) (block payload) (0 ∷ [])) ∙ ap (λ (l : List ℕ). l ++ 0 ∷ []) (sym (spelling-push payloads payload))

-- the gate is opened or not
pub torn_gate : (old mid new : List ℕ) (end : ℕ) (payload : List ℕ) → IsAtRest old end → IsPayload payload → mid ≡ written (end + 1) (behind_gate payload) old → Torn end 1 mid new → KeepsOrGains payload old new
torn_gate old mid new end payload r is whole torn =
    let ps = open_blocks old in
    let left = torn_one (spelling ps) (behind_gate payload) mid new r.gate end (whole ∙ written_behind old end payload r) r.end_is torn in
    elim (cases_eq left.0 1) [
      | inl is_open ↦ inr (ap open_blocks (left.1 ∙ ap (λ (g : ℕ). spelling ps ++ g ∷ behind_gate payload) is_open) ∙ (rests (ps ++ payload ∷ []) 0 _ (AllPayloads-push ps payload r.payloads is) (omega arith) (opened ps payload)).0)
      | inr shut ↦ inl (ap open_blocks left.1 ∙ ends ps (left.0 ∷ behind_gate payload) r.payloads (omega arith) (shut_front left.0 (behind_gate payload) shut))
    ]

pub written_gate : (old mid new : List ℕ) (end : ℕ) (payload : List ℕ) → IsAtRest old end → IsPayload payload → mid ≡ written (end + 1) (behind_gate payload) old → new ≡ written end (1 ∷ []) mid → (open_blocks new ≡ open_blocks old ++ payload ∷ []) × IsAtRest new (end + 5 + length payload)
written_gate old mid new end payload r is whole done =
    let ps = open_blocks old in
    let now : new ≡ spelling (ps ++ payload ∷ []) ++ 0 ∷ [] =
    done ∙ written_one (spelling ps) (behind_gate payload) mid r.gate 1 end (whole ∙ written_behind old end payload r) r.end_is ∙ opened ps payload in
    let at_rest = rests (ps ++ payload ∷ []) 0 new (AllPayloads-push ps payload r.payloads is) (omega arith) now in
    (at_rest.0, subst (IsAtRest new) (omega (arith, ap length (spelling-push ps payload), length-append (spelling ps) (block payload), length-block payload, r.end_is)) at_rest.1)

-- a front that takes in the gate behind the last open block keeps the blocks
pub front_keeps : (bytes : List ℕ) (end m : ℕ) → Parts bytes → end ≡ length (spelling (open_blocks bytes)) → end + 1 ≤ m → Keeps bytes (take m bytes)
front_keeps bytes end m p place long = elim (cases_eq (length p.rest) 0) [
  | inl none ↦ ap open_blocks (take_all m bytes (omega (arith, ap length p.split, length-append (spelling (open_blocks bytes)) p.rest)))
  | inr some ↦
      let ps = open_blocks bytes in
      let front : take m bytes ≡ spelling ps ++ take (m - end) p.rest = ap (λ (l : List ℕ). take m l) p.split ∙ take_behind (spelling ps) p.rest m (m - end) (omega (arith, place)) in
      ap open_blocks front ∙ ends ps (take (m - end) p.rest) p.payloads (omega (arith, length-take (m - end) p.rest)) (front_nothing (m - end) p.rest p.nothing)
]

pub cut_keeps : (bytes new : List ℕ) (end : ℕ) → Parts bytes → end ≡ length (spelling (open_blocks bytes)) → Cut (end + 1) bytes new → Keeps bytes new
cut_keeps bytes new end p place cut = elim (cases_lt end (length new)) [
  | inl long ↦ ap open_blocks (sym cut.front) ∙ front_keeps bytes end (length new) p place (omega arith)
  | inr short ↦ ap open_blocks (sym cut.front ∙ take_all (length new) bytes (omega (arith, cut.no_shorter)))
]

-- what is left where the area was cut behind the gate
record Cutted (bytes : List ℕ) (end : ℕ) : Type 0 where
  gate : ℕ
  is : take (end + 1) bytes ≡ spelling (open_blocks bytes) ++ gate ∷ []

cutted : (bytes : List ℕ) (end : ℕ) (p : Parts bytes) → end ≡ length (spelling (open_blocks bytes)) → (length p.rest ≡ 0 → ⊥) → Cutted bytes end
cutted bytes end p place some = record {
  gate = get_or p.rest 0 0;
  is = ap (λ (l : List ℕ). take (end + 1) l) p.split ∙ take_behind (spelling (open_blocks bytes)) p.rest (end + 1) 1 (omega (arith, place)) ∙ ap (λ (l : List ℕ). spelling (open_blocks bytes) ++ l) (one p.rest some);
}
  where
    one : (rest : List ℕ) → (length rest ≡ 0 → ⊥) → take 1 rest ≡ get_or rest 0 0 ∷ []
    one [] some = absurd (some refl)
    one (g ∷ rest) some = refl

-- an area with no open block and nothing behind
none_there : (bytes : List ℕ) (end : ℕ) (p : Parts bytes) → end ≡ length (spelling (open_blocks bytes)) → length p.rest ≡ 0 → (bytes ≡ []) × (end ≡ 0)
none_there bytes end p place none =
    let no_blocks = p.behind none in
    let spells : spelling (open_blocks bytes) ≡ [] = ap spelling no_blocks in
    (p.split ∙ ap (λ (l : List ℕ). l ++ p.rest) spells ∙ nil_from_length p.rest none, place ∙ ap length spells)

pub torn_end : (bytes old new : List ℕ) (end : ℕ) → Parts bytes → end ≡ length (spelling (open_blocks bytes)) → old ≡ take (end + 1) bytes → Torn end 1 old new → Keeps bytes new
torn_end bytes old new end p place is torn = elim (cases_eq (length p.rest) 0) [
  | inl none ↦
      let nothing = none_there bytes end p place none in
      let empty : old ≡ [] = is ∙ ap (λ (l : List ℕ). take (end + 1) l) nothing.0 ∙ take_all (end + 1) [] (omega arith) in
      lone_gate new (omega (arith, length-drop (end + 1) new, ap length torn.after, length-drop (end + 1) old, ap length empty, nothing.1)) ∙ ap open_blocks (sym nothing.0)
  | inr some ↦
      let c = cutted bytes end p place some in
      let left = torn_one (spelling (open_blocks bytes)) [] old new c.gate end (is ∙ c.is) place torn in
      ap open_blocks left.1 ∙ ends (open_blocks bytes) (left.0 ∷ []) p.payloads (omega arith) (lone_gate (left.0 ∷ []) (omega arith))
]

pub written_end : (bytes old new : List ℕ) (end : ℕ) → Parts bytes → end ≡ length (spelling (open_blocks bytes)) → old ≡ take (end + 1) bytes → new ≡ written end (0 ∷ []) old → (open_blocks new ≡ open_blocks bytes) × IsAtRest new end
written_end bytes old new end p place is done =
    let at_rest = rests (open_blocks bytes) 0 new p.payloads (omega arith) (done ∙ now) in
    (at_rest.0, subst (IsAtRest new) (sym place) at_rest.1)
  where
    now : written end (0 ∷ []) old ≡ spelling (open_blocks bytes) ++ 0 ∷ []
    now = elim (cases_eq (length p.rest) 0) [
      | inl none ↦
          let nothing = none_there bytes end p place none in
          let empty : old ≡ [] = is ∙ ap (λ (l : List ℕ). take (end + 1) l) nothing.0 ∙ take_all (end + 1) [] (omega arith) in
          ap (λ (l : List ℕ). written end (0 ∷ []) l) empty
          ∙ ap (λ (n : ℕ). written n (0 ∷ []) []) nothing.1
          ∙ ap (λ (l : List (List ℕ)). spelling l ++ 0 ∷ []) (sym (p.behind none))
      | inr some ↦
          let c = cutted bytes end p place some in
          written_one (spelling (open_blocks bytes)) [] old c.gate 0 end (is ∙ c.is) place
    ]

-- the area was at rest already
pub was_at_rest : (bytes : List ℕ) (end : ℕ) (p : Parts bytes) → end ≡ length (spelling (open_blocks bytes)) → length bytes ≡ end + 1 → get_or bytes end 0 ≢ 1 → IsAtRest bytes end
was_at_rest bytes end p place long shut =
    let some : length p.rest ≡ 0 → ⊥ = λ none. absurd (omega (arith, none, ap length p.split, length-append (spelling (open_blocks bytes)) p.rest, place)) in
    let c = cutted bytes end p place some in
    let whole : bytes ≡ spelling (open_blocks bytes) ++ c.gate ∷ [] = sym (take_all (end + 1) bytes (omega arith)) ∙ c.is in
    let gate : get_or bytes end 0 ≡ c.gate = ap (λ (l : List ℕ). get_or l end 0) whole ∙ get_or_at (spelling (open_blocks bytes)) c.gate [] 0 end (sym place) in
    subst (IsAtRest bytes) (sym place) (rests (open_blocks bytes) c.gate bytes p.payloads (λ e. shut (gate ∙ e)) whole).1

-- a cut to nothing leaves a front on its way
pub cut_prefix : (len : ℕ) (old new : List ℕ) → Cut len old new → KeepsPrefix old new
cut_prefix len old new cut =
    let front = front_prefix (length old) (length new) old (omega arith) in
    (front.0, ap open_blocks (sym cut.front) ∙ front.1)

-- behind a closed first gate no block is open
pub torn_rest : (n : ℕ) (old new : List ℕ) → old ≡ 0 ∷ [] → Torn 1 n old new → open_blocks new ≡ []
torn_rest n old new is torn =
    let torn' : Torn 1 n (0 ∷ []) new = subst (λ (l : List ℕ). Torn 1 n l new) is torn in
    closed new torn'.before
  where
    closed : (l : List ℕ) → take 1 l ≡ 0 ∷ [] → open_blocks l ≡ []
    closed [] e = refl
    closed (g ∷ l) e = shut_front g l (λ one. absurd (cc (e, one)))

pub torn_first : (more old new : List ℕ) (payloads : List (List ℕ)) → old ≡ 0 ∷ more → open_blocks (1 ∷ more) ≡ payloads → Torn 0 1 old new → (open_blocks new ≡ []) ⊎ (open_blocks new ≡ payloads)
torn_first more old new payloads is has torn =
    let left = torn_one [] more old new 0 0 is refl torn in
    elim (cases_eq left.0 1) [
      | inl is_open ↦ inr (ap open_blocks left.1 ∙ ap (λ (g : ℕ). open_blocks (g ∷ more)) is_open ∙ has)
      | inr shut ↦ inl (ap open_blocks left.1 ∙ shut_front left.0 more shut)
    ]

pub length-behind_gate : (payload : List ℕ) → length (behind_gate payload) ≡ 5 + length payload
length-behind_gate payload = omega (arith, length-append (to_be_bytes w32 (length payload) ++ payload) (0 ∷ []), length-append (to_be_bytes w32 (length payload)) payload)

pub written_reaches : (old bytes : List ℕ) (end : ℕ) → IsAtRest old end → end ≤ length (written (end + 1) bytes old)
written_reaches old bytes end r =
    let size = length-at_rest old end r in
    omega (arith, size, length-append (take (end + 1) old ++ bytes) (drop (end + 1 + length bytes) old), length-append (take (end + 1) old) bytes, length-take-le (end + 1) old (omega (arith, size)))

pub torn_empty : (old new : List ℕ) → old ≡ [] → Torn 0 1 old new → open_blocks new ≡ []
torn_empty old new is torn = lone_gate new (omega (arith, length-drop 1 new, ap length torn.after, length-drop 1 old, ap length is))

pub first_written : (old new : List ℕ) → old ≡ [] → new ≡ written 0 (0 ∷ []) old → new ≡ 0 ∷ []
first_written old new is done = done ∙ ap (λ (l : List ℕ). written 0 (0 ∷ []) l) is

pub rest_written : (more old new : List ℕ) → old ≡ 0 ∷ [] → new ≡ written 1 more old → new ≡ 0 ∷ more
rest_written more old new is done =
    done ∙ ap (λ (l : List ℕ). written 1 more l) is
    ∙ ap (λ (l : List ℕ). (0 ∷ []) ++ more ++ l) (drop_all (1 + length more) (0 ∷ []) (omega arith))
    ∙ append-nil (0 ∷ more)

pub gate_written : (more old new : List ℕ) → old ≡ 0 ∷ more → new ≡ written 0 (1 ∷ []) old → new ≡ 1 ∷ more
gate_written more old new is done = done ∙ ap (λ (l : List ℕ). written 0 (1 ∷ []) l) is

-- the first gate of blocks that are there is open
pub first_open : (payloads : List (List ℕ)) (rest : List ℕ) → 1 ≤ length payloads → take 1 (spelling payloads ++ rest) ≡ 1 ∷ []
first_open [] rest some = absurd (omega arith)
first_open (payload ∷ payloads) rest some = refl

pub first_and_rest : (whole : List ℕ) → take 1 whole ≡ 1 ∷ [] → whole ≡ 1 ∷ drop 1 whole
first_and_rest whole is = sym (take-append-drop 1 whole) ∙ ap (λ (l : List ℕ). l ++ drop 1 whole) is

pub at_rest_left : (payloads : List (List ℕ)) (bytes : List ℕ) (end : ℕ) → AllPayloads payloads → bytes ≡ spelling payloads ++ 0 ∷ [] → end ≡ length (spelling payloads) → IsAtRest bytes end
at_rest_left payloads bytes end all is place = subst (IsAtRest bytes) (sym place) (rests payloads 0 bytes all (omega arith) is).1
