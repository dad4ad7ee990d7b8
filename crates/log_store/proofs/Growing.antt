-- Records that go on with a log.
use Rattle.std.proofs.Common.{◌≡◌, ℕ, ◌+◌, Bool, List, [], ◌∷◌, ◌++◌, length, Option, Some, None, Result, Ok, Err, refl, sym, ap, ◌∙◌, subst}
use Rattle.std.specs.Prelude.{if◌then◌else◌}
use Rattle.std.proofs.lemmas.Bool.{and_from, eq-eqb}
use Rattle.std.specs.Option.{option_and_then}
use Rattle.rc_base.specs.declared.ids.Epoch.{Epoch}
use Rattle.gated_log.specs.declared.block.Block.{Block}
use Rattle.gated_log.specs.Log.{placed_from}
use Rattle.log_records.specs.declared.record.Record.{Record}
use Rattle.log_records.specs.declared.record.Physical.{Physical}
use Rattle.log_records.specs.declared.record.Physical.TheVariants.{Logical, Fence, TruncateTail, CheckpointDone, Reset, Head}
use Rattle.txn_table.specs.Log.{last_epoch}
use Rattle.txn_table.proofs.LogGrowth.{not_lower, last_from-push}
use Rattle.log_store.specs.declared.fold.Standing.{Standing}
use Rattle.log_store.specs.declared.kept.Kept.{Kept}
use Rattle.log_store.specs.declared.kept.Row.{Row}
use Rattle.txn_table.specs.Epochs.{later}
use Rattle.rc_base.specs.Ids.{no_epoch}
use Rattle.log_store.specs.Payload.{records_of}
use Rattle.log_store.specs.Fold.{Place, told, and_then, items_of, step, folded, behind_items, behind_block, behind_blocks, first_wrong, judged, kept_of, kept_behind, held_by}
use Rattle.log_store.specs.Growth.{MayCome, after_one, after, GoesOn}
use Rattle.log_store.proofs.Order.{later_swap, later_over}
use Rattle.log_store.proofs.Rows.{items_of-append, length-items_of, right-push, in_place}

-- what stands behind one record that may come
record Steps (place : ℕ) (s : Standing) (item : Physical) : Type 0 where
  next : Standing
  is : step place s item ≡ Some next
  kept : kept_of next ≡ after_one (kept_of s) item
  right : first_wrong [] next.rows ≡ None

steps : (place : ℕ) (s : Standing) (item : Physical) → MayCome (kept_of s) item → first_wrong [] s.rows ≡ None → Steps place s item
steps place s (Fence epoch) may right = record {
  next = record { identity = s.identity; fenced = later s.fenced epoch; rows = s.rows };
  is = refl;
  kept = ap (λ (e : Epoch). record { identity = Some s.identity; fence = e; records = items_of s.rows }) (later_swap s.fenced epoch (last_epoch (items_of s.rows)));
  right = right;
}
steps place s (Logical lsn epoch body) may right =
    let row : Row = record { place = place; epoch = epoch; body = body } in
    let position : lsn.0 ≡ length s.rows + 1 = may.0 ∙ ap (λ (n : ℕ). n + 1) (length-items_of s.rows) in
    let items : items_of (s.rows ++ row ∷ []) ≡ items_of s.rows ++ (epoch, body) ∷ [] = items_of-append s.rows (row ∷ []) in
    let last : last_epoch (items_of (s.rows ++ row ∷ [])) ≡ epoch = ap last_epoch items ∙ last_from-push no_epoch (items_of s.rows) (epoch, body) in
    let fence : later s.fenced (last_epoch (items_of (s.rows ++ row ∷ []))) ≡ later (later s.fenced (last_epoch (items_of s.rows))) epoch =
    ap (λ (e : Epoch). later s.fenced e) last ∙ sym (later_over s.fenced (last_epoch (items_of s.rows)) epoch (not_lower (last_epoch (items_of s.rows)) epoch body may.1.follows)) in
    let next : Standing = record { identity = s.identity; fenced = s.fenced; rows = s.rows ++ row ∷ [] } in
    record {
      next = next;
      is = ap (λ (b : Bool). if b then Some next else None) (and_from _ _ (eq-eqb _ _ position) may.1.follows);
      kept = ap (λ (e : Epoch). record { identity = Some s.identity; fence = e; records = items_of (s.rows ++ row ∷ []) }) fence
          ∙ ap (λ (l : List (Epoch × Record)). record { identity = Some s.identity; fence = later (later s.fenced (last_epoch (items_of s.rows))) epoch; records = l }) items;
      right = right-push [] s.rows row right (in_place (items_of s.rows) row may.1.stands may.1.linked);
    }
steps place s (TruncateTail lsn) may right = absurd may
steps place s (CheckpointDone slot at len) may right = absurd may
steps place s (Reset slot at len) may right = absurd may
steps place s (Head generation partition) may right = absurd may

-- what stands behind records that go on
record Folds (place : ℕ) (s : Standing) (items : List Physical) : Type 0 where
  next : Standing
  is : folded place s items ≡ Some next
  kept : kept_of next ≡ after (kept_of s) items
  right : first_wrong [] next.rows ≡ None

folds : (place : ℕ) (items : List Physical) (s : Standing) → GoesOn (kept_of s) items → first_wrong [] s.rows ≡ None → Folds place s items
folds place [] s goes right = record { next = s; is = refl; kept = refl; right = right }
folds place (item ∷ items) s goes right =
    let one = steps place s item goes.0 right in
    let more = folds place items one.next (subst (λ (v : Kept). GoesOn v items) (sym one.kept) goes.1) one.right in
    record {
      next = more.next;
      is = ap (λ (o : Option Standing). option_and_then (λ t. folded place t items) o) one.is ∙ more.is;
      kept = more.kept ∙ ap (λ (v : Kept). after v items) one.kept;
      right = more.right;
    }

-- ---- blocks

behind_append : (area : ℕ) (s : Option Standing) (blocks : List Block) (block : Block) → behind_blocks area s (blocks ++ block ∷ []) ≡ and_then (λ t. behind_blocks area t (block ∷ [])) (behind_blocks area s blocks)
behind_append area s [] block = refl
behind_append area s (first ∷ blocks) block = by (told area first.place (behind_block s first)) (λ t. behind_append area (Some t) blocks block)
  where
    by : (r : Result Standing Place) → ((t : Standing) → behind_blocks area (Some t) (blocks ++ block ∷ []) ≡ and_then (λ u. behind_blocks area u (block ∷ [])) (behind_blocks area (Some t) blocks))
        → and_then (λ t. behind_blocks area (Some t) (blocks ++ block ∷ [])) r ≡ and_then (λ u. behind_blocks area u (block ∷ [])) (and_then (λ t. behind_blocks area (Some t) blocks) r)
    by (Ok t) rest = rest t
    by (Err p) rest = refl

-- what an area stands at that holds this
pub record Held (area : ℕ) (blocks : List Block) (v : Kept) : Type 0 where
  pub standing : Standing
  pub is : behind_blocks area None blocks ≡ Ok (Some standing)
  pub right : first_wrong [] standing.rows ≡ None
  pub kept : kept_of standing ≡ v

pub ok_is : {X E : Type 0} (x y : X) → ◌≡◌ {A = Result X E} (Ok x) (Ok y) → x ≡ y
ok_is x y e = cc

still_some : (area : ℕ) (blocks : List Block) (t : Standing) (o : Option Standing) → behind_blocks area (Some t) blocks ≡ Ok o → (s : Standing) × (o ≡ Some s)
still_some area [] t o e = (t, sym (ok_is (Some t) o e))
still_some area (block ∷ blocks) t o e = by (told area block.place (behind_block (Some t) block)) e (λ u. still_some area blocks u o)
  where
    by : (r : Result Standing Place) → and_then (λ u. behind_blocks area (Some u) blocks) r ≡ Ok o → ((u : Standing) → behind_blocks area (Some u) blocks ≡ Ok o → (s : Standing) × (o ≡ Some s)) → (s : Standing) × (o ≡ Some s)
    by (Ok u) is rest = rest u is
    by (Err p) is rest = absurd cc

some_first : (area : ℕ) (block : Block) (blocks : List Block) (o : Option Standing) → behind_blocks area None (block ∷ blocks) ≡ Ok o → (s : Standing) × (o ≡ Some s)
some_first area block blocks o e = by (told area block.place (behind_block None block)) e
  where
    by : (r : Result Standing Place) → and_then (λ u. behind_blocks area (Some u) blocks) r ≡ Ok o → (s : Standing) × (o ≡ Some s)
    by (Ok u) is = still_some area blocks u o is
    by (Err p) is = absurd cc

pub held : (area : ℕ) (block : Block) (blocks : List Block) (v : Kept) → held_by area (block ∷ blocks) ≡ Ok v → Held area (block ∷ blocks) v
held area block blocks v e = by (behind_blocks area None (block ∷ blocks)) refl e
  where
    by_wrong : (s : Standing) (o : Option ℕ) → first_wrong [] s.rows ≡ o → judged area o (kept_of s) ≡ Ok v → (first_wrong [] s.rows ≡ None) × (kept_of s ≡ v)
    by_wrong s None none is = (none, ok_is (kept_of s) v is)
    by_wrong s (Some at) some is = absurd cc

    by : (r : Result (Option Standing) Place) → behind_blocks area None (block ∷ blocks) ≡ r → and_then (kept_behind area) r ≡ Ok v → Held area (block ∷ blocks) v
    by (Err p) was is = absurd cc
    by (Ok o) was is =
        let some = some_first area block blocks o was in
        let kept : kept_behind area (Some some.0) ≡ Ok v = subst (λ (q : Option Standing). kept_behind area q ≡ Ok v) some.1 is in
        let parts = by_wrong some.0 (first_wrong [] some.0.rows) refl kept in
        record { standing = some.0; is = was ∙ ap (λ (q : Option Standing). Ok q) some.1; right = parts.0; kept = parts.1 }

-- one more block
pub held_more : (area : ℕ) (blocks : List Block) (place : ℕ) (payload : List ℕ) (items : List Physical) (v : Kept) → Held area blocks v → records_of payload ≡ Some items → GoesOn v items
    → held_by area (blocks ++ (record { place = place; payload = payload }) ∷ []) ≡ Ok (after v items)
held_more area blocks place payload items v h read goes =
    let more = folds place items h.standing (subst (λ (w : Kept). GoesOn w items) (sym h.kept) goes) h.right in
    let block : Block = record { place = place; payload = payload } in
    let behind : behind_block (Some h.standing) block ≡ Some more.next = ap (λ (o : Option (List Physical)). option_and_then (behind_items place (Some h.standing)) o) read ∙ more.is in
    let all : behind_blocks area None (blocks ++ block ∷ []) ≡ Ok (Some more.next) =
    behind_append area None blocks block
    ∙ ap (λ (r : Result (Option Standing) Place). and_then (λ t. behind_blocks area t (block ∷ [])) r) h.is
    ∙ ap (λ (o : Option Standing). and_then (λ t. behind_blocks area (Some t) []) (told area place o)) behind in
    ap (λ (r : Result (Option Standing) Place). and_then (kept_behind area) r) all
    ∙ ap (λ (o : Option ℕ). judged area o (kept_of more.next)) more.right
    ∙ ap (λ (w : Kept). Ok w) (more.kept ∙ ap (λ (w : Kept). after w items) h.kept)

pub placed_push : (at : ℕ) (payloads : List (List ℕ)) (payload : List ℕ) → (place : ℕ) × (placed_from at (payloads ++ payload ∷ []) ≡ placed_from at payloads ++ (record { place = place; payload = payload }) ∷ [])
placed_push at [] payload = (at, refl)
placed_push at (first ∷ payloads) payload =
    let rest = placed_push (at + 5 + length first) payloads payload in
    (rest.0, ap (λ (l : List Block). (record { place = at; payload = first }) ∷ l) rest.1)

pub nothing_held : (area : ℕ) (block : Block) (blocks : List Block) (v : Kept) → held_by area (block ∷ blocks) ≡ Ok v → v.identity ≡ None → ⊥
nothing_held area block blocks v e none =
    let h = held area block blocks v e in
    let some : ◌≡◌ {A = Option ℕ} (Some h.standing.identity) None = ap (λ (w : Kept). w.identity) h.kept ∙ none in
    absurd cc
