use Rattle.std.proofs.Common.{◌≡◌, ◌∙◌, ◌≤◌, inl, inr, ℕ, length, arith, sym, ap, below_more, ◌+◌, ◌++◌, Vec, vec_capacity, vec_len}
use Rattle.std.specs.declared.alloc.Global.{Global}
use Rattle.disk_model.specs.Changes.{held, room}
use Rattle.disk_model.proofs.Areas.{same_areas, held_get, held_set_same, held_set_other, held_past, room_get, room_set, where_ok}
use Rattle.std.proofs.lemmas.Bool.{cases_lt}
use Rattle.std.proofs.lemmas.List.{length-set}
use Rattle.disk_model.proofs.change.copy_all.Goals as goal

pub loop-i-preserved : goal.loop-i-preserved
loop-i-preserved c =
    let kept = c.loop-i.invariant in
    let i = c.loop-i.i in
    let from = c.args.from.now in
    let new = c.extend_from_slice.new.self in
    let four : length from ≡ 4 = c.requires.four.0 in
    let here : held from i ≡ c.deref.result.now = held_get from i c.index-from-i.result (omega arith) c.index-from-i.is ∙ sym c.deref.ensures.value in
    let fits : length c.deref.result.now ≤ room c.loop-i.to i = omega (arith, ap length here, c.requires.fits i, kept.grown i) in
    let space = room_get c.loop-i.to i c.index-to-i.result (omega arith) c.index-to-i.is in
    let cap : vec_capacity c.clear.new.self ≡ vec_capacity c.index-to-i.result = c.clear.ensures.capacity ∙ ap (λ (v : Vec ℕ Global). vec_capacity v) (sym c.index-to-i.is) in
    let len : vec_len c.clear.new.self ≡ 0 = c.clear.ensures.len in
    let enough : vec_len c.clear.new.self + length c.deref.result.now ≤ vec_capacity c.clear.new.self = omega (arith, cap, len, fits, space) in
    let items : new.items ≡ c.clear.new.self.items ++ c.deref.result.now = where_ok c.extend_from_slice.result _ _ _ (c.extend_from_slice.ensures.succeeds enough) c.extend_from_slice.ensures.items in
    record {
      four = length-set c.loop-i.to i new ∙ kept.four;
      so_far = below_more _ _
          (λ a lt. held_set_other c.loop-i.to i a new (λ e. absurd (omega (arith, e))) ∙ kept.so_far a lt)
          (held_set_same c.loop-i.to i new (omega arith) ∙ items ∙ ap (λ l. l ++ c.deref.result.now) c.clear.ensures.items ∙ sym here);
      grown = λ a. omega (arith, kept.grown a, room_set c.loop-i.to i c.index-to-i.result new a c.index-to-i.is (omega (arith, cap, c.extend_from_slice.ensures.capacity)));
    }

pub returns-clause-held : goal.returns-clause-held
returns-clause-held c = same_areas _ _ (λ a. elim (cases_lt a 4) [
  | inl below ↦ c.loop-i.invariant.so_far a (omega arith)
  | inr past ↦ held_past c.loop-i.to a (omega (arith, c.loop-i.invariant.four)) ∙ sym (held_past c.args.from.now a (omega (arith, c.requires.four.0)))
])
