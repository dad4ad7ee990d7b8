use Rattle.std.proofs.Common.{◌∙◌, ◌+◌, ◌∷◌, rules, take, drop, sym, ap, subst}
use Rattle.state_manager.specs.Chains.{seen, AreKept}
use Rattle.state_manager.proofs.Merges.{merged_split, kept_prefix, kept_with, seen_gone, seen_merged}
use Rattle.state_manager.proofs.chain.Chain.merge_below.Goals as goal

pub returns-then-not-is_dropped : goal.returns-then-not-is_dropped
returns-then-not-is_dropped g c =
    let S = g.P.StateProvider in
    let slot = c.in-Some-pop_back.slot in
    let kept = c.pop_back.new.self.items in
    let split = merged_split c.args.v.0 c.in-Some.place c.args.self.now kept slot (sym c.in-Some.ensures)
    (ap (take (c.in-Some.place + 1)) (sym c.self.view_is) ∙ sym c.truncate.ensures.items ∙ c.in-Some-pop_back.ensures.items) in
    record {
      kept = subst (AreKept S.least c.args.v.0) (sym c.push_back_reserved.ensures.items)
          (kept_with S.least c.args.v.0 kept (slot ∷ drop (c.in-Some.place + 1) c.args.self.now) c.merge_below.new.self (subst (AreKept S.least c.args.v.0) split.1 c.requires) c.merge_below.ensures.floor);
      views = λ w le. ap (seen S.view w) c.push_back_reserved.ensures.items ∙ seen_merged S.view S.least c.args.v.0 kept (drop (c.in-Some.place + 1) c.args.self.now) slot c.merge_below.new.self split.0 c.merge_below.ensures w le
          ∙ ap (seen S.view w) (sym split.1);
    }

pub returns-else-not-is_dropped : goal.returns-else-not-is_dropped
returns-else-not-is_dropped g c =
    let S = g.P.StateProvider in
    let slot = c.in-Some-pop_back.slot in
    let kept = c.pop_back.new.self.items in
    let split = merged_split c.args.v.0 c.in-Some.place c.args.self.now kept slot (sym c.in-Some.ensures)
    (ap (take (c.in-Some.place + 1)) (sym c.self.view_is) ∙ sym c.truncate.ensures.items ∙ c.in-Some-pop_back.ensures.items) in
    record {
      kept = kept_prefix S.least c.args.v.0 kept (slot ∷ drop (c.in-Some.place + 1) c.args.self.now) (subst (AreKept S.least c.args.v.0) split.1 c.requires);
      views = λ w le. seen_gone S.view c.args.v.0 kept (drop (c.in-Some.place + 1) c.args.self.now) slot split.0 (search rules) w le ∙ ap (seen S.view w) (sym split.1);
    }
