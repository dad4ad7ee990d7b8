use Rattle.std.proofs.Common.{rules, ◌≡◌, ◌≤◌, List, [], ◌∷◌, ◌++◌, All, sym, subst}
use Rattle.std.specs.List.Sorted.{IsNonDecreasingBy}
use Rattle.versioned_store.specs.declared.chain.Change.{Change}
use Rattle.versioned_store.specs.Chains.{History}
use Rattle.versioned_store.proofs.Latest.{all_from, rise_from, rise_one, rise_by_place}
use Rattle.versioned_store.proofs.Changes.{change_at}
use Rattle.versioned_store.proofs.chain.Chain.push.Goals as goal

pub invariant_of-self-2 : goal.invariant_of-self-2
invariant_of-self-2 c =
    let before = c.self.inside.changes.items in
    let change = c.args.change in
    let earlier = λ (other : Change). change_at other ≤ change_at change in
    let items : c.push_back.new.self.items ≡ before ++ change ∷ [] = search rules in
    let reach : All earlier before = subst (λ (h : History). All earlier h.changes) (sym c.self.view_is) c.requires in
    subst (λ (changes : List Change). IsNonDecreasingBy change_at changes) (sym items)
    (rise_by_place change_at (before ++ change ∷ []) (rise_one change_at before change (rise_from change_at before c.self.invariant) (all_from change_at earlier before reach)))
