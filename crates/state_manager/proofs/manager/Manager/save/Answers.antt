use Rattle.std.proofs.Common.{rules, ◌≡◌, ◌∙◌, ◌≤◌, ◌∷◌, ◌++◌, [], Some, filter_map, ℕ, List, refl, sym, ap, subst}
use Rattle.std.specs.Prelude.{All, IfSome}
use Rattle.state_manager.specs.declared.slot.Slot.{Slot}
use Rattle.std.proofs.lemmas.List.Elements.{All-head, All-tail}
use Rattle.std.specs.Option.{option_copied}
use Rattle.std.proofs.lemmas.List.{append_assoc}
use Rattle.coll_model.specs.Rows.{image}
use Rattle.state_manager.specs.Chains.{standing, AreKept}
use Rattle.state_manager.proofs.States.{shown, image_more, rising_shown}
use Rattle.state_manager.proofs.Loads.{told_image}
use Rattle.coll_laws.specs.Rising.{AreRising}
use Rattle.state_manager.specs.Managed.{Managed, IsManaged, state_at, told_by}
use Rattle.state_manager.proofs.Steps.{kept_at, all_kept, standing_kept}
use Rattle.state_manager.proofs.manager.Manager.save.Goals as goal

pub loop-name-init : goal.loop-name-init
loop-name-init g c =
    let S = g.P.StateProvider in
    let m : Managed g.row.P.Denot = record { chains = c.self.inside.chains.entries; changes = c.self.inside.changes.items; floor = c.self.inside.floor; top = c.self.inside.top } in
    let from : m.floor.0 ≤ c.args.v.0 = subst (λ (x : Managed g.row.P.Denot). x.floor.0 ≤ c.args.v.0) (sym c.self.view_is) c.requires in
    (refl, subst (All (λ entry. AreKept S.least c.args.v.0 entry.1)) (search rules) (all_kept S.least c.args.v.0 m.chains c.self.invariant.rising (λ name. kept_at S.least S.view m c.self.invariant c.args.v.0 from name)))

pub collection-requires : goal.collection-requires
collection-requires g c =
    let S = g.P.StateProvider in
    let chain = c.in-Some.chain.now in
    let kept : List ℕ × List (Slot g.row.P.Denot) → Type 0 = λ entry. AreKept S.least c.args.v.0 entry.1 in
    let here : AreKept S.least c.args.v.0 chain = All-head kept (c.in-Some.name.now, chain) c.next.new.self (subst (All kept) c.in-Some.ensures.steps c.loop-name.invariant.1) in
    subst (λ r. IfSome r (λ slot. S.least slot.now.provider ≤ c.args.v.0)) c.in-Some-standing.is (standing_kept S.least c.args.v.0 c.args.v.0 chain here c.standing.result c.standing.ensures)

pub loop-name-preserved-in_ok-push : goal.loop-name-preserved-in_ok-push
loop-name-preserved-in_ok-push g c =
    let S = g.P.StateProvider in
    let kept : List ℕ × List (Slot g.row.P.Denot) → Type 0 = λ entry. AreKept S.least c.args.v.0 entry.1 in
    let rest = image (filter_map (shown S.view c.args.v.0) c.next.new.self) in
    let stands : standing c.args.v.0 c.in-Some.chain.now ≡ Some c.in-Some-standing.slot.now = sym c.standing.ensures ∙ ap (λ r. option_copied r) c.in-Some-standing.is in
    let one : c.in_ok-collection.field-0 ∷ rest ≡ image (filter_map (shown S.view c.args.v.0) c.loop-name.name-iterator) =
    ap (λ x. x ∷ rest) c.in_ok-collection.ensures ∙ sym (image_more S.view c.args.v.0 c.in-Some.name.now c.in-Some.chain.now c.next.new.self c.in-Some-standing.slot.now stands)
    ∙ ap (λ left. image (filter_map (shown S.view c.args.v.0) left)) (sym c.in-Some.ensures.steps) in
    (ap (λ saved. saved ++ rest) c.in_ok-push.ensures.ok ∙ append_assoc c.loop-name.saved (c.in_ok-collection.field-0 ∷ []) rest ∙ ap (λ left. c.loop-name.saved ++ left) one ∙ c.loop-name.invariant.0, All-tail kept (c.in-Some.name.now, c.in-Some.chain.now) c.next.new.self (subst (All kept) c.in-Some.ensures.steps c.loop-name.invariant.1))

pub loop-name-preserved : goal.loop-name-preserved
loop-name-preserved g c =
    let S = g.P.StateProvider in
    let kept : List ℕ × List (Slot g.row.P.Denot) → Type 0 = λ entry. AreKept S.least c.args.v.0 entry.1 in
    (search rules, All-tail kept (c.in-Some.name.now, c.in-Some.chain.now) c.next.new.self (subst (All kept) c.in-Some.ensures.steps c.loop-name.invariant.1))

pub returns-clause-saved : goal.returns-clause-saved
returns-clause-saved g c = search rules

pub returns-clause-rising : goal.returns-clause-rising
returns-clause-rising g c =
    let S = g.P.StateProvider in
    let told : c.loop-name.saved ≡ image (state_at S.view c.args.self.now c.args.v.0) = returns-clause-saved g c in
    let managed : IsManaged S.least S.view c.args.self.now = subst (IsManaged S.least S.view) c.self.view_is c.self.invariant in
    subst (λ saved. AreRising (told_by saved)) (sym told)
    (subst AreRising (sym (told_image (state_at S.view c.args.self.now c.args.v.0))) (rising_shown S.view c.args.v.0 c.args.self.now.chains managed.rising))
