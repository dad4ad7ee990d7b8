use Rattle.std.proofs.Common.{◌∙◌, ◌++◌, ℕ, List, take, get_or, sym, ap, subst, arith}
use Rattle.std.proofs.lemmas.List.{take_more}
use Rattle.gated_log.specs.Blocks.{IsPayload, block, spelling}
use Rattle.gated_log.proofs.Opening.{AllPayloads-at}
use Rattle.gated_log.proofs.Ends.{spelling-push}
use Rattle.gated_log.proofs.block.spell_all.Goals as goal

pub spell-requires : goal.spell-requires
spell-requires c = subst IsPayload (sym c.as_slice.ensures) (AllPayloads-at c.args.payloads.now c.loop-payload.payload-index c.payload-item.result c.requires (omega arith) c.payload-item.is)

pub loop-payload-preserved : goal.loop-payload-preserved
loop-payload-preserved c =
    let i = c.loop-payload.payload-index in
    let ps = c.args.payloads.now in
    c.in_ok-spell.ensures
    ∙ ap (λ (l : List ℕ). l ++ block c.as_slice.result.now) c.loop-payload.invariant
    ∙ ap (λ (l : List ℕ). spelling (take i ps) ++ block l) (c.as_slice.ensures ∙ c.payload-item.is)
    ∙ sym (spelling-push (take i ps) (get_or ps i c.payload-item.result))
    ∙ ap spelling (sym (take_more ps i c.payload-item.result (omega arith)))
