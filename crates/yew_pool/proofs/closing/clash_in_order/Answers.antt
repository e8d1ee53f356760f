use Rattle.std.proofs.Common.{◌∙◌, sym, ap, arith}
use Rattle.yew_pool.specs.Passes.{PassView}
use Rattle.yew_pool.proofs.closing.clash_in_order.Goals as goal

pub meet-requires-clause-pool : goal.meet-requires-clause-pool
meet-requires-clause-pool g c =
    let first = c.swap_remove-first.ensures.value
    ∙ c.swap_remove-second.ensures.by_index.1 c.args.low c.swap_remove-first.result (omega (arith, c.requires.within))
    (omega (arith, c.requires.within, c.args.passes.now.ok.0)) in
    ap (λ (p : PassView _ _). p.pool) c.swap_remove-second.ensures.value
    ∙ (sym (c.requires.pool c.swap_remove-first.result c.swap_remove-second.result) ∙ sym (ap (λ (p : PassView _ _). p.pool) first))

pub meet-requires-clause-number : goal.meet-requires-clause-number
meet-requires-clause-number g c =
    let first = c.swap_remove-first.ensures.value
    ∙ c.swap_remove-second.ensures.by_index.1 c.args.low c.swap_remove-first.result (omega (arith, c.requires.within))
    (omega (arith, c.requires.within, c.args.passes.now.ok.0)) in
    ap (λ (p : PassView _ _). p.number) c.swap_remove-second.ensures.value
    ∙ (sym (c.requires.number c.swap_remove-first.result c.swap_remove-second.result) ∙ sym (ap (λ (p : PassView _ _). p.number) first))
