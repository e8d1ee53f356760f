use Rattle.std.proofs.Common.{◌≡◌, ◌<◌, ◌∙◌, List, length, sym, ap, arith}
use Rattle.std.specs.Prelude.{sum_by}
use Rattle.std.proofs.lemmas.List.{take_all}
use Rattle.std.proofs.lemmas.List.Sums.{sum_by_more}
use Rattle.yew_pool.specs.Passes.{PassView}
use Rattle.yew_pool.proofs.closing.look_at_shares.Goals as goal

pub loop-at-preserved : goal.loop-at-preserved
loop-at-preserved g c =
    let below : c.loop-at.at < length c.args.passes.now.items = omega (arith, c.args.passes.now.ok.0) in
    let more = sum_by_more (λ (p : PassView _ _). p.share) c.args.passes.now.items c.loop-at.at c.index.result.now below in
    let here = ap (λ (p : PassView _ _). p.share) c.index.ensures in
    omega (arith, more, here, c.number.ensures.share, c.loop-at.invariant)

pub returns : goal.returns
returns g c =
    let end : length c.args.passes.now.items ≡ c.loop-at.at = omega (arith, c.args.passes.now.ok.0) in
    let all = take_all c.loop-at.at c.args.passes.now.items (omega (arith, end)) in
    ap (λ (l : List (PassView _ _)). sum_by (λ (p : PassView _ _). p.share) l) (sym all) ∙ (c.loop-at.invariant ∙ sym end)
