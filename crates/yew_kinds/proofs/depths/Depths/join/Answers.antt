use Rattle.std.proofs.Common.{◌≡◌, ◌+◌, ◌<◌, suc, length, slice_set, get_or, ap, ap₂, ◌∙◌, arith}
use Rattle.std.proofs.lemmas.List.{get_or_read}
use Rattle.yew_kinds.specs.DepthCounts.{saturated}
use Rattle.yew_kinds.proofs.JoinedCounts.{partly_joined, partly_joined-more, length-partly_joined}
use Rattle.yew_kinds.proofs.depths.Depths.join.Goals as goal

pub loop-k-preserved : goal.loop-k-preserved
loop-k-preserved c =
    let xs = c.self.inside.counts.items in
    let ys = c.args.other.now in
    let k = c.loop-k.k in
    let now = c.loop-k.self-inside.counts.items in
    let own : xs ≡ c.args.self.now = c.self.view_is in
    let others : c.deref-more-items.result.now ≡ ys = c.deref-more-items.ensures.value ∙ c.other.view_is in
    let equal : length xs ≡ length ys = ap length own ∙ c.requires in
    let test : k < length c.deref-more-items.result.now = c.loop-k-test.true in
    let within : k < length xs = omega (arith, ap length others, equal, test) in
    let kept : length now ≡ length xs = ap length c.loop-k.invariant ∙ length-partly_joined k xs ys equal in
    let read : c.index.result.now ≡ get_or now k 0 = get_or_read now k c.index.result.now (omega (arith, kept, within)) c.index.ensures 0 in
    let sum : c.saturating_add.result ≡ saturated (get_or now k 0 + get_or ys k 0) =
    c.saturating_add.ensures ∙ ap₂ (λ a b. saturated (a + b)) read (ap (λ zs. get_or zs k 0) others) in
    ap (slice_set now k) sum
    ∙ ap (λ zs. slice_set zs k (saturated (get_or zs k 0 + get_or ys k 0))) c.loop-k.invariant
    ∙ partly_joined-more k xs ys equal within
    ∙ (let next : suc k ≡ k + 1 = omega arith in ap (λ j. partly_joined j xs ys) next)
