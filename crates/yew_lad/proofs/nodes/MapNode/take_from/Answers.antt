use Rattle.std.proofs.Common.{◌≡◌, take, ap, subst, ◌∙◌, arith}
use Rattle.std.proofs.Math.ListN.{length-set}
use Rattle.yew_lad.specs.NodeWords.{AreUnused}
use Rattle.yew_lad.proofs.WordLaws.{unused-more}
use Rattle.yew_lad.proofs.nodes.MapNode.take_from.Goals as goal

pub loop-place-init : goal.loop-place-init
loop-place-init c = (c.told-words, c.requires)

pub loop-place-preserved : goal.loop-place-preserved
loop-place-preserved c =
    let s = c.self.inside in (
      length-set c.loop-place.words _ _ ∙ c.loop-place.invariant.0,
      unused-more s.images c.loop-place.words s.count c.loop-place.place c.loop-place-test.true (let size = c.self.told in let most = c.self.invariant.0 in omega (arith, size, most)) c.loop-place.invariant.0 c.self.invariant.1 c.loop-place.invariant.1,
    )

pub returns : goal.returns
returns c =
    let l = c.loop-place-test.false in
    let m = c.loop-place.auto.place-end in
    let all : c.loop-place.place ≡ c.self.inside.count = omega (arith, l, m) in
    subst (λ xs. AreUnused xs c.loop-place.words) (ap (λ k. take k c.self.inside.images) all ∙ c.self.view_is) c.loop-place.invariant.1
