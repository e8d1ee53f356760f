use Rattle.std.proofs.Common.{if◌then◌else◌, drop, ap, sym, ◌∙◌, arith}
use Rattle.std.specs.List.{list_all}
use Rattle.yew_lad.specs.Nodes.{has_candidate}
use Rattle.yew_lad.specs.SearchedOrder.{searched_order}
use Rattle.yew_lad.proofs.NextLaws.{bound-step, bound-stop, bound-end}
use Rattle.yew_lad.proofs.WordLaws.{all_unused}
use Rattle.yew_lad.proofs.problem.SubgraphProblem.bound.Goals as goal

pub take_from-requires : goal.take_from-requires
take_from-requires c = all_unused

pub loop-place-init : goal.loop-place-init
loop-place-init c = ap (λ k. list_all (has_candidate c.args.self.now c.args.node.now) (drop k (searched_order c.args.self.now.pattern))) c.count-place.ensures.value

pub returns-then-not-has_candidate : goal.returns-then-not-has_candidate
returns-then-not-has_candidate c =
    let l = c.loop-place-test.true in
    let n = c.places-place-end.ensures.value in
    ap (λ b. if b then 1 else 0)
    (sym (bound-stop c.args.self.now c.args.node.now c.loop-place.place (omega arith) (sym c.has_candidate.ensures ∙ c.if-not-has_candidate.true)) ∙ c.loop-place.invariant)

pub loop-place-preserved : goal.loop-place-preserved
loop-place-preserved c =
    let l = c.loop-place-test.true in
    let n = c.places-place-end.ensures.value in
    sym (bound-step c.args.self.now c.args.node.now c.loop-place.place (omega arith) (sym c.has_candidate.ensures ∙ c.if-not-has_candidate.false)) ∙ c.loop-place.invariant

pub returns : goal.returns
returns c =
    let l = c.loop-place-test.false in
    let n = c.places-place-end.ensures.value in
    ap (λ b. if b then 1 else 0) (sym (bound-end c.args.self.now c.args.node.now c.loop-place.place (omega arith)) ∙ c.loop-place.invariant)
