use Rattle.std.proofs.Common.{◌≡◌, ◌≢◌, ℕ, ◌==◌, true, false, sym, below_more, arith}
use Rattle.std.proofs.lemmas.Bool.Decides.{nat_tests}
use Rattle.std.proofs.lemmas.List.Sums.{position_or_len_is}
use Rattle.yew_lad.specs.Nodes.{vertex_at}
use Rattle.yew_lad.specs.OrderLaws.{length-searched_order}
use Rattle.yew_lad.specs.SearchedOrder.{searched_order}
use Rattle.yew_lad.proofs.subgraph.Subgraph.place_of.Goals as goal

other : (j k m : ℕ) → j ≡ k → j ≢ m → (k == m) ≡ false
other j k m e n = grind (arith, nat_tests, e, n)

same : (j k m : ℕ) → j ≡ k → j ≡ m → (k == m) ≡ true
same j k m e n = grind (arith, nat_tests, e, n)

pub loop-place-preserved : goal.loop-place-preserved
loop-place-preserved c = below_more _ _ c.loop-place.invariant (other c.vertex.result (vertex_at c.args.self.now c.loop-place.place) c.args.v c.vertex.ensures c.if-vertex-v.false)

pub returns-then-vertex-v : goal.returns-then-vertex-v
returns-then-vertex-v c =
    let size = length-searched_order c.args.self.now.pattern in
    let n = c.places-place-end.ensures.value in
    let l = c.loop-place-test.true in
    sym (position_or_len_is (λ u. u == c.args.v) (searched_order c.args.self.now.pattern) c.loop-place.place 0 (omega arith) c.loop-place.invariant
    (λ m. same c.vertex.result (vertex_at c.args.self.now c.loop-place.place) c.args.v c.vertex.ensures c.if-vertex-v.true))

pub returns : goal.returns
returns c =
    let size = length-searched_order c.args.self.now.pattern in
    let n = c.places-place-end.ensures.value in
    let all = c.places.ensures.value in
    let l = c.loop-place-test.false in
    sym (position_or_len_is (λ u. u == c.args.v) (searched_order c.args.self.now.pattern) c.places.result 0 (omega arith) (λ k m. c.loop-place.invariant k (omega arith)) (λ m. absurd (omega arith)))
