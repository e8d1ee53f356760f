use Rattle.std.proofs.Common.{◌≡◌, ℕ, ◌+◌, ◌<◌, ◌≤◌, ◌^◌, Bool, if◌then◌else◌, ap₂, sym, ◌∙◌, arith, length}
use Rattle.std.specs.List.{filter, range_with_len}
use Rattle.yew_lad.specs.Digraphs.{is_other_arc}
use Rattle.yew_lad.specs.Lists.{picked-few}
use Rattle.yew_lad.proofs.Ranges.{count-more}
use Rattle.yew_lad.proofs.profiles.profile_at.Goals as goal

at_most_one : (b : Bool) (n : ℕ) → n ≡ (if b then 1 else 0) → n ≤ 1
at_most_one b n e = grind (arith, e)

count-fits : (test : ℕ → Bool) (u count one n : ℕ) → count ≡ length (filter test (range_with_len 0 u)) → one ≡ (if test u then 1 else 0) → u < n → n ≤ 1024 → count + one < 2 ^ 32
count-fits test u count one n is own l small =
    let few = picked-few test 0 u in
    let most = at_most_one (test u) one own in
    omega (arith, few, most, is)

count-step : (test : ℕ → Bool) (u count one : ℕ) → count ≡ length (filter test (range_with_len 0 u)) → one ≡ (if test u then 1 else 0) → count + one ≡ length (filter test (range_with_len 0 (u + 1)))
count-step test u count one is own = ap₂ (λ a b. a + b) is own ∙ sym (count-more test u)

pub overflow_add-successors : goal.overflow_add-successors
overflow_add-successors c =
    let fits = count-fits (λ u. is_other_arc c.args.graph.now c.args.v u) c.loop-u.u c.loop-u.successors c.arc_count-successors.result c.size-u-end.result c.loop-u.invariant.successors c.arc_count-successors.ensures c.loop-u-test.true c.size-u-end.ensures.small in
    omega (arith, fits)

pub overflow_add-predecessors : goal.overflow_add-predecessors
overflow_add-predecessors c =
    let fits = count-fits (λ u. is_other_arc c.args.graph.now u c.args.v) c.loop-u.u c.loop-u.predecessors c.arc_count-predecessors.result c.size-u-end.result c.loop-u.invariant.predecessors c.arc_count-predecessors.ensures c.loop-u-test.true c.size-u-end.ensures.small in
    omega (arith, fits)

pub loop-u-preserved : goal.loop-u-preserved
loop-u-preserved c = record {
  successors = count-step (λ u. is_other_arc c.args.graph.now c.args.v u) c.loop-u.u c.loop-u.successors c.arc_count-successors.result c.loop-u.invariant.successors c.arc_count-successors.ensures;
  predecessors = count-step (λ u. is_other_arc c.args.graph.now u c.args.v) c.loop-u.u c.loop-u.predecessors c.arc_count-predecessors.result c.loop-u.invariant.predecessors c.arc_count-predecessors.ensures;
}
