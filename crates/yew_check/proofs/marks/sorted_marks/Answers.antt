-- The sort is by the paths.
use Rattle.std.proofs.Common.{◌+◌, get_or, sym, subst, ◌∙◌, arith}
use Rattle.std.specs.List.Sorted.{IsPermutation}
use Rattle.std.proofs.lemmas.List.Sorted.{IsPermutation-map}
use Rattle.yew_log.proofs.PathOrders.{less-comes_before}
use Rattle.yew_check.specs.Marks.{seen, all_seen}
use Rattle.yew_check.proofs.Sorting.{in-order}
use Rattle.yew_check.proofs.marks.sorted_marks.Goals as goal

pub returns-clause-same : goal.returns-clause-same
returns-clause-same c = subst (λ ms. IsPermutation ms (all_seen c.sort.new.self.items)) c.in_ok-found.ensures (IsPermutation-map seen c.in_ok-found.found.items c.sort.new.self.items c.in_ok-sort.ensures.permutation)

pub returns-clause-order : goal.returns-clause-order
returns-clause-order c =
    let xs = c.sort.new.self.items in
    in-order seen xs (λ k d less. sym (less-comes_before (seen (get_or xs (k + 1) d)).path (seen (get_or xs k d)).path) ∙ c.in_ok-sort.ensures.sorted k d (omega arith) (omega arith))
