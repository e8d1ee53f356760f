use Rattle.std.proofs.Common.{rules, of_calls, ap, ◌∙◌}
use Rattle.std.proofs.lemmas.Fn.{always_returns_same}
use Rattle.std.proofs.lemmas.List.Sorted.{IsNonDecreasingBy-from_sort_by_key}
use Rattle.yew_calls.specs.Keyed.{nodes_of}
use Rattle.yew_calls.proofs.KeyOrders.{by_key-from_sort, by_key-map}
use Rattle.yew_calls.proofs.keyed.in_order.Goals as goal

pub returns : goal.returns
returns g c = λ key have.
    let sorted = IsNonDecreasingBy-from_sort_by_key (λ child. child.key) _ c.in_ok-sort_by_key.ensures.sorted (λ a r f k. search rules) in
    let stable = c.sort_by_key.ensures.stable (λ child. child.key) (always_returns_same _ _ _ (λ a r f k. search (rules, of_calls))) in
    ap nodes_of (by_key-from_sort (λ child. child.key) c.args.keyed.items c.sort_by_key.new.self.items sorted stable)
    ∙ by_key-map (λ child. child.node) (λ child. child.key) key c.args.keyed.items have
