use Rattle.std.proofs.Common.{◌≡◌, ◌-◌, map}
use Rattle.std.specs.List.{range_with_len, sum_by}
use Rattle.yew_tsp.specs.Instance.{Instance}
use Rattle.yew_tsp.specs.Nodes.{least_weight}
use Rattle.yew_tsp.proofs.tours.Tours.new.Given as goal

abbrev pub invariant-loop-city : goal.invariant-loop-city
invariant-loop-city l =
    let instance : Instance = record { cities = l.cities; weights = l.weights.items } in
    record {
      kept : l.least.items ≡ map (least_weight instance) (range_with_len 1 (l.city - 1));
      sum : l.total ≡ sum_by (least_weight instance) (range_with_len 1 (l.city - 1));
    }
