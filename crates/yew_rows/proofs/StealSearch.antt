-- The two logs are those of a whole search.
use Rattle.std.proofs.Common.{[], ◌∷◌, None, inl, inr, refl, arith}
use Rattle.yew_laws.specs.Tree.{tree}
use Rattle.yew_log.specs.Groups.{one, by_steal}
use Rattle.yew_log.specs.WholeSearch.{AreLogs}
use Rattle.yew_rows.specs.Trees.{knapsack}
use Rattle.yew_rows.specs.Logs.{giving_log, asking_log}
use Rattle.yew_rows.proofs.StealLogs.{giving_log-lawful, asking_log-lawful}

pub steal_logs-search : AreLogs knapsack 0 (by_steal one) 2 (giving_log ∷ asking_log ∷ []) None
unfolding tree
steal_logs-search = record {
  one_each = refl;
  lawful = (giving_log-lawful, (asking_log-lawful, tt));
  tasks = record { weighs = λ weight. omega arith };
  cover = record { root_visited = (0, omega arith, refl); each_once = record { weighs = λ weight. omega arith } };
  attained = record {
    worths = (refl, (refl, (refl, (refl, (refl, tt)))));
    bounds = (refl, (refl, (refl, (refl, (refl, tt)))));
    permitted = (omega arith, (omega arith, (omega arith, (omega arith, (omega arith, tt)))));
    attained = (inl refl, (inr (0, omega arith, refl), (inr (1, omega arith, refl), (inr (0, omega arith, refl), (inr (3, omega arith, refl), (inr (4, omega arith, refl), (inr (4, omega arith, refl), (inr (4, omega arith, refl), (inr (4, omega arith, refl), (inr (4, omega arith, refl), tt))))))))));
  };
  best = tt;
}
