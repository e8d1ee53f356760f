use Rattle.std.proofs.Common.{◌≡◌}
use Rattle.std.specs.List.{AllByRecursion}
use Rattle.yew_laws.specs.SearchTree.{search_tree, IsTask}
use Rattle.yew_laws.specs.declared.problem.Task.{Task}
use Rattle.yew_mail.specs.declared.view.Ask.TheVariants.{Nowhere}
use Rattle.yew_stack.specs.Splits.{paths_of}
use Rattle.yew_walk.specs.LogViews.{log_view}
use Rattle.yew_crew.specs.Rounds.{thief_station}
use Rattle.yew_crew.specs.Stations.{searched}
use Rattle.yew_crew.specs.Working.{IsWorking}
use Rattle.yew_crew.specs.declared.coord.Coord.TheVariants.{Steal}
use Rattle.yew_crew.proofs.steal_worker.all_rounds.Given as goal

abbrev pub invariant-loop : goal.invariant-loop
invariant-loop g l =
    (goal.iterator-loop g).can_next l.iterator' × (goal.iterator-loop g).is_finite l.iterator' ×
    IsWorking (searched (search_tree g.P.Problem l.problem) (g.T.Tally.join l.tally) (g.T.Tally.none l.tally) (g.T.Tally.of l.tally)
    (λ r. log_view (g.R.Recorder.told r) (g.R.Recorder.totals r) (g.R.Recorder.number r)) (Steal l.chunk) l.shared.gap) (paths_of l.gift.items) (thief_station l.fn.thief) (thief_station l.thief) ×
    AllByRecursion (λ (task : Task _). IsTask g.P.Problem l.problem task.path.numbers task.node) l.gift.items × (l.thief.outlet.problem ≡ l.problem) ×
    (l.thief.outlet.seat.ask ≡ Nowhere) × g.T.Tally.fits l.tally l.thief.hand.sum
