use Rattle.std.proofs.Common.{◌≡◌, ◌<◌, ◌≤◌, ◌^◌, List, length, map, drop}
use Rattle.yew_laws.specs.SearchTree.{search_tree}
use Rattle.yew_log.specs.Notes.{Note, visits}
use Rattle.yew_walk.specs.LogViews.{LogView, log_view}
use Rattle.yew_ranked.specs.FrontierStates.{frontier_state, IsSoFar, IsAmongChildren}
use Rattle.yew_ranked.specs.Tasks.{numbered_task}
use Rattle.yew_ranked.proofs.frontier.+walk_levels.Given as goal

abbrev pub decreases-walk_levels : goal.decreases-walk_levels
decreases-walk_levels g l = l.levels

abbrev pub decreases-children : goal.decreases-children
decreases-children g l = length (g.P.Problem.remaining l.problem l.kids)

-- the children from this number on are left, and those before it were dealt with
abbrev pub invariant-children : goal.invariant-children
invariant-children g l =
    let t = search_tree g.P.Problem l.problem in
    record {
      left : g.P.Problem.remaining l.problem l.kids ≡ drop l.number (g.P.Problem.children l.problem l.fn.node);
      number : l.number ≤ length (g.P.Problem.children l.problem l.fn.node);
      path : l.frontier.path.numbers ≡ l.fn.frontier.path.numbers;
      path_space : l.frontier.path.space ≡ l.fn.frontier.path.space;
      next : l.frontier.next ≤ 2 ^ 20;
      best : l.seat.best ≡ l.fn.seat.best;
      share : l.seat.share ≡ l.fn.seat.share;
      space : l.hand.path.space ≡ l.fn.hand.path.space;
      fits : g.T.Tally.fits l.tally l.hand.sum;
      among : (begun : LogView) (notes : List Note)
          → IsSoFar t (g.T.Tally.join l.tally) (g.T.Tally.none l.tally) (g.T.Tally.of l.tally) begun notes
          (frontier_state l.initial.seat l.initial.hand (log_view (g.R.Recorder.told l.initial.log) (g.R.Recorder.totals l.initial.log) (g.R.Recorder.number l.initial.log)) l.initial.frontier.next
          (map numbered_task l.initial.frontier.tasks.items))
          → 0 < length (visits notes)
          → IsAmongChildren t (g.T.Tally.join l.tally) (g.T.Tally.none l.tally) (g.T.Tally.of l.tally) l.levels l.fn.frontier.path.numbers (g.P.Problem.children l.problem l.fn.node) begun notes l.number
          (g.P.Problem.remaining l.problem l.kids)
          (frontier_state l.seat l.hand (log_view (g.R.Recorder.told l.log) (g.R.Recorder.totals l.log) (g.R.Recorder.number l.log)) l.frontier.next (map numbered_task l.frontier.tasks.items));
    }
