use Rattle.std.proofs.Common.{◌≡◌}
use Rattle.yew_stack.specs.ToCome.{turns_left, AllOpen}
use Rattle.yew_walk.specs.LogViews.{log_view}
use Rattle.yew_walk.specs.Scenes.{scene, IsWalking}
use Rattle.yew_walk.proofs.walking.walk_by.Given as goal

-- the walk is under way since the call began
abbrev pub invariant-loop-stack : goal.invariant-loop-stack
invariant-loop-stack g l =
    let meaning = g.P.Problem in
    let outlet = g.O.Outlet in
    let log = g.R.Recorder in
    record {
      levels_open : AllOpen meaning l.problem l.stack.levels;
      seat : l.seat.best ≡ l.fn.seat.best;
      share : l.seat.share ≡ l.fn.seat.share;
      space : l.hand.path.space ≡ l.fn.hand.path.space;
      fits : g.T.Tally.fits l.tally l.hand.sum;
      problem : outlet.problem l.outlet ≡ outlet.problem l.fn.outlet;
      kept : outlet.kept l.fn.outlet l.outlet;
      later : outlet.later l.fn.outlet l.outlet;
      walking : IsWalking meaning l.problem l.keying (g.T.Tally.join l.tally) (g.T.Tally.of l.tally) g.Q.Policy.meaning l.fn.task.path.numbers (λ calls. outlet.goes l.fn.outlet calls l.outlet)
          (scene l.fn.seat l.fn.hand l.fn.policy (outlet.sent l.fn.outlet) (outlet.answers l.fn.outlet) (log_view (log.told l.fn.log) (log.totals l.fn.log) (log.number l.fn.log)))
          (scene l.seat l.hand l.policy (outlet.sent l.outlet) (outlet.answers l.outlet) (log_view (log.told l.log) (log.totals l.log) (log.number l.log)))
          l.stack.levels;
    }

-- each level, and two for each node that is still to come
abbrev pub decreases-loop-stack : goal.decreases-loop-stack
decreases-loop-stack g l = turns_left g.P.Problem l.problem l.stack.levels
