use Rattle.std.proofs.Common.{◌≡◌, ◌+◌, length}
use Rattle.std.specs.Prelude.{vec_len}
use Rattle.yew_laws.specs.SearchTree.{search_tree}
use Rattle.yew_laws.specs.Tasks.{members_of}
use Rattle.yew_walk.specs.LogViews.{log_view}
use Rattle.yew_crew.specs.Starting.{IsSeating}
use Rattle.yew_crew.proofs.starting.make_others.Given as goal

abbrev pub invariant-loop-alloc : goal.invariant-loop-alloc
invariant-loop-alloc g l =
    IsSeating (members_of (search_tree g.P.Problem l.problem)) (g.T.Tally.none l.tally) (λ log. log_view (g.R.Recorder.told log) (g.R.Recorder.totals log) (g.R.Recorder.number log)) l.shared l.best l.tasks l.passes.items l.seats.items l.stations.items
    × (length l.stations.items + length l.passes.items ≡ length l.fn.passes.items)

abbrev pub decreases-loop-alloc : goal.decreases-loop-alloc
decreases-loop-alloc g l = vec_len l.passes
