use Rattle.std.proofs.Common.{sym, ap, subst}
use Rattle.std.specs.List.{AllByRecursion}
use Rattle.yew_laws.specs.SearchTree.{IsTask}
use Rattle.yew_laws.specs.declared.problem.Task.{Task}
use Rattle.yew_crew.specs.Outlets.{HandingView}
use Rattle.yew_crew.proofs.HandingCalls.{tasks-sound_for}
use Rattle.yew_crew.proofs.handing.HandingOutlet.send.Goals as goal

pub give-requires-clause-sound : goal.give-requires-clause-sound
give-requires-clause-sound g c =
    let problem = c.self.inside.problem.now in
    tasks-sound_for g.P.Problem problem (g.P.Problem.ranked problem) c.self.invariant.3 c.self.inside.seat.members c.self.invariant.2 c.args.tasks.items
    (subst (λ p. AllByRecursion (λ (task : Task _). IsTask g.P.Problem p task.path.numbers task.node) c.args.tasks.items) (sym (ap (λ (o : HandingView _ _). o.problem) c.self.view_is)) c.requires)
