use Rattle.std.proofs.Common.{refl}
use Rattle.yew_crew.proofs.SoundTasks.{spawning-takes}
use Rattle.yew_crew.proofs.spawning.Spawning.take.Goals as goal

pub returns-clause-task : goal.returns-clause-task
returns-clause-task g c =
    let own = c.self.inside in
    spawning-takes g.P.Problem own.problem.now (g.P.Problem.ranked own.problem.now) c.self.invariant.3 own.pass.members c.self.invariant.2
    c.args.self.now own.pass c.take.new.pass own.tasks c.take.result c.self.view_is refl c.take.ensures.task
