use Rattle.std.proofs.Common.{sym, ap, subst, arith, OnErr}
use Rattle.std.specs.List.{AllByRecursion}
use Rattle.yew_laws.specs.SearchTree.{IsTask}
use Rattle.yew_walk.proofs.Results.{OnOk-map}
use Rattle.yew_walk.specs.Outlets.{IsSentPart}
use Rattle.yew_crew.specs.OpenSeats.{OpenSeatView}
use Rattle.yew_crew.specs.Outlets.{SpawningView}
use Rattle.yew_crew.proofs.Putting.{spawns_later}
use Rattle.yew_crew.proofs.SoundTasks.{on_err, tasks-sound, sent-ours}
use Rattle.yew_crew.proofs.spawning.SpawningOutlet.send.Goals as goal

pub returns-clause-later : goal.returns-clause-later
returns-clause-later g c = OnOk-map c.put_all.result
    (spawns_later c.args.self.now _ c.self.inside.pass c.self.inside.tasks c.args.tasks.items c.len.result (ap (λ (o : SpawningView _ _). o.pass) (sym c.self.view_is)) (ap (λ (o : SpawningView _ _). o.tasks) (sym c.self.view_is))
    (ap (λ (s : OpenSeatView). s.made) c.made.ensures) (omega (arith, c.len.ensures, c.args.tasks.ok.0))) c.put_all.ensures.ok

pub put_all-requires-clause-sound : goal.put_all-requires-clause-sound
put_all-requires-clause-sound g c =
    let own = c.self.inside in
    tasks-sound g.P.Problem own.problem.now (g.P.Problem.ranked own.problem.now) c.self.invariant.3 own.pass.members c.self.invariant.2 c.args.tasks.items
    (subst (λ (o : SpawningView _ _). AllByRecursion (λ task. IsTask g.P.Problem o.problem task.path.numbers task.node) c.args.tasks.items) (sym c.self.view_is) c.requires)

pub returns-clause-err : goal.returns-clause-err
returns-clause-err g c =
    let own = c.self.inside in
    subst (λ (o : SpawningView _ _). OnErr c.put_all.result (IsSentPart (λ task. IsTask g.P.Problem o.problem task.path.numbers task.node) o.pass.put c.args.tasks.items c.put_all.new.pass.put)) c.self.view_is
    (on_err c.put_all.result
    (sent-ours g.P.Problem own.problem.now (g.P.Problem.ranked own.problem.now) c.self.invariant.3 own.pass.members c.self.invariant.2 own.pass.put c.args.tasks.items c.put_all.new.pass.put)
    c.put_all.ensures.err)
