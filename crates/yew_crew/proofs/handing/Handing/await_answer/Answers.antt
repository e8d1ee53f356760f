use Rattle.std.proofs.Common.{◌∙◌, []}
use Rattle.yew_laws.specs.SearchTree.{IsTask}
use Rattle.yew_mail.specs.declared.view.Ask.TheVariants.{Nowhere}
use Rattle.yew_crew.specs.declared.idling.Answer.TheVariants.{Gift, Nothing}
use Rattle.yew_crew.proofs.IdleSteps.{idle-none, idle-twice, answer-before, answer-other}
use Rattle.yew_crew.proofs.handing.Handing.await_answer.Goals as goal

pub loop-init : goal.loop-init
loop-init g c = (tt, tt, idle-none c.args.self.now, c.requires.ask)

pub loop-preserved : goal.loop-preserved
loop-preserved g c =
    let fetched = idle-twice [] [] c.args.self.now c.loop.self c.fetch.new.self c.loop.invariant.2 c.in-NotYet.ensures.not_yet.0 in
    (tt, tt, idle-twice [] [] c.args.self.now c.fetch.new.self c.is_over.new.self fetched c.in-Nothing.ensures.0, c.in-Nothing.ensures.1 ∙ c.in-NotYet.ensures.not_yet.1)

pub returns-in-Tasks : goal.returns-in-Tasks
returns-in-Tasks g c =
    answer-before (λ problem task. IsTask g.P.Problem problem task.path.numbers task.node) Nowhere c.args.self.now c.loop.self c.fetch.new.self (Gift c.in-Tasks.tasks) c.loop.invariant.2 c.in-Tasks.ensures.tasks

pub returns-in-Denied : goal.returns-in-Denied
returns-in-Denied g c =
    answer-before (λ problem task. IsTask g.P.Problem problem task.path.numbers task.node) Nowhere c.args.self.now c.loop.self c.fetch.new.self Nothing c.loop.invariant.2 c.in-Denied.ensures.denied

pub returns-in_default : goal.returns-in_default
returns-in_default g c =
    let fetched = idle-twice [] [] c.args.self.now c.loop.self c.fetch.new.self c.loop.invariant.2 c.in-NotYet.ensures.not_yet.0 in
    answer-before (λ problem task. IsTask g.P.Problem problem task.path.numbers task.node) Nowhere c.args.self.now c.fetch.new.self c.is_over.new.self c.is_over.result fetched
    (answer-other (λ task. IsTask g.P.Problem c.fetch.new.self.problem task.path.numbers task.node) c.fetch.new.self.seat.ask Nowhere c.fetch.new.self c.is_over.new.self c.is_over.result c.in_default.not-Nothing c.is_over.ensures)
