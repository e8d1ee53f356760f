use Rattle.std.proofs.Common.{[], subst}
use Rattle.yew_laws.specs.SearchTree.{IsTask}
use Rattle.yew_mail.specs.declared.view.Ask.TheVariants.{Nowhere}
use Rattle.yew_crew.specs.Idling.{IsAnswer}
use Rattle.yew_crew.proofs.IdleSteps.{idle-twice, answer-before}
use Rattle.yew_crew.proofs.handing.Handing.idle.Goals as goal

pub returns-in-Nothing : goal.returns-in-Nothing
returns-in-Nothing g c =
    let asked = idle-twice [] [] c.args.self.now c.close.new.self c.ask_others.new.self c.close.ensures.idle c.in-Nothing.ensures.0 in
    answer-before (λ problem task. IsTask g.P.Problem problem task.path.numbers task.node) Nowhere c.args.self.now c.ask_others.new.self c.is_over.new.self c.is_over.result asked
    (subst (λ ask. IsAnswer (λ task. IsTask g.P.Problem c.ask_others.new.self.problem task.path.numbers task.node) ask c.ask_others.new.self c.is_over.new.self c.is_over.result) c.in-Nothing.ensures.1 c.is_over.ensures)

pub returns-in_default : goal.returns-in_default
returns-in_default g c =
    answer-before (λ problem task. IsTask g.P.Problem problem task.path.numbers task.node) Nowhere c.args.self.now c.close.new.self c.ask_others.new.self c.ask_others.result c.close.ensures.idle c.ask_others.ensures
