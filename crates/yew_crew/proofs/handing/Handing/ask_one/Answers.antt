use Rattle.yew_laws.specs.SearchTree.{IsTask}
use Rattle.yew_mail.specs.declared.view.Ask.TheVariants.{Nowhere}
use Rattle.yew_crew.proofs.IdleSteps.{answer-before}
use Rattle.yew_crew.proofs.handing.Handing.ask_one.Goals as goal

pub returns-then-ask : goal.returns-then-ask
returns-then-ask g c =
    answer-before (λ problem task. IsTask g.P.Problem problem task.path.numbers task.node) Nowhere c.args.self.now c.ask.new.self c.await_answer.new.self c.await_answer.result c.ask.ensures.idle c.await_answer.ensures
