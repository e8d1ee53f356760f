use Rattle.std.proofs.Common.{◌≡◌, [], sym, subst}
use Rattle.yew_laws.specs.SearchTree.{IsTask}
use Rattle.yew_mail.specs.declared.view.Ask.TheVariants.{Nowhere}
use Rattle.yew_crew.specs.Idling.{IsIdleStep}
use Rattle.yew_crew.proofs.IdleSteps.{idle-none, idle-twice, answer-before}
use Rattle.yew_crew.proofs.handing.Handing.ask_others.Goals as goal
use Rattle.yew_crew.proofs.handing.Handing.ask_others.Goals.{then-victim-number+in-Nothing, else-victim-number}

pub loop-init : goal.loop-init
loop-init g c = (idle-none c.args.self.now, c.requires.no_ask)

pub loop-preserved : goal.loop-preserved
loop-preserved g c = elim c.if-victim-number.branch [
  | then-victim-number+in-Nothing w ↦
      subst (λ o. IsIdleStep [] c.args.self.now o × (o.seat.ask ≡ Nowhere)) (sym w.self-is)
      (idle-twice [] [] c.args.self.now c.loop.self w.ask_one.new.self c.loop.invariant.0 w.in-Nothing.ensures.0, w.in-Nothing.ensures.1)
  | else-victim-number w ↦ subst (λ o. IsIdleStep [] c.args.self.now o × (o.seat.ask ≡ Nowhere)) (sym w.self-is) c.loop.invariant
]

pub returns-in_default : goal.returns-in_default
returns-in_default g c =
    answer-before (λ problem task. IsTask g.P.Problem problem task.path.numbers task.node) Nowhere c.args.self.now c.loop.self c.ask_one.new.self c.ask_one.result c.loop.invariant.0 c.ask_one.ensures
