use Rattle.std.proofs.Common.{◌∷◌, [], ap}
use Rattle.yew_laws.specs.Tasks.{Members}
use Rattle.yew_laws.specs.declared.problem.Task.{Task}
use Rattle.yew_mail.specs.Seats.{SeatView}
use Rattle.yew_mail.specs.Views.{found}
use Rattle.yew_mail.specs.declared.view.Call.TheVariants.{Ask}
use Rattle.yew_crew.proofs.IdleSteps.{quiet-ask, idle-found, ask-match}
use Rattle.yew_crew.proofs.handing.Handing.ask.Goals as goal

pub returns-clause-idle : goal.returns-clause-idle
returns-clause-idle g c =
    let s = c.self.inside.seat in
    idle-found c.args.self.now c.self.inside.problem.now s c.ask.new.seat c.self.inside.tasks (found Ask c.args.victim c.ask.ensures.0 ∷ []) s.own _ c.self.view_is (quiet-ask c.args.victim c.ask.ensures.0) c.ask.ensures.2

pub returns-clause-ask : goal.returns-clause-ask
returns-clause-ask g c = ask-match c.ask.result c.args.victim c.ask.ensures.0 _ c.ask.ensures.1 (ap (λ (m : SeatView (Task _) (Members _)). m.ask) c.ask.ensures.2)
