use Rattle.std.proofs.Common.{◌∙◌, ◌∷◌, [], ap, subst}
use Rattle.std.specs.List.{AllByRecursion}
use Rattle.yew_laws.specs.SearchTree.{IsTask}
use Rattle.yew_laws.specs.Tasks.{Members}
use Rattle.yew_laws.specs.declared.problem.Task.{Task}
use Rattle.yew_mail.specs.Seats.{SeatView}
use Rattle.yew_mail.specs.Views.{first_of, found}
use Rattle.yew_mail.specs.declared.boxes.Seen.TheVariants.{Asked, Given, Denied}
use Rattle.yew_mail.specs.declared.view.Ask.TheVariants.{Nowhere}
use Rattle.yew_mail.specs.declared.view.Call.TheVariants.{Fetch}
use Rattle.yew_crew.specs.Outlets.{HandingView}
use Rattle.yew_crew.proofs.HandingCalls.{sound_for-tasks}
use Rattle.yew_crew.proofs.IdleSteps.{quiet-fetch, idle-call, idle-found, if_tasks-map, denied-map, not_yet-map}
use Rattle.yew_crew.proofs.handing.Handing.fetch.Goals as goal

pub returns-clause-tasks : goal.returns-clause-tasks
returns-clause-tasks g c =
    let own = c.self.inside in
    let s = own.seat in
    let number = first_of s.numbers in
    if_tasks-map c.fetch.result (λ tasks is. (
      idle-call c.args.self.now own.problem.now s c.fetch.new.seat own.tasks tasks (found Fetch c.args.victim (Given number) ∷ []) s.own Nowhere c.self.view_is (quiet-fetch c.args.victim (Given number)) is.2,
      ap (λ (m : SeatView (Task _) (Members _)). m.ask) is.2,
      subst (λ p. AllByRecursion (λ (task : Task _). IsTask g.P.Problem p task.path.numbers task.node) tasks) (ap (λ (o : HandingView _ _). o.problem) c.self.view_is)
          (sound_for-tasks g.P.Problem own.problem.now (g.P.Problem.ranked own.problem.now) c.self.invariant.3 s.members c.self.invariant.2 tasks is.1),
    )) c.fetch.ensures.tasks

pub returns-clause-denied : goal.returns-clause-denied
returns-clause-denied g c =
    let own = c.self.inside in
    let s = own.seat in
    let number = first_of s.numbers in
    denied-map c.fetch.result (λ is. (
      idle-found c.args.self.now own.problem.now s c.fetch.new.seat own.tasks (found Fetch c.args.victim (Denied number) ∷ []) s.own Nowhere c.self.view_is (quiet-fetch c.args.victim (Denied number)) is,
      ap (λ (m : SeatView (Task _) (Members _)). m.ask) is,
    )) c.fetch.ensures.denied

pub returns-clause-not_yet : goal.returns-clause-not_yet
returns-clause-not_yet g c =
    let own = c.self.inside in
    let s = own.seat in
    let number = first_of s.numbers in
    not_yet-map c.fetch.result (λ is. (
      idle-found c.args.self.now own.problem.now s c.fetch.new.seat own.tasks (found Fetch c.args.victim (Asked number) ∷ []) s.own s.ask c.self.view_is (quiet-fetch c.args.victim (Asked number)) is,
      ap (λ (m : SeatView (Task _) (Members _)). m.ask) is ∙ (ap (λ (o : HandingView _ _). o.seat.ask) c.self.view_is ∙ c.requires.ask),
    )) c.fetch.ensures.not_yet
