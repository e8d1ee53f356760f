use Rattle.std.proofs.Common.{◌∙◌, ◌∷◌, [], ap}
use Rattle.yew_laws.specs.Tasks.{Members}
use Rattle.yew_laws.specs.declared.problem.Task.{Task}
use Rattle.yew_mail.specs.Seats.{SeatView}
use Rattle.yew_mail.specs.Views.{first_of, found}
use Rattle.yew_mail.specs.declared.view.Call.TheVariants.{Look, CloseBox}
use Rattle.yew_mail.specs.declared.view.OwnBox.TheVariants.{Unknown}
use Rattle.yew_crew.specs.Looks.{is_asked}
use Rattle.yew_crew.specs.Outlets.{HandingView}
use Rattle.yew_crew.proofs.IdleSteps.{quiet-close, quiet-denied, idle-found, looked-behind, owned-then}
use Rattle.yew_crew.proofs.handing.Handing.close.Goals as goal

pub returns-in-Shut-clause-idle : goal.returns-in-Shut-clause-idle
returns-in-Shut-clause-idle g c =
    let s = c.self.inside.seat in
    idle-found c.args.self.now c.self.inside.problem.now s c.close_box.new.seat c.self.inside.tasks (found CloseBox (first_of s.numbers) c.close_box.result ∷ []) _ _ c.self.view_is
    (quiet-close (first_of s.numbers) c.close_box.result (ap is_asked c.in-Shut.is)) c.close_box.ensures.close

pub returns-in-Ready-clause-idle : goal.returns-in-Ready-clause-idle
returns-in-Ready-clause-idle g c =
    let s = c.self.inside.seat in
    idle-found c.args.self.now c.self.inside.problem.now s c.close_box.new.seat c.self.inside.tasks (found CloseBox (first_of s.numbers) c.close_box.result ∷ []) _ _ c.self.view_is
    (quiet-close (first_of s.numbers) c.close_box.result (ap is_asked c.in-Ready.is)) c.close_box.ensures.close

pub returns-in-Given-clause-idle : goal.returns-in-Given-clause-idle
returns-in-Given-clause-idle g c =
    let s = c.self.inside.seat in
    idle-found c.args.self.now c.self.inside.problem.now s c.close_box.new.seat c.self.inside.tasks (found CloseBox (first_of s.numbers) c.close_box.result ∷ []) _ _ c.self.view_is
    (quiet-close (first_of s.numbers) c.close_box.result (ap is_asked c.in-Given.is)) c.close_box.ensures.close

pub returns-in-Denied-clause-idle : goal.returns-in-Denied-clause-idle
returns-in-Denied-clause-idle g c =
    let s = c.self.inside.seat in
    idle-found c.args.self.now c.self.inside.problem.now s c.close_box.new.seat c.self.inside.tasks (found CloseBox (first_of s.numbers) c.close_box.result ∷ []) _ _ c.self.view_is
    (quiet-close (first_of s.numbers) c.close_box.result (ap is_asked c.in-Denied.is)) c.close_box.ensures.close

pub returns-in-Asked-look-clause-idle : goal.returns-in-Asked-look-clause-idle
returns-in-Asked-look-clause-idle g c =
    let s = c.self.inside.seat in
    let entries = found CloseBox (first_of s.numbers) c.close_box.result ∷ found Look (first_of s.numbers) c.look.result ∷ [] in
    idle-found c.args.self.now c.self.inside.problem.now s c.deny.new.seat c.self.inside.tasks entries Unknown s.ask c.self.view_is
    (quiet-denied (first_of s.numbers) c.close_box.result c.look.result (ap is_asked c.in-Asked.is))
    (owned-then s c.look.new.seat c.deny.new.seat _ _ Unknown (looked-behind s c.close_box.new.seat c.look.new.seat _ c.look.result _ _ c.close_box.ensures.close c.look.ensures.look) c.deny.ensures)

pub returns-in_default : goal.returns-in_default
returns-in_default g c =
    let s = c.self.inside.seat in
    let entries = found CloseBox (first_of s.numbers) c.close_box.result ∷ found Look (first_of s.numbers) c.look.result ∷ [] in
    let seat = looked-behind s c.close_box.new.seat c.look.new.seat _ c.look.result _ _ c.close_box.ensures.close c.look.ensures.look in
    record {
      idle = idle-found c.args.self.now c.self.inside.problem.now s c.look.new.seat c.self.inside.tasks entries _ s.ask c.self.view_is
          (quiet-denied (first_of s.numbers) c.close_box.result c.look.result (ap is_asked c.in-Asked.is)) seat;
      ask = ap (λ (m : SeatView (Task _) (Members _)). m.ask) seat ∙ ap (λ (o : HandingView _ _). o.seat.ask) c.self.view_is;
    }
