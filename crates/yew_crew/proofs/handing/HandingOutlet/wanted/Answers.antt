use Rattle.std.proofs.Common.{◌∙◌, ◌++◌, ◌∷◌, [], refl, sym, ap, Some, false}
use Rattle.yew_laws.specs.Tasks.{Members}
use Rattle.yew_laws.specs.declared.problem.Task.{Task}
use Rattle.yew_mail.specs.Seats.{SeatView}
use Rattle.yew_mail.specs.Views.{first_of}
use Rattle.yew_mail.specs.declared.view.OwnBox.TheVariants.{Waiting}
use Rattle.yew_crew.specs.Outlets.{HandingView, answers_of}
use Rattle.yew_crew.proofs.HandingCalls.{answers-look, looked-later, handing-keeps, not-shut, not-asked}
use Rattle.yew_crew.proofs.handing.HandingOutlet.wanted.Goals as goal

pub returns-in-Asked-clause-later : goal.returns-in-Asked-clause-later
returns-in-Asked-clause-later g c =
    looked-later c.args.self.now _ c.self.inside.seat c.self.inside.tasks (ap (λ (o : HandingView _ _). o.seat) (sym c.self.view_is)) (ap (λ (o : HandingView _ _). o.tasks) (sym c.self.view_is))
    c.look.result _ refl c.look.ensures.look c.look.ensures.waiting (λ e. absurd (not-shut c.look.result (λ is. cc) e))

pub returns-in-Shut-clause-later : goal.returns-in-Shut-clause-later
returns-in-Shut-clause-later g c =
    looked-later c.args.self.now _ c.self.inside.seat c.self.inside.tasks (ap (λ (o : HandingView _ _). o.seat) (sym c.self.view_is)) (ap (λ (o : HandingView _ _). o.tasks) (sym c.self.view_is))
    c.look.result Waiting refl (c.open_box.ensures ∙ ap (λ (s : SeatView (Task _) (Members _)). record s { own = Waiting }) c.look.ensures.look) c.look.ensures.waiting (λ _. refl)

pub returns-in_default : goal.returns-in_default
returns-in_default g c = record {
  answers = ap (λ (s : SeatView (Task _) (Members _)). Some (answers_of s.found)) c.look.ensures.look
      ∙ (ap Some (answers-look c.self.inside.seat.found (first_of c.self.inside.seat.numbers) c.look.result)
      ∙ (ap (λ b. Some (answers_of c.self.inside.seat.found ++ b ∷ [])) (not-asked c.look.result c.in_default.not-Asked)
      ∙ ap (λ (o : HandingView _ _). Some (answers_of o.seat.found ++ false ∷ [])) c.self.view_is));
  sent = ap (λ (s : SeatView (Task _) (Members _)). s.given) c.look.ensures.look ∙ ap (λ (o : HandingView _ _). o.seat.given) c.self.view_is;
  problem = ap (λ (o : HandingView _ _). o.problem) c.self.view_is;
  kept = handing-keeps c.args.self.now _ c.self.inside.seat c.self.inside.tasks (ap (λ (o : HandingView _ _). o.seat) (sym c.self.view_is)) (ap (λ (o : HandingView _ _). o.tasks) (sym c.self.view_is))
      _ _ _ (ap (λ (o : HandingView _ _). o.problem) c.self.view_is) c.look.ensures.look refl (λ k. k);
  later = looked-later c.args.self.now _ c.self.inside.seat c.self.inside.tasks (ap (λ (o : HandingView _ _). o.seat) (sym c.self.view_is)) (ap (λ (o : HandingView _ _). o.tasks) (sym c.self.view_is))
      c.look.result _ refl c.look.ensures.look c.look.ensures.waiting (λ e. absurd (not-shut c.look.result c.in_default.not-Shut e));
  goes = tt;
}
