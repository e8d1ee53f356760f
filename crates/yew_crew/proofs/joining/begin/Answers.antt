use Rattle.std.proofs.Common.{◌∙◌, ap, refl, [], ◌∷◌, ◌++◌}
use Rattle.yew_crew.proofs.joining.begin.Goals as goal

pub returns : goal.returns
returns g c = record {
  best = refl;
  tasks = refl;
  passes = c.in_ok-push.ensures.items ∙ ap (λ l. l ++ c.args.report.station.pool ∷ []) c.new-passes.ensures.items;
  seats = c.in_ok-push-2.ensures.items ∙ ap (λ l. l ++ c.args.report.station.mail ∷ []) c.new-seats.ensures.items;
  hands = c.in_ok-push-3.ensures.items ∙ ap (λ l. l ++ c.args.report.station.hand ∷ []) c.new-hands.ensures.items;
  logs = c.in_ok-push-4.ensures.items ∙ ap (λ l. l ++ c.args.report.station.log ∷ []) c.new-logs.ensures.items;
  fault = c.note_fault.ensures;
}
