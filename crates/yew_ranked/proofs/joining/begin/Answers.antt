use Rattle.std.proofs.Common.{◌∙◌, ap, refl, [], ◌∷◌, ◌++◌}
use Rattle.yew_ranked.proofs.joining.begin.Goals as goal

pub returns : goal.returns
returns g c = record {
  best = refl;
  claims = refl;
  stop = refl;
  hands = c.in_ok-push.ensures.items ∙ ap (λ l. l ++ c.args.report.station.hand ∷ []) c.new-hands.ensures.items;
  logs = c.in_ok-push-2.ensures.items ∙ ap (λ l. l ++ c.args.report.station.log ∷ []) c.new-logs.ensures.items;
  fault = c.note_fault.ensures;
}
