-- The word that is left.
use Rattle.std.proofs.Common.{refl, sym, ap, ◌∙◌}
use Rattle.yew_text.specs.Position.{words_left}
use Rattle.yew_text.proofs.cursor.Cursor.end.Goals as goal

pub returns-in-Ok-clause-ends : goal.returns-in-Ok-clause-ends
returns-in-Ok-clause-ends c = record { word = _; more = _; words = ap words_left (sym c.self.view_is) ∙ c.in-Ok.ensures.passed.words; fault_is = refl }
