use Rattle.yew_text.proofs.Readings.{grammar_laws}
use Rattle.yew_text.proofs.laws.grammar_laws.Goals as goal

pub returns : goal.returns
returns c = grammar_laws
