use Rattle.yew_text.proofs.Splitting.{word_laws}
use Rattle.yew_text.proofs.laws.word_laws.Goals as goal

pub returns : goal.returns
returns c = word_laws
