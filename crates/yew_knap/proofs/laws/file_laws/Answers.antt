use Rattle.yew_knap.proofs.FileGrammar.{file_laws}
use Rattle.yew_knap.proofs.laws.file_laws.Goals as goal

pub returns : goal.returns
returns c = file_laws
