use Rattle.yew_lad.proofs.FileGrammar.{file_laws}
use Rattle.yew_lad.proofs.laws.file_laws.Goals as goal

pub returns : goal.returns
returns c = file_laws
