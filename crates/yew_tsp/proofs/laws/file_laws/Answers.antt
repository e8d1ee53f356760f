use Rattle.yew_tsp.proofs.FileLaws.{file_laws}
use Rattle.yew_tsp.proofs.laws.file_laws.Goals as goal

pub returns : goal.returns
returns c = file_laws
