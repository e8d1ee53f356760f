use Rattle.yew_flow.proofs.FileLaws.{file_laws}
use Rattle.yew_flow.proofs.laws.file_laws.Goals as goal

pub returns : goal.returns
returns c = file_laws
