use Rattle.yew_check.proofs.ReadBack.{read-back}
use Rattle.yew_check.proofs.laws.audits_are_read_back.Goals as goal

pub returns : goal.returns
returns c = read-back
