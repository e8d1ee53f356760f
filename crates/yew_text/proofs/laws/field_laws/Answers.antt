use Rattle.yew_text.proofs.FieldLines.{field_laws}
use Rattle.yew_text.proofs.laws.field_laws.Goals as goal

pub returns : goal.returns
returns c = field_laws
