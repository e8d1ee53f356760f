-- Facts that hold where a call answers Ok.
use Rattle.std.proofs.Common.{OnOk, Ok, Err, Result}

pub OnOk-map : {X E : Type 0} {P Q : Type 0} (result : Result X E) → (P → Q) → OnOk result P → OnOk result Q
OnOk-map (Ok x) f p = f p
OnOk-map (Err e) f p = tt
