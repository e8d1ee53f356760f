-- The least part of a bag.
use Rattle.std.proofs.Common.{List, [], arith, sym, append-nil}
use Rattle.yew_laws.proofs.Bags.{same-is}
use Rattle.yew_walk.specs.Outlets.{IsSentPart}

-- where nothing was sent, a part was
pub sent_none : {X : Type 0} (keeps : X → Type 0) (before tasks : List X) → IsSentPart keeps before tasks before
sent_none keeps before tasks = record { part = []; each = tt; of_tasks = record { weighs = λ w. omega arith }; sent_are = same-is (sym (append-nil before)) }
