-- What is written of a problem that is made of an instance is written of the instance, and which tree the flags ask for.
use Rattle.std.proofs.Common.{◌≡◌, Bool, ap₂, sym, List, ℕ}
use Rattle.yew_app.specs.declared.asked.Asked.{Asked}
use Rattle.yew_app.specs.Meanings.{Meaning, meaning_by, IsJobText}
use Rattle.yew_app.specs.ShortestTours.{tree_asked}

pub text-by : {X Y N : Type 0} (instance_of : Y → X) (m : Meaning X N) (asked : Asked) (made : Y) (text : List ℕ)
    → IsJobText (meaning_by instance_of m) asked made text → IsJobText m asked (instance_of made) text
text-by instance_of m asked made text is = record { found = is.found; right = is.right }

pub tree_asked-at : (near span n s : Bool) → near ≡ n → span ≡ s → tree_asked n s ≡ tree_asked near span
tree_asked-at near span n s e f = ap₂ tree_asked (sym e) (sym f)
