-- What the search for the nearest city answers, and which cities stand outside.
use Rattle.std.specs.Prelude.{◌≡◌, ◌≤◌, List, [], ◌∷◌}
use Rattle.std.specs.List.{AllByRecursion}
use Rattle.yew_span.specs.declared.growing.Outside.{Outside}
use Rattle.yew_span.specs.Growth.{nearest}
use Rattle.yew_tsp.specs.Instance.{Instance}

-- the nearest of several
abbrev pub IsNearest : List Outside → Outside → Type 0
IsNearest [] one = ⊥
IsNearest (first ∷ others) one = one ≡ nearest first others

-- cities of an instance, with weights that are allowed
pub record IsAllowed (instance : Instance) (other : Outside) : Type 0 where
  pub from : 1 ≤ other.city
  pub to : other.city ≤ instance.cities
  pub small : other.near ≤ 2147483647

abbrev pub AreAllowed : Instance → List Outside → Type 0
AreAllowed instance others = AllByRecursion (IsAllowed instance) others
