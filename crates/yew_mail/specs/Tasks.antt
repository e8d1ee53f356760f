-- Which tasks the mailboxes carry.
use Rattle.std.specs.Prelude.{◌≡◌, List, Option, Some}
use Rattle.std.specs.List.{AllByRecursion}

-- what a seat knows of the members of the tree: nothing, until it is told
abbrev pub Told : Type 0 → Type 0
Told Q = Option Q

-- all these tasks are sound for the members that a seat knows
abbrev pub AreSoundFor : {T Q : Type 0} → (Q → T → Type 0) → Told Q → List T → Type 0
AreSoundFor {T} {Q} sound told tasks = (members : Q) → told ≡ Some members → AllByRecursion (sound members) tasks
