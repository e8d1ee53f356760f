-- What kinds of search there are.
use Rattle.std.specs.Prelude.{ℕ, ◌≤◌, ◌<◌, ◌^◌}
use Rattle.yew_kinds.specs.declared.kind.Kind.{Kind}
use Rattle.yew_kinds.specs.declared.kind.Kind.TheVariants.{Count, Best, Reach, Near}

-- a target is a worth that a node can have, and not 0; a gap is below the greatest worth that a node can have
abbrev pub IsKindInRange : Kind → Type 0
IsKindInRange Count = Unit {0}
IsKindInRange Best = Unit {0}
IsKindInRange (Reach target) = (1 ≤ target) × (target < 2 ^ 40)
IsKindInRange (Near gap) = gap ≤ 1099511627774

-- no gap is permitted
abbrev pub IsExact : Kind → Type 0
IsExact (Near gap) = ⊥
IsExact _ = Unit {0}

-- the gap that a search of a kind permits
abbrev pub gap_of : Kind → ℕ
gap_of Count = 0
gap_of Best = 0
gap_of (Reach target) = 0
gap_of (Near gap) = gap
