-- Which skeletons a search may have, and why it may have no answer.
use Rattle.std.specs.Prelude.{◌≡◌, ◌<◌, ◌≤◌, ◌^◌, length}
use Rattle.yew_crew.specs.Stations.{IsCoord}
use Rattle.yew_laws.specs.SearchTree.{SearchTree}
use Rattle.yew_log.specs.Items.{items_of}
use Rattle.yew_walk.specs.declared.fault.SearchFault.{SearchFault}
use Rattle.yew_walk.specs.declared.fault.SearchFault.TheVariants.{Memory, AuditFull, TooManyTasks}
use Rattle.yew_example.specs.declared.search.Skeleton.{Skeleton}
use Rattle.yew_example.specs.declared.search.Skeleton.TheVariants.{Sequential, Crew, Ordered}

-- the numbers of a skeleton are those that its search takes
abbrev pub IsSkeleton : Skeleton → Type 0
IsSkeleton Sequential = Unit {0}
IsSkeleton (Crew coord) = IsCoord coord
IsSkeleton (Ordered depth) = (1 ≤ depth) × (depth ≤ 255)

-- memory ran out; or, where tasks are taken in order, they and the nodes above them are more than 2^20. The logs keep totals alone, and are never full
abbrev pub IsFault : {N : Type 0} → SearchTree N → Skeleton → SearchFault → Type 0
IsFault t skeleton Memory = Unit {0}
IsFault t skeleton (AuditFull worker entries numbers) = ⊥
IsFault t Sequential (TooManyTasks number) = ⊥
IsFault t (Crew coord) (TooManyTasks number) = ⊥
IsFault t (Ordered depth) (TooManyTasks number) = (number ≡ 2 ^ 20) × (2 ^ 20 < length (items_of t depth))
