-- How workers share a tree out under a skeleton.
use Rattle.std.specs.Prelude.{◌≡◌}
use Rattle.yew_crew.specs.Stations.{skeleton_of, IsCoord}
use Rattle.yew_crew.specs.declared.coord.Coord.{Coord}
use Rattle.yew_words.specs.declared.plan.Skeleton.{Skeleton}
use Rattle.yew_words.specs.declared.plan.Skeleton.TheVariants.{Ordered}
use Rattle.yew_app.specs.Asks.{table_of, IsSequential, FindsFirst, HasBudget}
use Rattle.yew_app.specs.declared.crew.Way.{Way}
use Rattle.yew_app.specs.declared.crew.Way.TheVariants.{Alone, Shared, InOrder}

-- a crew that shares a tree out by this coordination keeps logs of the skeleton's table, and need not answer the first best node
pub record IsShared (skeleton : Skeleton) (coord : Coord) : Type 0 where
  pub table : skeleton_of coord ≡ table_of skeleton
  pub coord_is : HasBudget skeleton → IsCoord coord
  pub any : ¬ FindsFirst skeleton

-- the tree is searched so under the skeleton
abbrev pub IsWayOf : Skeleton → Way → Type 0
IsWayOf skeleton Alone = IsSequential skeleton
IsWayOf skeleton (Shared coord) = IsShared skeleton coord
IsWayOf skeleton (InOrder depth) = skeleton ≡ Ordered depth
