-- What contracts see of a stack of node generators: its levels, the lowest first (nearest to the root).
use Rattle.std.specs.Prelude.{◌≡◌, ℕ, ◌+◌, ◌<◌, ◌^◌, List, [], ◌∷◌, ◌++◌, map, length}
use Rattle.std.specs.List.{AllByRecursion}

-- a level of a stack: the path of its node, how many children of the node were given, and the generator of the others
pub record LevelValue (K : Type 0) : Type 0 where
  pub parent : List ℕ
  pub given : ℕ
  pub kids : K

-- a level as a problem sees it: the path of its node, how many children were given, and the nodes still to come
pub record LevelView (N : Type 0) : Type 0 where
  pub parent : List ℕ
  pub given : ℕ
  pub remaining : List N

-- a level, where the generators have these nodes to come
abbrev pub level_of : {N K : Type 0} → (K → List N) → LevelValue K → LevelView N
level_of remaining level = record { parent = level.parent; given = level.given; remaining = remaining level.kids }

-- the levels of a stack, where the generators have these nodes to come
abbrev pub levels : {N K : Type 0} → (K → List N) → List (LevelValue K) → List (LevelView N)
levels remaining stack = map (level_of remaining) stack

-- the nodes that the levels have still to come are sound
abbrev pub AreSound : {N : Type 0} → (N → Type 0) → List (LevelView N) → Type 0
AreSound sound ls = AllByRecursion (λ level. AllByRecursion sound level.remaining) ls

-- the level's node has fewer than 2^32 - 1 children
abbrev pub IsNumbered : {N : Type 0} → LevelView N → Type 0
IsNumbered level = level.given + length level.remaining + 1 < 2 ^ 32

abbrev pub AreNumbered : {N : Type 0} → List (LevelView N) → Type 0
AreNumbered ls = AllByRecursion IsNumbered ls

-- the levels have nothing to come
abbrev pub AreSpent : {N : Type 0} → List (LevelView N) → Type 0
AreSpent ls = AllByRecursion (λ level. level.remaining ≡ []) ls

-- the next child of a level is given: its path is that of the level's node with the child's number appended
pub record Gives {N : Type 0} (old : LevelView N) (path : List ℕ) (node : N) (new : LevelView N) : Type 0 where
  pub path_is : path ≡ old.parent ++ old.given ∷ []
  pub remaining_is : old.remaining ≡ node ∷ new.remaining
  pub given_is : new.given ≡ old.given + 1
  pub parent_is : new.parent ≡ old.parent
