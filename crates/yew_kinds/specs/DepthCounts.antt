-- Counts of nodes, one for each depth, that stay at the greatest number of 64 bits once they have reached it.
use Rattle.std.specs.Prelude.{◌≡◌, ℕ, ◌+◌, ◌-◌, ◌<◌, ◌^◌, min, List, [], ◌∷◌, length, replicate, slice_set, count_by, map, ◌==◌}
use Rattle.std.specs.List.{AllByRecursion, range_with_len}
use Rattle.yew_laws.specs.Fold.{Fold}
use Rattle.yew_laws.specs.SearchTree.{SearchTree, preorder}
use Rattle.yew_laws.specs.Tree.{Member}

-- a number, or 2^64 - 1 where it is greater
abbrev pub saturated : ℕ → ℕ
saturated n = min n (2 ^ 64 - 1)

-- one count of 64 bits for each depth from 0 to the last
pub record HasCounts (depths : ℕ) (counts : List ℕ) : Type 0 where
  pub one_each : length counts ≡ depths + 1
  pub small : AllByRecursion (λ count. count < 2 ^ 64) counts

-- no node at each depth
abbrev pub zeros : ℕ → List ℕ
zeros depths = replicate (depths + 1) 0

-- one node at a depth, and none past the last depth
abbrev pub one_at : ℕ → ℕ → List ℕ
one_at depths depth = slice_set (zeros depths) depth 1

-- the counts of two lists, depth by depth
abbrev pub joined_counts : List ℕ → List ℕ → List ℕ
joined_counts [] bs = []
joined_counts (a ∷ xs) [] = []
joined_counts (a ∷ xs) (b ∷ ys) = saturated (a + b) ∷ joined_counts xs ys

-- how many members stand at a depth
abbrev pub members_at : {N : Type 0} → ℕ → List (Member N) → ℕ
members_at depth ms = count_by (λ m. length m.path == depth) ms

-- the fold of a tree by depth
abbrev pub depth_fold : {N : Type 0} → SearchTree N → ℕ → List ℕ
depth_fold t depths = Fold t joined_counts (zeros depths) (λ _ depth. one_at depths depth)

-- how many members of a tree stand at each depth from 0 to the last
abbrev pub depth_counts : {N : Type 0} → SearchTree N → ℕ → List ℕ
depth_counts t depths = map (λ depth. saturated (members_at depth (preorder t))) (range_with_len 0 (depths + 1))
