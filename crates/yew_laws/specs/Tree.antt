-- The tree of a node, over plain functions: what a node's children are, and its rank.
use Rattle.std.specs.Prelude.{◌≡◌, ℕ, ◌<◌, ◌≤◌, ◌^◌, List, [], ◌∷◌, ◌++◌, map, Option, Some, slice_get, option_and_then}
use Rattle.std.specs.List.{AllByRecursion}
use Rattle.std.proofs.Common.{zero, suc}

-- a member of a tree: its path from the root of the tree, and the node there
pub record Member (N : Type 0) : Type 0 where
  pub path : List ℕ
  pub node : N

-- a member of the tree of child number k, as a member of the tree of the parent
abbrev pub child_member : {N : Type 0} → ℕ → Member N → Member N
child_member k m = record { path = k ∷ m.path; node = m.node }

-- the trees of siblings one after another, numbered from k on
abbrev pub forest : {N : Type 0} → (N → List (Member N)) → ℕ → List N → List (Member N)
forest tree_of k [] = []
forest tree_of k (n ∷ ns) = map (child_member k) (tree_of n) ++ forest tree_of (suc k) ns

-- a node as the root of its own tree
abbrev pub root_member : {N : Type 0} → N → Member N
root_member n = record { path = []; node = n }

-- the tree of a node, cut off below a depth
abbrev pub tree_within : {N : Type 0} → (N → List N) → ℕ → N → List (Member N)
tree_within children zero n = root_member n ∷ []
tree_within children (suc depth) n = root_member n ∷ forest (tree_within children depth) 0 (children n)

-- the tree of a node in preorder: the node with the empty path, then the trees of its children in order; no path is longer than the rank
unfoldable pub tree : {N : Type 0} → (N → List N) → (N → ℕ) → N → List (Member N)
tree children rank n = tree_within children (rank n) n

-- the node at a path below a node
abbrev pub node_at : {N : Type 0} → (N → List N) → N → List ℕ → Option N
node_at children n [] = Some n
node_at children n (k ∷ ks) = option_and_then (λ c. node_at children c ks) (slice_get (children n) k)

-- what the recursion over a tree needs: the children of a sound node are sound, and of less rank
pub record IsRanked {N : Type 0} (sound : N → Type 0) (children : N → List N) (rank : N → ℕ) : Type 0 where
  pub stays_sound : (n : N) → sound n → AllByRecursion sound (children n)
  pub rank_falls : (n : N) → sound n → AllByRecursion (λ c. rank c < rank n) (children n)

-- no node at or below a sound node has more worth than the node's bound
pub record IsBounded {N : Type 0} (sound : N → Type 0) (children : N → List N) (worth bound : N → ℕ) : Type 0 where
  pub bounds : (n m : N) (path : List ℕ) → sound n → node_at children n path ≡ Some m → worth m ≤ bound n
  pub fits : (n : N) → sound n → bound n < 2 ^ 40

-- the members with a path in front of each path
abbrev pub prefixed : {N : Type 0} → List ℕ → List (Member N) → List (Member N)
prefixed path ms = map (λ m. record { path = path ++ m.path; node = m.node }) ms

-- the paths of the members
abbrev pub paths : {N : Type 0} → List (Member N) → List (List ℕ)
paths ms = map (λ m. m.path) ms
