-- The trees that a count and a decision search: the tree of a problem with other worths and bounds.
use Rattle.std.specs.Prelude.{ℕ, nat_le, if◌then◌else◌}
use Rattle.yew_laws.specs.SearchTree.{SearchTree}

-- 1 where the target is met
abbrev pub clipped : ℕ → ℕ → ℕ
clipped target worth = if nat_le target worth then 1 else 0

-- the tree that a count searches: no node is an answer, and none is cut
abbrev pub counted_tree : {N : Type 0} → SearchTree N → SearchTree N
counted_tree t = record { root = t.root; children = t.children; rank = t.rank; worth = λ _. 0; bound = λ _. 1 }

-- the tree that a decision searches: a node is an answer where it meets the target
abbrev pub clipped_tree : {N : Type 0} → SearchTree N → ℕ → SearchTree N
clipped_tree t target = record { root = t.root; children = t.children; rank = t.rank; worth = λ n. clipped target (t.worth n); bound = λ n. clipped target (t.bound n) }
