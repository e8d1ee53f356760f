-- Small trees, given as tables: the numbers of a node's children, and each node's rank, worth and bound.
use Rattle.std.specs.Prelude.{ℕ, List, [], ◌∷◌, slice_index, slice_index_or}
use Rattle.yew_laws.specs.SearchTree.{SearchTree}

-- the tree of these tables
abbrev pub table : List (List ℕ) → List ℕ → List ℕ → List ℕ → SearchTree ℕ
table kids ranks worths bounds = record { root = 0; children = λ n. slice_index_or kids n []; rank = slice_index ranks; worth = slice_index worths; bound = slice_index bounds }

-- four items of profit and weight 50 and 3, 40 and 4, 30 and 6, 10 and 5 in a knapsack of 10: a worth is the profit plus 1, a bound is that of Dantzig
abbrev pub knapsack : SearchTree ℕ
knapsack = table ((1 ∷ 2 ∷ 3 ∷ 4 ∷ []) ∷ (5 ∷ 6 ∷ 7 ∷ []) ∷ (8 ∷ 9 ∷ []) ∷ [] ∷ [] ∷ [] ∷ [] ∷ [] ∷ [] ∷ [] ∷ []) (4 ∷ 3 ∷ 2 ∷ 1 ∷ 0 ∷ 2 ∷ 1 ∷ 0 ∷ 1 ∷ 0 ∷ []) (1 ∷ 51 ∷ 41 ∷ 31 ∷ 11 ∷ 91 ∷ 81 ∷ 61 ∷ 71 ∷ 51 ∷ []) (106 ∷ 106 ∷ 71 ∷ 39 ∷ 11 ∷ 106 ∷ 83 ∷ 61 ∷ 71 ∷ 51 ∷ [])

-- the numerical semigroups of genus 0 to 2, which are counted: each worth is 0 and each bound is 1
abbrev pub semigroups : SearchTree ℕ
semigroups = table ((1 ∷ []) ∷ (2 ∷ 3 ∷ []) ∷ [] ∷ [] ∷ []) (2 ∷ 1 ∷ 0 ∷ 0 ∷ []) (0 ∷ 0 ∷ 0 ∷ 0 ∷ []) (1 ∷ 1 ∷ 1 ∷ 1 ∷ [])
