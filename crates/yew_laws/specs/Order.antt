-- Paths as lists of numbers: their order, and which lies below which.
use Rattle.std.specs.Prelude.{ℕ, List, [], ◌∷◌, Bool, true, false, ◌&&◌, ◌||◌, ◌==◌, nat_lt, cond}
use Rattle.std.specs.List.{sum_by}

-- p comes before q: a prefix comes first, and otherwise the first number that differs decides
abbrev pub comes_before : List ℕ → List ℕ → Bool
comes_before p [] = false
comes_before [] (k ∷ q) = true
comes_before (j ∷ p) (k ∷ q) = nat_lt j k || (j == k && comes_before p q)

-- q lies below p: it is p with at least one more number
abbrev pub lies_below : List ℕ → List ℕ → Bool
lies_below [] [] = false
lies_below [] (k ∷ q) = true
lies_below (j ∷ p) [] = false
lies_below (j ∷ p) (k ∷ q) = j == k && lies_below p q

-- q is the path of a child of p: it is p with one more number
abbrev pub is_child : List ℕ → List ℕ → Bool
is_child [] [] = false
is_child [] (k ∷ []) = true
is_child [] (j ∷ k ∷ q) = false
is_child (j ∷ p) [] = false
is_child (j ∷ p) (k ∷ q) = j == k && is_child p q

-- q is the path p
abbrev pub is_path : List ℕ → List ℕ → Bool
is_path [] [] = true
is_path [] (k ∷ q) = false
is_path (j ∷ p) [] = false
is_path (j ∷ p) (k ∷ q) = j == k && is_path p q

-- the path without its last number
abbrev pub parent_of : List ℕ → List ℕ
parent_of [] = []
parent_of (k ∷ []) = []
parent_of (j ∷ k ∷ p) = j ∷ parent_of (k ∷ p)

-- 1 at this path, and 0 elsewhere
abbrev pub only : List ℕ → List ℕ → ℕ
only path p = cond (is_path path p) 1 0

-- how often a path occurs
abbrev pub occurs : List ℕ → List (List ℕ) → ℕ
occurs path ps = sum_by (only path) ps
