-- How many numerical semigroups have k gaps: their sets of gaps are counted.
use Rattle.std.specs.Prelude.{ℕ, zero, suc, ◌+◌, ◌-◌, ◌*◌, Bool, not, ◌&&◌, List, [], ◌∷◌, ◌++◌, map, filter, length}
use Rattle.std.specs.List.{list_all, list_any, range_with_len}
use Rattle.yew_laws.specs.Sets.{contains}

-- a number is a sum of two whole numbers from 0 up that are not in the set
abbrev pub is_sum_outside : List ℕ → ℕ → Bool
is_sum_outside gaps m = list_any (λ a. not (contains gaps a) && not (contains gaps (m - a))) (range_with_len 0 (m + 1))

-- no member of the set is such a sum: the numbers outside the set are a numerical semigroup
abbrev pub is_gap_set : List ℕ → Bool
is_gap_set gaps = list_all (λ m. not (is_sum_outside gaps m)) gaps

-- the sets of k of these numbers
abbrev pub choices : ℕ → List ℕ → List (List ℕ)
choices zero xs = [] ∷ []
choices (suc k) [] = []
choices (suc k) (x ∷ xs) = map (λ chosen. x ∷ chosen) (choices k xs) ++ choices (suc k) xs

-- the sets of gaps of the numerical semigroups of genus k: sets of k numbers from 1 to 2k - 1
abbrev pub gap_sets : ℕ → List (List ℕ)
gap_sets k = filter is_gap_set (choices k (range_with_len 1 (2 * k - 1)))

-- the number of numerical semigroups of genus k
abbrev pub semigroups_of_genus : ℕ → ℕ
semigroups_of_genus k = length (gap_sets k)
