-- The least weight that joins a set of cities: what a least spanning tree weighs.
use Rattle.std.specs.Prelude.{◌≡◌, ℕ, ◌≤◌, Bool, ◌&&◌, ◌||◌, ◌==◌, List, [], ◌∷◌, sum_by, IsTrue}
use Rattle.std.specs.List.{AllByRecursion, list_any, list_all, range_with_len}
use Rattle.yew_laws.specs.Sets.{contains}
use Rattle.yew_tsp.specs.Instance.{Instance, weight_between}

-- both directions of each pair of cities weigh the same
abbrev pub IsSymmetric : Instance → Type 0
IsSymmetric instance = (i j : ℕ) → 1 ≤ i → i ≤ instance.cities → 1 ≤ j → j ≤ instance.cities → weight_between instance i j ≡ weight_between instance j i

-- whether they do
abbrev pub is_symmetric : Instance → Bool
is_symmetric instance =
    list_all (λ i. list_all (λ j. weight_between instance i j == weight_between instance j i) (range_with_len 1 instance.cities))
    (range_with_len 1 instance.cities)

-- the weight between the cities of a pair
abbrev pub pair_weight : Instance → (ℕ × ℕ) → ℕ
pair_weight instance pair = weight_between instance pair.0 pair.1

-- the weights of these pairs together
abbrev pub total_weight : Instance → List (ℕ × ℕ) → ℕ
total_weight instance pairs = sum_by (pair_weight instance) pairs

-- the two cities are a pair of the list, in the one order or the other
abbrev pub is_listed : List (ℕ × ℕ) → ℕ → ℕ → Bool
is_listed pairs a b = list_any (λ pair. (pair.0 == a && pair.1 == b) || (pair.0 == b && pair.1 == a)) pairs

-- from a city through these to another one, where each and the next are a pair of the list
abbrev pub is_chain : List (ℕ × ℕ) → ℕ → List ℕ → ℕ → Bool
is_chain pairs a [] b = a == b
is_chain pairs a (c ∷ cs) b = is_listed pairs a c && is_chain pairs c cs b

-- a chain of pairs of the list leads from the one city to the other
abbrev pub IsJoined : List (ℕ × ℕ) → ℕ → ℕ → Type 0
IsJoined pairs a b = (through : List ℕ) × IsTrue (is_chain pairs a through b)

-- both cities of a pair are among these
abbrev pub IsWithin : List ℕ → (ℕ × ℕ) → Type 0
IsWithin cities pair = IsTrue (contains cities pair.0) × IsTrue (contains cities pair.1)

-- a list of pairs of these cities that joins every two of them
pub record IsConnecting (cities : List ℕ) (pairs : List (ℕ × ℕ)) : Type 0 where
  pub within : AllByRecursion (IsWithin cities) pairs
  pub joined : (a b : ℕ) → IsTrue (contains cities a) → IsTrue (contains cities b) → IsJoined pairs a b

-- the least total weight of a connecting list of these cities
pub record IsSpan (instance : Instance) (cities : List ℕ) (span : ℕ) : Type 0 where
  pub one : List (ℕ × ℕ)
  pub connects : IsConnecting cities one
  pub attains : total_weight instance one ≡ span
  pub others : (pairs : List (ℕ × ℕ)) → IsConnecting cities pairs → span ≤ total_weight instance pairs
