-- The tree of numerical semigroups: a node is the rising list of the gaps of a semigroup.
use Rattle.std.specs.Prelude.{◌≡◌, ℕ, ◌+◌, ◌-◌, ◌*◌, ◌≤◌, Bool, true, not, ◌&&◌, List, [], ◌∷◌, ◌++◌, map, filter, length, nat_lt, if◌then◌else◌}
use Rattle.std.specs.List.{list_all, list_any, range_with_len}
use Rattle.yew_laws.specs.SearchTree.{SearchTree}
use Rattle.yew_laws.specs.Sets.{contains, is_set}
use Rattle.yew_semi.specs.Gaps.{is_gap_set}

-- a number is a sum of two members of the semigroup from 1 up
abbrev pub is_sum_of_members : List ℕ → ℕ → Bool
is_sum_of_members gaps x = list_any (λ a. not (contains gaps a) && not (contains gaps (x - a))) (range_with_len 1 (x - 1))

-- a minimal generator above the Frobenius number: greater than every gap, and no sum of two members from 1 up
abbrev pub is_generator : List ℕ → ℕ → Bool
is_generator gaps g = nat_lt 0 g && list_all (λ y. nat_lt y g) gaps && not (is_sum_of_members gaps g)

-- the minimal generators above the Frobenius number, rising; with k gaps none of them is above 2k + 1
abbrev pub generators_above : List ℕ → List ℕ
generators_above gaps = filter (is_generator gaps) (range_with_len 0 (2 * length gaps + 2))

-- the semigroup without one of its members, which is above every gap
abbrev pub without : List ℕ → ℕ → List ℕ
without gaps g = gaps ++ g ∷ []

-- each minimal generator above the Frobenius number is taken out, by rising generator; a node of the last genus has no children
abbrev pub children_of : ℕ → List ℕ → List (List ℕ)
children_of genus gaps = if nat_lt (length gaps) genus then map (without gaps) (generators_above gaps) else []

-- the gaps of a numerical semigroup, rising, of at most this genus
pub record IsSemigroup (genus : ℕ) (gaps : List ℕ) : Type 0 where
  pub closed : is_gap_set gaps ≡ true
  pub rising : is_set 1 (2 * length gaps - 1) gaps ≡ true
  pub few : length gaps ≤ genus

-- at most so many levels lie below a node
abbrev pub rank_of : ℕ → List ℕ → ℕ
rank_of genus gaps = genus - length gaps

-- the tree of the semigroups of at most this genus: the root has no gaps, and no node is an answer
abbrev pub semigroup_tree : ℕ → SearchTree (List ℕ)
semigroup_tree genus = record { root = []; children = children_of genus; rank = rank_of genus; worth = λ _. 0; bound = λ _. 1 }
