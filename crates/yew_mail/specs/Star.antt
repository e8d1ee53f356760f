-- A wide tree for tests: the children of 0 are so many numbers from 1 on, which have none.
use Rattle.std.specs.Prelude.{◌≡◌, ◌≢◌, ℕ, ◌+◌, ◌-◌, ◌<◌, ◌≤◌, ◌^◌, List, [], ◌∷◌, length, Some, slice_get, option_and_then, refl}
use Rattle.std.specs.List.{AllByRecursion, range_with_len}
use Rattle.std.proofs.Common.{zero, suc, arith, ap}
use Rattle.std.proofs.lemmas.List.FromFn.{length-range_with_len}
use Rattle.yew_laws.specs.SearchTree.{SearchTree}
use Rattle.yew_laws.specs.Tasks.{members_of}
use Rattle.yew_laws.specs.Tree.{IsRanked, IsBounded, node_at}
use Rattle.yew_laws.proofs.Bounds.{IsBounded-from_steps}

abbrev pub children_of : ℕ → ℕ → List ℕ
children_of leaves zero = range_with_len 1 leaves
children_of leaves (suc n) = []

abbrev pub rank_of : ℕ → ℕ
rank_of zero = 1
rank_of (suc n) = 0

abbrev pub IsWithin : ℕ → ℕ → Type 0
IsWithin leaves n = (leaves + 1 < 2 ^ 32) × (n ≤ leaves)

abbrev pub star_tree : ℕ → SearchTree ℕ
star_tree leaves = record { root = 0; children = children_of leaves; rank = rank_of; worth = λ _. 0; bound = λ _. 0 }

abbrev pub star_members : ℕ → List (List ℕ × ℕ)
star_members leaves = members_of (star_tree leaves)

all_numbers : (P : ℕ → Type 0) (from count : ℕ) → ((n : ℕ) → from ≤ n → n < from + count → P n) → AllByRecursion P (range_with_len from count)
all_numbers P from zero each = tt
all_numbers P from (suc count) each =
    (each from (omega arith) (omega arith), all_numbers P (from + 1) count (λ n low high. each n (omega (arith, low)) (omega (arith, high))))

leaf_rank : (n : ℕ) → 1 ≤ n → rank_of n < 1
leaf_rank zero some = absurd (omega arith)
leaf_rank (suc n) some = omega arith

stays_within : (leaves n : ℕ) → IsWithin leaves n → AllByRecursion (IsWithin leaves) (children_of leaves n)
stays_within leaves zero s = all_numbers (IsWithin leaves) 1 leaves (λ c low high. (s.0, omega (arith, high)))
stays_within leaves (suc n) s = tt

ranks_fall : (leaves n : ℕ) → AllByRecursion (λ c. rank_of c < rank_of n) (children_of leaves n)
ranks_fall leaves zero = all_numbers (λ c. rank_of c < 1) 1 leaves (λ c low high. leaf_rank c low)
ranks_fall leaves (suc n) = tt

pub star-ranked : (leaves : ℕ) → IsRanked (IsWithin leaves) (children_of leaves) rank_of
star-ranked leaves = record { stays_sound = λ n s. stays_within leaves n s; rank_falls = λ n s. ranks_fall leaves n }

none_worth : (leaves n : ℕ) → AllByRecursion (λ (c : ℕ). 0 ≤ 0) (children_of leaves n)
none_worth leaves zero = all_numbers (λ c. 0 ≤ 0) 1 leaves (λ c low high. omega arith)
none_worth leaves (suc n) = tt

pub star-bounded : (leaves : ℕ) → IsBounded (IsWithin leaves) (children_of leaves) (λ n. 0) (λ n. 0)
star-bounded leaves = IsBounded-from_steps (star-ranked leaves) (λ n s. omega arith) (λ n s. none_worth leaves n) (λ n s. omega arith)

pub star-countable : (leaves n : ℕ) → IsWithin leaves n → length (children_of leaves n) + 1 < 2 ^ 32
star-countable leaves zero s = let long = length-range_with_len 1 leaves in let few = s.0 in omega (arith, few, long)
star-countable leaves (suc n) s = omega arith

pub star-root_rank : rank_of 0 ≤ 65535
star-root_rank = omega arith

pub no_children : (leaves n : ℕ) → n ≢ 0 → [] ≡ children_of leaves n
no_children leaves zero some = absurd (some refl)
no_children leaves (suc n) some = refl

pub numbers_first : (from count : ℕ) → 0 < count → range_with_len from count ≡ from ∷ range_with_len (from + 1) (count - 1)
numbers_first from zero above = absurd (omega arith)
numbers_first from (suc count) above = let fewer : count ≡ suc count - 1 = omega arith in ap (λ k. from ∷ range_with_len (from + 1) k) fewer

number_at : (from count k n : ℕ) → k < count → from + k ≡ n → slice_get (range_with_len from count) k ≡ Some n
number_at from zero k n low e = absurd (omega arith)
number_at from (suc count) zero n low e = let f : from ≡ n = omega (arith, e) in ap Some f
number_at from (suc count) (suc k) n low e = number_at (from + 1) count k n (omega (arith, low)) (omega (arith, e))

-- child number k of 0 is k + 1
pub leaf_found : (leaves k : ℕ) → k < leaves → node_at (children_of leaves) 0 (k ∷ []) ≡ Some (k + 1)
leaf_found leaves k low = ap (λ o. option_and_then (λ c. node_at (children_of leaves) c []) o) (number_at 1 leaves k (k + 1) low (omega arith))
