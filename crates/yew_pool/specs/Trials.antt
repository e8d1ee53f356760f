-- For tests: a tree of a root and its children, and passes of one pool.
use Rattle.std.specs.Prelude.{◌≡◌, ◌≢◌, ℕ, ◌+◌, ◌<◌, ◌≤◌, ◌^◌, List, [], ◌∷◌, length, replicate, All, Option, Some, refl}
use Rattle.std.specs.List.{AllByRecursion}
use Rattle.std.proofs.Common.{zero, suc, arith}
use Rattle.std.proofs.lemmas.List.{length-replicate}
use Rattle.yew_laws.specs.SearchTree.{SearchTree}
use Rattle.yew_laws.specs.Tasks.{members_of}
use Rattle.yew_laws.specs.Tree.{IsRanked, IsBounded}
use Rattle.yew_laws.proofs.Bounds.{IsBounded-from_steps}
use Rattle.yew_pool.specs.Passes.{PassView, PoolId}

-- the root is 0, and each child is 1
abbrev pub children_of : ℕ → ℕ → List ℕ
children_of width zero = replicate width 1
children_of width (suc n) = []

abbrev pub rank_of : ℕ → ℕ
rank_of zero = 1
rank_of (suc n) = 0

abbrev pub IsOfFlat : ℕ → ℕ → Type 0
IsOfFlat width n = (width < 65536) × (n < 2)

all-alike : (P : ℕ → Type 0) (x : ℕ) → P x → (count : ℕ) → AllByRecursion P (replicate count x)
all-alike P x p zero = tt
all-alike P x p (suc count) = (p, all-alike P x p count)

stays : (width n : ℕ) → IsOfFlat width n → AllByRecursion (IsOfFlat width) (children_of width n)
stays width zero s = all-alike (IsOfFlat width) 1 (s.0, omega arith) width
stays width (suc n) s = tt

falls : (width n : ℕ) → IsOfFlat width n → AllByRecursion (λ c. rank_of c < rank_of n) (children_of width n)
falls width zero s = all-alike (λ c. rank_of c < 1) 1 (omega arith) width
falls width (suc n) s = tt

pub flat-ranked : (width : ℕ) → IsRanked (IsOfFlat width) (children_of width) rank_of
flat-ranked width = record { stays_sound = stays width; rank_falls = falls width }

all-same : (ns : List ℕ) → AllByRecursion (λ (c : ℕ). 1 ≤ 1) ns
all-same [] = tt
all-same (n ∷ ns) = (omega arith, all-same ns)

pub flat-bounded : (width : ℕ) → IsBounded (IsOfFlat width) (children_of width) (λ n. 0) (λ n. 1)
flat-bounded width = IsBounded-from_steps (flat-ranked width) (λ n s. omega arith) (λ n s. all-same (children_of width n)) (λ n s. omega arith)

pub flat-countable : (width n : ℕ) → IsOfFlat width n → length (children_of width n) + 1 < 2 ^ 32
flat-countable width zero s = omega (arith, s.0, length-replicate {A = ℕ} width 1)
flat-countable width (suc n) s = omega arith

pub flat-root_rank : rank_of 0 ≤ 65535
flat-root_rank = omega arith

pub no_children : (width n : ℕ) → n ≢ 0 → [] ≡ children_of width n
no_children width zero some = absurd (some refl)
no_children width (suc n) some = refl

-- the tree of that width
abbrev pub flat_tree : ℕ → SearchTree ℕ
flat_tree width = record { root = 0; children = children_of width; rank = rank_of; worth = λ n. 0; bound = λ n. 1 }

-- what the passes of a pool for it are told
abbrev pub told_flat : ℕ → Option (List (List ℕ × ℕ))
told_flat width = Some (members_of (flat_tree width))

-- a pass of this pool that was told these members
pub record IsPassFor {T Q : Type 0} (pool : PoolId) (members : Option Q) (pass : PassView T Q) : Type 0 where
  pub of_pool : pass.pool ≡ pool
  pub for_members : pass.members ≡ members
  pub one : pass.share ≡ 1

-- passes of this pool that were told these members
abbrev pub ArePassesFor : {T Q : Type 0} → PoolId → Option Q → List (PassView T Q) → Type 0
ArePassesFor pool members passes = All (IsPassFor pool members) passes
