-- What the answers of a search say of its tree.
use Rattle.std.specs.Prelude.{◌≡◌, ℕ, ◌+◌, ◌≤◌, ◌↔◌, Option, Some, IsSome, IsNone, IfSome, IsSomeAnd}
use Rattle.yew_kinds.specs.declared.kind.Answer.{Answer}
use Rattle.yew_kinds.specs.declared.kind.Answer.TheVariants.{Count, Best, Reach}
use Rattle.yew_kinds.specs.Wrappers.{clipped_tree}
use Rattle.yew_laws.specs.Greatest.{greatest, first_best, Reach as Reached}
use Rattle.yew_laws.specs.PathValue.{PathValue}
use Rattle.yew_laws.specs.SearchTree.{SearchTree, worth_at}
use Rattle.yew_walk.specs.FirstFound.{found_worth, found_path}
use Rattle.yew_walk.specs.Hands.{numbers_of}

-- the greatest worth, and the first path in preorder whose node has it: there is none exactly where that worth is 0
pub record IsBest {N : Type 0} (t : SearchTree N) (worth : ℕ) (path : Option PathValue) : Type 0 where
  pub worth_is : worth ≡ greatest t
  pub path_is : numbers_of path ≡ first_best t
  pub absent : IsNone path ↔ (worth ≡ 0)
  pub has_worth : IfSome path (λ p. worth_at t p.numbers ≡ Some worth)

-- the first path in preorder whose node has at least the target as its worth: there is one exactly where some node has
pub record IsReached {N : Type 0} (t : SearchTree N) (target : ℕ) (path : Option PathValue) : Type 0 where
  pub path_is : numbers_of path ≡ first_best (clipped_tree t target)
  pub exists : IsSome path ↔ Reached t target
  pub meets : IfSome path (λ p. IsSomeAnd (worth_at t p.numbers) (λ worth. target ≤ worth))

-- a worth within the gap of the greatest one, which is 0 only where the greatest is, with a path whose node has it: there is
-- none exactly where the worth is 0
pub record IsNear {N : Type 0} (t : SearchTree N) (gap worth : ℕ) (path : Option PathValue) : Type 0 where
  pub within : greatest t ≤ worth + gap
  pub none_greater : worth ≤ greatest t
  pub no_answer : worth ≡ 0 → greatest t ≡ 0
  pub absent : IsNone path ↔ (worth ≡ 0)
  pub has_worth : IfSome path (λ p. worth_at t p.numbers ≡ Some worth)

-- the greatest worth that is visited in preorder, with the first path that is visited with it; it is within the gap of the greatest
pub record IsFirstNear {N : Type 0} (t : SearchTree N) (gap worth : ℕ) (path : Option PathValue) : Type 0 where
  pub near : IsNear t gap worth path
  pub worth_is : worth ≡ found_worth t gap
  pub path_is : numbers_of path ≡ found_path t gap

-- the answer of a count
abbrev pub IsCountAnswer : {S : Type 0} → S → Answer S → Type 0
IsCountAnswer fold (Count sum) = sum ≡ fold
IsCountAnswer fold (Best worth path) = ⊥
IsCountAnswer fold (Reach path) = ⊥

-- the answer of a search for a best node
abbrev pub IsBestAnswer : {N S : Type 0} → SearchTree N → Answer S → Type 0
IsBestAnswer t (Count sum) = ⊥
IsBestAnswer t (Best worth path) = IsBest t worth path
IsBestAnswer t (Reach path) = ⊥

-- the answer of a search that permits a gap
abbrev pub IsNearAnswer : {N S : Type 0} → SearchTree N → ℕ → Answer S → Type 0
IsNearAnswer t gap (Count sum) = ⊥
IsNearAnswer t gap (Best worth path) = IsFirstNear t gap worth path
IsNearAnswer t gap (Reach path) = ⊥

-- the answer of a decision
abbrev pub IsReachAnswer : {N S : Type 0} → SearchTree N → ℕ → Answer S → Type 0
IsReachAnswer t target (Count sum) = ⊥
IsReachAnswer t target (Best worth path) = ⊥
IsReachAnswer t target (Reach path) = IsReached t target path
