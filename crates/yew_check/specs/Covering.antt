-- The walk of a tree along visits and cuts.
use Rattle.std.specs.Prelude.{◌≡◌, ◌≢◌, ℕ, Bool, List, [], ◌∷◌, ◌++◌, IsSome, MatchBool, if◌then◌else◌}
use Rattle.std.specs.List.{AllByRecursion, Contains, flat_map}
use Rattle.yew_laws.specs.Bag.{SameBag}
use Rattle.yew_laws.specs.SearchTree.{SearchTree, at_path, tree_paths}
use Rattle.yew_laws.specs.declared.problem.Problem.{Ghosts}
use Rattle.yew_laws.specs.SearchTree.{search_tree}
use Rattle.yew_laws.specs.Tree.{paths}
use Rattle.yew_stack.specs.Levels.{LevelValue}
use Rattle.yew_stack.specs.ToCome.{to_come, AllOpen}
use Rattle.yew_check.specs.Marks.{Mark, covers, IsValued}

-- the next path to come is not this one, or there is none
abbrev pub Misses : List (List ℕ) → List ℕ → Type 0
Misses [] path = Unit {0}
Misses (next ∷ more) path = next ≢ path

-- there is a next path to come
abbrev pub IsMore : List (List ℕ) → Type 0
IsMore [] = ⊥
IsMore (next ∷ more) = Unit {0}

-- the paths of the visits
abbrev pub visit_in : Mark → List (List ℕ)
visit_in m = if m.is_visit then m.path ∷ [] else []

abbrev pub visit_paths : List Mark → List (List ℕ)
visit_paths ms = flat_map visit_in ms

module _ {N : Type 0} (t : SearchTree N) where
  -- each path is one of the tree
  abbrev pub AreThere : List Mark → Type 0
  AreThere ms = AllByRecursion (λ (m : Mark). IsSome (at_path t m.path)) ms

  -- each visit has the worth of its node, and each cut its bound, or not
  abbrev pub TellsValues : List Mark → Bool → Type 0
  TellsValues ms fits = MatchBool fits (AllByRecursion (IsValued t) ms) (¬ AllByRecursion (IsValued t) ms)

  -- the visits and the cuts stand for these paths, each once, and all their paths are in the tree
  pub record StandFor (ms : List Mark) (ps : List (List ℕ)) : Type 0 where
    pub are_there : AreThere ms
    pub same : SameBag (flat_map (covers t) ms) ps

  -- the visits and the cuts cover the tree
  pub record IsWhole (ms : List Mark) : Type 0 where
    pub stand_for : StandFor ms (tree_paths t)
    pub root_visited : Contains (visit_paths ms) []

module _ {S N K : Type 0} (meaning : Ghosts S N K) (problem : S) where
  -- the paths that a stack has still to come
  abbrev pub coming : List (LevelValue K) → List (List ℕ)
  coming stack = paths (to_come meaning problem stack)

  -- a visit or a cut is the next to come: what it stands for comes first, and then what is still to come
  pub record Passes (old : List (LevelValue K)) (m : Mark) (fits : Bool) (new : List (LevelValue K)) : Type 0 where
    pub still_open : AllOpen meaning problem new
    pub coming_is : coming old ≡ covers (search_tree meaning problem) m ++ coming new
    pub in_tree : IsSome (at_path (search_tree meaning problem) m.path)
    pub valued : MatchBool fits (IsValued (search_tree meaning problem) m) (¬ IsValued (search_tree meaning problem) m)
