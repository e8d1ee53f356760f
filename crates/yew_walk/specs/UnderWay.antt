-- A walk under way: what its entries so far, its levels and its seat have to do with each other.
use Rattle.std.specs.Prelude.{◌≡◌, ℕ, ◌<◌, ◌≤◌, ◌⊎◌, List, [], ◌∷◌, ◌++◌, IsSome}
use mathlib.Core.List.{reverse}
use Rattle.std.specs.List.{AllByRecursion, Contains, flat_map}
use Rattle.yew_best.specs.Seats.{SeatView}
use Rattle.yew_laws.specs.declared.problem.Problem.{Ghosts}
use Rattle.yew_laws.specs.Bag.{SameBag}
use Rattle.yew_laws.specs.SearchTree.{search_tree, at_path, below}
use Rattle.yew_laws.specs.Tree.{paths}
use Rattle.yew_log.specs.Notes.{Note, taken, taken_paths, sent_paths}
use Rattle.yew_log.specs.HeldValues.{HeldRises, IsJudged}
use Rattle.yew_log.specs.Segment.{Begins, IsValued, covered_paths}
use Rattle.yew_log.proofs.Blocks.{IsBlock}
use Rattle.yew_log.proofs.Frames.{Frame, around, AreFrames}
use Rattle.yew_stack.specs.Levels.{LevelView}
use Rattle.yew_stack.specs.ToCome.{levels_to_come, node_tree, IsOpen}
use Rattle.yew_walk.specs.declared.keying.Keying.{Keying}
use Rattle.yew_walk.specs.Keys.{kind_of, gap_in}
use Rattle.yew_walk.specs.Seats.{SeatGoes}

-- the levels below that of an open visit, the highest first, with the frames of their visits: the child that is under
-- way is one that the level has given
abbrev pub AreBelow : {N : Type 0} → List ℕ → List Frame → List (LevelView N) → Type 0
AreBelow path [] [] = Unit {0}
AreBelow path [] (level ∷ lower) = ⊥
AreBelow path (f ∷ fs) [] = ⊥
AreBelow path (f ∷ fs) (level ∷ lower) = (level.parent ≡ f.path) × (((k : ℕ) × ((path ≡ f.path ++ k ∷ []) × (k < level.given))) × AreBelow f.path fs lower)

-- the levels, the highest first, with the frames of their visits: the highest has given what was dealt with
abbrev pub AreAligned : {N : Type 0} → List Frame → List (LevelView N) → Type 0
AreAligned [] [] = Unit {0}
AreAligned [] (level ∷ lower) = ⊥
AreAligned (f ∷ fs) [] = ⊥
AreAligned (f ∷ fs) (level ∷ lower) = (level.parent ≡ f.path) × ((f.next ≤ level.given) × AreBelow f.path fs lower)

-- the entries of a walk of a task with these open visits: none, a whole block, or the open visits with what was done below them
abbrev pub HasShape : List ℕ → List Note → List Frame → Type 0
HasShape task notes [] = (notes ≡ []) ⊎ IsBlock task notes
HasShape task notes (f ∷ fs) = (notes ≡ around (f ∷ fs) []) × AreFrames task (f ∷ fs)

-- a node that is about to be judged: the task, or a child that the highest level has just given
abbrev pub IsNext : {N : Type 0} → List ℕ → List Note → List Frame → List (LevelView N) → List ℕ → Type 0
IsNext task notes [] above path = (path ≡ task) × (notes ≡ [])
IsNext task notes (f ∷ fs) [] path = ⊥
IsNext task notes (f ∷ fs) (level ∷ lower) path = (k : ℕ) × ((path ≡ f.path ++ k ∷ []) × ((f.next ≤ k) × (k < level.given)))

-- a path is that of a child of the node of one of these levels
pub record IsOfLevel {N : Type 0} (ls : List (LevelView N)) (path : List ℕ) : Type 0 where
  pub level : LevelView N
  pub stands : Contains ls level
  pub number : ℕ
  pub is : path ≡ level.parent ++ number ∷ []

-- the entries after the Taken entry of a task, the seat before them and after them, the levels, and the paths that
-- neither are to come nor have an entry yet; what was sent, and these paths, are of the tree
pub record IsUnderWay {S N K : Type 0} (meaning : Ghosts S N K) (problem : S) (keying : Keying) (task : List ℕ) (first now : SeatView) (notes : List Note) (frames : List Frame) (ls : List (LevelView N)) (between : List (List ℕ)) : Type 0 where
  pub goes : SeatGoes (search_tree meaning problem) keying first notes now
  pub shape : HasShape task notes frames
  pub aligned : AreAligned frames (reverse ls)
  pub covered : SameBag (covered_paths (search_tree meaning problem) notes ++ (paths (levels_to_come (node_tree meaning problem) ls) ++ flat_map (below (search_tree meaning problem)) between)) (below (search_tree meaning problem) task)
  pub task_there : IsSome (at_path (search_tree meaning problem) task)
  pub sent_there : AllByRecursion (λ path. IsSome (at_path (search_tree meaning problem) path)) (sent_paths notes)
  pub between_there : AllByRecursion (λ path. IsSome (at_path (search_tree meaning problem) path)) between
  pub valued : IsValued (search_tree meaning problem) notes
  pub rises : HeldRises (taken task ∷ notes)
  pub judged : IsJudged (search_tree meaning problem) (gap_in keying) (kind_of keying) (taken task ∷ notes)
  pub untaken : taken_paths notes ≡ []
  pub begins : (notes ≡ []) ⊎ Begins task notes
  pub levels_open : AllByRecursion (IsOpen (meaning.sound problem) (meaning.children problem) (meaning.root problem)) ls
