-- How the logs of an audit are judged.
use Rattle.std.specs.Prelude.{ℕ, ◌≤◌, List, IsSome}
use Rattle.std.specs.List.{AllByRecursion}
use Rattle.yew_laws.specs.Cover.{Cover}
use Rattle.yew_laws.specs.Order.{occurs}
use Rattle.yew_laws.specs.SearchTree.{SearchTree, at_path}
use Rattle.yew_log.specs.Attained.{Attained}
use Rattle.yew_log.specs.Notes.{Note, paths, judgements, visits, cuts, visited_paths, cut_paths}
use Rattle.yew_check.specs.Covering.{IsWhole}
use Rattle.yew_check.specs.Marks.{Mark, mark_paths, worths, Rises, IsTwice, IsValued, IsCaused}
use Rattle.yew_check.specs.declared.judging.Judged.{Judged}
use Rattle.yew_check.specs.declared.judging.Judged.TheVariants.{Covers, Double, Cover as NoCover, Number}

-- a path stands in two of the visits and cuts
abbrev pub HasDouble : List Note → Type 0
HasDouble notes = (path : List ℕ) × (2 ≤ occurs path (paths (judgements notes)))

-- the numbers of visits and cuts are right
pub record HasNumbers {N : Type 0} (t : SearchTree N) (gap : ℕ) (ms : List Mark) : Type 0 where
  pub valued : AllByRecursion (IsValued t) ms
  pub caused : AllByRecursion (IsCaused gap (worths ms)) ms

module _ {N : Type 0} (t : SearchTree N) where
  -- each visited and each cut path is one of the tree, and they cover the tree
  pub record IsCovered (notes : List Note) : Type 0 where
    pub in_tree : AllByRecursion (λ path. IsSome (at_path t path)) (paths (judgements notes))
    pub cover : Cover t (visited_paths notes) (cut_paths notes)

  -- the first that holds: a path stands twice; the tree is not covered; a number is wrong; or none of these
  abbrev pub Judges : ℕ → List Note → Judged → Type 0
  Judges gap notes Double = HasDouble notes
  Judges gap notes NoCover = (¬ HasDouble notes) × (¬ IsCovered notes)
  Judges gap notes Number = (¬ HasDouble notes) × IsCovered notes × (¬ Attained t gap (visits notes) (cuts notes))
  Judges gap notes Covers = (¬ HasDouble notes) × IsCovered notes × Attained t gap (visits notes) (cuts notes)

  -- the same of visits and cuts in the order of their paths
  abbrev pub JudgesMarks : ℕ → List Mark → Judged → Type 0
  JudgesMarks gap ms Double = IsTwice (mark_paths ms)
  JudgesMarks gap ms NoCover = Rises (mark_paths ms) × (¬ IsWhole t ms)
  JudgesMarks gap ms Number = Rises (mark_paths ms) × IsWhole t ms × (¬ HasNumbers t gap ms)
  JudgesMarks gap ms Covers = Rises (mark_paths ms) × IsWhole t ms × HasNumbers t gap ms
