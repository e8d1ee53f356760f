-- The cause of each cut of a whole search.
use Rattle.std.specs.Prelude.{◌≡◌, ℕ, ◌+◌, ◌≤◌, ◌⊎◌, List, ◌++◌, Some, ◌==◌, if◌then◌else◌}
use Rattle.std.specs.List.{AllByRecursion, Contains}
use Rattle.yew_laws.specs.SearchTree.{SearchTree, worth_at, bound_at}
use Rattle.yew_log.specs.Notes.{Judgement, values}

-- the greatest bound that is cut under a held value with a gap; a held value of 0 permits no gap
abbrev pub limit : ℕ → ℕ → ℕ
limit gap held = if held == 0 then 0 else held + gap

-- the worths and bounds are those of the nodes, and each cut has its cause: a held value that permits it, and that a visited node has as its worth
pub record Attained {N : Type 0} (t : SearchTree N) (gap : ℕ) (visits cuts : List Judgement) : Type 0 where
  pub worths : AllByRecursion (λ v. worth_at t v.path ≡ Some v.value) visits
  pub bounds : AllByRecursion (λ c. bound_at t c.path ≡ Some c.value) cuts
  pub permitted : AllByRecursion (λ c. c.value ≤ limit gap c.held) cuts
  pub attained : AllByRecursion (λ j. (j.held ≡ 0) ⊎ Contains (values visits) j.held) (visits ++ cuts)
