-- The visits and the cuts of an audit.
use Rattle.std.specs.Prelude.{◌≡◌, ℕ, ◌≤◌, ◌⊎◌, Bool, true, false, List, [], ◌∷◌, map, Some, IsTrue, IsFalse, if◌then◌else◌}
use Rattle.std.specs.List.{AllByRecursion, Contains, flat_map}
use Rattle.yew_laws.specs.Order.{comes_before, occurs}
use Rattle.yew_laws.specs.SearchTree.{SearchTree, worth_at, bound_at, below}
use Rattle.yew_log.specs.Attained.{limit}
use Rattle.yew_log.specs.Notes.{Note, visited, cut}
use Rattle.yew_check.specs.declared.marks.Mark as code

-- a visit or a cut: its path, whether it is a visit, its worth or its bound, and the held value that was read
pub record Mark : Type 0 where
  pub path : List ℕ
  pub is_visit : Bool
  pub value : ℕ
  pub held : ℕ

-- the visit or the cut that an entry is, if it is one
abbrev pub mark_in : Note → List Mark
mark_in (visited path worth held) = record { path = path; is_visit = true; value = worth; held = held } ∷ []
mark_in (cut path bound held) = record { path = path; is_visit = false; value = bound; held = held } ∷ []
mark_in _ = []

-- the visits and the cuts, in order
abbrev pub marks : List Note → List Mark
marks notes = flat_map mark_in notes

-- their paths
abbrev pub mark_paths : List Mark → List (List ℕ)
mark_paths ms = map (λ (m : Mark). m.path) ms

-- what the code keeps of one
abbrev pub seen : code.Mark → Mark
seen m = record { path = m.path.now.numbers; is_visit = m.is_visit; value = m.value; held = m.held }

abbrev pub all_seen : List code.Mark → List Mark
all_seen ms = map seen ms

-- the worths of the visits
abbrev pub worth_in : Mark → List ℕ
worth_in m = if m.is_visit then m.value ∷ [] else []

abbrev pub worths : List Mark → List ℕ
worths ms = flat_map worth_in ms

-- each path comes before all behind it
abbrev pub Rises : List (List ℕ) → Type 0
Rises [] = Unit {0}
Rises (path ∷ more) = AllByRecursion (λ p. IsTrue (comes_before path p)) more × Rises more

-- no path comes before the one in front of it
abbrev pub InOrder : List (List ℕ) → Type 0
InOrder [] = Unit {0}
InOrder (path ∷ []) = Unit {0}
InOrder (path ∷ next ∷ more) = IsFalse (comes_before next path) × InOrder (next ∷ more)

-- a path stands twice
abbrev pub IsTwice : List (List ℕ) → Type 0
IsTwice ps = (path : List ℕ) × (2 ≤ occurs path ps)

-- this bound of a cut is permitted by this held value; a visit needs no leave
abbrev pub PermitsCut : Bool → ℕ → ℕ → ℕ → Type 0
PermitsCut true gap value held = Unit {0}
PermitsCut false gap value held = value ≤ limit gap held

-- a cut that its held value permits, and a held value that is 0 or one of these worths
pub record IsCaused (gap : ℕ) (known : List ℕ) (m : Mark) : Type 0 where
  pub permitted : PermitsCut m.is_visit gap m.value m.held
  pub attained : (m.held ≡ 0) ⊎ Contains known m.held

module _ {N : Type 0} (t : SearchTree N) where
  -- the paths that a visit or a cut stands for
  abbrev pub covers : Mark → List (List ℕ)
  covers m = if m.is_visit then m.path ∷ [] else below t m.path

  -- a visit has the worth of its node, and a cut its bound
  abbrev pub IsValued : Mark → Type 0
  IsValued m = (if m.is_visit then worth_at t m.path else bound_at t m.path) ≡ Some m.value
