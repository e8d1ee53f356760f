-- The groups of Spawned and Handed entries in a segment.
use Rattle.std.specs.Prelude.{◌≡◌, ℕ, suc, ◌%◌, List, [], ◌∷◌, ◌++◌, map, length, Option, Some, None, Bool, false, not, ◌==◌, nat_lt, nat_le, if◌then◌else◌, ◌⊎◌}
use Rattle.std.specs.List.{AllByRecursion, list_any, filter}
use Rattle.yew_log.specs.Places.{AtEach}
use Rattle.yew_laws.specs.Order.{is_path}
use Rattle.yew_laws.specs.SearchTree.{SearchTree, child_paths}
use Rattle.yew_log.specs.Notes.{Note, visited, spawned, handed, ended, path_of, visited_paths, ended_paths, event_in}

-- how many of the children that are left a group takes
pub data Part : Type 0 where
  one : Part
  all : Part

-- all these children, or the first one alone
abbrev pub part_of : Part → List (List ℕ) → List (List ℕ)
part_of all children = children
part_of one [] = []
part_of one (child ∷ children) = child ∷ []

-- the Spawned and Handed entries that stand directly at the front
abbrev pub group_of : List Note → List Note
group_of (spawned path ∷ notes) = spawned path ∷ group_of notes
group_of (handed path ∷ notes) = handed path ∷ group_of notes
group_of _ = []

-- the visited paths that have not ended, in the order of their visits
abbrev pub open_paths : List Note → List (List ℕ)
open_paths notes = filter (λ p. not (list_any (is_path p) (ended_paths notes))) (visited_paths notes)

-- this path, or the other one where that is shorter
abbrev pub shorter : List ℕ → Option (List ℕ) → List ℕ
shorter path None = path
shorter path (Some other) = if nat_le (length path) (length other) then path else other

-- the shortest of these paths, if there is one
abbrev pub shortest : List (List ℕ) → Option (List ℕ)
shortest [] = None
shortest (path ∷ others) = Some (shorter path (shortest others))

module _ {N : Type 0} (t : SearchTree N) where
  -- the children of a path that have no entry so far, in order
  abbrev pub children_left : List Note → List ℕ → List (List ℕ)
  children_left notes path = filter (λ c. not (list_any (λ note. is_path c (path_of note)) notes)) (child_paths t path)

  -- some child of the path has no entry so far
  abbrev pub has_left : List Note → List ℕ → Bool
  has_left notes path = nat_lt 0 (length (children_left notes path))

  -- the shortest of the open paths that have children left
  abbrev pub lowest_level : List Note → Option (List ℕ)
  lowest_level notes = shortest (filter (has_left notes) (open_paths notes))

  -- the children that are left of a level, if there is one
  abbrev pub left_at : List Note → Option (List ℕ) → List (List ℕ)
  left_at notes None = []
  left_at notes (Some path) = children_left notes path

  -- the children that are left of the lowest level, in order
  abbrev pub lowest_left : List Note → List (List ℕ)
  lowest_left notes = left_at notes (lowest_level notes)

-- rule 6: each visit, each cut and each end is followed by a group of this rule
abbrev pub HasGroups : (List Note → Note → List Note → Type 0) → List Note → Type 0
HasGroups rule notes = AtEach (λ before note after. AllByRecursion (λ p. rule before note (group_of after)) (event_in note)) [] notes

-- no groups at all
abbrev pub NoGroup : List Note → Note → List Note → Type 0
NoGroup before event group = group ≡ []

-- the five ways in which a search is shared out
pub data Skeleton : Type 0 where
  sequential : Skeleton
  by_depth : (depth : ℕ) → Skeleton
  by_budget : (budget : ℕ) → Skeleton
  by_steal : (part : Part) → Skeleton
  in_order : (depth : ℕ) → Skeleton

-- a visit of a depth below this one
abbrev pub is_visit_above : ℕ → Note → Bool
is_visit_above depth (visited path worth held) = nat_lt (length path) depth
is_visit_above depth _ = false

-- a visit whose children have this depth
abbrev pub is_visit_over : ℕ → Note → Bool
is_visit_over depth (visited path worth held) = suc (length path) == depth
is_visit_over depth _ = false

-- this is an end, and the b-th, 2b-th, 3b-th and so on of the segment
abbrev pub is_due_end : ℕ → List Note → Note → Bool
is_due_end budget before (ended path) = suc (length (ended_paths before)) % budget == 0
is_due_end budget before _ = false

-- the groups of each skeleton
abbrev pub SkeletonGroup : {N : Type 0} → SearchTree N → Skeleton → List Note → Note → List Note → Type 0
SkeletonGroup t sequential before event group = group ≡ []
SkeletonGroup t (by_depth depth) before event group = group ≡ (if is_visit_above depth event then map spawned (lowest_left t (before ++ event ∷ [])) else [])
SkeletonGroup t (by_budget budget) before event group = group ≡ (if is_due_end budget before event then map spawned (lowest_left t (before ++ event ∷ [])) else [])
SkeletonGroup t (by_steal part) before event group = (group ≡ []) ⊎ (group ≡ map handed (part_of part (lowest_left t (before ++ event ∷ []))))
SkeletonGroup t (in_order depth) before event group = group ≡ (if is_visit_over depth event then map spawned (child_paths t (path_of event)) else [])
