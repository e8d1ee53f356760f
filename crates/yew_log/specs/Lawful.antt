-- Which logs are lawful. A log is cut into segments, each from a Taken entry to the next. A segment keeps these rules.
--
-- 1. It begins with the visit or the cut of its task.
-- 2. The visited and cut paths rise in the order of paths, and each but the task's has its parent visited earlier.
-- 3. Each visit has one end after it, and there is no other end. Between the two stand all visits, cuts and ends below
--    the visit and none of other paths, and every child of it that is sent.
-- 4. The visited paths and all paths at and below the cut and the sent ones are together those at and below the task.
-- 5. The worths and the bounds are those of the nodes.
-- 6. Spawned and Handed entries stand in groups directly after a visit, a cut or an end, as the skeleton says.
--
-- The held values of a log keep these rules.
--
-- 7. They never fall, and each is at least the worth of every earlier visit.
-- 8. Each visit but the root's had to be made: neither an earlier visit's worth nor the held value permits to cut it. Each
--    cut is not the root's, and its held value permits it.
-- 9. In a search of one worker each held value is the greatest worth of the earlier visits, and 0 where there is none.
--
-- A log that was broken off keeps rules 1, 2, 5, 7 and 8 as far as it goes: in each segment the paths of rule 4 are a
-- part of those at and below the task, each end stands after its visit, each path is one of the tree, and no path is
-- visited or cut twice, spawned or handed over twice, or ended twice.
use Rattle.std.specs.Prelude.{◌≡◌, ◌≢◌, ℕ, ◌<◌, ◌⊎◌, List, [], ◌∷◌, ◌++◌, map, length, nat_lt, if◌then◌else◌}
use Rattle.std.specs.List.{AllByRecursion, flat_map}
use Rattle.yew_log.specs.Places.{AtEach}
use Rattle.yew_laws.specs.SearchTree.{SearchTree}
use Rattle.yew_log.specs.Notes.{Note, visited, spawned}
use Rattle.yew_log.specs.Segment.{Segment, segment, entries, IsSegment, IsBroken, Rise}
use Rattle.yew_log.specs.Groups.{Skeleton, sequential, in_order, HasGroups, NoGroup, SkeletonGroup}
use Rattle.yew_log.specs.HeldValues.{KeyKind, plain, ranked, HeldRises, HeldIsMaximum, IsJudged}
use Rattle.yew_log.specs.Items.{items_of, item_paths}

-- Ordered reads the word with the number of an item
abbrev pub key_kind_of : Skeleton → KeyKind
key_kind_of (in_order depth) = ranked
key_kind_of _ = plain

-- the tasks that were taken, in order
abbrev pub tasks_of : List Segment → List (List ℕ)
tasks_of segments = map (λ (s : Segment). s.task) segments

-- only the first of several workers may have rest segments, and only where tasks are shared out while they are walked
abbrev pub MayRest : Skeleton → ℕ → ℕ → Type 0
MayRest sequential workers number = ⊥
MayRest (in_order depth) workers number = ⊥
MayRest _ workers number = (1 < workers) × (number ≡ 1)

-- a task that was found after the joins: it is not the root's, and nothing of it is sent
abbrev pub IsRest : Segment → Type 0
IsRest s = (s.task ≢ []) × HasGroups NoGroup s.body

-- the paths of the visits above a depth and of the spawned tasks, in order
abbrev pub item_in : ℕ → Note → List (List ℕ)
item_in depth (visited path worth held) = if nat_lt (length path) depth then path ∷ [] else []
item_in depth (spawned path) = path ∷ []
item_in depth _ = []

-- the first segment is the root's, and its visits above the depth and its spawned tasks are the items
abbrev pub BeginsWithItems : {N : Type 0} → SearchTree N → ℕ → List Segment → Type 0
BeginsWithItems t depth [] = ⊥
BeginsWithItems t depth (s ∷ segments) = (s.task ≡ []) × (flat_map (item_in depth) s.body ≡ item_paths (items_of t depth))

-- which segments the log of a worker has
abbrev pub HasShape : {N : Type 0} → SearchTree N → Skeleton → ℕ → ℕ → List Segment → Type 0
HasShape t sequential workers number segments = (workers ≡ 1) × (tasks_of segments ≡ [] ∷ [])
HasShape t (in_order depth) workers number segments = Rise (tasks_of segments) × (number ≡ 1 → BeginsWithItems t depth segments)
HasShape t _ workers number segments = Unit {0}

-- rule 6 and the table: the segments and groups of a skeleton, in the log of the worker of this number
pub record HasSkeleton {N : Type 0} (t : SearchTree N) (skeleton : Skeleton) (workers number : ℕ) (segments : List Segment) : Type 0 where
  pub own : List Segment
  pub rest : List Segment
  pub own_first : segments ≡ own ++ rest
  pub groups : AllByRecursion (λ (s : Segment). HasGroups (SkeletonGroup t skeleton) s.body) own
  pub rest_segments : AllByRecursion IsRest rest
  pub may_rest : (rest ≡ []) ⊎ MayRest skeleton workers number
  pub shape : HasShape t skeleton workers number segments

-- the log of the worker of this number, of so many workers, in a search with this skeleton and this gap
pub record LawfulLog {N : Type 0} (t : SearchTree N) (gap : ℕ) (skeleton : Skeleton) (workers number : ℕ) (notes : List Note) : Type 0 where
  pub segments : List Segment
  pub cut_up : notes ≡ entries segments
  pub each : AllByRecursion (IsSegment t) segments
  pub groups : HasSkeleton t skeleton workers number segments
  pub held_rises : HeldRises notes
  pub due : IsJudged t gap (key_kind_of skeleton) notes
  pub alone : workers ≡ 1 → HeldIsMaximum notes

-- segments that were walked to their ends, one after another, and keep rules 1 to 8 with groups of this rule
pub record AreWalks {N : Type 0} (t : SearchTree N) (gap : ℕ) (keyed : KeyKind) (rule : List Note → Note → List Note → Type 0) (segments : List Segment) : Type 0 where
  pub each : AllByRecursion (IsSegment t) segments
  pub groups : AllByRecursion (λ (s : Segment). HasGroups rule s.body) segments
  pub held_rises : HeldRises (entries segments)
  pub due : IsJudged t gap keyed (entries segments)

-- the entries of one walk that came to its end: one segment, of this task
pub record IsWalk {N : Type 0} (t : SearchTree N) (gap : ℕ) (keyed : KeyKind) (rule : List Note → Note → List Note → Type 0) (task : List ℕ) (notes : List Note) : Type 0 where
  pub body : List Note
  pub one_segment : notes ≡ entries (segment task body ∷ [])
  pub keeps : AreWalks t gap keyed rule (segment task body ∷ [])

-- entries that keep rules 1, 2, 5, 7 and 8 as far as they go: the last segment may have been broken off
pub record IsBrokenLog {N : Type 0} (t : SearchTree N) (gap : ℕ) (keyed : KeyKind) (notes : List Note) : Type 0 where
  pub segments : List Segment
  pub cut_up : notes ≡ entries segments
  pub each : AllByRecursion (IsBroken t) segments
  pub only_last : AtEach (λ before s after. s.body ≡ [] → after ≡ []) [] segments
  pub held_rises : HeldRises notes
  pub due : IsJudged t gap keyed notes

-- the same of one task: there is one segment, which is of this task, or no entry at all
pub record IsBrokenWalk {N : Type 0} (t : SearchTree N) (gap : ℕ) (keyed : KeyKind) (task : List ℕ) (notes : List Note) : Type 0 where
  pub keeps : IsBrokenLog t gap keyed notes
  pub of_task : (keeps.segments ≡ []) ⊎ ((body : List Note) × (keeps.segments ≡ segment task body ∷ []))
