-- One segment of a log: the entries of one taken task. The rules are numbered as in Lawful.
use Rattle.std.specs.Prelude.{◌≡◌, ◌≢◌, ℕ, ◌≤◌, ◌⊎◌, List, [], ◌∷◌, ◌++◌, Some, IsSome, IsTrue, IsFalse}
use Rattle.std.specs.List.{AllByRecursion, Contains, flat_map}
use Rattle.yew_laws.specs.Bag.{SameBag, PartOfBag}
use Rattle.yew_log.specs.Places.{AtEach}
use Rattle.yew_laws.specs.Order.{comes_before, lies_below, is_child, parent_of, occurs}
use Rattle.yew_laws.specs.SearchTree.{SearchTree, at_path, worth_at, bound_at, below}
use Rattle.yew_log.specs.Notes.{Note, taken, visited, cut, ended, Judgement, path_of, paths, visits, cuts, judgements, judgement_in, visit_in, ended_in, taken_paths, visited_paths, cut_paths, sent_paths, ended_paths, event_paths}

-- a taken task and the entries after it, up to the next taken task
pub record Segment : Type 0 where
  pub task : List ℕ
  pub body : List Note

-- the segment of this task with these entries after the Taken entry
abbrev pub segment : List ℕ → List Note → Segment
segment task body = record { task = task; body = body }

-- the entries of one segment, its Taken entry first
abbrev pub entries_in : Segment → List Note
entries_in s = taken s.task ∷ s.body

-- the entries of segments, one after another
abbrev pub entries : List Segment → List Note
entries segments = flat_map entries_in segments

-- P holds of each visit and each cut, with the entries before it
abbrev pub EachJudged : (List Note → Judgement → Type 0) → List Note → Type 0
EachJudged P notes = AtEach (λ before note after. AllByRecursion (P before) (judgement_in note)) [] notes

-- rule 1: the body begins with the visit or the cut of the task
abbrev pub Begins : List ℕ → List Note → Type 0
Begins task (visited path worth held ∷ notes) = path ≡ task
Begins task (cut path bound held ∷ notes) = path ≡ task
Begins task _ = ⊥

-- rule 2: each path comes after all those before it
abbrev pub Rise : List (List ℕ) → Type 0
Rise path_list = AtEach (λ before path after. AllByRecursion (λ p. IsTrue (comes_before p path)) before) [] path_list

-- rule 2: its parent is visited earlier, but for the task itself
abbrev pub HasParent : List ℕ → List Note → Judgement → Type 0
HasParent task before j = j.path ≢ task → Contains (visited_paths before) (parent_of j.path)

-- rule 3 of one visit, with the one end of its path: between the two stand all entries below the path, and no other visit, cut or end
pub record IsEnclosed (path : List ℕ) (before after : List Note) : Type 0 where
  pub inside : List Note
  pub outside : List Note
  pub is_ended : after ≡ inside ++ ended path ∷ outside
  pub one_end : AllByRecursion (λ p. p ≢ path) (ended_paths (before ++ inside ++ outside))
  pub below_inside : AllByRecursion (λ p. IsTrue (lies_below path p)) (event_paths inside)
  pub none_outside : AllByRecursion (λ p. IsFalse (lies_below path p)) (event_paths (before ++ outside))
  pub sent_inside : AllByRecursion (λ p. IsFalse (is_child path p)) (sent_paths (before ++ outside))

-- rule 3: each visit is enclosed
abbrev pub Nests : List Note → Type 0
Nests notes = AtEach (λ before note after. AllByRecursion (λ (v : Judgement). IsEnclosed v.path before after) (visit_in note)) [] notes

-- rule 3: each end stands after the visit of its path
abbrev pub EndsVisits : List Note → Type 0
EndsVisits notes = AtEach (λ before note after. AllByRecursion (λ p. Contains (visited_paths before) p) (ended_in note)) [] notes

-- no path occurs twice
abbrev pub IsOnce : List (List ℕ) → Type 0
IsOnce ps = (path : List ℕ) → occurs path ps ≤ 1

-- no path is taken twice, visited or cut twice, spawned or handed over twice, or ended twice
pub record OneOfAKind (notes : List Note) : Type 0 where
  pub taken_once : IsOnce (taken_paths notes)
  pub judged_once : IsOnce (paths (judgements notes))
  pub sent_once : IsOnce (sent_paths notes)
  pub ended_once : IsOnce (ended_paths notes)

module _ {N : Type 0} (t : SearchTree N) where
  -- the path of each entry is one of the tree
  abbrev pub AreOfTree : List Note → Type 0
  AreOfTree notes = AllByRecursion (λ note. IsSome (at_path t (path_of note))) notes

  -- rule 4: what the entries stand for: the visited paths, and all paths at and below the cut and the sent ones
  abbrev pub covered_paths : List Note → List (List ℕ)
  covered_paths notes = visited_paths notes ++ flat_map (below t) (cut_paths notes ++ sent_paths notes)

  -- rule 5: the worths and the bounds are those of the nodes
  pub record IsValued (notes : List Note) : Type 0 where
    pub worths : AllByRecursion (λ v. worth_at t v.path ≡ Some v.value) (visits notes)
    pub bounds : AllByRecursion (λ c. bound_at t c.path ≡ Some c.value) (cuts notes)

  -- rules 1 to 5 of a segment
  pub record IsSegment (s : Segment) : Type 0 where
    pub untaken : taken_paths s.body ≡ []
    pub begins : Begins s.task s.body
    pub rises : Rise (paths (judgements s.body))
    pub parents : EachJudged (HasParent s.task) s.body
    pub nests : Nests s.body
    pub ends : EndsVisits s.body
    pub all_covered : SameBag (covered_paths s.body) (below t s.task)
    pub valued : IsValued s.body

  -- rules 1, 2 and 5 of a segment that may have been broken off, of which each path is one of the tree, and none has two entries of a kind
  pub record IsBroken (s : Segment) : Type 0 where
    pub untaken : taken_paths s.body ≡ []
    pub begins : (s.body ≡ []) ⊎ Begins s.task s.body
    pub rises : Rise (paths (judgements s.body))
    pub parents : EachJudged (HasParent s.task) s.body
    pub ends : EndsVisits s.body
    pub in_tree : AreOfTree (entries_in s)
    pub one_of_a_kind : OneOfAKind (entries_in s)
    pub part_covered : PartOfBag (covered_paths s.body) (below t s.task)
    pub valued : IsValued s.body
