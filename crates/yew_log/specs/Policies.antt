-- The groups that a policy asks for.
use Rattle.std.specs.Prelude.{◌≡◌, ℕ, suc, List, [], ◌∷◌, ◌++◌, map, length, Bool, true, false, ◌&&◌, ◌==◌, nat_lt, if◌then◌else◌}
use Rattle.yew_laws.specs.SearchTree.{SearchTree}
use Rattle.yew_log.specs.Notes.{Note, taken, visited, cut, spawned, handed, ended, event_paths}
use Rattle.yew_log.specs.Groups.{Part, all, part_of, lowest_left, HasGroups}

-- what a policy is told of
pub data Event : Type 0 where
  visit : Event
  cut_off : Event
  end : Event

-- what a policy asks for
pub data Act : Type 0 where
  on : Act
  spawn : (part : Part) → Act
  hand : (part : Part) → Act

-- an event, its depth, and whether tasks were wanted
pub record PolicyInput : Type 0 where
  pub event : Event
  pub depth : ℕ
  pub wanted : Bool

-- the meanings of a policy: the state that start leaves, the act after an event, and the state after it
pub record PolicyMeaning (Q : Type 0) : Type 0 where
  pub start : Q → Q
  pub act : Q → PolicyInput → Act
  pub after : Q → PolicyInput → Q

-- the Visited, Cut and Ended entries in order, each with the answer of this list
abbrev pub policy_inputs : List Note → List Bool → List PolicyInput
policy_inputs [] answers = []
policy_inputs (note ∷ notes) [] = []
policy_inputs (visited path worth held ∷ notes) (wanted ∷ answers) = record { event = visit; depth = length path; wanted = wanted } ∷ policy_inputs notes answers
policy_inputs (cut path bound held ∷ notes) (wanted ∷ answers) = record { event = cut_off; depth = length path; wanted = wanted } ∷ policy_inputs notes answers
policy_inputs (ended path ∷ notes) (wanted ∷ answers) = record { event = end; depth = length path; wanted = wanted } ∷ policy_inputs notes answers
policy_inputs (taken path ∷ notes) (wanted ∷ answers) = policy_inputs notes (wanted ∷ answers)
policy_inputs (spawned path ∷ notes) (wanted ∷ answers) = policy_inputs notes (wanted ∷ answers)
policy_inputs (handed path ∷ notes) (wanted ∷ answers) = policy_inputs notes (wanted ∷ answers)

-- the act after the last of these events
abbrev pub last_act : {Q : Type 0} → PolicyMeaning Q → Q → List PolicyInput → Act
last_act meaning state [] = on
last_act meaning state (x ∷ []) = meaning.act state x
last_act meaning state (x ∷ y ∷ rest) = last_act meaning (meaning.after state x) (y ∷ rest)

-- the entries that an act leaves, of the children that are left of the lowest level
abbrev pub act_notes : Act → List (List ℕ) → List Note
act_notes on children = []
act_notes (spawn part) children = map spawned (part_of part children)
act_notes (hand part) children = map handed (part_of part children)

-- the group that a policy asks for at a place, where the events so far had these answers
abbrev pub PolicyGroup : {N Q : Type 0} → SearchTree N → PolicyMeaning Q → Q → List Bool → List Note → Note → List Note → Type 0
PolicyGroup t meaning state answers before event group =
    group ≡ act_notes (last_act meaning (meaning.start state) (policy_inputs (before ++ event ∷ []) answers)) (lowest_left t (before ++ event ∷ []))

-- a segment's body has the groups of a policy: some answers, one for each visit, cut and end, lead to them
pub record HasPolicy {N Q : Type 0} (t : SearchTree N) (meaning : PolicyMeaning Q) (state : Q) (answers : List Bool) (body : List Note) : Type 0 where
  pub one_each : length answers ≡ length (event_paths body)
  pub groups : HasGroups (PolicyGroup t meaning state answers) body

-- nothing is ever asked for
abbrev pub plain_policy : PolicyMeaning (Unit {0})
plain_policy = record { start = λ s. s; act = λ s x. on; after = λ s x. s }

-- whether an event is a visit
abbrev pub is_visit : Event → Bool
is_visit visit = true
is_visit _ = false

-- whether an event is an end
abbrev pub is_end : Event → Bool
is_end end = true
is_end _ = false

-- all is spawned after each visit above a depth, which is the state
abbrev pub depth_policy : PolicyMeaning ℕ
depth_policy = record { start = λ d. d; act = λ d x. if is_visit x.event && nat_lt x.depth d then spawn all else on; after = λ d x. d }

-- how many ends make a spawn, and how many there were since the start or the last spawn
pub record Spending : Type 0 where
  pub every : ℕ
  pub spent : ℕ

-- this many make a spawn, and so many were counted
abbrev pub spending : ℕ → ℕ → Spending
spending every spent = record { every = every; spent = spent }

-- all is spawned after the last end of each full count
abbrev pub budget_policy : PolicyMeaning Spending
budget_policy = record {
  start = λ s. spending s.every 0;
  act = λ s x. if is_end x.event && suc s.spent == s.every then spawn all else on;
  after = λ s x. if is_end x.event then (if suc s.spent == s.every then spending s.every 0 else spending s.every (suc s.spent)) else s;
}

-- a part, which is the state, is handed over where it is wanted
abbrev pub hungry_policy : PolicyMeaning Part
hungry_policy = record { start = λ part. part; act = λ part x. if x.wanted then hand part else on; after = λ part x. part }
