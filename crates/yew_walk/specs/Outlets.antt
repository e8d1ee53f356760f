-- What an outlet is asked and given, and what becomes of tasks that it refuses.
use Rattle.std.specs.Prelude.{◌≡◌, ℕ, List, [], ◌∷◌, ◌++◌, length, Bool, false}
use Rattle.std.specs.List.{AllByRecursion}
use Rattle.yew_laws.specs.Bag.{SameBag, PartOfBag}
use Rattle.yew_log.specs.Groups.{group_of}
use Rattle.yew_log.specs.Notes.{Note, taken, visited, cut, spawned, handed, ended, sent_paths}
use Rattle.yew_log.specs.Policies.{Event, visit, cut_off, end, Act, on, spawn, hand, PolicyInput, PolicyMeaning}

-- a call of an outlet that was not refused: whether tasks are wanted, with the answer, or a list of tasks, by their paths
pub data OutletCall : Type 0 where
  was_asked : (wanted : Bool) → OutletCall
  was_given : (paths : List (List ℕ)) → OutletCall

-- no tasks are wanted
abbrev pub IsUnwanted : OutletCall → Type 0
IsUnwanted (was_asked wanted) = wanted ≡ false
IsUnwanted (was_given paths) = Unit {0}

-- an event at a path, and whether tasks were wanted
abbrev pub policy_input : Event → List ℕ → Bool → PolicyInput
policy_input event path wanted = record { event = event; depth = length path; wanted = wanted }

-- the list that is sent where an act asks for one, also an empty one
abbrev pub list_for : Act → List (List ℕ) → List OutletCall
list_for on paths = []
list_for (spawn part) paths = was_given paths ∷ []
list_for (hand part) paths = was_given paths ∷ []

module _ {Q : Type 0} (policy : PolicyMeaning Q) where
  -- the calls at one event: the outlet is asked, and the list that the policy asks for is sent
  abbrev pub calls_at : Q → PolicyInput → List (List ℕ) → List OutletCall
  calls_at state input paths = was_asked input.wanted ∷ list_for (policy.act state input) paths

  -- what an outlet is asked and given along entries, from this state of the policy on: the calls at each visit, each cut
  -- and each end, each with the answer of this list and the tasks that are noted directly behind it
  abbrev pub outlet_calls : Q → List Note → List Bool → List OutletCall
  outlet_calls state [] answers = []
  outlet_calls state (note ∷ notes) [] = []
  outlet_calls state (visited path worth held ∷ notes) (wanted ∷ answers) =
      let input = policy_input visit path wanted in calls_at state input (sent_paths (group_of notes)) ++ outlet_calls (policy.after state input) notes answers
  outlet_calls state (cut path bound held ∷ notes) (wanted ∷ answers) =
      let input = policy_input cut_off path wanted in calls_at state input (sent_paths (group_of notes)) ++ outlet_calls (policy.after state input) notes answers
  outlet_calls state (ended path ∷ notes) (wanted ∷ answers) =
      let input = policy_input end path wanted in calls_at state input (sent_paths (group_of notes)) ++ outlet_calls (policy.after state input) notes answers
  outlet_calls state (taken path ∷ notes) (wanted ∷ answers) = outlet_calls state notes (wanted ∷ answers)
  outlet_calls state (spawned path ∷ notes) (wanted ∷ answers) = outlet_calls state notes (wanted ∷ answers)
  outlet_calls state (handed path ∷ notes) (wanted ∷ answers) = outlet_calls state notes (wanted ∷ answers)

-- a part of the tasks was sent, each of which keeps this fact
pub record IsSentPart {X : Type 0} (keeps : X → Type 0) (before tasks after : List X) : Type 0 where
  pub part : List X
  pub of_tasks : PartOfBag part tasks
  pub each : AllByRecursion keeps part
  pub sent_are : SameBag after (before ++ part)
