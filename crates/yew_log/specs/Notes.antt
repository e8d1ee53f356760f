-- What contracts see of a log: its entries, with their paths as lists of numbers.
use Rattle.std.specs.Prelude.{ℕ, List, [], ◌∷◌, map, max, length}
use Rattle.std.specs.List.{flat_map, sum_by}

-- a visit has the worth and the held value that was read, and a cut has the bound and the held value that was read
pub data Note : Type 0 where
  taken : (path : List ℕ) → Note
  visited : (path : List ℕ) (worth held : ℕ) → Note
  cut : (path : List ℕ) (bound held : ℕ) → Note
  spawned : (path : List ℕ) → Note
  handed : (path : List ℕ) → Note
  ended : (path : List ℕ) → Note

-- a visit or a cut: its path, its worth or its bound, and the held value that was read
pub record Judgement : Type 0 where
  pub path : List ℕ
  pub value : ℕ
  pub held : ℕ

-- a judgement of these parts
abbrev pub judgement : List ℕ → ℕ → ℕ → Judgement
judgement path value held = record { path = path; value = value; held = held }

-- the path of an entry
abbrev pub path_of : Note → List ℕ
path_of (taken path) = path
path_of (visited path worth held) = path
path_of (cut path bound held) = path
path_of (spawned path) = path
path_of (handed path) = path
path_of (ended path) = path

-- the visit that an entry is, if it is one
abbrev pub visit_in : Note → List Judgement
visit_in (visited path worth held) = judgement path worth held ∷ []
visit_in _ = []

-- the cut that an entry is, if it is one
abbrev pub cut_in : Note → List Judgement
cut_in (cut path bound held) = judgement path bound held ∷ []
cut_in _ = []

-- the visit or the cut that an entry is, if it is one
abbrev pub judgement_in : Note → List Judgement
judgement_in (visited path worth held) = judgement path worth held ∷ []
judgement_in (cut path bound held) = judgement path bound held ∷ []
judgement_in _ = []

-- the path of an entry of this kind, if it is one
abbrev pub taken_in : Note → List (List ℕ)
taken_in (taken path) = path ∷ []
taken_in _ = []

-- likewise of a Spawned entry
abbrev pub spawned_in : Note → List (List ℕ)
spawned_in (spawned path) = path ∷ []
spawned_in _ = []

-- likewise of a Handed entry
abbrev pub handed_in : Note → List (List ℕ)
handed_in (handed path) = path ∷ []
handed_in _ = []

-- likewise of a Spawned or a Handed entry
abbrev pub sent_in : Note → List (List ℕ)
sent_in (spawned path) = path ∷ []
sent_in (handed path) = path ∷ []
sent_in _ = []

-- likewise of an Ended entry
abbrev pub ended_in : Note → List (List ℕ)
ended_in (ended path) = path ∷ []
ended_in _ = []

-- likewise of a Visited, a Cut or an Ended entry, after each of which a policy is asked
abbrev pub event_in : Note → List (List ℕ)
event_in (visited path worth held) = path ∷ []
event_in (cut path bound held) = path ∷ []
event_in (ended path) = path ∷ []
event_in _ = []

-- the visits, in order
abbrev pub visits : List Note → List Judgement
visits notes = flat_map visit_in notes

-- the cuts, in order
abbrev pub cuts : List Note → List Judgement
cuts notes = flat_map cut_in notes

-- the visits and the cuts, in order
abbrev pub judgements : List Note → List Judgement
judgements notes = flat_map judgement_in notes

-- the paths of judgements
abbrev pub paths : List Judgement → List (List ℕ)
paths js = map (λ (j : Judgement). j.path) js

-- the worths of visits, or the bounds of cuts
abbrev pub values : List Judgement → List ℕ
values js = map (λ (j : Judgement). j.value) js

-- the held values that were read
abbrev pub held_values : List Judgement → List ℕ
held_values js = map (λ (j : Judgement). j.held) js

-- the paths of the Taken entries, in order
abbrev pub taken_paths : List Note → List (List ℕ)
taken_paths notes = flat_map taken_in notes

-- the paths of the Visited entries, in order
abbrev pub visited_paths : List Note → List (List ℕ)
visited_paths notes = paths (visits notes)

-- the paths of the Cut entries, in order
abbrev pub cut_paths : List Note → List (List ℕ)
cut_paths notes = paths (cuts notes)

-- the paths of the Spawned entries, in order
abbrev pub spawned_paths : List Note → List (List ℕ)
spawned_paths notes = flat_map spawned_in notes

-- the paths of the Handed entries, in order
abbrev pub handed_paths : List Note → List (List ℕ)
handed_paths notes = flat_map handed_in notes

-- the paths of the Spawned and Handed entries, in order
abbrev pub sent_paths : List Note → List (List ℕ)
sent_paths notes = flat_map sent_in notes

-- the paths of the Ended entries, in order
abbrev pub ended_paths : List Note → List (List ℕ)
ended_paths notes = flat_map ended_in notes

-- the paths of the Visited, Cut and Ended entries, in order
abbrev pub event_paths : List Note → List (List ℕ)
event_paths notes = flat_map event_in notes

-- the greatest of these numbers, and 0 where there is none
abbrev pub maximum : List ℕ → ℕ
maximum [] = 0
maximum (n ∷ ns) = max n (maximum ns)

-- how many numbers the paths of these entries have together
abbrev pub path_numbers : List Note → ℕ
path_numbers notes = sum_by (λ note. length (path_of note)) notes
