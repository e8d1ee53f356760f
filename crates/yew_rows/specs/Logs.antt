-- The logs of whole searches, as lists of entries.
use Rattle.std.specs.Prelude.{List, [], ◌∷◌}
use Rattle.yew_log.specs.Notes.{Note, taken, visited, cut, spawned, handed, ended}

-- a sequential search of the knapsack
abbrev pub sequential_log : List Note
sequential_log = taken [] ∷ visited [] 1 0 ∷ visited (0 ∷ []) 51 1 ∷ visited (0 ∷ 0 ∷ []) 91 51 ∷ ended (0 ∷ 0 ∷ []) ∷ cut (0 ∷ 1 ∷ []) 83 91 ∷ cut (0 ∷ 2 ∷ []) 61 91 ∷ ended (0 ∷ []) ∷ cut (1 ∷ []) 71 91 ∷ cut (2 ∷ []) 39 91 ∷ cut (3 ∷ []) 11 91 ∷ ended [] ∷ []

-- the same search in order, with tasks of depth 1 and one worker
abbrev pub ordered_log : List Note
ordered_log = taken [] ∷ visited [] 1 0 ∷ spawned (0 ∷ []) ∷ spawned (1 ∷ []) ∷ spawned (2 ∷ []) ∷ spawned (3 ∷ []) ∷ ended [] ∷ taken (0 ∷ []) ∷ visited (0 ∷ []) 51 1 ∷ visited (0 ∷ 0 ∷ []) 91 51 ∷ ended (0 ∷ 0 ∷ []) ∷ cut (0 ∷ 1 ∷ []) 83 91 ∷ cut (0 ∷ 2 ∷ []) 61 91 ∷ ended (0 ∷ []) ∷ taken (1 ∷ []) ∷ cut (1 ∷ []) 71 91 ∷ taken (2 ∷ []) ∷ cut (2 ∷ []) 39 91 ∷ taken (3 ∷ []) ∷ cut (3 ∷ []) 11 91 ∷ []

-- a count of the semigroups by budget, with a spawn after each end and one worker
abbrev pub budget_log : List Note
budget_log = taken [] ∷ visited [] 0 0 ∷ visited (0 ∷ []) 0 0 ∷ visited (0 ∷ 0 ∷ []) 0 0 ∷ ended (0 ∷ 0 ∷ []) ∷ spawned (0 ∷ 1 ∷ []) ∷ ended (0 ∷ []) ∷ ended [] ∷ taken (0 ∷ 1 ∷ []) ∷ visited (0 ∷ 1 ∷ []) 0 0 ∷ ended (0 ∷ 1 ∷ []) ∷ []

-- a count of the semigroups by depth, with tasks of depth 1 and one worker
abbrev pub depth_log : List Note
depth_log = taken [] ∷ visited [] 0 0 ∷ spawned (0 ∷ []) ∷ ended [] ∷ taken (0 ∷ []) ∷ visited (0 ∷ []) 0 0 ∷ visited (0 ∷ 0 ∷ []) 0 0 ∷ ended (0 ∷ 0 ∷ []) ∷ visited (0 ∷ 1 ∷ []) 0 0 ∷ ended (0 ∷ 1 ∷ []) ∷ ended (0 ∷ []) ∷ []

-- the same entries by depth 2 with two workers, where the second task was found after the joins
abbrev pub rest_log : List Note
rest_log = depth_log

-- a search of the knapsack by two workers, of which the first hands a child over to the second
abbrev pub giving_log : List Note
giving_log = taken [] ∷ visited [] 1 0 ∷ handed (0 ∷ []) ∷ visited (1 ∷ []) 41 1 ∷ visited (1 ∷ 0 ∷ []) 71 41 ∷ ended (1 ∷ 0 ∷ []) ∷ cut (1 ∷ 1 ∷ []) 51 91 ∷ ended (1 ∷ []) ∷ cut (2 ∷ []) 39 91 ∷ cut (3 ∷ []) 11 91 ∷ ended [] ∷ []

abbrev pub asking_log : List Note
asking_log = taken (0 ∷ []) ∷ visited (0 ∷ []) 51 1 ∷ visited (0 ∷ 0 ∷ []) 91 51 ∷ ended (0 ∷ 0 ∷ []) ∷ cut (0 ∷ 1 ∷ []) 83 91 ∷ cut (0 ∷ 2 ∷ []) 61 91 ∷ ended (0 ∷ []) ∷ []

-- a sequential search of the knapsack that may cut what betters the held value by no more than 60
abbrev pub gap_log : List Note
gap_log = taken [] ∷ visited [] 1 0 ∷ visited (0 ∷ []) 51 1 ∷ cut (0 ∷ 0 ∷ []) 106 51 ∷ cut (0 ∷ 1 ∷ []) 83 51 ∷ cut (0 ∷ 2 ∷ []) 61 51 ∷ ended (0 ∷ []) ∷ cut (1 ∷ []) 71 51 ∷ cut (2 ∷ []) 39 51 ∷ cut (3 ∷ []) 11 51 ∷ ended [] ∷ []
