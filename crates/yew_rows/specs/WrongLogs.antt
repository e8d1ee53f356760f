-- Logs that are not lawful.
use Rattle.std.specs.Prelude.{List, [], ◌∷◌}
use Rattle.yew_log.specs.Notes.{Note, taken, visited, cut, spawned, handed, ended}

-- a cut is left out
abbrev pub cut_dropped : List Note
cut_dropped = taken [] ∷ visited [] 1 0 ∷ visited (0 ∷ []) 51 1 ∷ visited (0 ∷ 0 ∷ []) 91 51 ∷ ended (0 ∷ 0 ∷ []) ∷ cut (0 ∷ 1 ∷ []) 83 91 ∷ cut (0 ∷ 2 ∷ []) 61 91 ∷ ended (0 ∷ []) ∷ cut (2 ∷ []) 39 91 ∷ cut (3 ∷ []) 11 91 ∷ ended [] ∷ []

-- a held value falls
abbrev pub held_falls : List Note
held_falls = taken [] ∷ visited [] 1 0 ∷ visited (0 ∷ []) 51 1 ∷ visited (0 ∷ 0 ∷ []) 91 51 ∷ ended (0 ∷ 0 ∷ []) ∷ cut (0 ∷ 1 ∷ []) 83 91 ∷ cut (0 ∷ 2 ∷ []) 61 91 ∷ ended (0 ∷ []) ∷ cut (1 ∷ []) 71 91 ∷ cut (2 ∷ []) 39 51 ∷ cut (3 ∷ []) 11 91 ∷ ended [] ∷ []

-- a cut has a bound above its held value
abbrev pub cut_above : List Note
cut_above = taken [] ∷ visited [] 1 0 ∷ visited (0 ∷ []) 51 1 ∷ cut (0 ∷ 0 ∷ []) 106 51 ∷ cut (0 ∷ 1 ∷ []) 83 51 ∷ cut (0 ∷ 2 ∷ []) 61 51 ∷ ended (0 ∷ []) ∷ cut (1 ∷ []) 71 51 ∷ cut (2 ∷ []) 39 51 ∷ cut (3 ∷ []) 11 51 ∷ ended [] ∷ []

-- a visit has two ends
abbrev pub ended_twice : List Note
ended_twice = taken [] ∷ visited [] 1 0 ∷ visited (0 ∷ []) 51 1 ∷ visited (0 ∷ 0 ∷ []) 91 51 ∷ ended (0 ∷ 0 ∷ []) ∷ ended (0 ∷ 0 ∷ []) ∷ cut (0 ∷ 1 ∷ []) 83 91 ∷ cut (0 ∷ 2 ∷ []) 61 91 ∷ ended (0 ∷ []) ∷ cut (1 ∷ []) 71 91 ∷ cut (2 ∷ []) 39 91 ∷ cut (3 ∷ []) 11 91 ∷ ended [] ∷ []

-- by budget, a group stands after a visit
abbrev pub early_group : List Note
early_group = taken [] ∷ visited [] 0 0 ∷ visited (0 ∷ []) 0 0 ∷ visited (0 ∷ 0 ∷ []) 0 0 ∷ spawned (0 ∷ 1 ∷ []) ∷ ended (0 ∷ 0 ∷ []) ∷ ended (0 ∷ []) ∷ ended [] ∷ taken (0 ∷ 1 ∷ []) ∷ visited (0 ∷ 1 ∷ []) 0 0 ∷ ended (0 ∷ 1 ∷ []) ∷ []

-- a held value of the last cut is no visit's worth
abbrev pub held_inexact : List Note
held_inexact = taken [] ∷ visited [] 1 0 ∷ visited (0 ∷ []) 51 1 ∷ visited (0 ∷ 0 ∷ []) 91 51 ∷ ended (0 ∷ 0 ∷ []) ∷ cut (0 ∷ 1 ∷ []) 83 91 ∷ cut (0 ∷ 2 ∷ []) 61 91 ∷ ended (0 ∷ []) ∷ cut (1 ∷ []) 71 91 ∷ cut (2 ∷ []) 39 91 ∷ cut (3 ∷ []) 11 92 ∷ ended [] ∷ []

-- a visit's bound is below its held value
abbrev pub visit_not_due : List Note
visit_not_due = taken [] ∷ visited [] 1 0 ∷ visited (0 ∷ []) 51 1 ∷ visited (0 ∷ 0 ∷ []) 91 51 ∷ ended (0 ∷ 0 ∷ []) ∷ cut (0 ∷ 1 ∷ []) 83 91 ∷ cut (0 ∷ 2 ∷ []) 61 91 ∷ ended (0 ∷ []) ∷ visited (1 ∷ []) 41 91 ∷ cut (1 ∷ 0 ∷ []) 71 91 ∷ cut (1 ∷ 1 ∷ []) 51 91 ∷ ended (1 ∷ []) ∷ cut (2 ∷ []) 39 91 ∷ cut (3 ∷ []) 11 91 ∷ ended [] ∷ []

-- in order, the third task is taken before the second
abbrev pub tasks_fall : List Note
tasks_fall = taken [] ∷ visited [] 1 0 ∷ spawned (0 ∷ []) ∷ spawned (1 ∷ []) ∷ spawned (2 ∷ []) ∷ spawned (3 ∷ []) ∷ ended [] ∷ taken (0 ∷ []) ∷ visited (0 ∷ []) 51 1 ∷ visited (0 ∷ 0 ∷ []) 91 51 ∷ ended (0 ∷ 0 ∷ []) ∷ cut (0 ∷ 1 ∷ []) 83 91 ∷ cut (0 ∷ 2 ∷ []) 61 91 ∷ ended (0 ∷ []) ∷ taken (2 ∷ []) ∷ cut (2 ∷ []) 39 91 ∷ taken (1 ∷ []) ∷ cut (1 ∷ []) 71 91 ∷ taken (3 ∷ []) ∷ cut (3 ∷ []) 11 91 ∷ []

-- under stealing one child at a time, two are handed over at once
abbrev pub two_handed : List Note
two_handed = taken [] ∷ visited [] 1 0 ∷ handed (0 ∷ []) ∷ handed (1 ∷ []) ∷ visited (2 ∷ []) 31 1 ∷ ended (2 ∷ []) ∷ cut (3 ∷ []) 11 31 ∷ ended [] ∷ taken (0 ∷ []) ∷ visited (0 ∷ []) 51 31 ∷ visited (0 ∷ 0 ∷ []) 91 51 ∷ ended (0 ∷ 0 ∷ []) ∷ cut (0 ∷ 1 ∷ []) 83 91 ∷ cut (0 ∷ 2 ∷ []) 61 91 ∷ ended (0 ∷ []) ∷ taken (1 ∷ []) ∷ cut (1 ∷ []) 71 91 ∷ []

-- a walk that was broken off has sent a child that does not exist, twice
abbrev pub missing_child : List Note
missing_child = taken [] ∷ visited [] 0 0 ∷ spawned (5 ∷ []) ∷ spawned (5 ∷ []) ∷ []
