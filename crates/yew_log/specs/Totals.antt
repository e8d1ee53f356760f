-- The totals of a log.
use Rattle.std.specs.Prelude.{ℕ, ◌+◌, ◌-◌, ◌^◌, min, List, length}
use Rattle.yew_log.specs.declared.entry.Totals.{Totals}
use Rattle.yew_log.specs.declared.entry.What.{What}
use Rattle.yew_log.specs.declared.entry.What.TheVariants.{Taken, Visited, Cut, Spawned, Handed, Ended}
use Rattle.yew_log.specs.Notes.{Note, taken_paths, spawned_paths, handed_paths, visits, cuts}

-- the totals of these counts
abbrev pub make_totals : ℕ → ℕ → ℕ → ℕ → ℕ → Totals
make_totals taken spawned handed visited cut = record { taken = taken; spawned = spawned; handed = handed; visited = visited; cut = cut }

-- the totals of a new log
abbrev pub no_totals : Totals
no_totals = make_totals 0 0 0 0 0

-- a count that stays at its last value
abbrev pub saturated_count : ℕ → ℕ
saturated_count n = min n (2 ^ 64 - 1)

-- the totals of both, saturating
abbrev pub totals_sum : Totals → Totals → Totals
totals_sum a b =
    make_totals (saturated_count (a.taken + b.taken)) (saturated_count (a.spawned + b.spawned)) (saturated_count (a.handed + b.handed))
    (saturated_count (a.visited + b.visited)) (saturated_count (a.cut + b.cut))

-- the totals after one more entry of this kind, saturating
abbrev pub next_totals : Totals → What → Totals
next_totals t Taken = record t { taken = saturated_count (t.taken + 1) }
next_totals t Spawned = record t { spawned = saturated_count (t.spawned + 1) }
next_totals t Handed = record t { handed = saturated_count (t.handed + 1) }
next_totals t Visited = record t { visited = saturated_count (t.visited + 1) }
next_totals t Cut = record t { cut = saturated_count (t.cut + 1) }
next_totals t Ended = t

-- how many entries of each kind these are, without a limit
abbrev pub totals_of : List Note → Totals
totals_of notes = make_totals (length (taken_paths notes)) (length (spawned_paths notes)) (length (handed_paths notes)) (length (visits notes)) (length (cuts notes))

-- the totals of a log that had these totals and got these entries
abbrev pub totals_after : Totals → List Note → Totals
totals_after t notes = totals_sum t (totals_of notes)
