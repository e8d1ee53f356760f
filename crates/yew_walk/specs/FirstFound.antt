-- What one worker finds in preorder, where a gap is permitted: the best visit of the one sequential log.
use Rattle.std.specs.Prelude.{ℕ, List, [], ◌∷◌, Option, Some, None, ◌==◌, if◌then◌else◌}
use Rattle.yew_laws.specs.SearchTree.{SearchTree}
use Rattle.yew_log.specs.Notes.{Judgement, visits}
use Rattle.yew_log.specs.SeqLog.{visited_worth, seq_log}

-- the path of the first visit of this worth
abbrev pub first_visit : ℕ → List Judgement → Option (List ℕ)
first_visit worth [] = None
first_visit worth (v ∷ vs) = if v.value == worth then Some v.path else first_visit worth vs

module _ {N : Type 0} (t : SearchTree N) (gap : ℕ) where
  -- the greatest worth that the log visits
  abbrev pub found_worth : ℕ
  found_worth = visited_worth (seq_log t gap)

  -- the first path that it visits with this worth; a worth of 0 is no answer
  abbrev pub found_path : Option (List ℕ)
  found_path = if found_worth == 0 then None else first_visit found_worth (visits (seq_log t gap))
