-- What becomes of a node that a walk comes to.
use Rattle.std.specs.Prelude.{◌≡◌, ℕ, ◌⊎◌, List, [], ◌∷◌, ◌++◌, length}
use Rattle.yew_best.specs.Seats.{SeatView}
use Rattle.yew_laws.specs.declared.problem.Problem.{Ghosts}
use Rattle.yew_laws.specs.Incumbent.{improved}
use Rattle.yew_log.specs.declared.entry.What.TheVariants.{Visited as NotedVisit, Cut as NotedCut}
use Rattle.yew_log.specs.Notes.{Note, visited, cut}
use Rattle.yew_stack.specs.Levels.{LevelValue}
use Rattle.yew_walk.specs.declared.fault.SearchFault.{SearchFault}
use Rattle.yew_walk.specs.declared.fault.SearchFault.TheVariants.{Memory}
use Rattle.yew_walk.specs.declared.hand.Hand.{Hand}
use Rattle.yew_walk.specs.declared.keying.Keying.{Keying}
use Rattle.yew_walk.specs.declared.policy.Event.{Event}
use Rattle.yew_walk.specs.declared.policy.Event.TheVariants.{Visited, CutOff, Ended}
use Rattle.yew_walk.specs.Hands.{incumbent_of}
use Rattle.yew_walk.specs.Keys.{answer_key}
use Rattle.yew_walk.specs.LogViews.{LogView, noted, log_after, RefusesNote}
use Rattle.yew_walk.specs.Verdicts.{IsVisit, IsCut}

-- the children of a node at a path are a new level
pub record OpensLevel {S N K : Type 0} (meaning : Ghosts S N K) (problem : S) (path : List ℕ) (node : N) (old_stack new_stack : List (LevelValue K)) : Type 0 where
  pub kids : K
  pub kids_are : meaning.remaining problem kids ≡ meaning.children problem node
  pub stack_is : new_stack ≡ old_stack ++ record { parent = path; given = 0; kids = kids } ∷ []

module _ {S N K : Type 0} (meaning : Ghosts S N K) (problem : S) (keying : Keying) (path : List ℕ) (node : N) where
  -- the entry by which the node is visited or cut, as the seat read and offered
  abbrev pub Judges : Note → SeatView → SeatView → Type 0
  Judges (visited p worth held) old new = (p ≡ path) × IsVisit meaning problem keying path node worth held old new
  Judges (cut p bound held) old new = (p ≡ path) × IsCut meaning problem keying path node bound held old new
  Judges _ old new = ⊥

  -- the node was judged, and then the walk was refused: its entry, or memory behind it
  pub record StopsEntering (fault : SearchFault) (old_seat : SeatView) (old_log : LogView) (new_seat : SeatView) (new_log : LogView) : Type 0 where
    pub note : Note
    pub judges : Judges note old_seat new_seat
    pub log_is : ((new_log ≡ old_log) × RefusesNote old_log path fault) ⊎ ((new_log ≡ log_after old_log (note ∷ [])) × (fault ≡ Memory))

  module _ {Sum : Type 0} (join : Sum → Sum → Sum) (of : N → ℕ → Sum) where
    -- the node was visited: it is recorded, taken into account, and its children are a new level
    pub record EntersVisit (old_seat : SeatView) (old_hand : Hand Sum) (old_log : LogView) (old_stack : List (LevelValue K)) (new_seat : SeatView) (new_hand : Hand Sum) (new_log : LogView) (new_stack : List (LevelValue K)) : Type 0 where
      pub worth : ℕ
      pub held : ℕ
      pub is_visit : IsVisit meaning problem keying path node worth held old_seat new_seat
      pub log_is : new_log ≡ noted old_log NotedVisit path worth held
      pub best_is : incumbent_of new_hand ≡ improved (incumbent_of old_hand) (answer_key keying worth) path
      pub sum_is : new_hand.sum ≡ join old_hand.sum (of node (length path))
      pub opens : OpensLevel meaning problem path node old_stack new_stack

    -- the node was cut: that is recorded, and all else stays
    pub record EntersCut (old_seat : SeatView) (old_hand : Hand Sum) (old_log : LogView) (old_stack : List (LevelValue K)) (new_seat : SeatView) (new_hand : Hand Sum) (new_log : LogView) (new_stack : List (LevelValue K)) : Type 0 where
      pub bound : ℕ
      pub held : ℕ
      pub is_cut : IsCut meaning problem keying path node bound held old_seat new_seat
      pub log_is : new_log ≡ noted old_log NotedCut path bound held
      pub hand_is : new_hand ≡ old_hand
      pub stack_is : new_stack ≡ old_stack

    -- what was done of a node, by the event that it is
    abbrev pub Enters : Event → SeatView → Hand Sum → LogView → List (LevelValue K) → SeatView → Hand Sum → LogView → List (LevelValue K) → Type 0
    Enters Visited = EntersVisit
    Enters CutOff = EntersCut
    Enters Ended = λ _ _ _ _ _ _ _ _. ⊥
