-- What one load of the incumbent word decides of a node.
use Rattle.std.specs.Prelude.{◌≡◌, ◌≢◌, ℕ, ◌<◌, ◌≤◌, ◌⊎◌, List, []}
use Rattle.yew_best.specs.Seats.{SeatView, has_read}
use Rattle.yew_laws.specs.declared.problem.Problem.{Ghosts}
use Rattle.yew_walk.specs.declared.verdict.Verdict.{Verdict}
use Rattle.yew_walk.specs.declared.verdict.Verdict.TheVariants.{Visit, Cut}
use Rattle.yew_walk.specs.declared.keying.Keying.{Keying}
use Rattle.yew_walk.specs.Keys.{key_of, held_of, limit_of}
use Rattle.yew_walk.specs.Seats.{has_offered, IsRead}

module _ {S N K : Type 0} (meaning : Ghosts S N K) (problem : S) (keying : Keying) (path : List ℕ) (node : N) where
  -- a visit: the node is the root, or the key of its bound is above what the word permits to cut; the key of its worth is offered
  pub record IsVisit (worth held : ℕ) (old new : SeatView) : Type 0 where
    pub word : ℕ
    pub is_read : IsRead old word
    pub worth_is : worth ≡ meaning.worth problem node
    pub held_is : held ≡ held_of keying word
    pub due : (path ≡ []) ⊎ (limit_of keying word < key_of keying (meaning.bound problem node))
    pub seat_is : new ≡ has_offered (has_read old word) (key_of keying worth)

  -- a cut: the node is not the root, and the word permits to cut the key of its bound; nothing is offered
  pub record IsCut (bound held : ℕ) (old new : SeatView) : Type 0 where
    pub word : ℕ
    pub is_read : IsRead old word
    pub bound_is : bound ≡ meaning.bound problem node
    pub held_is : held ≡ held_of keying word
    pub inner : path ≢ []
    pub permitted : key_of keying (meaning.bound problem node) ≤ limit_of keying word
    pub seat_is : new ≡ has_read old word

  -- exactly one of the two, by the one word that is read
  abbrev pub IsVerdict : Verdict → SeatView → SeatView → Type 0
  IsVerdict (Visit worth read) old new = IsVisit worth read old new
  IsVerdict (Cut bound read) old new = IsCut bound read old new
