-- How the seat of a worker at the incumbent word goes on: what it reads and offers along the entries of its log.
use Rattle.std.specs.Prelude.{◌≡◌, ◌≢◌, ℕ, ◌<◌, ◌≤◌, ◌⊎◌, List, [], ◌∷◌, ◌++◌, All, Contains, IfSome}
use Rattle.yew_best.specs.Seats.{SeatView, has_read}
use Rattle.yew_laws.specs.SearchTree.{SearchTree, bound_at}
use Rattle.yew_log.specs.Notes.{Note, taken, visited, cut, spawned, handed, ended}
use Rattle.yew_walk.specs.declared.keying.Keying.{Keying}
use Rattle.yew_walk.specs.Keys.{key_of, held_of, limit_of}

-- the seat after it has offered a key
abbrev pub has_offered : SeatView → ℕ → SeatView
has_offered seat key = record seat { offered = seat.offered ++ key ∷ [] }

-- what a seat knows of a word that it reads: it is at least all that the seat has read and offered, and with the whole
-- share it is 0 or was offered by the seat
pub record IsRead (seat : SeatView) (word : ℕ) : Type 0 where
  pub at_least_read : All (λ x. x ≤ word) seat.read
  pub at_least_offered : All (λ x. x ≤ word) seat.offered
  pub whole : seat.share ≡ seat.best.seats → (word ≡ 0) ⊎ Contains seat.offered word

module _ {N : Type 0} (t : SearchTree N) (keying : Keying) where
  -- the word that is read before a visit: it has the held value, and but for the root what it permits to cut is below the key of the node's bound
  pub record IsVisitWord (seat : SeatView) (path : List ℕ) (held word : ℕ) : Type 0 where
    pub is_read : IsRead seat word
    pub held_is : held ≡ held_of keying word
    pub due : path ≢ [] → IfSome (bound_at t path) (λ bound. limit_of keying word < key_of keying bound)

  -- the word that is read before a cut: it has the held value, and permits to cut the key of the bound
  pub record IsCutWord (seat : SeatView) (bound held word : ℕ) : Type 0 where
    pub is_read : IsRead seat word
    pub held_is : held ≡ held_of keying word
    pub permitted : key_of keying bound ≤ limit_of keying word

  -- a seat along entries: before each visit and each cut one word is read, by which it was decided, and each visit
  -- offers the key of its worth; nothing else is read or offered
  abbrev pub SeatGoes : SeatView → List Note → SeatView → Type 0
  SeatGoes old [] new = new ≡ old
  SeatGoes old (visited path worth held ∷ notes) new =
      (word : ℕ) × IsVisitWord old path held word × SeatGoes (has_offered (has_read old word) (key_of keying worth)) notes new
  SeatGoes old (cut path bound held ∷ notes) new =
      (word : ℕ) × IsCutWord old bound held word × SeatGoes (has_read old word) notes new
  SeatGoes old (taken path ∷ notes) new = SeatGoes old notes new
  SeatGoes old (spawned path ∷ notes) new = SeatGoes old notes new
  SeatGoes old (handed path ∷ notes) new = SeatGoes old notes new
  SeatGoes old (ended path ∷ notes) new = SeatGoes old notes new
