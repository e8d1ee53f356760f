-- The rule of the incumbent word, over the word and the views of all seats.
use Rattle.std.specs.Prelude.{◌≡◌, ◌≢◌, ℕ, ◌<◌, ◌≤◌, ◌⊎◌, List, [], length, All, Contains, sum_by, slice_index}
use mathlib.Core.Option.{some}
use lib.ListN.{get_elem?}
use Rattle.yew_best.specs.declared.view.View.{View}

-- the seat has offered x
abbrev pub IsOfferedBy : List View → ℕ → ℕ → Type 0
IsOfferedBy views seat x = (v : View) × (get_elem? views seat ≡ some v) × Contains v.offered x

-- some seat has offered x
abbrev pub IsOffered : List View → ℕ → Type 0
IsOffered views x = (seat : ℕ) × IsOfferedBy views seat x

-- a seat other than this one has offered x
abbrev pub IsOfferedElse : List View → ℕ → ℕ → Type 0
IsOfferedElse views seat x = (other : ℕ) × (other ≢ seat) × IsOfferedBy views other x

-- One seat keeps the rule: the word is at least all that it read and offered, what it read was 0 or offered by some seat,
-- and what it heard was 0 or offered by another seat. A seat with a share knows the whole share, and one without a share
-- has empty lists
pub record Fits (seats : ℕ) (views : List View) (word seat : ℕ) (v : View) : Type 0 where
  pub whole : 0 < v.share → v.seats ≡ seats
  pub read_below : All (λ x. x ≤ word) v.read
  pub offered_below : All (λ x. x ≤ word) v.offered
  pub read_cause : All (λ x. (x ≡ 0) ⊎ IsOffered views x) v.read
  pub heard_cause : All (λ x. (x ≡ 0) ⊎ IsOfferedElse views seat x) v.heard
  pub idle : v.share ≡ 0 → (v.read ≡ []) × (v.offered ≡ []) × (v.heard ≡ [])

-- The rule: the shares add up to the whole, the word is 0 or was offered by some seat, and each seat keeps its part
pub record IsBest (seats word : ℕ) (views : List View) : Type 0 where
  pub shares : sum_by (λ (v : View). v.share) views ≡ seats
  pub word_cause : (word ≡ 0) ⊎ IsOffered views word
  pub each : (seat : ℕ) (v : View) → get_elem? views seat ≡ some v → Fits seats views word seat v

-- the incumbent is the word number 16 of its table, and the others are not used
pub record Keeps (seats : ℕ) (words : List ℕ) (views : List View) : Type 0 where
  pub placed : 16 < length words
  pub best : IsBest seats (slice_index words 16) views

-- What a step tells its seat of the word that it found: it is at least all that the seat read and offered, and with the whole share it is 0 or was offered by the seat
pub record Tells (v : View) (word : ℕ) : Type 0 where
  pub read_below : All (λ x. x ≤ word) v.read
  pub offered_below : All (λ x. x ≤ word) v.offered
  pub cause : v.share ≡ v.seats → (word ≡ 0) ⊎ Contains v.offered word

-- What the last word says of a seat with the whole share
pub record Closes (v : View) (word : ℕ) : Type 0 where
  pub read_below : All (λ x. x ≤ word) v.read
  pub offered_below : All (λ x. x ≤ word) v.offered
  pub cause : (word ≡ 0) ⊎ Contains v.offered word
  pub read_cause : All (λ x. (x ≡ 0) ⊎ Contains v.offered x) v.read
  pub heard_cause : All (λ x. x ≡ 0) v.heard
