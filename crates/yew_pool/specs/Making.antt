-- How a pool is made: the owners of its deques give a place at each deque to every other pass.
use Rattle.std.specs.Prelude.{◌≡◌, ◌≢◌, ℕ, ◌+◌, ◌-◌, ◌<◌, ◌≤◌, List, [], length, All, sum_by, slice_index_or, Option, false}
use Rattle.yew_pool.specs.Rule.{hand, started, spent}
use Rattle.yew_pool.specs.Places.{DequeId, PlaceView}
use Rattle.yew_pool.specs.Closing.{deques}
use Rattle.yew_pool.specs.Passes.{PassView, pass_view, AreSeated, new_pass}

-- the whole share of a deque among so many passes: its owner keeps one for each pass, and each other pass has one
abbrev pub whole_among : ℕ → ℕ
whole_among passes = passes + passes - 1

module _ {T Q : Type 0} where
  -- new deques, each with the whole share
  pub record AreOpened (members : Option Q) (whole count : ℕ) (ids : List DequeId) (owns : List (PlaceView T Q)) : Type 0 where
    pub told : All (λ own. own.hand ≡ started whole members) owns
    pub long : length owns ≡ count
    pub same : ids ≡ deques owns

  -- the owner with this number, once the first passes have their places
  pub record IsOwner (members : Option Q) (whole made number : ℕ) (own : PlaceView T Q) : Type 0 where
    pub hand : own.hand ≡ hand false whole own.hand.share members [] []
    pub past : number < made → own.hand.share + made ≡ whole + 1
    pub coming : made ≤ number → own.hand.share + made ≡ whole

  -- all owners, once the first passes have their places, and one more pass has its first ones
  pub record AreOwners (members : Option Q) (whole made first : ℕ) (ids : List DequeId) (owns : List (PlaceView T Q)) : Type 0 where
    pub ids_are : deques owns ≡ ids
    pub done : (number : ℕ) (other : PlaceView T Q) → number < first → number < length owns
        → IsOwner members whole (made + 1) number (slice_index_or owns number other)
    pub ahead : (number : ℕ) (other : PlaceView T Q) → first ≤ number → number < length owns
        → IsOwner members whole made number (slice_index_or owns number other)

  -- a new place of the pass with this number
  pub record IsNewPlace (members : Option Q) (whole number at : ℕ) (ids : List DequeId) (place : PlaceView T Q) : Type 0 where
    pub deque : place.deque ≡ slice_index_or ids at place.deque
    pub idle : at ≡ number → place.hand ≡ spent
    pub other : at ≢ number → place.hand ≡ hand false whole 1 members [] []
    pub found : place.found_empty ≡ 0

  -- the first places of the pass with this number
  pub record IsRow (members : Option Q) (whole number : ℕ) (ids : List DequeId) (row : List (PlaceView T Q)) : Type 0 where
    pub each : (at : ℕ) (other : PlaceView T Q) → at < length row → IsNewPlace members whole number at ids (slice_index_or row at other)
    pub past : number < length row → sum_by (λ place. place.hand.share) row + 1 ≡ length row
    pub coming : length row ≤ number → sum_by (λ place. place.hand.share) row ≡ length row

  -- the first places of one pass are made
  pub record IsLaying (members : Option Q) (whole number at count : ℕ) (ids : List DequeId) (owns row : List (PlaceView T Q)) : Type 0 where
    pub owners : AreOwners members whole number at ids owns
    pub places : IsRow members whole number ids row
    pub long : length row ≡ at
    pub many : length owns ≡ count

  -- the rows of the first passes, each with a place at each deque
  pub record AreRows (members : Option Q) (whole : ℕ) (ids : List DequeId) (rows : List (List (PlaceView T Q))) : Type 0 where
    pub each : (number : ℕ) (row : List (PlaceView T Q)) → number < length rows → IsRow members whole number ids (slice_index_or rows number row)
    pub long : (number : ℕ) (row : List (PlaceView T Q)) → number < length rows → length (slice_index_or rows number row) ≡ length ids

  -- the rows of the first passes are made
  pub record IsRowing (members : Option Q) (whole number : ℕ) (ids : List DequeId) (owns : List (PlaceView T Q))
      (rows : List (List (PlaceView T Q))) : Type 0 where
    pub owners : AreOwners members whole number 0 ids owns
    pub made : AreRows members whole ids rows
    pub long : length rows ≡ number
    pub many : length owns ≡ length ids

  -- an owner and a row of places that are a new pass
  pub record IsReady (members : Option Q) (number : ℕ) (ids : List DequeId) (own : PlaceView T Q) (row : List (PlaceView T Q)) : Type 0 where
    pub seated : AreSeated number own row
    pub new : pass_view number own row ≡ new_pass (record { deques = ids }) members number
    pub long : length row ≡ length ids

  -- as many owners and rows, each of which are a new pass
  pub record AreReady (members : Option Q) (ids : List DequeId) (owns : List (PlaceView T Q)) (rows : List (List (PlaceView T Q))) : Type 0 where
    pub long : length rows ≡ length owns
    pub each : (number : ℕ) (own : PlaceView T Q) (row : List (PlaceView T Q)) → number < length owns
        → IsReady members number ids (slice_index_or owns number own) (slice_index_or rows number row)

  -- the last passes, each at its place
  pub record AreMade (members : Option Q) (ids : List DequeId) (first : ℕ) (passes : List (PassView T Q)) : Type 0 where
    pub long : first + length passes ≡ length ids
    pub each : (at : ℕ) (other : PassView T Q) → at < length passes → slice_index_or passes at other ≡ new_pass (record { deques = ids }) members (first + at)

  -- the last passes are made of owners and rows
  pub record IsSeating (members : Option Q) (ids : List DequeId) (owns : List (PlaceView T Q)) (rows : List (List (PlaceView T Q)))
      (passes : List (PassView T Q)) : Type 0 where
    pub ready : AreReady members ids owns rows
    pub made : AreMade members ids (length owns) passes
