-- What contracts see of the pool and of a pass.
use Rattle.std.specs.Prelude.{◌≡◌, ◌≢◌, ◌⊎◌, ℕ, ◌+◌, ◌<◌, ◌≤◌, List, [], ◌∷◌, ◌++◌, length, map, replicate, Option, Some, All, sum_by, slice_index}
use Rattle.std.specs.Prelude.{slice_index_or}
use Rattle.std.specs.List.{flat_map}
use Rattle.yew_laws.specs.Bag.{SameBag, PartOfBag}
use Rattle.yew_pool.specs.Places.{DequeId, PlaceView, once_more}

-- Which pool it is: its deques, in the order of the passes that own them
pub record PoolId : Type 0 where
  pub deques : List DequeId

-- A pass: the pool that it is of, its number from 0, its share of the pool's, the members of the problem's tree, once it is told them,
-- what it has put and taken, and how often it has found each deque empty
pub record PassView (T Q : Type 0) : Type 0 where
  pub pool : PoolId
  pub number : ℕ
  pub share : ℕ
  pub members : Option Q
  pub put : List T
  pub took : List T
  pub found_empty : List ℕ

abbrev pub deques_of : {T Q : Type 0} → List (PlaceView T Q) → PoolId
deques_of places = record { deques = map (λ place. place.deque) places }

-- what was taken at these places
abbrev pub taken_at : {T Q : Type 0} → List (PlaceView T Q) → List T
taken_at places = flat_map (λ place. place.hand.took) places

-- the pass that owns a deque and has a place at each
abbrev pub pass_view : {T Q : Type 0} → ℕ → PlaceView T Q → List (PlaceView T Q) → PassView T Q
pass_view number own places =
    record {
      pool = deques_of places;
      number = number;
      share = 1;
      members = own.hand.members;
      put = own.hand.put;
      took = own.hand.took ++ taken_at places;
      found_empty = map (λ place. place.found_empty) places;
    }

-- a place of a pass: it puts nothing there, it is idle at its own deque, and has a share of 1 at any other
pub record IsPlaced {T Q : Type 0} (members : Option Q) (number at : ℕ) (place : PlaceView T Q) : Type 0 where
  pub puts_nothing : place.hand.put ≡ []
  pub idle : at ≡ number → (place.hand.share ≡ 0) × (place.hand.took ≡ [])
  pub other : at ≢ number → (place.hand.share ≡ 1) × (place.hand.members ≡ members)

-- the places of the pass with this number, one at each deque in order. With one place each, the other passes have one
-- less than the owner, so two owners of a deque would have more than the whole share
pub record AreSeated {T Q : Type 0} (number : ℕ) (own : PlaceView T Q) (places : List (PlaceView T Q)) : Type 0 where
  pub within : number < length places
  pub here : (other : PlaceView T Q) → (slice_index_or places number other).deque ≡ own.deque
  pub share : own.hand.share ≡ length places
  pub whole : own.hand.whole + 1 ≡ length places + length places
  pub shares : own.hand.share + sum_by (λ place. place.hand.share) places ≡ own.hand.whole
  pub each : (at : ℕ) (other : PlaceView T Q) → at < length places → IsPlaced own.hand.members number at (slice_index_or places at other)

-- a pass with its places, and room for the deques and places of all passes
pub record IsSeated {T Q : Type 0} (number : ℕ) (own : PlaceView T Q) (places : List (PlaceView T Q)) (room : ℕ) : Type 0 where
  pub seated : AreSeated number own places
  pub enough : length places ≤ room

-- the pass took this task, and nothing else changed, but what it counts
pub record HasTaken {T Q : Type 0} (old : PassView T Q) (task : T) (new : PassView T Q) : Type 0 where
  pub same : new ≡ record old { took = new.took; found_empty = new.found_empty }
  pub took : SameBag new.took (task ∷ old.took)
  pub long : length new.found_empty ≡ length old.found_empty

-- the pass found each deque empty once, from one number up to another, and nothing else changed
pub record HasLooked {T Q : Type 0} (first end : ℕ) (old new : PassView T Q) : Type 0 where
  pub same : new ≡ record old { found_empty = new.found_empty }
  pub long : length new.found_empty ≡ length old.found_empty
  pub within : (at : ℕ) → first ≤ at → at < end → slice_index new.found_empty at ≡ once_more (slice_index old.found_empty at)
  pub outside : (at : ℕ) → (at < first) ⊎ (end ≤ at) → slice_index new.found_empty at ≡ slice_index old.found_empty at

-- the pass found each deque other than its own empty once, and nothing else changed
pub record HasLookedRound {T Q : Type 0} (old new : PassView T Q) : Type 0 where
  pub same : new ≡ record old { found_empty = new.found_empty }
  pub long : length new.found_empty ≡ length old.found_empty
  pub others : (at : ℕ) → at < length old.pool.deques → at ≢ old.number → slice_index new.found_empty at ≡ once_more (slice_index old.found_empty at)
  pub own : slice_index new.found_empty old.number ≡ slice_index old.found_empty old.number

-- a pass that has done nothing yet
abbrev pub new_pass : {T Q : Type 0} → PoolId → Option Q → ℕ → PassView T Q
new_pass pool members number = record {
  pool = pool;
  number = number;
  share = 1;
  members = members;
  put = [];
  took = [];
  found_empty = replicate (length pool.deques) 0;
}

abbrev pub all_put : {T Q : Type 0} → List (PassView T Q) → List T
all_put passes = flat_map (λ pass. pass.put) passes

abbrev pub all_took : {T Q : Type 0} → List (PassView T Q) → List T
all_took passes = flat_map (λ pass. pass.took) passes

-- the tasks that were appended are those that these passes put and did not take, and sound by the members that they know
pub record IsLeft {T Q : Type 0} (sound : Q → T → Type 0) (passes : List (PassView T Q)) (before after : List T) : Type 0 where
  pub rest : List T
  pub appended : after ≡ before ++ rest
  pub bag : SameBag (all_took passes ++ rest) (all_put passes)
  pub sound_rest : (members : Q) → All (λ pass. pass.members ≡ Some members) passes → All (sound members) rest

-- the tasks that were appended are some of those
pub record IsPartLeft {T Q : Type 0} (sound : Q → T → Type 0) (passes : List (PassView T Q)) (before after : List T) : Type 0 where
  pub rest : List T
  pub appended : after ≡ before ++ rest
  pub part : PartOfBag (all_took passes ++ rest) (all_put passes)
  pub sound_rest : (members : Q) → All (λ pass. pass.members ≡ Some members) passes → All (sound members) rest
