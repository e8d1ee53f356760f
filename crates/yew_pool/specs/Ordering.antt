-- The passes are put in order by their numbers, the last first.
use Rattle.std.specs.Prelude.{◌≡◌, ℕ, ◌+◌, ◌<◌, List, [], ◌∷◌, length, All, Option, cond, slice_index_or}
use Rattle.std.proofs.Common.{suc, eqb}
use Rattle.yew_laws.specs.Bag.{SameBag}
use Rattle.yew_pool.specs.Passes.{PassView, PoolId}

module _ {T Q : Type 0} where
  -- 1 where a pass is not at its place among so many, else 0
  abbrev pub off_place : ℕ → ℕ → PassView T Q → ℕ
  off_place count at pass = cond (eqb (pass.number + at + 1) count) 0 1

  -- how many passes of these, from this place on, are not at their places
  unfoldable pub misplaced : ℕ → ℕ → List (PassView T Q) → ℕ
  misplaced count at [] = 0
  misplaced count at (pass ∷ passes) = off_place count at pass + misplaced count (suc at) passes

  -- passes of a pool in order, the last first
  pub record AreInOrder (pool : PoolId) (count : ℕ) (passes : List (PassView T Q)) : Type 0 where
    pub pools : All (λ pass. pass.pool ≡ pool) passes
    pub placed : (at : ℕ) (other : PassView T Q) → at < length passes → (slice_index_or passes at other).number + at + 1 ≡ count

  -- the same passes, of which the first are in order
  pub record AreOrdering (pool : PoolId) (count : ℕ) (all now : List (PassView T Q)) (first : ℕ) : Type 0 where
    pub long : length now ≡ count
    pub bag : SameBag now all
    pub pools : All (λ pass. pass.pool ≡ pool) now
    pub told : (about : Option Q) → All (λ pass. pass.members ≡ about) all → All (λ pass. pass.members ≡ about) now
    pub placed : (at : ℕ) (other : PassView T Q) → at < first → at < length now → (slice_index_or now at other).number + at + 1 ≡ count
