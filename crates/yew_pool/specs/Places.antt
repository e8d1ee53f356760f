-- What contracts see of one deque's worker, and of a place at a deque.
use Rattle.std.specs.Prelude.{ℕ, ◌+◌, ◌-◌, ◌^◌, min}
use Rattle.std.specs.declared.alloc.Global.{Global}
use Rattle.atomic_blocks.specs.Lent.{RowsId}
use Rattle.yew_pool.specs.declared.rule.Hand.{Hand}

-- Which deque it is
abbrev pub DequeId : Type 0
DequeId = RowsId × Global

-- A place at a deque: which deque, what the place knows, and how often it has found the deque empty
pub record PlaceView (T Q : Type 0) : Type 0 where
  pub deque : DequeId
  pub hand : Hand T Q
  pub found_empty : ℕ

-- a count after one more, which stands still at the end of its type
abbrev pub once_more : ℕ → ℕ
once_more count = min (count + 1) (2 ^ 64 - 1)
