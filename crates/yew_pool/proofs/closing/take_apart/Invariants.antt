use Rattle.std.specs.Prelude.{◌≤◌, length, map, vec_len, vec_capacity}
use Rattle.yew_pool.specs.Closing.{IsTakingApart}
use Rattle.yew_pool.proofs.closing.take_apart.Given as goal

abbrev pub invariant-loop-pass : goal.invariant-loop-pass
invariant-loop-pass g l =
    record {
      apart : IsTakingApart l.pool l.fn.passes.items l.passes.items l.owns.items (map (λ row. row.items) l.rows.items);
      owns_room : length l.pool.deques ≤ vec_capacity l.owns;
      rows_room : length l.pool.deques ≤ vec_capacity l.rows;
    }

abbrev pub decreases-loop-pass : goal.decreases-loop-pass
decreases-loop-pass g l = vec_len l.passes
