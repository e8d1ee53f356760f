use Rattle.std.specs.Prelude.{map, vec_len}
use Rattle.yew_pool.specs.Closing.{deques}
use Rattle.yew_pool.specs.Making.{IsSeating}
use Rattle.yew_pool.specs.Tasks.{told_of}
use Rattle.yew_pool.proofs.making.make_passes.Given as goal

abbrev pub invariant-loop-own : goal.invariant-loop-own
invariant-loop-own g l = IsSeating (told_of g.P.Problem l.problem) (deques l.fn.owns.items) l.owns.items (map (λ row. row.items) l.rows.items) l.passes.items

abbrev pub decreases-loop-own : goal.decreases-loop-own
decreases-loop-own g l = vec_len l.owns
