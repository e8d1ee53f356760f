use Rattle.std.specs.Prelude.{length, map}
use Rattle.yew_pool.specs.Closing.{deques}
use Rattle.yew_pool.specs.Making.{whole_among, IsRowing}
use Rattle.yew_pool.specs.Tasks.{told_of}
use Rattle.yew_pool.proofs.making.make_rows.Given as goal

abbrev pub invariant-loop-number : goal.invariant-loop-number
invariant-loop-number g l = IsRowing (told_of g.P.Problem l.problem) (whole_among (length l.initial.owns.items)) l.number (deques l.initial.owns.items)
    l.owns.items (map (λ row. row.items) l.rows.items)
