use Rattle.std.specs.Prelude.{length}
use Rattle.yew_pool.specs.Closing.{deques}
use Rattle.yew_pool.specs.Making.{whole_among, IsLaying}
use Rattle.yew_pool.specs.Tasks.{told_of}
use Rattle.yew_pool.proofs.making.make_row.Given as goal

abbrev pub invariant-loop-at : goal.invariant-loop-at
invariant-loop-at g l = IsLaying (told_of g.P.Problem l.problem) (whole_among (length l.initial.owns.items)) l.number l.at (length l.initial.owns.items)
    (deques l.initial.owns.items) l.owns.items l.row.items
