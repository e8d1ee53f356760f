use Rattle.std.specs.Prelude.{map}
use Rattle.crossbeam_deque.specs.Handles.{stealer_deque}
use Rattle.yew_pool.specs.Making.{AreOpened}
use Rattle.yew_pool.specs.Tasks.{told_of}
use Rattle.yew_pool.proofs.making.make_deques.Given as goal

abbrev pub invariant-loop : goal.invariant-loop
invariant-loop g l = AreOpened (told_of g.P.Problem l.problem) l.whole l.counter (map stealer_deque l.stealers.items) l.owns.items
