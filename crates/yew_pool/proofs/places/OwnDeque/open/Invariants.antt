use Rattle.yew_pool.specs.Tasks.{told_of}
use Rattle.yew_pool.proofs.places.OwnDeque.open.Given as goal

abbrev pub ghosts-start : goal.ghosts-start
ghosts-start g a = record { members = told_of g.P.Problem a.problem.now; whole = a.whole }
