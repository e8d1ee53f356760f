use Rattle.std.proofs.Common.{◌≡◌}
use Rattle.yew_example.specs.Nodes.{children_from}
use Rattle.yew_example.proofs.problem.ColouringProblem.next.Given as goal

abbrev pub invariant-loop-colour : goal.invariant-loop-colour
invariant-loop-colour l = record {
  kept : l.kids ≡ l.fn.kids;
  stands : children_from l.self.graph l.self.number l.fn.kids.parent l.fn.kids.next ≡ children_from l.self.graph l.self.number l.fn.kids.parent l.colour;
}
