-- A node that was given was to come.
use Rattle.yew_check.proofs.Passing.{is-more}
use Rattle.yew_check.proofs.covering.is_spent.Goals as goal

pub returns : goal.returns
returns g c =
    let meaning = g.P.Problem in
    let problem = c.args.problem.now in
    let found = rw c.in-Some.is at c.in_ok-_node.ensures.found in
    is-more meaning problem (meaning.ranked problem) c.args.descent.now.levels c.next_node.new.descent.levels c.next_node.new.descent.path c.in-Some._node found.0 found.1
