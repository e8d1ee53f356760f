-- The root and its children are the tree.
use Rattle.std.proofs.Common.{ap, ◌∙◌}
use Rattle.yew_check.proofs.Passing.{root-opens, root-worth}
use Rattle.yew_check.proofs.covering.open_root.Goals as goal

pub returns-clause-still_open : goal.returns-clause-still_open
returns-clause-still_open g c =
    let meaning = g.P.Problem in
    let problem = c.args.problem.now in
    (root-opens meaning problem (meaning.ranked problem) c.requires.root c.in_ok-kids.kids c.args.descent.now.levels c.open-2.new.self.levels c.args.descent.now.path c.requires.levels c.requires.path (c.in_ok-kids.ensures ∙ ap (meaning.children problem) c.in_ok-root.ensures) c.in_ok-open.ensures.ok).0

pub returns-clause-tree : goal.returns-clause-tree
returns-clause-tree g c =
    let meaning = g.P.Problem in
    let problem = c.args.problem.now in
    (root-opens meaning problem (meaning.ranked problem) c.requires.root c.in_ok-kids.kids c.args.descent.now.levels c.open-2.new.self.levels c.args.descent.now.path c.requires.levels c.requires.path (c.in_ok-kids.ensures ∙ ap (meaning.children problem) c.in_ok-root.ensures) c.in_ok-open.ensures.ok).1

pub returns-clause-worth : goal.returns-clause-worth
returns-clause-worth g c =
    let meaning = g.P.Problem in
    let problem = c.args.problem.now in
    root-worth meaning problem (meaning.ranked problem) c.worth.result c.args.value (c.worth.ensures ∙ ap (meaning.worth problem) c.in_ok-root.ensures)
