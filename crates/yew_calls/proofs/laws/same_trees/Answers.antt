use Rattle.yew_laws.specs.SearchTree.{search_tree}
use Rattle.yew_calls.proofs.SameTrees.{same-preorder, same-at_path, same-number_at, same-greatest, same-first_best}
use Rattle.yew_calls.proofs.laws.same_trees.Goals as goal

pub returns-clause-tree : goal.returns-clause-tree
returns-clause-tree g c =
    same-preorder (search_tree g.P.Problem c.args.one.now) (search_tree g.Q.Problem c.args.other.now) (g.P.Problem.ranked c.args.one.now) (g.Q.Problem.ranked c.args.other.now) c.requires.same c.requires.one c.requires.other

pub returns-clause-nodes : goal.returns-clause-nodes
returns-clause-nodes g c =
    same-at_path (search_tree g.P.Problem c.args.one.now) (search_tree g.Q.Problem c.args.other.now) (g.P.Problem.ranked c.args.one.now) (g.Q.Problem.ranked c.args.other.now) c.requires.same c.requires.one c.requires.other

pub returns-clause-worths : goal.returns-clause-worths
returns-clause-worths g c =
    same-number_at (search_tree g.P.Problem c.args.one.now) (search_tree g.Q.Problem c.args.other.now) (g.P.Problem.ranked c.args.one.now) (g.Q.Problem.ranked c.args.other.now) c.requires.same (g.P.Problem.worth c.args.one.now) (g.Q.Problem.worth c.args.other.now) c.requires.same.worth c.requires.one c.requires.other

pub returns-clause-bounds : goal.returns-clause-bounds
returns-clause-bounds g c =
    same-number_at (search_tree g.P.Problem c.args.one.now) (search_tree g.Q.Problem c.args.other.now) (g.P.Problem.ranked c.args.one.now) (g.Q.Problem.ranked c.args.other.now) c.requires.same (g.P.Problem.bound c.args.one.now) (g.Q.Problem.bound c.args.other.now) c.requires.same.bound c.requires.one c.requires.other

pub returns-clause-greatest : goal.returns-clause-greatest
returns-clause-greatest g c =
    same-greatest (search_tree g.P.Problem c.args.one.now) (search_tree g.Q.Problem c.args.other.now) (g.P.Problem.ranked c.args.one.now) (g.Q.Problem.ranked c.args.other.now) c.requires.same c.requires.one c.requires.other

pub returns-clause-first : goal.returns-clause-first
returns-clause-first g c =
    same-first_best (search_tree g.P.Problem c.args.one.now) (search_tree g.Q.Problem c.args.other.now) (g.P.Problem.ranked c.args.one.now) (g.Q.Problem.ranked c.args.other.now) c.requires.same c.requires.one c.requires.other
