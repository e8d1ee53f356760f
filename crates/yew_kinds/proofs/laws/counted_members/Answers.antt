use Rattle.yew_laws.specs.SearchTree.{search_tree, preorder}
use Rattle.yew_kinds.proofs.Clipping.{greatest_of-zero}
use Rattle.yew_kinds.proofs.laws.counted_members.Goals as goal

pub returns-clause-greatest : goal.returns-clause-greatest
returns-clause-greatest g c = greatest_of-zero (preorder (search_tree g.P.Problem c.args.counted.now.inner.now))
