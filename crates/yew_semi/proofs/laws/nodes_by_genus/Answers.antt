use Rattle.std.proofs.Common.{◌∙◌}
use Rattle.yew_laws.specs.SearchTree.{preorder}
use Rattle.yew_kinds.proofs.DepthFolds.{fold-members_at}
use Rattle.yew_semi.specs.SemigroupTree.{semigroup_tree}
use Rattle.yew_semi.proofs.Once.{nodes_at-gap_sets, depth_counts-semigroups}
use Rattle.yew_semi.proofs.laws.nodes_by_genus.Goals as goal

pub returns-clause-each_once : goal.returns-clause-each_once
returns-clause-each_once c = λ k most. nodes_at-gap_sets c.args.genus k most

pub returns-clause-counts : goal.returns-clause-counts
returns-clause-counts c = fold-members_at c.args.genus (preorder (semigroup_tree c.args.genus)) ∙ depth_counts-semigroups c.args.genus
