use Rattle.std.proofs.Common.{arith}
use Rattle.yew_laws.specs.SearchTree.{search_tree, preorder, at_path}
use Rattle.yew_laws.proofs.Trees.{tree-node_at}
use Rattle.yew_kinds.proofs.Clipping.{greatest_of-clipped, met-from_greatest, greatest-from_met, first_best-meets, first_best-is}
use Rattle.yew_kinds.proofs.laws.clipped_members.Goals as goal

pub returns-clause-small : goal.returns-clause-small
returns-clause-small g c = let clip = c.args.clipped.now in let t = search_tree g.P.Problem clip.inner.now in greatest_of-clipped t.worth clip.target (preorder t)

pub returns-clause-greatest : goal.returns-clause-greatest
returns-clause-greatest g c =
    let clip = c.args.clipped.now in
    let t = search_tree g.P.Problem clip.inner.now in
    let small = greatest_of-clipped t.worth clip.target (preorder t) in (
      λ one. met-from_greatest t.worth clip.target (preorder t) (omega (arith, one)),
      λ some. let above = greatest-from_met t.worth clip.target (preorder t) some in omega arith,
    )

pub returns-clause-first : goal.returns-clause-first
returns-clause-first g c =
    let clip = c.args.clipped.now in
    let t = search_tree g.P.Problem clip.inner.now in
    first_best-is t.worth clip.target (preorder t)

pub returns-clause-first_meets : goal.returns-clause-first_meets
returns-clause-first_meets g c =
    let clip = c.args.clipped.now in
    let t = search_tree g.P.Problem clip.inner.now in
    first_best-meets t.worth clip.target (at_path t) (preorder t) (tree-node_at (g.P.Problem.ranked clip.inner.now) t.root c.requires)
