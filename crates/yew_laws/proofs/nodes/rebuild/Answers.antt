use Rattle.std.proofs.Common.{◌≡◌, Some, None, [], drop, get_or, slice_get, sym, ap, ◌∙◌, arith}
use Rattle.std.proofs.lemmas.List.{drop_all}
use Rattle.yew_laws.specs.Tree.{node_at}
use Rattle.yew_laws.proofs.Members.{AllByRecursion-at}
use Rattle.yew_laws.proofs.Trees.{node_at-step, node_at-stop, tree-contains, tree-lacks}
use Rattle.yew_laws.proofs.nodes.rebuild.Goals as goal

pub returns-in-None-clause-none : goal.returns-in-None-clause-none
returns-in-None-clause-none g c =
    let meaning = g.P.Problem in
    let problem = c.args.problem.now in
    let path = c.numbers-number-items.result.now in
    let lacks : None ≡ slice_get (meaning.children problem c.loop-number.node) (get_or path c.loop-number.number-index 0) = rw c.in-None.is at c.in_ok-child.ensures in
    let stops = node_at-stop (meaning.children problem) c.loop-number.node path c.loop-number.number-index c.loop-number-test.true (sym lacks) in
    let none : node_at (meaning.children problem) (meaning.root problem) path ≡ None = sym c.loop-number.invariant.leads ∙ stops in
    rw (← c.numbers-number-items.ensures.value) (tree-lacks (g.P.Problem.ranked problem) path (meaning.root problem) c.requires none)

pub loop-number-preserved : goal.loop-number-preserved
loop-number-preserved g c =
    let meaning = g.P.Problem in
    let problem = c.args.problem.now in
    let path = c.numbers-number-items.result.now in
    let i = c.loop-number.number-index in
    let node = c.loop-number.node in
    let child : slice_get (meaning.children problem node) (get_or path i 0) ≡ Some c.in-Some.child = sym (rw c.in-Some.is at c.in_ok-child.ensures) in
    let ranked = g.P.Problem.ranked problem in
    record {
      is_sound = AllByRecursion-at (meaning.sound problem) (meaning.children problem node) (get_or path i 0) c.in-Some.child child (ranked.stays_sound node c.loop-number.invariant.is_sound);
      leads = sym (node_at-step (meaning.children problem) node c.in-Some.child path i c.loop-number-test.true child) ∙ c.loop-number.invariant.leads;
    }

pub returns-clause-some : goal.returns-clause-some
returns-clause-some g c =
    let meaning = g.P.Problem in
    let problem = c.args.problem.now in
    let path = c.numbers-number-items.result.now in
    let i = c.loop-number.number-index in
    let node = c.loop-number.node in
    let done : drop i path ≡ [] = drop_all i path (omega arith) in
    let found : node_at (meaning.children problem) (meaning.root problem) path ≡ Some node = sym c.loop-number.invariant.leads ∙ ap (node_at (meaning.children problem) node) done in
    rw (← c.numbers-number-items.ensures.value) (tree-contains (g.P.Problem.ranked problem) path (meaning.root problem) node c.requires found)
