use Rattle.std.proofs.Common.{Some, None, length, ap, subst, ◌∙◌, ◌≢◌, All, arith, List, ℕ}
use Rattle.std.specs.List.{Contains}
use Rattle.std.specs.Option.{IfSome, IfNone}
use Rattle.yew_laws.specs.SearchTree.{search_tree, preorder}
use Rattle.yew_laws.proofs.Trees.{node_at-rank}
use Rattle.yew_laws.specs.SearchTree.{at_path}
use Rattle.yew_ranked.proofs.TaskNodes.{member-there, member-task}
use Rattle.yew_ranked.proofs.worker.open_task.Goals as goal

pub unreachable-requires : goal.unreachable-requires
unreachable-requires g c =
    let t = search_tree g.P.Problem c.args.problem.now in
    let path = c.args.task.now.path.numbers in
    member-there t (g.P.Problem.ranked c.args.problem.now) c.requires.root path
    (subst (λ found. IfNone found (All (λ m. m.path ≢ path) (preorder t))) c.in_default.is c.in_ok-node.ensures.none) c.requires.there

pub overflow_cast-numbers : goal.overflow_cast-numbers
overflow_cast-numbers g c =
    let meaning = g.P.Problem in
    let problem = c.args.problem.now in
    let t = search_tree meaning problem in
    let path = c.args.task.now.path.numbers in
    let found = member-task t (meaning.ranked problem) c.requires.root path c.in-Some.node
    (subst (λ o. IfSome o (λ node. Contains (preorder t) (record { path = path; node = node }))) c.in-Some.is c.in_ok-node.ensures.some) in
    omega (arith, ap length c.numbers.ensures.value, node_at-rank (meaning.ranked problem) path (meaning.root problem) c.in-Some.node c.requires.root found.1, meaning.root_rank problem c.requires.root)

pub returns-clause-task : goal.returns-clause-task
returns-clause-task g c =
    let meaning = g.P.Problem in
    let problem = c.args.problem.now in
    let t = search_tree meaning problem in
    let path = c.args.task.now.path.numbers in
    let found = member-task t (meaning.ranked problem) c.requires.root path c.in-Some.node
    (subst (λ o. IfSome o (λ node. Contains (preorder t) (record { path = path; node = node }))) c.in-Some.is c.in_ok-node.ensures.some) in
    record { is_sound = found.0; found = ap (at_path t) c.set.ensures.numbers ∙ found.1 }
