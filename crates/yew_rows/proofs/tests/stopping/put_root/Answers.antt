use Rattle.std.proofs.Common.{◌≡◌, ◌∙◌, Some, sym, subst}
use Rattle.yew_laws.specs.SearchTree.{search_tree}
use Rattle.yew_laws.specs.Tasks.{members_of, IsAmong}
use Rattle.yew_laws.specs.declared.problem.Task.{Task}
use Rattle.yew_laws.proofs.TaskMembers.{task-among}
use Rattle.yew_rows.proofs.tests.stopping.put_root.Goals as goal

pub put-requires-clause-sound : goal.put-requires-clause-sound
put-requires-clause-sound g c = λ members e.
    let problem = c.args.problem.now in
    let t = search_tree g.P.Problem problem in
    let task : Task g.row.P-Node.Denot = record { path = c.in_ok-root.root.path; node = c.in_ok-root.root.node } in
    let known : Some (members_of t) ≡ Some members = sym c.requires.members ∙ e in
    let same : members_of t ≡ members = cc in
    subst (λ ms. IsAmong ms task) same (task-among t (g.P.Problem.ranked problem) c.requires.root task c.in_ok-root.ensures.found)
