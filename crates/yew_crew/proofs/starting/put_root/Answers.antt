use Rattle.std.proofs.Common.{◌≡◌, ◌∙◌, ◌++◌, [], ◌∷◌, Some, sym, ap, subst}
use Rattle.yew_laws.specs.SearchTree.{search_tree, at_path}
use Rattle.yew_laws.specs.Tasks.{Members, members_of, IsAmong}
use Rattle.yew_laws.specs.declared.problem.Task.{Task}
use Rattle.yew_laws.proofs.TaskMembers.{task-among}
use Rattle.yew_pool.specs.Passes.{PassView}
use Rattle.yew_crew.proofs.starting.put_root.Goals as goal

pub put-requires-clause-sound : goal.put-requires-clause-sound
put-requires-clause-sound g c = λ members e.
    let problem = c.args.problem.now in
    let t = search_tree g.P.Problem problem in
    let task : Task g.row.P-Node.Denot = record { path = c.in_ok-path.path; node = c.in_ok-node.node } in
    let known : Some (members_of t) ≡ Some members = sym (ap (λ (p : PassView (Task g.row.P-Node.Denot) (Members g.row.P-Node.Denot)). p.members) c.requires.pass) ∙ e in
    let same : members_of t ≡ members = cc in
    subst (λ ms. IsAmong ms task) same (task-among t (g.P.Problem.ranked problem) c.requires.root task (ap (at_path t) c.in_ok-path.ensures.numbers ∙ ap Some (sym c.in_ok-node.ensures)))

pub returns : goal.returns
returns g c =
    let task : Task g.row.P-Node.Denot = record { path = c.in_ok-path.path; node = c.in_ok-node.node } in
    (task, c.in_ok-path.ensures.numbers, c.in-Ok.ensures.ok ∙ ap (λ (p : PassView (Task g.row.P-Node.Denot) (Members g.row.P-Node.Denot)). record p { put = p.put ++ task ∷ [] }) c.requires.pass)
