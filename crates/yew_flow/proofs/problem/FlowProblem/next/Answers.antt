use Rattle.std.proofs.Common.{◌∙◌, ◌^◌, ◌<◌, ◌∷◌, map, ap, sym, subst, arith}
use Rattle.std.specs.Int.{trailing_zeros, w64}
use Rattle.std.specs.List.{AllByRecursion}
use Rattle.yew_flow.specs.Nodes.{cleared, appended, jobs_in, IsNode}
use Rattle.yew_flow.proofs.WordJobs.{jobs_in-first, jobs_in-none}
use Rattle.yew_flow.proofs.problem.FlowProblem.next.Goals as goal

pub returns-then-left-eq0-clause-ok : goal.returns-then-left-eq0-clause-ok
returns-then-left-eq0-clause-ok c =
    let kids = c.args.kids.now in
    let none = ap (λ word. map (appended c.args.self.now kids.parent) (jobs_in word)) c.if-left-eq0.true ∙ ap (map (appended c.args.self.now kids.parent)) jobs_in-none in
    (none, none)

pub append-child-requires-clause-child : goal.append-child-requires-clause-child
append-child-requires-clause-child c =
    let kids = c.args.kids.now in
    let fits : kids.left < 2 ^ 64 = omega arith in
    (subst (λ jobs. AllByRecursion (IsNode c.args.self.now) (map (appended c.args.self.now kids.parent) jobs)) (jobs_in-first kids.left c.if-left-eq0.false fits) c.requires.kids).0

pub returns-clause-ok : goal.returns-clause-ok
returns-clause-ok c =
    let kids = c.args.kids.now in
    let fits : kids.left < 2 ^ 64 = omega arith in
    ap (map (appended c.args.self.now kids.parent)) (jobs_in-first kids.left c.if-left-eq0.false fits)
    ∙ ap (λ n. n ∷ map (appended c.args.self.now kids.parent) (jobs_in (cleared kids.left (trailing_zeros w64 kids.left)))) (sym c.append-child.ensures)
