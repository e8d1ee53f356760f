-- The visits and cuts that were judged are those of the logs.
use Rattle.std.proofs.Common.{ap, subst, sym}
use Rattle.std.specs.List.Sorted.{IsPermutation}
use Rattle.yew_laws.specs.SearchTree.{search_tree}
use Rattle.yew_log.specs.WholeSearch.{joined}
use Rattle.yew_check.specs.Marks.{marks, all_seen}
use Rattle.yew_check.proofs.NotesJudged.{notes-judged}
use Rattle.yew_check.proofs.judging.judge.Goals as goal

pub returns : goal.returns
returns g c =
    let found = subst (λ ms. IsPermutation ms (all_seen c.in_ok-marks.marks.items)) (ap (λ ls. marks (joined ls)) c.logs.ensures) c.in_ok-marks.ensures.same in
    let moved = subst (λ xs. IsPermutation (marks (joined c.args.file.now.logs)) (all_seen xs)) (sym c.deref.ensures.value) found in
    notes-judged (search_tree g.P.Problem c.args.problem.now) c.args.gap (joined c.args.file.now.logs) (all_seen c.deref.result.now) moved c.in_ok-judged.judged c.in_ok-judged.ensures
