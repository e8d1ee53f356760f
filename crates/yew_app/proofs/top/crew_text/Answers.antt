use Rattle.std.proofs.Common.{inr}
use Rattle.yew_words.specs.Plans.{planned}
use Rattle.yew_words.specs.Word.{texts}
use Rattle.yew_app.specs.Asks.{IsAnySkeleton}
use Rattle.yew_app.specs.Reasons.{reason_of}
use Rattle.yew_app.proofs.Serving.{cause-of, answers-not_refused, answers-not_full, answers-not_past, stops-refused, stops-full, stops-past, stops-fine}
use Rattle.yew_app.proofs.top.crew_text.Goals as goal

pub returns-in-Err-clause-files_refused : goal.returns-in-Err-clause-files_refused
returns-in-Err-clause-files_refused g c = λ no_fault reason refused. absurd (c.in-Err.ensures.no_plan refused.plan refused.is_plan)

pub returns-in-Err-clause-audit_full : goal.returns-in-Err-clause-audit_full
returns-in-Err-clause-audit_full g c = λ no_fault fills. absurd (c.in-Err.ensures.no_plan fills.plan fills.is_plan)

pub returns-in-Err-clause-tasks : goal.returns-in-Err-clause-tasks
returns-in-Err-clause-tasks g c = λ no_fault many. absurd (c.in-Err.ensures.no_plan many.plan many.is_plan)

pub returns-in-Err-clause-fine : goal.returns-in-Err-clause-fine
returns-in-Err-clause-fine g c = λ no_fault fine. absurd (c.in-Err.ensures.no_plan fine.plan fine.is_plan)

pub returns-in-Err-solve_by_crew-clause-cause : goal.returns-in-Err-solve_by_crew-clause-cause
returns-in-Err-solve_by_crew-clause-cause g c =
    cause-of IsAnySkeleton (texts c.args.words.now) (planned c.in-Ok.plan) c.in-Ok.ensures.is_plan (g.S.Shelf.files c.args.shelf.now) (reason_of c.in-Err-solve_by_crew.refusal) c.in-Err-solve_by_crew.ensures.cause

pub returns-in-Ok-solve_by_crew-clause-files_refused : goal.returns-in-Ok-solve_by_crew-clause-files_refused
returns-in-Ok-solve_by_crew-clause-files_refused g c = λ no_fault.
    let plan = planned c.in-Ok.plan in
    answers-not_refused IsAnySkeleton (texts c.args.words.now) plan c.in-Ok.ensures.is_plan c.in-Ok.ensures.one_plan
    (c.files_have_one_way.ensures plan c.in-Ok.ensures.within.files) (g.S.Shelf.files c.args.shelf.now) c.in-Ok-solve_by_crew.text.items c.in-Ok-solve_by_crew.ensures.answers

pub returns-in-Ok-solve_by_crew-clause-audit_full : goal.returns-in-Ok-solve_by_crew-clause-audit_full
returns-in-Ok-solve_by_crew-clause-audit_full g c = λ no_fault.
    let plan = planned c.in-Ok.plan in
    answers-not_full IsAnySkeleton (texts c.args.words.now) plan c.in-Ok.ensures.is_plan c.in-Ok.ensures.one_plan
    (c.files_have_one_way.ensures plan c.in-Ok.ensures.within.files) (g.S.Shelf.files c.args.shelf.now) c.in-Ok-solve_by_crew.text.items c.in-Ok-solve_by_crew.ensures.answers

pub returns-in-Err-solve_by_crew-clause-files_refused : goal.returns-in-Err-solve_by_crew-clause-files_refused
returns-in-Err-solve_by_crew-clause-files_refused g c = λ no_fault.
    let plan = planned c.in-Ok.plan in
    stops-refused IsAnySkeleton (texts c.args.words.now) plan c.in-Ok.ensures.is_plan c.in-Ok.ensures.one_plan
    (c.files_have_one_way.ensures plan c.in-Ok.ensures.within.files) (g.S.Shelf.files c.args.shelf.now) (reason_of c.in-Err-solve_by_crew.refusal)
    (λ name same. no_fault (c.in-Err-solve_by_crew.ensures.read_fault name same).0) c.in-Err-solve_by_crew.ensures.cause

pub returns-in-Err-solve_by_crew-clause-audit_full : goal.returns-in-Err-solve_by_crew-clause-audit_full
returns-in-Err-solve_by_crew-clause-audit_full g c = λ no_fault.
    let plan = planned c.in-Ok.plan in
    stops-full IsAnySkeleton (texts c.args.words.now) plan c.in-Ok.ensures.is_plan c.in-Ok.ensures.one_plan
    (c.files_have_one_way.ensures plan c.in-Ok.ensures.within.files) (g.S.Shelf.files c.args.shelf.now) (reason_of c.in-Err-solve_by_crew.refusal)
    (λ name same. no_fault (c.in-Err-solve_by_crew.ensures.read_fault name same).0) c.in-Err-solve_by_crew.ensures.cause

pub returns-in-Ok-solve_by_crew-clause-tasks : goal.returns-in-Ok-solve_by_crew-clause-tasks
returns-in-Ok-solve_by_crew-clause-tasks g c = λ no_fault many.
    let plan = planned c.in-Ok.plan in
    absurd (answers-not_past IsAnySkeleton (texts c.args.words.now) plan c.in-Ok.ensures.is_plan c.in-Ok.ensures.one_plan
    (c.files_have_one_way.ensures plan c.in-Ok.ensures.within.files) (g.S.Shelf.files c.args.shelf.now) c.in-Ok-solve_by_crew.text.items c.in-Ok-solve_by_crew.ensures.answers many)

pub returns-in-Err-solve_by_crew-clause-tasks : goal.returns-in-Err-solve_by_crew-clause-tasks
returns-in-Err-solve_by_crew-clause-tasks g c = λ no_fault.
    let plan = planned c.in-Ok.plan in
    stops-past IsAnySkeleton (texts c.args.words.now) plan c.in-Ok.ensures.is_plan c.in-Ok.ensures.one_plan
    (c.files_have_one_way.ensures plan c.in-Ok.ensures.within.files) (g.S.Shelf.files c.args.shelf.now) (reason_of c.in-Err-solve_by_crew.refusal)
    (λ name same. no_fault (c.in-Err-solve_by_crew.ensures.read_fault name same).0) c.in-Err-solve_by_crew.ensures.cause

pub returns-in-Err-solve_by_crew-clause-fine : goal.returns-in-Err-solve_by_crew-clause-fine
returns-in-Err-solve_by_crew-clause-fine g c = λ no_fault fine.
    let plan = planned c.in-Ok.plan in
    inr (stops-fine IsAnySkeleton (texts c.args.words.now) plan c.in-Ok.ensures.is_plan c.in-Ok.ensures.one_plan
    (c.files_have_one_way.ensures plan c.in-Ok.ensures.within.files) (g.S.Shelf.files c.args.shelf.now) (reason_of c.in-Err-solve_by_crew.refusal)
    (λ name same. no_fault (c.in-Err-solve_by_crew.ensures.read_fault name same).0) c.in-Err-solve_by_crew.ensures.cause fine)
