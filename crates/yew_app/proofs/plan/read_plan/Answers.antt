use Rattle.yew_words.specs.Word.{texts}
use Rattle.yew_app.proofs.Plains.{reason-offence, no_reason, no_plan-offence, no_plan-skeleton}
use Rattle.yew_app.proofs.plan.read_plan.Goals as goal

pub returns-in-Err-clause-each_reason : goal.returns-in-Err-clause-each_reason
returns-in-Err-clause-each_reason g c =
    reason-offence g.W.Searcher.does (texts c.args.words.now) c.in-Err.usage
    (record { each_plan = c.in-Err.ensures.each_plan; each_offence = c.in-Err.ensures.each_offence })

pub returns-in-Err-clause-no_plan : goal.returns-in-Err-clause-no_plan
returns-in-Err-clause-no_plan g c =
    no_plan-offence g.W.Searcher.does (texts c.args.words.now) c.in-Err.usage
    (record { each_plan = c.in-Err.ensures.each_plan; each_offence = c.in-Err.ensures.each_offence })

pub returns-then-knows-clause-each_reason : goal.returns-then-knows-clause-each_reason
returns-then-knows-clause-each_reason g c =
    no_reason g.W.Searcher.does (texts c.args.words.now) c.in-Ok.plan
    (record { each_plan = c.in-Ok.ensures.each_plan; each_offence = c.in-Ok.ensures.each_offence })
    (c.knows.ensures.known c.if-knows.true)

pub returns-else-knows-clause-no_plan : goal.returns-else-knows-clause-no_plan
returns-else-knows-clause-no_plan g c =
    no_plan-skeleton g.W.Searcher.does (texts c.args.words.now) c.in-Ok.plan
    (record { each_plan = c.in-Ok.ensures.each_plan; each_offence = c.in-Ok.ensures.each_offence })
    (c.knows.ensures.unknown c.if-knows.false)
