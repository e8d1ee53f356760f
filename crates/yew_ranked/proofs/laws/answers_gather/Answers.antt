use Rattle.yew_ranked.proofs.GatheredAnswers.{answer-walk, answers-gathered}
use Rattle.yew_ranked.proofs.laws.answers_gather.Goals as goal

pub returns-clause-walk : goal.returns-clause-walk
returns-clause-walk c = answer-walk c.args.rank

pub returns-clause-gather : goal.returns-clause-gather
returns-clause-gather c = answers-gathered
