use Rattle.yew_laws.specs.SearchTree.{search_tree}
use Rattle.yew_check.proofs.Accepting.{accepts, one-judgement}
use Rattle.yew_check.proofs.laws.sound_logs_are_accepted.Goals as goal

pub returns : goal.returns
returns g c =
    let t = search_tree g.P.Problem c.args.problem.now in
    record { accepted = accepts t (g.P.Problem.ranked c.args.problem.now) c.requires; only = one-judgement t }
