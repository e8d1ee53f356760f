use Rattle.yew_laws.specs.SearchTree.{search_tree}
use Rattle.yew_log.proofs.SeqLawful.{seq_log-lawful}
use Rattle.yew_log.proofs.SeqUnique.{seq_log-unique}
use Rattle.yew_log.proofs.laws.seq_log_is_lawful.Goals as goal

pub returns : goal.returns
returns g c =
    let meaning = g.P.Problem in
    let problem = c.args.problem.now in
    record {
      lawful = λ gap. seq_log-lawful (search_tree meaning problem) gap (meaning.ranked problem) c.requires;
      only = λ gap. seq_log-unique (search_tree meaning problem) gap (meaning.ranked problem) c.requires;
    }
