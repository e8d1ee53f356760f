use Rattle.yew_laws.specs.SearchTree.{search_tree}
use Rattle.yew_laws.specs.Tasks.{members_of}
use Rattle.yew_mail.proofs.mail.Mail.new.Given as goal

abbrev pub ghosts-learn : goal.ghosts-learn
ghosts-learn g a = record { members = members_of (search_tree g.P.Problem a.problem.now) }
