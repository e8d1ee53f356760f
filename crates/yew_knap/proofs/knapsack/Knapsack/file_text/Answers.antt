use Rattle.std.proofs.Common.{sym, subst}
use Rattle.std.proofs.lemmas.Result.{IfOk-weaker}
use Rattle.yew_knap.specs.Files.{IsKnapsackFile}
use Rattle.yew_knap.proofs.Triples.{triples-file}
use Rattle.yew_knap.proofs.knapsack.Knapsack.file_text.Goals as goal

pub returns-clause-file : goal.returns-clause-file
returns-clause-file c =
    IfOk-weaker c.spelled.result _ (λ text. IsKnapsackFile text.items c.args.self.now)
    (λ text is. subst (λ bytes. IsKnapsackFile bytes c.args.self.now) (sym is) (triples-file c.args.self.now c.requires)) c.spelled.ensures
