use Rattle.std.proofs.Common.{◌-◌, ℕ, codes, ap, ap₂, subst, ◌∙◌}
use Rattle.std.proofs.lemmas.Result.{IfOk-weaker}
use Rattle.yew_knap.specs.Answers.{knapsack_tree}
use Rattle.yew_knap.specs.Instance.{Instance}
use Rattle.yew_knap.specs.Packings.{IsBestProfit}
use Rattle.yew_laws.specs.Greatest.{greatest}
use Rattle.yew_log.specs.declared.entry.Totals.{Totals}
use Rattle.yew_app.specs.MadeTexts.{IsSolvedKnapsack, sequential_totals, solved_lines}
use Rattle.yew_app.proofs.MadeFiles.{knapsack-good}
use Rattle.yew_app.proofs.made.solved_knapsack.Goals as goal

pub returns : goal.returns
returns c =
    let seed = c.args.seed in
    let size = c.args.size in
    let is = c.in_ok-problem.ensures.is in
    let worth = c.in_ok-worth.ensures.worth ∙ ap (λ (i : Instance). greatest (knapsack_tree i)) is in
    let totals = c.in_ok-worth.ensures.totals ∙ ap (λ (i : Instance). sequential_totals (knapsack_tree i)) is in
    let lines = ap₂ (λ (w : ℕ) (t : Totals). solved_lines (codes "made knapsack") size seed (w - 1) t) worth totals in
    IfOk-weaker c.solved_lines.result _ (λ text. IsSolvedKnapsack seed size text.items)
    (λ text text_is. record {
      is_made = knapsack-good seed size (c.made_knapsack.ensures seed size c.requires.most);
      is_best = subst (λ (i : Instance). IsBestProfit i (greatest (knapsack_tree i) - 1)) is c.tree_packs.ensures.best;
      text_is = text_is ∙ lines;
    })
    c.solved_lines.ensures
