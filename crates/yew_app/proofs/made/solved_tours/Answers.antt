use Rattle.std.proofs.Common.{◌-◌, ◌^◌, ℕ, codes, ap, ap₂, subst, ◌∙◌, arith}
use Rattle.std.proofs.lemmas.Result.{IfOk-weaker}
use Rattle.yew_laws.specs.Greatest.{greatest}
use Rattle.yew_log.specs.declared.entry.Totals.{Totals}
use Rattle.yew_tsp.specs.Answers.{tours_tree}
use Rattle.yew_tsp.specs.Instance.{Instance}
use Rattle.yew_tsp.specs.Routes.{IsLeastLength}
use Rattle.yew_app.specs.MadeTexts.{IsSolvedTours, sequential_totals, solved_lines}
use Rattle.yew_app.proofs.MadeFiles.{tours-good}
use Rattle.yew_app.proofs.TourWorths.{greatest-most}
use Rattle.yew_app.proofs.made.solved_tours.Goals as goal

pub returns : goal.returns
returns c =
    let seed = c.args.seed in
    let size = c.args.size in
    let is = c.in_ok-problem.ensures.is in
    let worth = c.in_ok-worth.ensures.worth ∙ ap (λ (i : Instance). greatest (tours_tree i)) is in
    let totals = c.in_ok-worth.ensures.totals ∙ ap (λ (i : Instance). sequential_totals (tours_tree i)) is in
    let lines = ap₂ (λ (w : ℕ) (t : Totals). solved_lines (codes "made tsp") size seed (2 ^ 37 - w) t) worth totals in
    IfOk-weaker c.solved_lines.result _ (λ text. IsSolvedTours seed size text.items)
    (λ text text_is. record {
      is_made = tours-good seed size (c.made_tour.ensures seed size c.requires.least c.requires.most);
      is_least = subst (λ (i : Instance). IsLeastLength i (2 ^ 37 - greatest (tours_tree i))) is c.tree_tours.ensures.least;
      text_is = text_is ∙ lines;
    })
    c.solved_lines.ensures

pub overflow_sub-worth : goal.overflow_sub-worth
overflow_sub-worth c =
    let is = c.in_ok-worth.ensures.worth in
    let most = greatest-most c.in_ok-problem.problem in
    omega (arith, is, most)
