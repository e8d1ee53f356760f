-- What a run says of an instance that it makes from a seed and a size, and of one that it solves too.
use Rattle.std.specs.Prelude.{◌≡◌, ℕ, ◌-◌, ◌^◌, List, [], ◌∷◌, ◌++◌, Bool, true, false, codes}
use Rattle.yew_laws.specs.Greatest.{greatest}
use Rattle.yew_laws.specs.SearchTree.{SearchTree}
use Rattle.yew_lines.specs.Spelling.{line, numbers_line, count_text}
use Rattle.yew_log.specs.declared.entry.Totals.{Totals}
use Rattle.yew_log.specs.SeqLog.{seq_log}
use Rattle.yew_log.specs.WholeSearch.{all_totals}
use Rattle.yew_knap.specs.Answers.{knapsack_tree}
use Rattle.yew_knap.specs.Packings.{IsBestProfit}
use Rattle.yew_make.specs.Knapsacks.{made_knapsack}
use Rattle.yew_make.specs.Texts.{made_text}
use Rattle.yew_make.specs.Tours.{made_tours}
use Rattle.yew_tsp.specs.Answers.{tours_tree}
use Rattle.yew_tsp.specs.Routes.{IsLeastLength}
use Rattle.yew_words.specs.declared.plan.Made.{Made}
use Rattle.yew_words.specs.declared.plan.Made.TheVariants as made
use Rattle.yew_app.specs.Knapsacks.{IsGoodKnapsack}
use Rattle.yew_app.specs.ShortestTours.{IsGoodTours}

-- four lines: what was made, with its size and seed, the best value, and how many nodes were visited and how many were cut
abbrev pub solved_lines : List ℕ → ℕ → ℕ → ℕ → Totals → List ℕ
solved_lines made size seed best totals =
    numbers_line made (size ∷ seed ∷ [])
    ++ numbers_line (codes "best") (best ∷ [])
    ++ line (codes "visited " ++ count_text totals.visited)
    ++ line (codes "cut " ++ count_text totals.cut)

-- the totals of the one log of a search of one worker, without a gap
abbrev pub sequential_totals : {N : Type 0} → SearchTree N → Totals
sequential_totals t = all_totals (seq_log t 0 ∷ [])

-- the best profit and the least length, as the greatest worths of the trees of the made instances tell them
abbrev pub made_profit : ℕ → ℕ → ℕ
made_profit seed size = greatest (knapsack_tree (made_knapsack seed size)) - 1

abbrev pub made_length : ℕ → ℕ → ℕ
made_length seed size = 2 ^ 37 - greatest (tours_tree (made_tours seed size))

-- The text of a made knapsack that is solved. The made text is a file of the instance, the value is the best profit of the
-- sets that can be carried, and the totals are those of the search of one worker.
pub record IsSolvedKnapsack (seed size : ℕ) (text : List ℕ) : Type 0 where
  pub is_made : IsGoodKnapsack (made_text made.Knapsack seed size) (made_knapsack seed size)
  pub is_best : IsBestProfit (made_knapsack seed size) (made_profit seed size)
  pub text_is : text ≡ solved_lines (codes "made knapsack") size seed (made_profit seed size) (sequential_totals (knapsack_tree (made_knapsack seed size)))

-- The text of made tours that are solved. The made text is a file of the instance, the value is the length of the shortest
-- tour, and the totals are those of the search of one worker.
pub record IsSolvedTours (seed size : ℕ) (text : List ℕ) : Type 0 where
  pub is_made : IsGoodTours (made_text made.Tsp seed size) (made_tours seed size)
  pub is_least : IsLeastLength (made_tours seed size) (made_length seed size)
  pub text_is : text ≡ solved_lines (codes "made tsp") size seed (made_length seed size) (sequential_totals (tours_tree (made_tours seed size)))

-- the text of what is made, or of the solution where it is solved; no words ask for a graph to be solved
abbrev pub IsMadeText : Made → Bool → ℕ → ℕ → List ℕ → Type 0
IsMadeText kind false seed size text = text ≡ made_text kind seed size
IsMadeText made.Knapsack true seed size text = IsSolvedKnapsack seed size text
IsMadeText made.Tsp true seed size text = IsSolvedTours seed size text
IsMadeText made.Lad true seed size text = text ≡ made_text made.Lad seed size
