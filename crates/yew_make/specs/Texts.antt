-- The text that is made, and its sizes.
use Rattle.std.specs.Prelude.{ℕ, List}
use Rattle.yew_words.specs.declared.plan.Made.{Made}
use Rattle.yew_words.specs.declared.plan.Made.TheVariants as made
use Rattle.yew_words.specs.declared.plan.Job.TheVariants.{Make}
use Rattle.yew_words.specs.Ranges.{HasSizeRange}
use Rattle.yew_make.specs.Knapsacks.{made_knapsack, knapsack_text}
use Rattle.yew_make.specs.Tours.{made_triangle, tour_text}
use Rattle.yew_make.specs.Graphs.{made_graph, graph_text}

-- the sizes of a kind: those that the words of a command line may give
abbrev pub IsSizeFor : Made → ℕ → Type 0
IsSizeFor kind size = HasSizeRange (Make kind) size

-- the instance of a seed and a size, spelled
abbrev pub made_text : Made → ℕ → ℕ → List ℕ
made_text made.Knapsack seed size = knapsack_text (made_knapsack seed size)
made_text made.Tsp seed size = tour_text size (made_triangle seed size)
made_text made.Lad seed size = graph_text (made_graph seed size)
