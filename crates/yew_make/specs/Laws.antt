-- What holds of everything that is made.
use Rattle.std.specs.Prelude.{◌≡◌, ℕ, ◌-◌, ◌*◌, ◌/◌, ◌<◌, ◌≤◌, false, length, map}
use Rattle.std.specs.List.{AllZip, AllByRecursion}
use Rattle.rand_core.specs.Steps.{first_words}
use Rattle.rand_pcg.specs.Lcg.{started, increment_of}
use Rattle.rand_pcg.specs.Pcg.{multiplier_64, pcg32}
use Rattle.yew_words.specs.declared.plan.Made.TheVariants as made
use Rattle.yew_text.specs.Words.{words_of}
use Rattle.yew_text.specs.Numbers.{IsNumber}
use Rattle.yew_knap.specs.declared.knapsack.Item.{Item}
use Rattle.yew_knap.specs.Instance.{IsWithinLimits}
use Rattle.yew_knap.specs.Files.{IsKnapsackFile}
use Rattle.yew_tsp.specs.Files.{IsTourFile, HasNonePast}
use Rattle.yew_tsp.specs.Instance as tours
use Rattle.yew_lad.specs.Digraphs.{vertex_count, is_arc}
use Rattle.yew_lad.specs.Files.{graph_numbers, AreVertices, IsGraphFile}
use Rattle.yew_make.specs.Draws.{draws, weight, weights}
use Rattle.yew_make.specs.Pairs.{pairs, place_of}
use Rattle.yew_make.specs.Knapsacks.{made_items, made_knapsack}
use Rattle.yew_make.specs.Tours.{made_weights, made_tours}
use Rattle.yew_make.specs.Graphs.{is_joined, are_joined, made_graph, made_digraph}
use Rattle.yew_make.specs.Texts.{made_text}

-- The draws are the words that PCG XSH RR 64/32 gives in its stream 54.
abbrev pub AreGeneratorWords : ℕ → ℕ → Type 0
AreGeneratorWords seed count = draws seed count ≡ first_words pcg32 count (started 64 multiplier_64 seed (increment_of 64 54))

abbrev pub IsWeight : ℕ → Type 0
IsWeight n = (1 ≤ n) × (n ≤ 1000)

abbrev pub HasWeights : Item → Type 0
HasWeights item = IsWeight item.profit × IsWeight item.weight

-- The text is a knapsack file of the made instance, which has `size` items and is within its limits.
pub record MadeKnapsack (seed size : ℕ) : Type 0 where
  pub file : IsKnapsackFile (made_text made.Knapsack seed size) (made_knapsack seed size)
  pub limits : IsWithinLimits (made_knapsack seed size)
  pub count : length (made_items seed size) ≡ size
  pub weights : AllByRecursion HasWeights (made_items seed size)

-- The text is a tour file of the made instance, none of its numbers is past its limit, and the instance is within its
-- limits. The weights of the file are drawn in the order of the pairs of cities.
pub record MadeTour (seed size : ℕ) : Type 0 where
  pub file : IsTourFile (made_text made.Tsp seed size) (made_tours seed size)
  pub none_past : HasNonePast (made_text made.Tsp seed size)
  pub limits : tours.IsWithinLimits (made_tours seed size)
  pub in_order : made_weights seed size ≡ weights seed 0 (size * (size - 1) / 2)
  pub by_pairs : made_weights seed size ≡ map (λ pair. weight seed (place_of size pair)) (pairs size)
  pub count : length (made_weights seed size) ≡ size * (size - 1) / 2
  pub weights : AllByRecursion IsWeight (made_weights seed size)

-- The text is a graph file of the made graph, which has `size` vertices, and it names each successor once. Two vertices are
-- joined in both directions or in none, and none is joined with itself.
pub record MadeGraph (seed size : ℕ) : Type 0 where
  pub file : IsGraphFile (made_text made.Lad seed size) (made_digraph seed size)
  pub numbers : AllZip IsNumber (words_of (made_text made.Lad seed size)) (graph_numbers (made_graph seed size))
  pub count : vertex_count (made_digraph seed size) ≡ size
  pub vertices : AreVertices size (made_graph seed size)
  pub arcs : (u v : ℕ) → u < size → v < size → is_arc (made_digraph seed size) u v ≡ are_joined (is_joined seed) size u v
  pub alike : (u v : ℕ) → are_joined (is_joined seed) size u v ≡ are_joined (is_joined seed) size v u
  pub no_loops : (u : ℕ) → are_joined (is_joined seed) size u u ≡ false
