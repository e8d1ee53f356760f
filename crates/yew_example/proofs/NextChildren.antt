-- The children from a colour up, one colour after another.
use Rattle.std.proofs.Common.{◌≡◌, ℕ, suc, ◌+◌, ◌-◌, ◌<◌, true, false, cond, List, [], ◌∷◌, length, map, filter, if◌then◌else◌, ap, sym, ◌∙◌, arith}
use Rattle.std.specs.List.{range_with_len}
use Rattle.std.proofs.lemmas.Bool.{lt-ltb}
use Rattle.yew_example.specs.declared.graph.Graph.{Graph}
use Rattle.yew_example.specs.Graphs.{is_proper}
use Rattle.yew_example.specs.Nodes.{with_colour, children_from}

module _ (graph : Graph) (number : ℕ) (colours : List ℕ) where
  -- which colours are still to be given, from one up
  abbrev left_from : ℕ → ℕ → List ℕ
  left_from low count = filter (λ colour. is_proper graph (with_colour colours colour)) (range_with_len low count)

  given : (low : ℕ) → length colours < graph.vertices → children_from graph number colours low ≡ map (with_colour colours) (left_from low (number - low))
  given low room = ap (λ b. if b then map (with_colour colours) (left_from low (number - low)) else []) (lt-ltb (length colours) graph.vertices room)

  one_more : (low : ℕ) → low < number → left_from low (number - low) ≡ cond (is_proper graph (with_colour colours low)) (low ∷ left_from (low + 1) (number - (low + 1))) (left_from (low + 1) (number - (low + 1)))
  one_more low below = let count : number - low ≡ suc (number - (low + 1)) = omega arith in ap (left_from low) count

  -- a colour that no neighbour has gives the first child
  pub children-first : (low : ℕ) → length colours < graph.vertices → low < number → is_proper graph (with_colour colours low) ≡ true
      → children_from graph number colours low ≡ with_colour colours low ∷ children_from graph number colours (low + 1)
  children-first low room below proper =
      given low room ∙ ap (map (with_colour colours)) (one_more low below ∙ ap (λ b. cond b (low ∷ left_from (low + 1) (number - (low + 1))) (left_from (low + 1) (number - (low + 1)))) proper)
      ∙ ap (λ cs. with_colour colours low ∷ cs) (sym (given (low + 1) room))

  -- another colour gives none
  pub children-skip : (low : ℕ) → length colours < graph.vertices → low < number → is_proper graph (with_colour colours low) ≡ false
      → children_from graph number colours low ≡ children_from graph number colours (low + 1)
  children-skip low room below taken =
      given low room ∙ ap (map (with_colour colours)) (one_more low below ∙ ap (λ b. cond b (low ∷ left_from (low + 1) (number - (low + 1))) (left_from (low + 1) (number - (low + 1)))) taken)
      ∙ sym (given (low + 1) room)
