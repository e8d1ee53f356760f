-- Which texts are right answers.
use Rattle.std.proofs.Common.{◌≡◌, ℕ, ◌≤◌, ◌⊎◌, List, Bor, Option, Some, None, MatchOption, refl, inl, inr}
use Rattle.std.specs.Option.{ForSome}
use Rattle.yew_laws.specs.Greatest.{Reach}
use Rattle.yew_lad.specs.declared.nodes.MapNode.{MapNode}
use Rattle.yew_lad.specs.Digraphs.{GraphPair}
use Rattle.yew_lad.specs.Nodes.{images_of, maps_tree, worth_of, IsNode}
use Rattle.yew_lad.specs.Texts.{yes_lines, no_line, IsYesText, IsNoText}
use Rattle.yew_lad.proofs.Chosen.{same_count, whole-map}
use Rattle.yew_lad.proofs.MapTree.{worth-whole, tree-maps}
use Rattle.yew_lad.specs.Digraphs.{IsWithinLimits, vertex_count}
use Rattle.std.proofs.Common.{length}

module _ (pair : GraphPair) (limits : IsWithinLimits pair) where
  pub yes-right : (images : List ℕ) → IsNode pair images → 1 ≤ worth_of pair images → (text : List ℕ) → text ≡ yes_lines (images_of pair images) → IsYesText pair text
  yes-right images sound meets text text_is = record {
    images = images_of pair images;
    is = whole-map pair images sound (same_count (length images) (vertex_count pair.pattern) (worth-whole pair limits images meets));
    text_is = text_is;
  }

  pub no-right : ¬ Reach (maps_tree pair) 1 → (text : List ℕ) → text ≡ no_line → IsNoText pair text
  no-right none text text_is = record { no_map = λ has. none ((tree-maps pair limits).reach.1 has); text_is = text_is }

  pub decision-right : (node : Option (Bor MapNode)) (text : List ℕ) → ForSome node (λ n. IsNode pair n.now) → MatchOption node (text ≡ no_line) (λ n. text ≡ yes_lines (images_of pair n.now)) → MatchOption node (¬ Reach (maps_tree pair) 1) (λ n. 1 ≤ worth_of pair n.now) → IsYesText pair text ⊎ IsNoText pair text
  decision-right None text sound is none = inr (no-right none text is)
  decision-right (Some n) text sound is meets = inl (yes-right n.now (sound n refl) meets text is)
