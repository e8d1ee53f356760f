-- What a file of tours means: which files are good, what is searched for, and which lines are right.
use Rattle.std.specs.Prelude.{◌≡◌, ℕ, ◌-◌, ◌^◌, Bool, true, false, List, [], ◌∷◌, Option, Some, None}
use Rattle.yew_kinds.specs.declared.kind.Kind.{Kind}
use Rattle.yew_kinds.specs.declared.kind.Kind.TheVariants.{Best, Near}
use Rattle.yew_calls.specs.Reordering.{reordered_tree}
use Rattle.yew_laws.specs.Greatest.{greatest}
use Rattle.yew_laws.specs.SearchTree.{SearchTree}
use Rattle.yew_span.specs.Bounds.{span_tree}
use Rattle.yew_tsp.specs.declared.nodes.TourNode.{TourNode}
use Rattle.yew_tsp.specs.Answers.{tours_tree}
use Rattle.yew_tsp.specs.Files.{IsTourFile, HasNonePast, IsTourOffence, IsPastLimit}
use Rattle.yew_tsp.specs.Instance.{Instance, IsWithinLimits}
use Rattle.yew_tsp.specs.Nodes.{cities_of, worth_of}
use Rattle.yew_tsp.specs.Routes.{last_step}
use Rattle.yew_tsp.specs.Texts.{best_lines, near_lines, IsBestText, IsNearText}
use Rattle.yew_words.specs.Word.{Word}
use Rattle.yew_app.specs.Judging.{IsRead, IsRefusedFile}
use Rattle.yew_app.specs.Meanings.{Meaning}

-- the file is in its grammar, no number of it is past its limit, and this is its instance
pub record IsGoodTours (bytes : List ℕ) (instance : Instance) : Type 0 where
  pub is_file : IsTourFile bytes instance
  pub none_past : HasNonePast bytes
  pub within : IsWithinLimits instance

-- a tree of lists of cities, with those that append one city by rising weight of the last step
abbrev pub near_tree : (Instance → SearchTree TourNode) → Instance → SearchTree TourNode
near_tree tree instance = reordered_tree (λ node. last_step instance (cities_of node)) (tree instance)

-- The tree that is searched: that of the tours; with near the lists that append one city come by rising weight of the last
-- step, and with span the bound takes a least spanning tree into account.
abbrev pub tree_asked : (near span : Bool) → Instance → SearchTree TourNode
tree_asked false false = tours_tree
tree_asked false true = span_tree
tree_asked true false = near_tree tours_tree
tree_asked true true = near_tree span_tree

-- what is searched for: the shortest tour, or one whose length is within a gap of the least
abbrev pub tours_kind : Option ℕ → Kind
tours_kind None = Best
tours_kind (Some gap) = Near gap

-- the lines of the answer whose solution is this node
abbrev pub tour_lines : Option ℕ → Instance → Option TourNode → List ℕ
tour_lines None instance None = []
tour_lines None instance (Some node) = best_lines (2 ^ 37 - greatest (tours_tree instance)) (cities_of node)
tour_lines (Some gap) instance None = []
tour_lines (Some gap) instance (Some node) = near_lines (2 ^ 37 - worth_of instance node) gap (cities_of node)

-- the text is a right answer: the least length with a tour that has it, or a length within a gap of the least with a tour that has it
abbrev pub IsRightText : Option ℕ → Instance → List ℕ → Type 0
IsRightText None instance text = IsBestText instance text
IsRightText (Some gap) instance text = IsNearText instance gap text

-- the tours of a file, of which this tree is searched
abbrev pub tours_meaning : Word → Option ℕ → (Instance → SearchTree TourNode) → Meaning Instance TourNode
tours_meaning name gap tree = record {
  names = name ∷ [];
  Reads = λ told instance. IsRead IsGoodTours told name instance;
  Opens = λ told file. file ≡ name;
  Refuses = λ told reason. IsRefusedFile IsTourOffence IsPastLimit told name reason;
  tree = tree;
  kind = tours_kind gap;
  lines = tour_lines gap;
  IsRight = IsRightText gap;
}
