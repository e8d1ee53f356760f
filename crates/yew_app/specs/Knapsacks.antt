-- What a knapsack file means: which files are good, what is searched for, and which lines are right.
use Rattle.std.specs.Prelude.{◌≡◌, ℕ, ◌+◌, ◌-◌, ◌⊎◌, List, [], ◌∷◌, Option, Some, None}
use Rattle.yew_kinds.specs.declared.kind.Kind.{Kind}
use Rattle.yew_kinds.specs.declared.kind.Kind.TheVariants as kinds
use Rattle.yew_laws.specs.Greatest.{greatest}
use Rattle.yew_knap.specs.declared.nodes.KnapNode.{KnapNode}
use Rattle.yew_knap.specs.Answers.{knapsack_tree}
use Rattle.yew_knap.specs.Files.{IsKnapsackFile, IsKnapsackOffence, IsPastLimit}
use Rattle.yew_knap.specs.Instance.{Instance, IsWithinLimits}
use Rattle.yew_knap.specs.Nodes.{chosen_of, worth_of}
use Rattle.yew_knap.specs.Texts.{best_lines, near_lines, yes_lines, no_line, IsBestText, IsNearText, IsYesText, IsNoText}
use Rattle.yew_words.specs.Word.{Word}
use Rattle.yew_app.specs.declared.knapsack.Goal.{Goal}
use Rattle.yew_app.specs.declared.knapsack.Goal.TheVariants.{Best, Near, Meets}
use Rattle.yew_app.specs.Judging.{IsRead, IsRefusedFile}
use Rattle.yew_app.specs.Meanings.{Meaning}

-- the file is in its grammar and within its limits, and this is its instance
abbrev pub IsGoodKnapsack : List ℕ → Instance → Type 0
IsGoodKnapsack bytes instance = IsKnapsackFile bytes instance × IsWithinLimits instance

-- what a target and a gap ask of a profit; no words give both
abbrev pub goal_of : Option ℕ → Option ℕ → Goal
goal_of (Some target) gap = Meets target
goal_of None (Some gap) = Near gap
goal_of None None = Best

-- the number of a goal, which is 0 where it has none
abbrev pub goal_number : Goal → ℕ
goal_number Best = 0
goal_number (Near gap) = gap
goal_number (Meets target) = target

-- what is searched for: a profit is a worth less 1
abbrev pub knapsack_kind : Goal → Kind
knapsack_kind Best = kinds.Best
knapsack_kind (Near gap) = kinds.Near gap
knapsack_kind (Meets target) = kinds.Reach (target + 1)

-- the lines of the answer whose solution is this node
abbrev pub knapsack_lines : Goal → Instance → Option KnapNode → List ℕ
knapsack_lines Best instance None = []
knapsack_lines Best instance (Some node) = best_lines (greatest (knapsack_tree instance) - 1) (chosen_of instance node)
knapsack_lines (Near gap) instance None = []
knapsack_lines (Near gap) instance (Some node) = near_lines (worth_of instance node - 1) gap (chosen_of instance node)
knapsack_lines (Meets target) instance None = no_line
knapsack_lines (Meets target) instance (Some node) = yes_lines (chosen_of instance node)

-- the text is a right answer: the best profit with a set that has it; a profit within a gap of the best with a set that has it; or yes with a set whose profit meets a target, or no where none does
abbrev pub IsRightText : Goal → Instance → List ℕ → Type 0
IsRightText Best instance text = IsBestText instance text
IsRightText (Near gap) instance text = IsNearText instance gap text
IsRightText (Meets target) instance text = IsYesText instance target text ⊎ IsNoText instance target text

abbrev pub knapsack_meaning : Word → Goal → Meaning Instance KnapNode
knapsack_meaning name goal = record {
  names = name ∷ [];
  Reads = λ told instance. IsRead IsGoodKnapsack told name instance;
  Opens = λ told file. file ≡ name;
  Refuses = λ told reason. IsRefusedFile IsKnapsackOffence IsPastLimit told name reason;
  tree = knapsack_tree;
  kind = knapsack_kind goal;
  lines = knapsack_lines goal;
  IsRight = IsRightText goal;
}
