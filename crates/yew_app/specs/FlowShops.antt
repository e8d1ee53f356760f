-- What a file of a flow shop means: which files are good, what is searched for, and which lines are right.
use Rattle.std.specs.Prelude.{◌≡◌, ℕ, ◌-◌, ◌^◌, List, [], ◌∷◌, Option, Some, None}
use Rattle.yew_kinds.specs.declared.kind.Kind.{Kind}
use Rattle.yew_kinds.specs.declared.kind.Kind.TheVariants.{Best, Near}
use Rattle.yew_laws.specs.Greatest.{greatest}
use Rattle.yew_flow.specs.declared.nodes.FlowNode.{FlowNode}
use Rattle.yew_flow.specs.Answers.{orders_tree}
use Rattle.yew_flow.specs.Files.{IsFlowFile, HasNonePast, IsFlowOffence, IsPastLimit}
use Rattle.yew_flow.specs.Instance.{Instance, IsWithinLimits}
use Rattle.yew_flow.specs.Nodes.{jobs_of, worth_of}
use Rattle.yew_flow.specs.Texts.{best_lines, near_lines, IsBestText, IsNearText}
use Rattle.yew_words.specs.Word.{Word}
use Rattle.yew_app.specs.Judging.{IsRead, IsRefusedFile}
use Rattle.yew_app.specs.Meanings.{Meaning}

-- the file is in its grammar, no number of it is past its limit, and this is its instance
pub record IsGoodFlow (bytes : List ℕ) (instance : Instance) : Type 0 where
  pub is_file : IsFlowFile bytes instance
  pub none_past : HasNonePast bytes
  pub within : IsWithinLimits instance

-- what is searched for: an order with the least makespan, or one whose makespan is within a gap of the least
abbrev pub flow_kind : Option ℕ → Kind
flow_kind None = Best
flow_kind (Some gap) = Near gap

-- the lines of the answer whose solution is this node
abbrev pub order_lines : Option ℕ → Instance → Option FlowNode → List ℕ
order_lines None instance None = []
order_lines None instance (Some node) = best_lines (2 ^ 37 - greatest (orders_tree instance)) (jobs_of node)
order_lines (Some gap) instance None = []
order_lines (Some gap) instance (Some node) = near_lines (2 ^ 37 - worth_of instance node) gap (jobs_of node)

-- the text is a right answer: the least makespan with an order that has it, or a makespan within a gap of the least with an order that has it
abbrev pub IsRightText : Option ℕ → Instance → List ℕ → Type 0
IsRightText None instance text = IsBestText instance text
IsRightText (Some gap) instance text = IsNearText instance gap text

abbrev pub flow_meaning : Word → Option ℕ → Meaning Instance FlowNode
flow_meaning name gap = record {
  names = name ∷ [];
  Reads = λ told instance. IsRead IsGoodFlow told name instance;
  Opens = λ told file. file ≡ name;
  Refuses = λ told reason. IsRefusedFile IsFlowOffence IsPastLimit told name reason;
  tree = orders_tree;
  kind = flow_kind gap;
  lines = order_lines gap;
  IsRight = IsRightText gap;
}
