-- The state of a policy within a walk.
use Rattle.std.specs.Prelude.{◌≡◌, List, Bool}
use Rattle.yew_laws.specs.SearchTree.{SearchTree}
use Rattle.yew_log.specs.Notes.{Note}
use Rattle.yew_log.specs.Policies.{PolicyMeaning, policy_inputs, HasPolicy}
use Rattle.yew_log.proofs.PolicyRows.{state_after}
use Rattle.yew_stack.specs.Levels.{LevelView}
use Rattle.yew_walk.specs.Dealt.{IsDealt}

-- the state of a policy after the visits, cuts and ends among these entries, each with the answer of this list, where start found this state
abbrev pub policy_state : {Q : Type 0} → PolicyMeaning Q → Q → List Note → List Bool → Q
policy_state meaning state notes answers = state_after meaning (meaning.start state) (policy_inputs notes answers)

-- the entries so far have a policy's groups, deal with these levels, and leave the policy in a state
pub record HasGoneOn {N Q : Type 0} (t : SearchTree N) (meaning : PolicyMeaning Q) (state : Q) (notes : List Note) (answers : List Bool) (ls : List (LevelView N)) (now : Q) : Type 0 where
  pub policy : HasPolicy t meaning state answers notes
  pub dealt : IsDealt t notes ls
  pub state_is : policy_state meaning state notes answers ≡ now
