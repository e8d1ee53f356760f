-- One event of a walk with the group that its policy asks for: the levels, the groups and the policy's state go on together.
use Rattle.std.proofs.Common.{◌≡◌, List, [], ◌∷◌, ◌++◌, map, Bool, refl, ap, sym, subst, ◌∙◌, append_assoc, append-nil}
use Rattle.yew_laws.specs.SearchTree.{SearchTree}
use Rattle.yew_laws.specs.declared.problem.Task.{Task}
use Rattle.yew_log.specs.Notes.{Note, spawned, handed, event_paths}
use Rattle.yew_log.specs.Groups.{lowest_left}
use Rattle.yew_log.specs.Policies.{Act, on, spawn, hand, PolicyInput, PolicyMeaning, act_notes, HasPolicy}
use Rattle.yew_log.proofs.PolicyRows.{input_of}
use Rattle.yew_stack.specs.Levels.{LevelView}
use Rattle.yew_stack.specs.Splits.{paths_of, appended, Splits}
use Rattle.yew_stack.specs.declared.stacks.Chunk.{Chunk}
use Rattle.yew_walk.specs.Dealt.{part_of_chunk, IsDealt}
use Rattle.yew_walk.specs.PolicyStates.{policy_state, HasGoneOn}
use Rattle.yew_walk.proofs.LowestLevels.{splits-lowest_left, dealt-splits_spawned, dealt-splits_handed}
use Rattle.yew_walk.proofs.PolicyInputs.{act-no_events, policy-push, policy_state-push}

module _ {N Q : Type 0} (t : SearchTree N) (meaning : PolicyMeaning Q) (state : Q) where
  goes_on : (notes : List Note) (answers : List Bool) (note : Note) (wanted : Bool) (input : PolicyInput) (now : Q) (act : Act) (group : List Note) (ls : List (LevelView N)) → input_of note wanted ≡ input ∷ [] → HasPolicy t meaning state answers notes → policy_state meaning state notes answers ≡ now → meaning.act now input ≡ act → group ≡ act_notes act (lowest_left t (notes ++ note ∷ [])) → IsDealt t ((notes ++ note ∷ []) ++ group) ls → HasGoneOn t meaning state (notes ++ note ∷ group) (answers ++ wanted ∷ []) ls (meaning.after now input)
  goes_on notes answers note wanted input now act group ls told has state_is act_is group_is dealt =
      let children = lowest_left t (notes ++ note ∷ []) in
      let same : act ≡ meaning.act (policy_state meaning state notes answers) input = sym act_is ∙ ap (λ q. meaning.act q input) (sym state_is) in
      record {
        policy = policy-push t meaning state notes answers note wanted input group told (group_is ∙ ap (λ a. act_notes a children) same) has;
        dealt = subst (λ ns. IsDealt t ns ls) (append_assoc notes (note ∷ []) group) dealt;
        state_is = policy_state-push t meaning state notes answers note wanted input group told has.one_each (ap event_paths group_is ∙ act-no_events act children)
            ∙ ap (λ q. meaning.after q input) state_is;
      }

  -- the policy asks for nothing
  pub goes_on-on : (notes : List Note) (answers : List Bool) (note : Note) (wanted : Bool) (input : PolicyInput) (now : Q) (ls : List (LevelView N)) → input_of note wanted ≡ input ∷ [] → HasPolicy t meaning state answers notes → policy_state meaning state notes answers ≡ now → meaning.act now input ≡ on → IsDealt t (notes ++ note ∷ []) ls → HasGoneOn t meaning state (notes ++ note ∷ []) (answers ++ wanted ∷ []) ls (meaning.after now input)
  goes_on-on notes answers note wanted input now ls told has state_is act_is dealt =
      goes_on notes answers note wanted input now on [] ls told has state_is act_is refl (subst (λ ns. IsDealt t ns ls) (sym (append-nil (notes ++ note ∷ []))) dealt)

  -- the policy asks for tasks to be spawned, and a chunk of the lowest level is split off
  pub goes_on-spawn : (chunk : Chunk) (notes : List Note) (answers : List Bool) (note : Note) (wanted : Bool) (input : PolicyInput) (now : Q) (old new : List (LevelView N)) (before after : List (Task N)) → input_of note wanted ≡ input ∷ [] → HasPolicy t meaning state answers notes → policy_state meaning state notes answers ≡ now → meaning.act now input ≡ spawn (part_of_chunk chunk) → IsDealt t (notes ++ note ∷ []) old → Splits chunk old before after new → HasGoneOn t meaning state (notes ++ note ∷ map spawned (paths_of (appended before after))) (answers ++ wanted ∷ []) new (meaning.after now input)
  goes_on-spawn chunk notes answers note wanted input now old new before after told has state_is act_is dealt splits =
      let group = ap (map spawned) (splits-lowest_left t chunk (notes ++ note ∷ []) old new before after splits dealt) in
      goes_on notes answers note wanted input now (spawn (part_of_chunk chunk)) (map spawned (paths_of (appended before after))) new told has state_is act_is group
      (subst (λ g. IsDealt t ((notes ++ note ∷ []) ++ g) new) (sym group) (dealt-splits_spawned t chunk (notes ++ note ∷ []) old new before after splits dealt))

  -- likewise to be handed over
  pub goes_on-hand : (chunk : Chunk) (notes : List Note) (answers : List Bool) (note : Note) (wanted : Bool) (input : PolicyInput) (now : Q) (old new : List (LevelView N)) (before after : List (Task N)) → input_of note wanted ≡ input ∷ [] → HasPolicy t meaning state answers notes → policy_state meaning state notes answers ≡ now → meaning.act now input ≡ hand (part_of_chunk chunk) → IsDealt t (notes ++ note ∷ []) old → Splits chunk old before after new → HasGoneOn t meaning state (notes ++ note ∷ map handed (paths_of (appended before after))) (answers ++ wanted ∷ []) new (meaning.after now input)
  goes_on-hand chunk notes answers note wanted input now old new before after told has state_is act_is dealt splits =
      let group = ap (map handed) (splits-lowest_left t chunk (notes ++ note ∷ []) old new before after splits dealt) in
      goes_on notes answers note wanted input now (hand (part_of_chunk chunk)) (map handed (paths_of (appended before after))) new told has state_is act_is group
      (subst (λ g. IsDealt t ((notes ++ note ∷ []) ++ g) new) (sym group) (dealt-splits_handed t chunk (notes ++ note ∷ []) old new before after splits dealt))
