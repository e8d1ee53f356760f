-- What a policy is told of, and its groups, where a log grows by one event with its group.
use Rattle.std.proofs.Common.{◌≡◌, ℕ, ◌+◌, ◌≤◌, List, [], ◌∷◌, ◌++◌, map, length, Bool, refl, ap, sym, subst, ◌∙◌, append_assoc, arith, length-append}
use Rattle.std.specs.List.{AllByRecursion}
use Rattle.std.proofs.lemmas.List.Concat.{flat_map-append}
use Rattle.yew_laws.specs.SearchTree.{SearchTree}
use Rattle.yew_log.specs.Places.{AtEach}
use Rattle.yew_log.specs.Notes.{Note, taken, visited, cut, spawned, handed, ended, event_in, event_paths}
use Rattle.yew_log.specs.Groups.{part_of, group_of, lowest_left, HasGroups}
use Rattle.yew_log.specs.Policies.{visit, cut_off, end, Act, on, spawn, hand, PolicyInput, PolicyMeaning, policy_inputs, last_act, act_notes, PolicyGroup, HasPolicy}
use Rattle.yew_log.proofs.Growth.{HasGroups-append}
use Rattle.yew_log.proofs.Places.{AtEach-weaker}
use Rattle.yew_log.proofs.PolicyRows.{one_input, input_of, state_after, last_act-push}
use Rattle.yew_walk.specs.PolicyStates.{policy_state}

events-append : (xs ys : List Note) → length (event_paths (xs ++ ys)) ≡ length (event_paths xs) + length (event_paths ys)
events-append xs ys = ap length (flat_map-append event_in xs ys) ∙ length-append (event_paths xs) (event_paths ys)

pub no_answers : (notes : List Note) → policy_inputs notes [] ≡ []
no_answers [] = refl
no_answers (note ∷ notes) = refl

-- answers that are more than the events are not looked at
pub inputs-more : (notes : List Note) (answers more : List Bool) → length (event_paths notes) ≤ length answers → policy_inputs notes (answers ++ more) ≡ policy_inputs notes answers
inputs-more [] answers more few = refl
inputs-more (taken path ∷ ns) [] [] few = refl
inputs-more (spawned path ∷ ns) [] [] few = refl
inputs-more (handed path ∷ ns) [] [] few = refl
inputs-more (taken path ∷ ns) [] (w ∷ more) few = inputs-more ns [] (w ∷ more) few ∙ no_answers ns
inputs-more (spawned path ∷ ns) [] (w ∷ more) few = inputs-more ns [] (w ∷ more) few ∙ no_answers ns
inputs-more (handed path ∷ ns) [] (w ∷ more) few = inputs-more ns [] (w ∷ more) few ∙ no_answers ns
inputs-more (visited path x h ∷ ns) [] more few = absurd (omega arith)
inputs-more (cut path b h ∷ ns) [] more few = absurd (omega arith)
inputs-more (ended path ∷ ns) [] more few = absurd (omega arith)
inputs-more (taken path ∷ ns) (w ∷ answers) more few = inputs-more ns (w ∷ answers) more few
inputs-more (spawned path ∷ ns) (w ∷ answers) more few = inputs-more ns (w ∷ answers) more few
inputs-more (handed path ∷ ns) (w ∷ answers) more few = inputs-more ns (w ∷ answers) more few
inputs-more (visited path x h ∷ ns) (w ∷ answers) more few =
    ap (λ ts. one_input visit path w ∷ ts) (inputs-more ns answers more (omega arith))
inputs-more (cut path b h ∷ ns) (w ∷ answers) more few =
    ap (λ ts. one_input cut_off path w ∷ ts) (inputs-more ns answers more (omega arith))
inputs-more (ended path ∷ ns) (w ∷ answers) more few =
    ap (λ ts. one_input end path w ∷ ts) (inputs-more ns answers more (omega arith))

-- one more entry with one more answer: of a visit, a cut and an end the policy is told, with that answer, and of other entries it is not
pub inputs-event : (notes : List Note) (answers : List Bool) (note : Note) (wanted : Bool) → length answers ≡ length (event_paths notes) → policy_inputs (notes ++ note ∷ []) (answers ++ wanted ∷ []) ≡ policy_inputs notes answers ++ input_of note wanted
inputs-event [] [] (taken path) wanted each = refl
inputs-event [] [] (visited path w h) wanted each = refl
inputs-event [] [] (cut path b h) wanted each = refl
inputs-event [] [] (spawned path) wanted each = refl
inputs-event [] [] (handed path) wanted each = refl
inputs-event [] [] (ended path) wanted each = refl
inputs-event [] (v ∷ answers) note wanted each = absurd (omega arith)
inputs-event (taken path ∷ ns) [] note wanted each = inputs-event ns [] note wanted each ∙ ap (λ ts. ts ++ input_of note wanted) (no_answers ns)
inputs-event (spawned path ∷ ns) [] note wanted each = inputs-event ns [] note wanted each ∙ ap (λ ts. ts ++ input_of note wanted) (no_answers ns)
inputs-event (handed path ∷ ns) [] note wanted each = inputs-event ns [] note wanted each ∙ ap (λ ts. ts ++ input_of note wanted) (no_answers ns)
inputs-event (visited path x h ∷ ns) [] note wanted each = absurd (omega arith)
inputs-event (cut path b h ∷ ns) [] note wanted each = absurd (omega arith)
inputs-event (ended path ∷ ns) [] note wanted each = absurd (omega arith)
inputs-event (taken path ∷ ns) (v ∷ answers) note wanted each = inputs-event ns (v ∷ answers) note wanted each
inputs-event (spawned path ∷ ns) (v ∷ answers) note wanted each = inputs-event ns (v ∷ answers) note wanted each
inputs-event (handed path ∷ ns) (v ∷ answers) note wanted each = inputs-event ns (v ∷ answers) note wanted each
inputs-event (visited path x h ∷ ns) (v ∷ answers) note wanted each =
    ap (λ ts. one_input visit path v ∷ ts) (inputs-event ns answers note wanted (omega arith))
inputs-event (cut path b h ∷ ns) (v ∷ answers) note wanted each =
    ap (λ ts. one_input cut_off path v ∷ ts) (inputs-event ns answers note wanted (omega arith))
inputs-event (ended path ∷ ns) (v ∷ answers) note wanted each =
    ap (λ ts. one_input end path v ∷ ts) (inputs-event ns answers note wanted (omega arith))

quiet : (group : List Note) (answers : List Bool) → event_paths group ≡ [] → policy_inputs group answers ≡ []
quiet [] answers e = refl
quiet (note ∷ ns) [] e = refl
quiet (taken path ∷ ns) (w ∷ answers) e = quiet ns (w ∷ answers) e
quiet (spawned path ∷ ns) (w ∷ answers) e = quiet ns (w ∷ answers) e
quiet (handed path ∷ ns) (w ∷ answers) e = quiet ns (w ∷ answers) e
quiet (visited path x h ∷ ns) (w ∷ answers) e = absurd (cc)
quiet (cut path b h ∷ ns) (w ∷ answers) e = absurd (cc)
quiet (ended path ∷ ns) (w ∷ answers) e = absurd (cc)

-- entries of which a policy is not told, at the end
pub inputs-quiet : (notes group : List Note) (answers : List Bool) → event_paths group ≡ [] → policy_inputs (notes ++ group) answers ≡ policy_inputs notes answers
inputs-quiet [] group answers e = quiet group answers e
inputs-quiet (note ∷ ns) group [] e = refl
inputs-quiet (taken path ∷ ns) group (w ∷ answers) e = inputs-quiet ns group (w ∷ answers) e
inputs-quiet (spawned path ∷ ns) group (w ∷ answers) e = inputs-quiet ns group (w ∷ answers) e
inputs-quiet (handed path ∷ ns) group (w ∷ answers) e = inputs-quiet ns group (w ∷ answers) e
inputs-quiet (visited path x h ∷ ns) group (w ∷ answers) e = ap (λ ts. one_input visit path w ∷ ts) (inputs-quiet ns group answers e)
inputs-quiet (cut path b h ∷ ns) group (w ∷ answers) e = ap (λ ts. one_input cut_off path w ∷ ts) (inputs-quiet ns group answers e)
inputs-quiet (ended path ∷ ns) group (w ∷ answers) e = ap (λ ts. one_input end path w ∷ ts) (inputs-quiet ns group answers e)

-- the state after one more event
pub state_after-push : {Q : Type 0} (meaning : PolicyMeaning Q) (state : Q) (xs : List PolicyInput) (x : PolicyInput) → state_after meaning state (xs ++ x ∷ []) ≡ meaning.after (state_after meaning state xs) x
state_after-push meaning state [] x = refl
state_after-push meaning state (y ∷ xs) x = state_after-push meaning (meaning.after state y) xs x

-- what an act leaves has no events, and is a group
no_events : (make : List ℕ → Note) → ((p : List ℕ) → event_in (make p) ≡ []) → (ps : List (List ℕ)) → event_paths (map make ps) ≡ []
no_events make none [] = refl
no_events make none (p ∷ ps) = ap (λ es. es ++ event_paths (map make ps)) (none p) ∙ no_events make none ps

pub act-no_events : (act : Act) (children : List (List ℕ)) → event_paths (act_notes act children) ≡ []
act-no_events on children = refl
act-no_events (spawn part) children = no_events spawned (λ p. refl) (part_of part children)
act-no_events (hand part) children = no_events handed (λ p. refl) (part_of part children)

pub spawned_group : (ps : List (List ℕ)) → group_of (map spawned ps) ≡ map spawned ps
spawned_group [] = refl
spawned_group (p ∷ ps) = ap (λ g. spawned p ∷ g) (spawned_group ps)

pub handed_group : (ps : List (List ℕ)) → group_of (map handed ps) ≡ map handed ps
handed_group [] = refl
handed_group (p ∷ ps) = ap (λ g. handed p ∷ g) (handed_group ps)

pub act-group : (act : Act) (children : List (List ℕ)) → group_of (act_notes act children) ≡ act_notes act children
act-group on children = refl
act-group (spawn part) children = spawned_group (part_of part children)
act-group (hand part) children = handed_group (part_of part children)

-- a policy asks for nothing within a group
within_group : (rule : List Note → Note → List Note → Type 0) (before group : List Note) → event_paths group ≡ [] → AtEach (λ b n a. AllByRecursion (λ p. rule b n (group_of a)) (event_in n)) before group
within_group rule before [] e = tt
within_group rule before (taken path ∷ ns) e = (tt, within_group rule (before ++ taken path ∷ []) ns e)
within_group rule before (spawned path ∷ ns) e = (tt, within_group rule (before ++ spawned path ∷ []) ns e)
within_group rule before (handed path ∷ ns) e = (tt, within_group rule (before ++ handed path ∷ []) ns e)
within_group rule before (visited path x h ∷ ns) e = absurd (cc)
within_group rule before (cut path b h ∷ ns) e = absurd (cc)
within_group rule before (ended path ∷ ns) e = absurd (cc)

-- an entry of which a policy is told is an event, and no part of a group
at_event : (P : Type 0) (note : Note) (wanted : Bool) → P → AllByRecursion (λ p. P) (event_in note)
at_event P (visited path x h) wanted holds = (holds, tt)
at_event P (cut path b h) wanted holds = (holds, tt)
at_event P (ended path) wanted holds = (holds, tt)
at_event P (taken path) wanted holds = tt
at_event P (spawned path) wanted holds = tt
at_event P (handed path) wanted holds = tt

pub begins_no_group : (note : Note) (wanted : Bool) (input : PolicyInput) (ns : List Note) → input_of note wanted ≡ input ∷ [] → group_of (note ∷ ns) ≡ []
begins_no_group (visited path x h) wanted input ns e = refl
begins_no_group (cut path b h) wanted input ns e = refl
begins_no_group (ended path) wanted input ns e = refl
begins_no_group (taken path) wanted input ns e = absurd (cc)
begins_no_group (spawned path) wanted input ns e = absurd (cc)
begins_no_group (handed path) wanted input ns e = absurd (cc)

is_event : (note : Note) (wanted : Bool) (input : PolicyInput) → input_of note wanted ≡ input ∷ [] → length (event_in note) ≡ 1
is_event (visited path x h) wanted input e = refl
is_event (cut path b h) wanted input e = refl
is_event (ended path) wanted input e = refl
is_event (taken path) wanted input e = absurd (cc)
is_event (spawned path) wanted input e = absurd (cc)
is_event (handed path) wanted input e = absurd (cc)

module _ {N Q : Type 0} (t : SearchTree N) (meaning : PolicyMeaning Q) (state : Q) where
  -- the groups so far are the same where there are more answers
  groups-more : (notes : List Note) (answers more : List Bool) → length (event_paths notes) ≤ length answers → HasGroups (PolicyGroup t meaning state answers) notes → HasGroups (PolicyGroup t meaning state (answers ++ more)) notes
  groups-more notes answers more few =
      AtEach-weaker (λ b n a. AllByRecursion (λ p. PolicyGroup t meaning state answers b n (group_of a)) (event_in n))
      (λ b n a. AllByRecursion (λ p. PolicyGroup t meaning state (answers ++ more) b n (group_of a)) (event_in n))
      notes [] notes refl
      (λ b n a whole r.
      let split = ap (λ ns. length (event_paths ns)) (append_assoc b (n ∷ []) a ∙ whole) in
      let parts = events-append (b ++ n ∷ []) a in
      let same : policy_inputs (b ++ n ∷ []) (answers ++ more) ≡ policy_inputs (b ++ n ∷ []) answers = inputs-more (b ++ n ∷ []) answers more (omega (arith, split, parts, few)) in
      subst (λ (ts : List PolicyInput). AllByRecursion (λ p. group_of a ≡ act_notes (last_act meaning (meaning.start state) ts) (lowest_left t (b ++ n ∷ []))) (event_in n)) (sym same) r)

  -- one more event with its answer, and the group that the policy asks for there
  pub groups-push : (notes : List Note) (answers : List Bool) (note : Note) (wanted : Bool) (input : PolicyInput) (group : List Note) → input_of note wanted ≡ input ∷ [] → length answers ≡ length (event_paths notes) → group ≡ act_notes (meaning.act (policy_state meaning state notes answers) input) (lowest_left t (notes ++ note ∷ [])) → HasGroups (PolicyGroup t meaning state answers) notes → HasGroups (PolicyGroup t meaning state (answers ++ wanted ∷ [])) (notes ++ note ∷ group)
  groups-push notes answers note wanted input group told one_each is groups =
      let all_answers = answers ++ wanted ∷ [] in
      let act = meaning.act (policy_state meaning state notes answers) input in
      let children = lowest_left t (notes ++ note ∷ []) in
      let rule = PolicyGroup t meaning state all_answers in
      let inputs : policy_inputs (notes ++ note ∷ []) all_answers ≡ policy_inputs notes answers ++ input ∷ [] = inputs-event notes answers note wanted one_each ∙ ap (λ ts. policy_inputs notes answers ++ ts) told in
      let acts : last_act meaning (meaning.start state) (policy_inputs (notes ++ note ∷ []) all_answers) ≡ act
      = ap (last_act meaning (meaning.start state)) inputs ∙ last_act-push meaning (meaning.start state) (policy_inputs notes answers) input in
      let itself : group_of group ≡ group = ap group_of is ∙ act-group act children ∙ sym is in
      let here : rule notes note (group_of group) = itself ∙ is ∙ ap (λ a. act_notes a children) (sym acts) in
      let quiet_group : event_paths group ≡ [] = ap event_paths is ∙ act-no_events act children in
      HasGroups-append rule notes (note ∷ group) (begins_no_group note wanted input group told)
      (groups-more notes answers (wanted ∷ []) (omega arith) groups)
      (at_event (rule notes note (group_of group)) note wanted here, within_group rule (notes ++ note ∷ []) group quiet_group)

  -- one more event, for a whole body
  pub policy-push : (notes : List Note) (answers : List Bool) (note : Note) (wanted : Bool) (input : PolicyInput) (group : List Note) → input_of note wanted ≡ input ∷ [] → group ≡ act_notes (meaning.act (policy_state meaning state notes answers) input) (lowest_left t (notes ++ note ∷ [])) → HasPolicy t meaning state answers notes → HasPolicy t meaning state (answers ++ wanted ∷ []) (notes ++ note ∷ group)
  policy-push notes answers note wanted input group told is has =
      let quiet_group : event_paths group ≡ [] = ap event_paths is ∙ act-no_events (meaning.act (policy_state meaning state notes answers) input) (lowest_left t (notes ++ note ∷ [])) in
      let joined = events-append notes (note ∷ group) in
      let single = length-append (event_in note) (event_paths group) in
      let none = ap length quiet_group in
      let event = is_event note wanted input told in
      let more = length-append answers (wanted ∷ []) in
      record {
        one_each = omega (arith, has.one_each, joined, single, none, event, more);
        groups = groups-push notes answers note wanted input group told has.one_each is has.groups;
      }

  -- nothing is noted
  pub policy-start : HasPolicy t meaning state [] []
  policy-start = record { one_each = refl; groups = tt }

  -- the policy's state after one more event with its group
  pub policy_state-push : (notes : List Note) (answers : List Bool) (note : Note) (wanted : Bool) (input : PolicyInput) (group : List Note) → input_of note wanted ≡ input ∷ [] → length answers ≡ length (event_paths notes) → event_paths group ≡ [] → policy_state meaning state (notes ++ note ∷ group) (answers ++ wanted ∷ []) ≡ meaning.after (policy_state meaning state notes answers) input
  policy_state-push notes answers note wanted input group told one_each none =
      ap (λ ns. policy_state meaning state ns (answers ++ wanted ∷ [])) (sym (append_assoc notes (note ∷ []) group))
      ∙ ap (state_after meaning (meaning.start state)) (inputs-quiet (notes ++ note ∷ []) group (answers ++ wanted ∷ []) none ∙ inputs-event notes answers note wanted one_each ∙ ap (λ ts. policy_inputs notes answers ++ ts) told)
      ∙ state_after-push meaning (meaning.start state) (policy_inputs notes answers) input
