-- Which groups the policies make: the rows of the table follow from the policies' meanings.
use Rattle.std.proofs.Common.{◌≡◌, ℕ, suc, ◌+◌, ◌*◌, ◌/◌, ◌%◌, ◌≢◌, ◌<◌, List, [], ◌∷◌, ◌++◌, map, length, Bool, true, false, ◌==◌, nat_lt, if◌then◌else◌, ◌⊎◌, inl, inr, refl, ap, sym, subst, ◌∙◌, arith}
use Rattle.std.specs.List.{AllByRecursion}
use Rattle.std.proofs.Math.Nat.{mod_self, mod-eq_of_lt, div-add-mod, mul-add-mod_self_left}
use Rattle.std.proofs.lemmas.Nat.{mod_below}
use Rattle.yew_laws.specs.SearchTree.{SearchTree}
use Rattle.yew_log.specs.Notes.{Note, taken, visited, cut, spawned, handed, ended, event_in, event_paths, ended_paths}
use Rattle.yew_log.specs.Groups.{Part, all, part_of, group_of, lowest_left, HasGroups, NoGroup, SkeletonGroup, by_depth, by_budget, by_steal, is_visit_above, is_due_end}
use Rattle.yew_log.specs.Policies.{Event, visit, cut_off, end, on, spawn, hand, PolicyInput, PolicyMeaning, policy_inputs, last_act, act_notes, PolicyGroup, HasPolicy, plain_policy, depth_policy, budget_policy, hungry_policy, spending, is_end}
use Rattle.yew_log.proofs.Places.{AtEach-weaker}
use Rattle.yew_laws.proofs.PathTests.{nat_same, nat-is, suc_not_zero}

abbrev pub one_input : Event → List ℕ → Bool → PolicyInput
one_input event path wanted = record { event = event; depth = length path; wanted = wanted }

-- what a policy is told of an entry, if anything
abbrev pub input_of : Note → Bool → List PolicyInput
input_of (visited path w h) wanted = one_input visit path wanted ∷ []
input_of (cut path b h) wanted = one_input cut_off path wanted ∷ []
input_of (ended path) wanted = one_input end path wanted ∷ []
input_of _ wanted = []

-- with enough answers, one more entry is told of with the next answer
policy_inputs-push : (notes : List Note) (note : Note) (answers : List Bool) → length (event_paths notes) < length answers → (wanted : Bool) × (policy_inputs (notes ++ note ∷ []) answers ≡ policy_inputs notes answers ++ input_of note wanted)
policy_inputs-push [] note [] few = absurd (omega arith)
policy_inputs-push [] (taken path) (w ∷ answers) few = (w, refl)
policy_inputs-push [] (visited path x h) (w ∷ answers) few = (w, refl)
policy_inputs-push [] (cut path b h) (w ∷ answers) few = (w, refl)
policy_inputs-push [] (spawned path) (w ∷ answers) few = (w, refl)
policy_inputs-push [] (handed path) (w ∷ answers) few = (w, refl)
policy_inputs-push [] (ended path) (w ∷ answers) few = (w, refl)
policy_inputs-push (n ∷ ns) note [] few = absurd (omega arith)
policy_inputs-push (taken path ∷ ns) note (w ∷ answers) few = policy_inputs-push ns note (w ∷ answers) few
policy_inputs-push (spawned path ∷ ns) note (w ∷ answers) few = policy_inputs-push ns note (w ∷ answers) few
policy_inputs-push (handed path ∷ ns) note (w ∷ answers) few = policy_inputs-push ns note (w ∷ answers) few
policy_inputs-push (visited path x h ∷ ns) note (w ∷ answers) few =
    let r = policy_inputs-push ns note answers (omega arith) in (r.0, ap (λ ts. one_input visit path w ∷ ts) r.1)
policy_inputs-push (cut path b h ∷ ns) note (w ∷ answers) few =
    let r = policy_inputs-push ns note answers (omega arith) in (r.0, ap (λ ts. one_input cut_off path w ∷ ts) r.1)
policy_inputs-push (ended path ∷ ns) note (w ∷ answers) few =
    let r = policy_inputs-push ns note answers (omega arith) in (r.0, ap (λ ts. one_input end path w ∷ ts) r.1)

-- the state after these events
abbrev pub state_after : {Q : Type 0} → PolicyMeaning Q → Q → List PolicyInput → Q
state_after meaning state [] = state
state_after meaning state (x ∷ xs) = state_after meaning (meaning.after state x) xs

pub last_act-push : {Q : Type 0} (meaning : PolicyMeaning Q) (state : Q) (xs : List PolicyInput) (x : PolicyInput) → last_act meaning state (xs ++ x ∷ []) ≡ meaning.act (state_after meaning state xs) x
last_act-push meaning state [] x = refl
last_act-push meaning state (y ∷ []) x = refl
last_act-push meaning state (y ∷ z ∷ xs) x = last_act-push meaning (meaning.after state y) (z ∷ xs) x

events-push : (before after : List Note) (note : Note) (whole : List Note) → before ++ note ∷ after ≡ whole → 0 < length (event_in note) → length (event_paths before) < length (event_paths whole)
events-push [] after (taken path) whole e some = absurd (omega arith)
events-push [] after (spawned path) whole e some = absurd (omega arith)
events-push [] after (handed path) whole e some = absurd (omega arith)
events-push [] after (visited path w h) whole e some = rw (← e) (omega arith)
events-push [] after (cut path b h) whole e some = rw (← e) (omega arith)
events-push [] after (ended path) whole e some = rw (← e) (omega arith)
events-push (taken path ∷ ns) after note whole e some = rw (← e) (events-push ns after note (ns ++ note ∷ after) refl some)
events-push (spawned path ∷ ns) after note whole e some = rw (← e) (events-push ns after note (ns ++ note ∷ after) refl some)
events-push (handed path ∷ ns) after note whole e some = rw (← e) (events-push ns after note (ns ++ note ∷ after) refl some)
events-push (visited path w h ∷ ns) after note whole e some = let r = events-push ns after note (ns ++ note ∷ after) refl some in rw (← e) (omega arith)
events-push (cut path b h ∷ ns) after note whole e some = let r = events-push ns after note (ns ++ note ∷ after) refl some in rw (← e) (omega arith)
events-push (ended path ∷ ns) after note whole e some = let r = events-push ns after note (ns ++ note ∷ after) refl some in rw (← e) (omega arith)

module _ {N Q : Type 0} (t : SearchTree N) (meaning : PolicyMeaning Q) (state : Q) (answers : List Bool) where
  -- the rule of a table's row, where it holds of the act of the policy in each state that it comes to
  pub policy-groups : (rule : List Note → Note → List Note → Type 0) (body : List Note) → HasPolicy t meaning state answers body → ((before : List Note) (note : Note) (x : PolicyInput) (wanted : Bool) → length (event_paths before) < length answers → input_of note wanted ≡ x ∷ [] → rule before note (act_notes (meaning.act (state_after meaning (meaning.start state) (policy_inputs before answers)) x) (lowest_left t (before ++ note ∷ [])))) → HasGroups rule body
  policy-groups rule body has each =
      AtEach-weaker (λ before note after. AllByRecursion (λ p. PolicyGroup t meaning state answers before note (group_of after)) (event_in note))
      (λ before note after. AllByRecursion (λ p. rule before note (group_of after)) (event_in note))
      body [] body refl
      (λ before note after e. at before note after e) has.groups
    where
      by : (before : List Note) (note : Note) (after : List Note) → before ++ note ∷ after ≡ body → 0 < length (event_in note) → ((wanted : Bool) → (x : PolicyInput) × (input_of note wanted ≡ x ∷ [])) → PolicyGroup t meaning state answers before note (group_of after) → rule before note (group_of after)
      by before note after e some event p =
          let more : length (event_paths before) < length answers = rw has.one_each (events-push before after note body e some) in
          let pushed = policy_inputs-push before note answers more in
          let x = event pushed.0 in
          let acts : last_act meaning (meaning.start state) (policy_inputs (before ++ note ∷ []) answers) ≡ meaning.act (state_after meaning (meaning.start state) (policy_inputs before answers)) x.0
          = ap (last_act meaning (meaning.start state)) (pushed.1 ∙ ap (λ ts. policy_inputs before answers ++ ts) x.1) ∙ last_act-push meaning (meaning.start state) (policy_inputs before answers) x.0 in
          subst (rule before note) (sym (p ∙ ap (λ act. act_notes act (lowest_left t (before ++ note ∷ []))) acts)) (each before note x.0 pushed.0 more x.1)

      at : (before : List Note) (note : Note) (after : List Note) → before ++ note ∷ after ≡ body → AllByRecursion (λ p. PolicyGroup t meaning state answers before note (group_of after)) (event_in note) → AllByRecursion (λ p. rule before note (group_of after)) (event_in note)
      at before (visited path w h) after e p = (by before (visited path w h) after e (omega arith) (λ wanted. (one_input visit path wanted, refl)) p.0, tt)
      at before (cut path b h) after e p = (by before (cut path b h) after e (omega arith) (λ wanted. (one_input cut_off path wanted, refl)) p.0, tt)
      at before (ended path) after e p = (by before (ended path) after e (omega arith) (λ wanted. (one_input end path wanted, refl)) p.0, tt)
      at before (taken path) after e p = tt
      at before (spawned path) after e p = tt
      at before (handed path) after e p = tt

module _ {N : Type 0} (t : SearchTree N) (answers : List Bool) (body : List Note) where
  pub plain-groups : HasPolicy t plain_policy tt answers body → HasGroups NoGroup body
  plain-groups has = policy-groups t plain_policy tt answers NoGroup body has (λ before note x wanted more is_input. refl)

  depth_state : (d : ℕ) (xs : List PolicyInput) → state_after depth_policy d xs ≡ d
  depth_state d [] = refl
  depth_state d (x ∷ xs) = depth_state d xs

  depth_act : (d : ℕ) (note : Note) (x : PolicyInput) (wanted : Bool) (children : List (List ℕ)) → input_of note wanted ≡ x ∷ [] → act_notes (depth_policy.act d x) children ≡ (if is_visit_above d note then map spawned children else [])
  depth_act d (visited path w h) x wanted children e = let same : one_input visit path wanted ≡ x = cc in rw (← same) (elim (nat_lt (length path) d) as (λ b. act_notes (if b then spawn all else on) children ≡ (if b then map spawned children else [])) [ true ↦ refl | false ↦ refl ])
  depth_act d (cut path b h) x wanted children e = let same : one_input cut_off path wanted ≡ x = cc in rw (← same) refl
  depth_act d (ended path) x wanted children e = let same : one_input end path wanted ≡ x = cc in rw (← same) refl
  depth_act d (taken path) x wanted children e = absurd (cc)
  depth_act d (spawned path) x wanted children e = absurd (cc)
  depth_act d (handed path) x wanted children e = absurd (cc)

  pub depth-groups : (d : ℕ) → HasPolicy t depth_policy d answers body → HasGroups (SkeletonGroup t (by_depth d)) body
  depth-groups d has =
      policy-groups t depth_policy d answers (SkeletonGroup t (by_depth d)) body has
      (λ before note x wanted more e. rw (depth_state d (policy_inputs before answers)) (depth_act d note x wanted (lowest_left t (before ++ note ∷ [])) e))

  hungry_state : (part : Part) (xs : List PolicyInput) → state_after hungry_policy part xs ≡ part
  hungry_state part [] = refl
  hungry_state part (x ∷ xs) = hungry_state part xs

  hungry_act : (part : Part) (x : PolicyInput) (children : List (List ℕ)) → (act_notes (hungry_policy.act part x) children ≡ []) ⊎ (act_notes (hungry_policy.act part x) children ≡ map handed (part_of part children))
  hungry_act part x children = elim x.wanted as (λ b. (act_notes (if b then hand part else on) children ≡ []) ⊎ (act_notes (if b then hand part else on) children ≡ map handed (part_of part children))) [ true ↦ inr refl | false ↦ inl refl ]

  pub hungry-groups : (part : Part) → HasPolicy t hungry_policy part answers body → HasGroups (SkeletonGroup t (by_steal part)) body
  hungry-groups part has =
      policy-groups t hungry_policy part answers (SkeletonGroup t (by_steal part)) body has
      (λ before note x wanted more e. rw (hungry_state part (policy_inputs before answers)) (hungry_act part x (lowest_left t (before ++ note ∷ []))))

-- how many of these events are ends
abbrev pub ends_of : List PolicyInput → ℕ
ends_of [] = 0
ends_of (x ∷ xs) = (if is_end x.event then 1 else 0) + ends_of xs

policy_inputs-ends : (notes : List Note) (answers : List Bool) → length (event_paths notes) < length answers → ends_of (policy_inputs notes answers) ≡ length (ended_paths notes)
policy_inputs-ends [] answers few = refl
policy_inputs-ends (n ∷ ns) [] few = absurd (omega arith)
policy_inputs-ends (taken path ∷ ns) (w ∷ answers) few = policy_inputs-ends ns (w ∷ answers) few
policy_inputs-ends (spawned path ∷ ns) (w ∷ answers) few = policy_inputs-ends ns (w ∷ answers) few
policy_inputs-ends (handed path ∷ ns) (w ∷ answers) few = policy_inputs-ends ns (w ∷ answers) few
policy_inputs-ends (visited path x h ∷ ns) (w ∷ answers) few = let r = policy_inputs-ends ns answers (omega arith) in omega arith
policy_inputs-ends (cut path b h ∷ ns) (w ∷ answers) few = let r = policy_inputs-ends ns answers (omega arith) in omega arith
policy_inputs-ends (ended path ∷ ns) (w ∷ answers) few = let r = policy_inputs-ends ns answers (omega arith) in omega arith

-- one more, counted round at b
round : (b n : ℕ) → 0 < b → suc n % b ≡ (if suc (n % b) == b then 0 else suc (n % b))
round b n pos = up ∙ by (suc (n % b) == b) refl
  where
    parts : suc n ≡ b * (n / b) + suc (n % b)
    parts = let d = div-add-mod n b in omega (arith, d)

    up : suc n % b ≡ suc (n % b) % b
    up = ap (λ k. k % b) parts ∙ mul-add-mod_self_left b (n / b) (suc (n % b))

    by : (v : Bool) → (suc (n % b) == b) ≡ v → suc (n % b) % b ≡ (if v then 0 else suc (n % b))
    by true e = let same : suc (n % b) ≡ b = nat-is (suc (n % b)) b e in ap (λ k. k % b) same ∙ mod_self b
    by false e =
        let differs : suc (n % b) ≢ b = λ same. let k : true ≡ false = sym (nat_same b) ∙ ap (λ j. j == b) (sym same) ∙ e in cc in
        let low = mod_below n b pos in
        let small : suc (n % b) < b = omega (arith, low) in
        mod-eq_of_lt small

budget_step : (b n : ℕ) (x : PolicyInput) → 0 < b → budget_policy.after (spending b (n % b)) x ≡ spending b ((n + (if is_end x.event then 1 else 0)) % b)
budget_step b n x pos =
    elim (is_end x.event) as (λ v. (if v then (if suc (n % b) == b then spending b 0 else spending b (suc (n % b))) else spending b (n % b)) ≡ spending b ((n + (if v then 1 else 0)) % b)) [
      | true ↦
          elim (suc (n % b) == b) as (λ v. (if v then spending b 0 else spending b (suc (n % b))) ≡ spending b (if v then 0 else suc (n % b))) [ true ↦ refl | false ↦ refl ]
          ∙ ap (spending b) (sym (round b n pos))
          ∙ ap (λ k. spending b (k % b)) (omega arith)
      | false ↦ ap (λ k. spending b (k % b)) (omega arith)
    ]

budget_state : (b n : ℕ) (xs : List PolicyInput) → 0 < b → state_after budget_policy (spending b (n % b)) xs ≡ spending b ((n + ends_of xs) % b)
budget_state b n [] pos = ap (λ k. spending b (k % b)) (omega arith)
budget_state b n (x ∷ xs) pos =
    ap (λ s. state_after budget_policy s xs) (budget_step b n x pos)
    ∙ budget_state b (n + (if is_end x.event then 1 else 0)) xs pos
    ∙ ap (λ k. spending b (k % b)) (omega arith)

-- the state after some events is how many ends there were, counted round
budget_after : (b : ℕ) (xs : List PolicyInput) → 0 < b → state_after budget_policy (spending b 0) xs ≡ spending b (ends_of xs % b)
budget_after b xs pos =
    ap (λ k. state_after budget_policy (spending b k) xs) (sym (mod-eq_of_lt {n = 0} {m = b} pos))
    ∙ budget_state b 0 xs pos
    ∙ ap (λ k. spending b (k % b)) (omega arith)

-- b ends are full exactly where the next count round is 0
full : (b n : ℕ) → 0 < b → (suc n % b == 0) ≡ (suc (n % b) == b)
full b n pos =
    ap (λ k. k == 0) (round b n pos) ∙ elim (suc (n % b) == b) as (λ v. ((if v then 0 else suc (n % b)) == 0) ≡ v) [ true ↦ refl | false ↦ suc_not_zero (n % b) ]

module _ {N : Type 0} (t : SearchTree N) (answers : List Bool) (body : List Note) (b spent : ℕ) (pos : 0 < b) where
  budget_act : (before : List Note) (note : Note) (x : PolicyInput) (wanted : Bool) (children : List (List ℕ)) → input_of note wanted ≡ x ∷ [] → act_notes (budget_policy.act (spending b (length (ended_paths before) % b)) x) children ≡ (if is_due_end b before note then map spawned children else [])
  budget_act before (ended path) x wanted children e =
      let same : one_input end path wanted ≡ x = cc in
      rw (← same)
      (elim (suc (length (ended_paths before) % b) == b) as (λ v. act_notes (if v then spawn all else on) children ≡ (if v then map spawned children else [])) [ true ↦ refl | false ↦ refl ]
      ∙ ap (λ v. if v then map spawned children else []) (sym (full b (length (ended_paths before)) pos)))
  budget_act before (visited path w h) x wanted children e = let same : one_input visit path wanted ≡ x = cc in rw (← same) refl
  budget_act before (cut path v h) x wanted children e = let same : one_input cut_off path wanted ≡ x = cc in rw (← same) refl
  budget_act before (taken path) x wanted children e = absurd (cc)
  budget_act before (spawned path) x wanted children e = absurd (cc)
  budget_act before (handed path) x wanted children e = absurd (cc)

  pub budget-groups : HasPolicy t budget_policy (spending b spent) answers body → HasGroups (SkeletonGroup t (by_budget b)) body
  budget-groups has =
      policy-groups t budget_policy (spending b spent) answers (SkeletonGroup t (by_budget b)) body has
      (λ before note x wanted more e.
      subst (λ s. act_notes (budget_policy.act s x) (lowest_left t (before ++ note ∷ [])) ≡ (if is_due_end b before note then map spawned (lowest_left t (before ++ note ∷ [])) else []))
      (sym (budget_after b (policy_inputs before answers) pos ∙ ap (λ k. spending b (k % b)) (policy_inputs-ends before answers more)))
      (budget_act before note x wanted (lowest_left t (before ++ note ∷ [])) e))
