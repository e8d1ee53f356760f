-- How a walk begins, how far it is from its end, and what it has done there.
use Rattle.std.proofs.Common.{◌≡◌, ℕ, ◌+◌, ◌*◌, ◌<◌, ◌≤◌, List, [], ◌∷◌, ◌++◌, map, length, Some, None, Bool, Option, ◌⊎◌, inl, inr, refl, ap, sym, subst, ◌∙◌, arith, append-nil, length-append}
use Rattle.std.specs.List.{AllByRecursion, Contains, flat_map, sum_by}
use Rattle.std.specs.Option.{option_map}
use Rattle.std.proofs.lemmas.List.Sums.{sum_by-cons}
use Rattle.yew_best.specs.Seats.{SeatView}
use Rattle.yew_laws.specs.declared.problem.Problem.{Ghosts}
use Rattle.yew_laws.specs.declared.problem.Task.{Task}
use Rattle.yew_laws.specs.Fold.{fold_of, of_member, IsTally}
use Rattle.yew_laws.specs.SearchTree.{SearchTree, search_tree, IsTask}
use Rattle.yew_laws.specs.Tree.{Member, IsRanked, node_at}
use Rattle.yew_laws.proofs.Bags.{same-refl, same-is}
use Rattle.yew_laws.proofs.Folds.{fold-fits}
use Rattle.yew_laws.proofs.Trees.{tree-unfolds, node_at-rank}
use Rattle.yew_log.specs.HeldValues.{plain}
use Rattle.yew_log.specs.Notes.{Note, taken, visited}
use Rattle.yew_log.specs.Policies.{PolicyMeaning, PolicyGroup, PolicyInput, policy_inputs}
use Rattle.yew_log.proofs.PolicyRows.{state_after}
use Rattle.yew_stack.specs.Levels.{LevelValue, level_of, levels}
use Rattle.yew_stack.specs.Splits.{MovesLowest}
use Rattle.yew_stack.specs.ToCome.{to_come, node_tree, turns_left, IsOpen, AllOpen, task_members}
use Rattle.yew_stack.specs.Turns.{TopGives, TopEnds}
use Rattle.yew_stack.proofs.Coming.{AllByRecursion-push, gives-turns_left, push-turns_left, ends-turns_left}
use Rattle.yew_walk.specs.declared.keying.Keying.{Keying}
use Rattle.yew_walk.specs.declared.hand.Hand.{Hand}
use Rattle.yew_walk.specs.declared.policy.Event.{Event}
use Rattle.yew_walk.specs.declared.policy.Event.TheVariants.{Visited, CutOff, Ended}
use Rattle.yew_walk.specs.Entering.{Enters}
use Rattle.yew_walk.specs.Hands.{incumbent_of}
use Rattle.yew_walk.specs.Keys.{kind_of, gap_in}
use Rattle.yew_walk.specs.LogViews.{LogView, log_after}
use Rattle.yew_walk.specs.Outlets.{OutletCall}
use Rattle.yew_walk.specs.Scenes.{Scene, sum_after, IsWalking, IsWalked}
use Rattle.yew_walk.specs.Sharing.{IsSplitOff, IsAsked}
use Rattle.yew_walk.specs.Seats.{IsRead}
use Rattle.yew_walk.specs.SeqRests.{IsInSequence}
use Rattle.yew_walk.specs.UnderWay.{IsUnderWay}
use Rattle.yew_walk.specs.Verdicts.{IsVisit}
use Rattle.yew_walk.proofs.DealtLevels.{dealt-first_visit, dealt-first_cut}
use Rattle.yew_walk.proofs.KeyOrder.{held_of-plain}
use Rattle.yew_walk.proofs.OutletCalls.{calls-taken}
use Rattle.yew_walk.proofs.PolicyInputs.{policy-start}
use Rattle.yew_walk.proofs.SeqRests.{sequence-start}
use Rattle.yew_walk.proofs.UnderWays.{underway-start, found-there}
use Rattle.yew_walk.proofs.WalkEnds.{underway-walk}
use Rattle.yew_walk.proofs.Walkings.{AwaitsNode}

weighs-one : {X : Type 0} (xs : List X) → sum_by (λ x. 1) xs ≡ length xs
weighs-one [] = refl
weighs-one (x ∷ xs) = let more = weighs-one xs in sum_by-cons (λ y. 1) x xs ∙ omega (arith, more)

no-levels : {X Y : Type 0} (f : X → Y) (xs : List X) → map f xs ≡ [] → xs ≡ []
no-levels f [] e = refl
no-levels f (x ∷ xs) e = absurd (cc)

inputs-none : (notes : List Note) → policy_inputs notes [] ≡ []
inputs-none [] = refl
inputs-none (note ∷ notes) = refl

-- a Taken entry is no event
inputs-taken : (path : List ℕ) (notes : List Note) (answers : List Bool) → policy_inputs (taken path ∷ notes) answers ≡ policy_inputs notes answers
inputs-taken path notes [] = sym (inputs-none notes)
inputs-taken path notes (wanted ∷ answers) = refl

-- a sum with members one after another is the sum joined with their fold
sum_after-fold : {N Sum : Type 0} {fits : Sum → Type 0} {join : Sum → Sum → Sum} {none : Sum} (tally : IsTally fits join none) (of : N → ℕ → Sum) (of_fits : (n : N) (depth : ℕ) → fits (of n depth)) (sum : Sum) (ms : List (Member N)) → fits sum → sum_after join of sum ms ≡ join sum (fold_of join none (of_member of) ms)
sum_after-fold {N} {Sum} {fits} {join} {none} tally of of_fits sum [] fit = sym (tally.unit sum fit) ∙ tally.comm none sum tally.none_fits fit
sum_after-fold {N} {Sum} {fits} {join} {none} tally of of_fits sum (m ∷ ms) fit =
    let here = of m.node (length m.path) in
    let one = of_fits m.node (length m.path) in
    let rest = fold_of join none (of_member of) ms in
    sum_after-fold tally of of_fits (join sum here) ms (tally.join_fits sum here fit one)
    ∙ tally.assoc sum here rest fit one (fold-fits tally (of_member of) (λ (n : Member N). of_fits n.node (length n.path)) ms)

module _ {S N K : Type 0} (meaning : Ghosts S N K) (problem : S) where
  abbrev Falls : Type 0
  Falls = IsRanked (meaning.sound problem) (meaning.children problem) (meaning.rank problem)

  -- a split takes no turn back
  off-turns_left : (old new : List (LevelValue K)) (tasks : List (Task N)) → IsSplitOff meaning problem old tasks new → turns_left meaning problem new ≤ turns_left meaning problem old
  off-turns_left old new tasks off =
      let same = off.to_come_is.weighs (λ m. 1) in
      let a = weighs-one (to_come meaning problem old) in
      let b = weighs-one (to_come meaning problem new ++ flat_map (task_members meaning problem) tasks) in
      let c = length-append (to_come meaning problem new) (flat_map (task_members meaning problem) tasks) in
      let l = lengths off.split in
      omega (arith, same, a, b, c, l)
    where
      lengths : ((tasks ≡ []) × (levels (meaning.remaining problem) new ≡ levels (meaning.remaining problem) old)) ⊎ MovesLowest (levels (meaning.remaining problem) old) [] tasks (levels (meaning.remaining problem) new) → length (levels (meaning.remaining problem) new) ≡ length (levels (meaning.remaining problem) old)
      lengths (inl n) = ap length n.1
      lengths (inr m) = ap length m.new_is ∙ length-append m.lower (m.rest ∷ m.upper) ∙ sym (length-append m.lower (m.level ∷ m.upper)) ∙ sym (ap length m.old_is)

  pub asked-turns_left : {Q : Type 0} {did : List OutletCall → Type 0} (policy : PolicyMeaning Q) (input : PolicyInput) (before after : Q) (old new : List (LevelValue K)) (old_log new_log : LogView) (old_sent new_sent : List (Task N)) → IsAsked meaning problem policy input did before old old_log old_sent after new new_log new_sent → turns_left meaning problem new ≤ turns_left meaning problem old
  asked-turns_left policy input before after old new old_log new_log old_sent new_sent a =
      elim a.act_done [
        | inl n ↦ let e = ap (turns_left meaning problem) n.1 in omega (arith, e)
        | inr s ↦ elim s [ inl p ↦ off-turns_left old new p.2.tasks p.2.is_off | inr p ↦ off-turns_left old new p.2.tasks p.2.is_off ]
      ]

  -- the levels stay open
  pub asked-open : {Q : Type 0} {did : List OutletCall → Type 0} (policy : PolicyMeaning Q) (input : PolicyInput) (before after : Q) (old new : List (LevelValue K)) (old_log new_log : LogView) (old_sent new_sent : List (Task N)) → IsAsked meaning problem policy input did before old old_log old_sent after new new_log new_sent → AllOpen meaning problem old → AllOpen meaning problem new
  asked-open policy input before after old new old_log new_log old_sent new_sent a opened =
      elim a.act_done [
        | inl n ↦ subst (AllOpen meaning problem) (sym n.1) opened
        | inr s ↦ elim s [ inl p ↦ p.2.is_off.levels_open | inr p ↦ p.2.is_off.levels_open ]
      ]

  enters-turns_left : {Sum : Type 0} (keying : Keying) (join : Sum → Sum → Sum) (of : N → ℕ → Sum) → Falls → (event : Event) (path : List ℕ) (node : N) → IsTask meaning problem path node → (old_seat new_seat : SeatView) (old_hand new_hand : Hand Sum) (old_log new_log : LogView) (old new : List (LevelValue K)) → Enters meaning problem keying path node join of event old_seat old_hand old_log old new_seat new_hand new_log new → turns_left meaning problem new < 2 * length (node_tree meaning problem node) + turns_left meaning problem old
  enters-turns_left keying join of ranked Visited path node is old_seat new_seat old_hand new_hand old_log new_log old new e =
      let pushed = ap (turns_left meaning problem) e.opens.stack_is ∙ push-turns_left meaning problem old path node e.opens.kids e.opens.kids_are in
      let unfolds = ap length (tree-unfolds ranked node is.is_sound) in
      omega (arith, pushed, unfolds)
  enters-turns_left keying join of ranked CutOff path node is old_seat new_seat old_hand new_hand old_log new_log old new e =
      let same = ap (turns_left meaning problem) e.stack_is in
      let unfolds = ap length (tree-unfolds ranked node is.is_sound) in
      omega (arith, same, unfolds)
  enters-turns_left keying join of ranked Ended path node is old_seat new_seat old_hand new_hand old_log new_log old new e = absurd e

  pub node-turns_left : {Sum : Type 0} (keying : Keying) (join : Sum → Sum → Sum) (of : N → ℕ → Sum) → Falls → (event : Event) (given : Task N) → IsTask meaning problem given.path.numbers given.node → (old_seat new_seat : SeatView) (old_hand new_hand : Hand Sum) (old_log new_log : LogView) (old mid new : List (LevelValue K)) → TopGives (levels (meaning.remaining problem) old) given.path.numbers given.node (levels (meaning.remaining problem) mid) → Enters meaning problem keying given.path.numbers given.node join of event old_seat old_hand old_log mid new_seat new_hand new_log new → turns_left meaning problem new < turns_left meaning problem old
  node-turns_left keying join of ranked event given is old_seat new_seat old_hand new_hand old_log new_log old mid new turn e =
      let a = gives-turns_left meaning problem old mid given turn in
      let b = enters-turns_left keying join of ranked event given.path.numbers given.node is old_seat new_seat old_hand new_hand old_log new_log mid new e in
      omega (arith, a, b)

  pub end-turns_left : (old new : List (LevelValue K)) (path : List ℕ) → TopEnds (levels (meaning.remaining problem) old) path (levels (meaning.remaining problem) new) → turns_left meaning problem new < turns_left meaning problem old
  end-turns_left old new path turn = let a = ends-turns_left meaning problem old new path turn in omega (arith, a)

  pub empty-stack : (stack : List (LevelValue K)) → levels (meaning.remaining problem) stack ≡ [] → stack ≡ []
  empty-stack stack e = no-levels (level_of (meaning.remaining problem)) stack e

  -- the path of a level's node is as long as the tree is deep at most
  pub end-depth : Falls → meaning.sound problem (meaning.root problem) → meaning.rank problem (meaning.root problem) ≤ 65535 → (old new : List (LevelValue K)) (path : List ℕ) → AllOpen meaning problem old → TopEnds (levels (meaning.remaining problem) old) path (levels (meaning.remaining problem) new) → length path ≤ 65535
  end-depth ranked root deep old new path opened turn =
      let here = (AllByRecursion-push (IsOpen (meaning.sound problem) (meaning.children problem) (meaning.root problem)) (levels (meaning.remaining problem) new) turn.top (subst (AllByRecursion (IsOpen (meaning.sound problem) (meaning.children problem) (meaning.root problem))) turn.old_is opened)).1 in
      let short = node_at-rank ranked turn.top.parent (meaning.root problem) here.parent_node root here.found in
      let same = ap length turn.parent_is in
      omega (arith, short, same, deep)

module _ {S N K Sum Q : Type 0} (meaning : Ghosts S N K) (problem : S) (keying : Keying) (join : Sum → Sum → Sum) (of : N → ℕ → Sum) (policy : PolicyMeaning Q) (task : List ℕ) where
  abbrev t : SearchTree N
  t = search_tree meaning problem

  none-given : (given : Option (List Bool)) → given ≡ option_map (λ answers. answers ++ []) given
  none-given None = refl
  none-given (Some answers) = ap (λ (a : List Bool). Some a) (sym (append-nil answers))

  -- the root was visited first
  first-visit : kind_of keying ≡ plain → IsRanked (meaning.sound problem) (meaning.children problem) (meaning.rank problem) → meaning.sound problem (meaning.root problem) → (first now after : SeatView) (node : N) (worth held : ℕ) → IsTask meaning problem task node → now ≡ first → task ≡ [] → first.offered ≡ [] → first.share ≡ first.best.seats → IsVisit meaning problem keying task node worth held now after → IsInSequence t (gap_in keying) (visited task worth held ∷ []) (record { parent = task; given = 0; remaining = meaning.children problem node } ∷ [])
  first-visit is_plain ranked root first now after node worth held is same of_root nothing whole v =
      let stands : Some (meaning.root problem) ≡ Some node = subst (λ p. node_at (meaning.children problem) (meaning.root problem) p ≡ Some node) of_root is.found in
      let is_root : meaning.root problem ≡ node = cc in
      let gap = gap_in keying in
      let none : held ≡ 0 = v.held_is ∙ held_of-plain keying v.word is_plain ∙ zero-word (subst (λ s. IsRead s v.word) same v.is_read) in
      subst (λ p. IsInSequence t gap (visited p worth held ∷ []) (record { parent = p; given = 0; remaining = meaning.children problem node } ∷ [])) (sym of_root)
      (subst (λ h. IsInSequence t gap (visited [] worth h ∷ []) (record { parent = []; given = 0; remaining = meaning.children problem node } ∷ [])) (sym none)
      (subst (λ w. IsInSequence t gap (visited [] w 0 ∷ []) (record { parent = []; given = 0; remaining = meaning.children problem node } ∷ [])) (sym v.worth_is)
      (subst (λ n. IsInSequence t gap (visited [] (meaning.worth problem n) 0 ∷ []) (record { parent = []; given = 0; remaining = meaning.children problem n } ∷ [])) is_root (sequence-start t gap ranked root))))
    where
      none-offered : Contains [] v.word → ⊥
      none-offered c = let below = c.1 in absurd (omega (arith, below))

      zero-word : IsRead first v.word → v.word ≡ 0
      zero-word r = elim (r.whole whole) [ inl zero ↦ zero | inr offered ↦ absurd (none-offered (subst (λ xs. Contains xs v.word) nothing offered)) ]

  -- the task's node is next, and nothing was done yet
  pub awaits-start : {did : List OutletCall → Type 0} → IsRanked (meaning.sound problem) (meaning.children problem) (meaning.rank problem) → meaning.sound problem (meaning.root problem) → (first now : Scene N Sum Q) (node : N) → IsTask meaning problem task node → now.seat ≡ first.seat → now.hand ≡ first.hand → now.sent ≡ first.sent → now.answers ≡ first.answers → now.state ≡ policy.start first.state → now.log ≡ log_after first.log (taken task ∷ []) → did [] → AwaitsNode meaning problem keying join of policy task did first now [] task node
  awaits-start ranked root first now node is same_seat same_hand same_sent same_answers started logged none = record {
    notes = [];
    frames = [];
    answers = [];
    tasks = [];
    members = [];
    way = subst (λ s. IsUnderWay meaning problem keying task first.seat s [] [] [] (task ∷ [])) (sym same_seat) (underway-start meaning problem keying task (found-there meaning problem keying task task node is) first.seat);
    next = (refl, refl);
    has_policy = policy-start t policy first.state;
    state_is = sym started;
    if_visited = λ worth held. dealt-first_visit t task worth held node is.found;
    if_cut = λ bound held. dealt-first_cut t task bound held;
    in_visit = λ alone worth held after v. first-visit alone.plain_keys ranked root first.seat now.seat after node worth held is same_seat alone.of_root alone.none_offered alone.whole_share v;
    in_cut = λ alone bound held after v. absurd (v.inner alone.of_root);
    log_is = logged;
    are_visited = record { paths_are = refl; there = tt };
    sum_is = ap (λ (h : Hand Sum). h.sum) same_hand;
    best_is = ap (λ (h : Hand Sum). incumbent_of h) same_hand;
    sent_are = same-is (same_sent ∙ sym (append-nil first.sent));
    tasks_are = same-refl [];
    sound = tt;
    answers_are = same_answers ∙ none-given first.answers;
    calls_are = none;
  }

  -- with no level left, the walk is a whole segment
  pub walking-walked : {fits : Sum → Type 0} {none : Sum} {did : List OutletCall → Type 0} → IsTally fits join none → ((n : N) (depth : ℕ) → fits (of n depth)) → (first now : Scene N Sum Q) (stack : List (LevelValue K)) → fits first.hand.sum → stack ≡ [] → IsWalking meaning problem keying join of policy task did first now stack → IsWalked meaning problem keying join of policy task none did first now
  walking-walked {fits} {none} {did} tally of_fits first now stack fit empty w = record {
    notes = taken task ∷ w.notes;
    answers = w.answers;
    tasks = w.tasks;
    members = w.members;
    walk = underway-walk meaning problem keying task first.seat now.seat w.notes w.frames (PolicyGroup t policy first.state w.answers) (λ e. w.begun (ap length e))
        (subst (λ (s : List (LevelValue K)). IsUnderWay meaning problem keying task first.seat now.seat w.notes w.frames (levels (meaning.remaining problem) s) []) empty w.way)
        w.gone_on.policy.groups;
    one_each = w.gone_on.policy.one_each;
    state_is = sym w.gone_on.state_is ∙ ap (state_after policy (policy.start first.state)) (sym (inputs-taken task w.notes w.answers));
    goes = w.way.goes;
    log_is = w.log_is;
    within = w.within;
    are_visited = record { paths_are = w.are_visited.paths_are; there = w.are_visited.there };
    sum_is = w.sum_is ∙ sum_after-fold tally of of_fits first.hand.sum w.members fit;
    best_is = w.best_is;
    sent_are = w.sent_are;
    tasks_are = w.tasks_are;
    sound = w.sound;
    answers_are = w.answers_are;
    calls_are = subst did (sym (calls-taken policy (policy.start first.state) task w.notes w.answers)) w.calls_are;
  }
