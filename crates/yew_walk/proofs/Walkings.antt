-- A walk is under way: what an event, and what the policy asks for after it, make of it.
use Rattle.std.proofs.Common.{◌≡◌, ◌≢◌, ℕ, ◌<◌, ◌≤◌, List, [], ◌∷◌, ◌++◌, map, length, Some, None, Bool, Option, ◌⊎◌, inl, inr, refl, ap, sym, subst, ◌∙◌, arith, append_assoc, append-nil, length-append}
use mathlib.Core.List.{reverse}
use Rattle.std.specs.List.{AllByRecursion}
use Rattle.std.specs.Option.{option_map}
use Rattle.std.proofs.lemmas.List.{map-append}
use Rattle.std.proofs.lemmas.List.Concat.{flat_map-append}
use Rattle.yew_best.specs.Seats.{SeatView}
use Rattle.yew_laws.specs.declared.problem.Problem.{Ghosts}
use Rattle.yew_laws.specs.declared.problem.Task.{Task}
use Rattle.yew_laws.specs.Bag.{SameBag}
use Rattle.yew_laws.specs.Incumbent.{improved}
use Rattle.yew_laws.specs.SearchTree.{SearchTree, search_tree, at_path, IsTask}
use Rattle.yew_laws.specs.Tree.{Member, IsRanked}
use Rattle.yew_laws.proofs.Bags.{same-refl, same-trans, same-is, same-append}
use Rattle.yew_laws.proofs.Members.{AllByRecursion-append}
use Rattle.yew_log.specs.declared.entry.What.{What}
use Rattle.yew_log.specs.declared.entry.What.TheVariants.{Spawned, Handed}
use Rattle.yew_log.specs.Attained.{limit}
use Rattle.yew_log.specs.HeldValues.{plain}
use Rattle.yew_log.specs.Notes.{Note, taken, visited, cut, spawned, handed, ended, visit_in, sent_in, visits, visited_paths, sent_paths, Judgement, judgement}
use Rattle.yew_log.specs.Groups.{Part, group_of}
use Rattle.yew_log.specs.Policies.{PolicyMeaning, HasPolicy, on, spawn, hand}
use Rattle.yew_log.proofs.Frames.{Frame, frame}
use Rattle.yew_log.proofs.Growth.{visited-append}
use Rattle.yew_stack.specs.declared.stacks.Chunk.{Chunk}
use Rattle.yew_stack.specs.Levels.{LevelValue, LevelView, level_of, levels}
use Rattle.yew_stack.specs.Splits.{paths_of}
use Rattle.yew_stack.specs.ToCome.{AllOpen}
use Rattle.yew_stack.specs.Turns.{TopGives, TopEnds}
use Rattle.yew_stack.proofs.Coming.{gives-open}
use Rattle.yew_walk.specs.declared.hand.Hand.{Hand}
use Rattle.yew_walk.specs.declared.keying.Keying.{Keying}
use Rattle.yew_walk.specs.declared.policy.Event.{Event}
use Rattle.yew_walk.specs.declared.policy.Event.TheVariants.{Visited, CutOff, Ended}
use Rattle.yew_walk.specs.Asking.{input_of}
use Rattle.yew_walk.specs.Dealt.{part_of_chunk, IsDealt}
use Rattle.yew_walk.specs.Entering.{EntersVisit, EntersCut, Enters}
use Rattle.yew_walk.specs.Hands.{incumbent_of, best_after, AreVisited}
use Rattle.yew_walk.specs.Keys.{key_of, held_of, limit_of, answer_key, kind_of, gap_in}
use Rattle.yew_walk.specs.LogViews.{LogView, log_after, IsWithin}
use Rattle.yew_walk.specs.Outlets.{OutletCall, was_asked, was_given, list_for, calls_at, outlet_calls}
use Rattle.yew_walk.specs.PolicyStates.{policy_state, HasGoneOn}
use Rattle.yew_walk.specs.Scenes.{Scene, sum_after, IsAlone, IsWalking, HasEvent}
use Rattle.yew_walk.specs.Sharing.{IsShared, IsAsked}
use Rattle.yew_walk.specs.Seats.{SeatGoes}
use Rattle.yew_walk.specs.SeqRests.{IsInSequence}
use Rattle.yew_walk.specs.UnderWay.{IsNext, IsUnderWay}
use Rattle.yew_walk.specs.Verdicts.{IsVisit, IsCut}
use Rattle.yew_walk.proofs.KeyOrder.{key_of-plain, held_of-plain, limit_of-plain}
use Rattle.yew_walk.proofs.SeqRests.{sequence-visit, sequence-cut, sequence-end, sequence-word}
use Rattle.yew_walk.proofs.BestVisits.{best_after-append}
use Rattle.yew_walk.proofs.DealtLevels.{dealt-visit, dealt-cut, dealt-end}
use Rattle.yew_walk.proofs.OutletCalls.{outlet_calls-event}
use Rattle.yew_walk.proofs.PolicyTurns.{goes_on-on, goes_on-spawn, goes_on-hand}
use Rattle.yew_walk.proofs.Sending.{log_after-append, Sends, spawned-sends, handed-sends, made-visits, made-sent_paths, underway-sends_some, underway-off}
use Rattle.yew_walk.proofs.UnderWays.{underway-gives, underway-visit, underway-cut, underway-ends}

sum_after-push : {N Sum : Type 0} (join : Sum → Sum → Sum) (of : N → ℕ → Sum) (sum : Sum) (ms : List (Member N)) (m : Member N) → sum_after join of sum (ms ++ m ∷ []) ≡ join (sum_after join of sum ms) (of m.node (length m.path))
sum_after-push join of sum [] m = refl
sum_after-push join of sum (n ∷ ms) m = sum_after-push join of (join sum (of n.node (length n.path))) ms m

module _ {N : Type 0} (t : SearchTree N) where
  -- one more visit
  visited-push : (notes : List Note) (path : List ℕ) (worth held : ℕ) (members : List (Member N)) (node : N) → at_path t path ≡ Some node → AreVisited t notes members → AreVisited t (notes ++ visited path worth held ∷ []) (members ++ record { path = path; node = node } ∷ [])
  visited-push notes path worth held members node found a = record {
    paths_are = map-append (λ (m : Member N). m.path) members (record { path = path; node = node } ∷ [])
        ∙ ap (λ ps. ps ++ path ∷ []) a.paths_are
        ∙ sym (visited-append notes (visited path worth held ∷ []));
    there = AllByRecursion-append (λ (m : Member N). at_path t m.path ≡ Some m.node) members (record { path = path; node = node } ∷ []) a.there (found, tt);
  }

  -- entries without a visit
  pub visited-quiet : (notes more : List Note) (members : List (Member N)) → visits more ≡ [] → AreVisited t notes members → AreVisited t (notes ++ more) members
  visited-quiet notes more members none a = record {
    paths_are = a.paths_are
        ∙ sym (append-nil (visited_paths notes))
        ∙ ap (λ vs. visited_paths notes ++ map (λ (j : Judgement). j.path) vs) (sym none)
        ∙ sym (visited-append notes more);
    there = a.there;
  }

pub not-spawn : (part : Part) → on ≡ spawn part → ⊥
not-spawn part e = absurd (cc)

pub not-hand : (part : Part) → on ≡ hand part → ⊥
not-hand part e = absurd (cc)

visits-quiet : (notes more : List Note) → visits more ≡ [] → visits (notes ++ more) ≡ visits notes
visits-quiet notes more none = flat_map-append visit_in notes more ∙ ap (λ vs. visits notes ++ vs) none ∙ append-nil (visits notes)

sent-quiet : (notes more : List Note) → sent_paths more ≡ [] → sent_paths (notes ++ more) ≡ sent_paths notes
sent-quiet notes more none = flat_map-append sent_in notes more ∙ ap (λ ps. sent_paths notes ++ ps) none ∙ append-nil (sent_paths notes)

no-push : {X : Type 0} (xs : List X) (x : X) (more : List X) → length (xs ++ x ∷ more) ≡ 0 → ⊥
no-push xs x more e = let l = length-append xs (x ∷ more) in omega (arith, l, e)

given-push : (first now after : Option (List Bool)) (answers : List Bool) (wanted : Bool) → now ≡ option_map (λ given. given ++ answers) first → after ≡ option_map (λ given. given ++ wanted ∷ []) now → after ≡ option_map (λ given. given ++ (answers ++ wanted ∷ [])) first
given-push None now after answers wanted e f = f ∙ ap (option_map (λ given. given ++ wanted ∷ [])) e
given-push (Some given) now after answers wanted e f = f ∙ ap (option_map (λ given'. given' ++ wanted ∷ [])) e ∙ ap (λ (given' : List Bool). Some given') (append_assoc given answers (wanted ∷ []))

push-some : (path : List ℕ) (k : ℕ) → path ++ k ∷ [] ≢ []
push-some [] k e = absurd (cc)
push-some (j ∷ path) k e = absurd (cc)

-- one worker goes along the sequential log
module _ {S N K : Type 0} (meaning : Ghosts S N K) (problem : S) where
  abbrev tree : SearchTree N
  tree = search_tree meaning problem

  AllByRecursion-first : IsRanked (meaning.sound problem) (meaning.children problem) (meaning.rank problem) → (old new : List (LevelValue K)) (given : Task N) → AllOpen meaning problem old → TopGives (levels (meaning.remaining problem) old) given.path.numbers given.node (levels (meaning.remaining problem) new) → meaning.sound problem given.node
  AllByRecursion-first ranked old new given opened turn = (gives-open meaning problem ranked old new given turn opened).1.is_sound

  module _ (keying : Keying) (is_plain : kind_of keying ≡ plain) where
    -- the word permits what the worth permits that was held
    held-limit : (word held : ℕ) → held ≡ held_of keying word → limit_of keying word ≡ limit (gap_in keying) held
    held-limit word held is = limit_of-plain keying word is_plain ∙ ap (limit (gap_in keying)) (sym (is ∙ held_of-plain keying word is_plain))

    sequence-visits : IsRanked (meaning.sound problem) (meaning.children problem) (meaning.rank problem) → (first now after : SeatView) (notes : List Note) (old mid : List (LevelView N)) (path : List ℕ) (node : N) (worth held : ℕ) → IsInSequence tree (gap_in keying) notes old → TopGives old path node mid → meaning.sound problem node → SeatGoes tree keying first notes now → first.offered ≡ [] → first.share ≡ first.best.seats → IsVisit meaning problem keying path node worth held now after → IsInSequence tree (gap_in keying) (notes ++ visited path worth held ∷ []) (mid ++ record { parent = path; given = 0; remaining = meaning.children problem node } ∷ [])
    sequence-visits ranked first now after notes old mid path node worth held seq turn s goes nothing whole v =
        subst (λ w. IsInSequence tree (gap_in keying) (notes ++ visited path w held ∷ []) (mid ++ record { parent = path; given = 0; remaining = meaning.children problem node } ∷ [])) (sym v.worth_is)
        (sequence-visit tree (gap_in keying) ranked notes old mid path node held seq turn s
        (v.held_is ∙ held_of-plain keying v.word is_plain ∙ sequence-word tree keying is_plain first now notes v.word goes nothing whole v.is_read)
        (elim v.due [
          | inl none ↦ absurd (push-some turn.top.parent turn.top.given (sym turn.gives.path_is ∙ none))
          | inr over ↦ subst (λ b. limit (gap_in keying) held < b) (key_of-plain keying (meaning.bound problem node) is_plain) (subst (λ l. l < key_of keying (meaning.bound problem node)) (held-limit v.word held v.held_is) over)
        ]))

    sequence-cuts : (first now after : SeatView) (notes : List Note) (old mid : List (LevelView N)) (path : List ℕ) (node : N) (bound held : ℕ) → IsInSequence tree (gap_in keying) notes old → TopGives old path node mid → SeatGoes tree keying first notes now → first.offered ≡ [] → first.share ≡ first.best.seats → IsCut meaning problem keying path node bound held now after → IsInSequence tree (gap_in keying) (notes ++ cut path bound held ∷ []) mid
    sequence-cuts first now after notes old mid path node bound held seq turn goes nothing whole v =
        subst (λ b. IsInSequence tree (gap_in keying) (notes ++ cut path b held ∷ []) mid) (sym v.bound_is)
        (sequence-cut tree (gap_in keying) notes old mid path node held seq turn
        (v.held_is ∙ held_of-plain keying v.word is_plain ∙ sequence-word tree keying is_plain first now notes v.word goes nothing whole v.is_read)
        (subst (λ b. b ≤ limit (gap_in keying) held) (key_of-plain keying (meaning.bound problem node) is_plain) (subst (λ l. key_of keying (meaning.bound problem node) ≤ l) (held-limit v.word held v.held_is) v.permitted)))

module _ {S N K Sum Q : Type 0} (meaning : Ghosts S N K) (problem : S) (keying : Keying) (join : Sum → Sum → Sum) (of : N → ℕ → Sum) (policy : PolicyMeaning Q) (task : List ℕ) where
  abbrev t : SearchTree N
  t = search_tree meaning problem

  abbrev Walking : (List OutletCall → Type 0) → Scene N Sum Q → Scene N Sum Q → List (LevelValue K) → Type 0
  Walking = IsWalking meaning problem keying join of policy task

  abbrev Happened : (List OutletCall → Type 0) → Scene N Sum Q → Scene N Sum Q → List (LevelValue K) → Event → ℕ → Type 0
  Happened = HasEvent meaning problem keying join of policy task

  abbrev Falls : Type 0
  Falls = IsRanked (meaning.sound problem) (meaning.children problem) (meaning.rank problem)

  abbrev Alone : Scene N Sum Q → Type 0
  Alone = IsAlone meaning problem keying join of policy task

  abbrev child_level : List ℕ → N → LevelView N
  child_level path node = record { parent = path; given = 0; remaining = meaning.children problem node }

  -- a node is next: the entries so far, and what either judgement leaves of the levels
  pub record AwaitsNode (did : List OutletCall → Type 0) (first now : Scene N Sum Q) (stack : List (LevelValue K)) (path : List ℕ) (node : N) : Type 0 where
    pub notes : List Note
    pub frames : List Frame
    pub answers : List Bool
    pub tasks : List (Task N)
    pub members : List (Member N)
    pub way : IsUnderWay meaning problem keying task first.seat now.seat notes frames (levels (meaning.remaining problem) stack) (path ∷ [])
    pub next : IsNext task notes frames (reverse (levels (meaning.remaining problem) stack)) path
    pub has_policy : HasPolicy t policy first.state answers notes
    pub state_is : policy_state policy first.state notes answers ≡ now.state
    pub if_visited : (worth held : ℕ) → IsDealt t (notes ++ visited path worth held ∷ []) (levels (meaning.remaining problem) stack ++ record { parent = path; given = 0; remaining = meaning.children problem node } ∷ [])
    pub if_cut : (bound held : ℕ) → IsDealt t (notes ++ cut path bound held ∷ []) (levels (meaning.remaining problem) stack)
    pub in_visit : Alone first → (worth held : ℕ) (after : SeatView) → IsVisit meaning problem keying path node worth held now.seat after → IsInSequence t (gap_in keying) (notes ++ visited path worth held ∷ []) (levels (meaning.remaining problem) stack ++ child_level path node ∷ [])
    pub in_cut : Alone first → (bound held : ℕ) (after : SeatView) → IsCut meaning problem keying path node bound held now.seat after → IsInSequence t (gap_in keying) (notes ++ cut path bound held ∷ []) (levels (meaning.remaining problem) stack)
    pub log_is : now.log ≡ log_after first.log (taken task ∷ notes)
    pub are_visited : AreVisited t notes members
    pub sum_is : now.hand.sum ≡ sum_after join of first.hand.sum members
    pub best_is : incumbent_of now.hand ≡ best_after keying (incumbent_of first.hand) (visits notes)
    pub sent_are : SameBag now.sent (first.sent ++ tasks)
    pub tasks_are : SameBag (paths_of tasks) (sent_paths notes)
    pub sound : AllByRecursion (λ task'. IsTask meaning problem task'.path.numbers task'.node) tasks
    pub answers_are : now.answers ≡ option_map (λ given. given ++ answers) first.answers
    pub calls_are : did (outlet_calls policy (policy.start first.state) notes answers)

  pub awaits-gives : {did : List OutletCall → Type 0} → Falls → (first now : Scene N Sum Q) (old new : List (LevelValue K)) (given : Task N) → Walking did first now old → TopGives (levels (meaning.remaining problem) old) given.path.numbers given.node (levels (meaning.remaining problem) new) → AwaitsNode did first now new given.path.numbers given.node
  awaits-gives ranked first now old new given w turn =
      let both = underway-gives meaning problem keying task ranked first.seat now.seat w.notes w.frames old new given w.way turn in
      record {
        notes = w.notes;
        frames = w.frames;
        answers = w.answers;
        tasks = w.tasks;
        members = w.members;
        way = both.0;
        next = both.1;
        has_policy = w.gone_on.policy;
        state_is = w.gone_on.state_is;
        if_visited = λ worth held. dealt-visit t w.notes (levels (meaning.remaining problem) old) (levels (meaning.remaining problem) new) given.path.numbers given.node worth held turn w.gone_on.dealt;
        if_cut = λ bound held. dealt-cut t w.notes (levels (meaning.remaining problem) old) (levels (meaning.remaining problem) new) given.path.numbers given.node bound held turn w.gone_on.dealt;
        in_visit = λ alone worth held after v. sequence-visits meaning problem keying alone.plain_keys ranked first.seat now.seat after w.notes (levels (meaning.remaining problem) old) (levels (meaning.remaining problem) new) given.path.numbers given.node worth held (w.in_sequence alone) turn (AllByRecursion-first meaning problem ranked old new given w.way.levels_open turn) w.way.goes alone.none_offered alone.whole_share v;
        in_cut = λ alone bound held after v. sequence-cuts meaning problem keying alone.plain_keys first.seat now.seat after w.notes (levels (meaning.remaining problem) old) (levels (meaning.remaining problem) new) given.path.numbers given.node bound held (w.in_sequence alone) turn w.way.goes alone.none_offered alone.whole_share v;
        log_is = w.log_is;
        are_visited = w.are_visited;
        sum_is = w.sum_is;
        best_is = w.best_is;
        sent_are = w.sent_are;
        tasks_are = w.tasks_are;
        sound = w.sound;
        answers_are = w.answers_are;
        calls_are = w.calls_are;
      }

  -- the node was visited
  enters-visit : {did : List OutletCall → Type 0} → Falls → (first now after : Scene N Sum Q) (stack new : List (LevelValue K)) (path : List ℕ) (node : N) → IsTask meaning problem path node → AwaitsNode did first now stack path node → EntersVisit meaning problem keying path node join of now.seat now.hand now.log stack after.seat after.hand after.log new → IsWithin after.log.told → after.state ≡ now.state → after.sent ≡ now.sent → after.answers ≡ now.answers → Happened did first after new Visited (length path)
  enters-visit ranked first now after stack new path node is a e within same_state same_sent same_answers =
      let note : Note = visited path e.worth e.held in
      let level : LevelValue K = record { parent = path; given = 0; kids = e.opens.kids } in
      let way = underway-visit meaning problem keying task ranked first.seat now.seat after.seat a.notes a.frames (levels (meaning.remaining problem) stack) path node e.worth e.held is a.way a.next e.is_visit in
      let levels_are = ap (λ ns. levels (meaning.remaining problem) stack ++ record { parent = path; given = 0; remaining = ns } ∷ []) (sym e.opens.kids_are)
      ∙ sym (map-append (level_of (meaning.remaining problem)) stack (level ∷ []))
      ∙ ap (levels (meaning.remaining problem)) (sym e.opens.stack_is) in
      record {
        notes = a.notes;
        note = note;
        frames = frame path e.worth e.held 0 [] ∷ a.frames;
        answers = a.answers;
        tasks = a.tasks;
        members = a.members ++ record { path = path; node = node } ∷ [];
        is_event = λ wanted. refl;
        unsent = sent-quiet a.notes (note ∷ []) refl;
        way = subst (λ ls. IsUnderWay meaning problem keying task first.seat after.seat (a.notes ++ note ∷ []) (frame path e.worth e.held 0 [] ∷ a.frames) ls []) levels_are way;
        has_policy = a.has_policy;
        state_is = a.state_is ∙ sym same_state;
        dealt = subst (IsDealt t (a.notes ++ note ∷ [])) levels_are (a.if_visited e.worth e.held);
        log_is = e.log_is ∙ ap (λ log. log_after log (note ∷ [])) a.log_is ∙ sym (log_after-append first.log (taken task ∷ a.notes) (note ∷ []));
        within = within;
        in_sequence = λ alone. subst (IsInSequence t (gap_in keying) (a.notes ++ note ∷ [])) levels_are (a.in_visit alone e.worth e.held after.seat e.is_visit);
        are_visited = visited-push t a.notes path e.worth e.held a.members node is.found a.are_visited;
        sum_is = e.sum_is ∙ ap (λ s. join s (of node (length path))) a.sum_is ∙ sym (sum_after-push join of first.hand.sum a.members (record { path = path; node = node }));
        best_is = e.best_is
            ∙ ap (λ i. improved i (answer_key keying e.worth) path) a.best_is
            ∙ sym (ap (best_after keying (incumbent_of first.hand)) (flat_map-append visit_in a.notes (note ∷ [])) ∙ best_after-append keying (incumbent_of first.hand) (visits a.notes) (judgement path e.worth e.held ∷ []));
        sent_are = subst (λ ts. SameBag ts (first.sent ++ a.tasks)) (sym same_sent) a.sent_are;
        tasks_are = a.tasks_are;
        sound = a.sound;
        answers_are = same_answers ∙ a.answers_are;
        calls_are = a.calls_are;
      }

  -- the node was cut
  enters-cut : {did : List OutletCall → Type 0} → (first now after : Scene N Sum Q) (stack new : List (LevelValue K)) (path : List ℕ) (node : N) → IsTask meaning problem path node → AwaitsNode did first now stack path node → EntersCut meaning problem keying path node join of now.seat now.hand now.log stack after.seat after.hand after.log new → IsWithin after.log.told → after.state ≡ now.state → after.sent ≡ now.sent → after.answers ≡ now.answers → Happened did first after new CutOff (length path)
  enters-cut first now after stack new path node is a e within same_state same_sent same_answers =
      let note : Note = cut path e.bound e.held in
      let c = underway-cut meaning problem keying task first.seat now.seat after.seat a.notes a.frames (levels (meaning.remaining problem) stack) path node e.bound e.held is a.way a.next e.is_cut in
      record {
        notes = a.notes;
        note = note;
        frames = c.frames;
        answers = a.answers;
        tasks = a.tasks;
        members = a.members;
        is_event = λ wanted. refl;
        unsent = sent-quiet a.notes (note ∷ []) refl;
        way = subst (λ s. IsUnderWay meaning problem keying task first.seat after.seat (a.notes ++ note ∷ []) c.frames (levels (meaning.remaining problem) s) []) (sym e.stack_is) c.is;
        has_policy = a.has_policy;
        state_is = a.state_is ∙ sym same_state;
        dealt = subst (λ s. IsDealt t (a.notes ++ note ∷ []) (levels (meaning.remaining problem) s)) (sym e.stack_is) (a.if_cut e.bound e.held);
        log_is = e.log_is ∙ ap (λ log. log_after log (note ∷ [])) a.log_is ∙ sym (log_after-append first.log (taken task ∷ a.notes) (note ∷ []));
        within = within;
        in_sequence = λ alone. subst (λ s. IsInSequence t (gap_in keying) (a.notes ++ note ∷ []) (levels (meaning.remaining problem) s)) (sym e.stack_is) (a.in_cut alone e.bound e.held after.seat e.is_cut);
        are_visited = visited-quiet t a.notes (note ∷ []) a.members refl a.are_visited;
        sum_is = ap (λ (h : Hand Sum). h.sum) e.hand_is ∙ a.sum_is;
        best_is = ap (λ (h : Hand Sum). incumbent_of h) e.hand_is ∙ a.best_is ∙ ap (best_after keying (incumbent_of first.hand)) (sym (visits-quiet a.notes (note ∷ []) refl));
        sent_are = subst (λ ts. SameBag ts (first.sent ++ a.tasks)) (sym same_sent) a.sent_are;
        tasks_are = a.tasks_are;
        sound = a.sound;
        answers_are = same_answers ∙ a.answers_are;
        calls_are = a.calls_are;
      }

  pub awaits-enters : {did : List OutletCall → Type 0} → Falls → (event : Event) (first now after : Scene N Sum Q) (stack new : List (LevelValue K)) (path : List ℕ) (node : N) → IsTask meaning problem path node → AwaitsNode did first now stack path node → Enters meaning problem keying path node join of event now.seat now.hand now.log stack after.seat after.hand after.log new → IsWithin after.log.told → after.state ≡ now.state → after.sent ≡ now.sent → after.answers ≡ now.answers → Happened did first after new event (length path)
  awaits-enters ranked Visited first now after stack new path node is a e within same_state same_sent same_answers = enters-visit ranked first now after stack new path node is a e within same_state same_sent same_answers
  awaits-enters ranked CutOff first now after stack new path node is a e within same_state same_sent same_answers = enters-cut first now after stack new path node is a e within same_state same_sent same_answers
  awaits-enters ranked Ended first now after stack new path node is a e within same_state same_sent same_answers = absurd e

  -- the highest level ended
  pub walking-ends : {did : List OutletCall → Type 0} → (first now after : Scene N Sum Q) (old new : List (LevelValue K)) (path : List ℕ) → Walking did first now old → TopEnds (levels (meaning.remaining problem) old) path (levels (meaning.remaining problem) new) → after.log ≡ log_after now.log (ended path ∷ []) → IsWithin after.log.told → after.seat ≡ now.seat → after.hand ≡ now.hand → after.state ≡ now.state → after.sent ≡ now.sent → after.answers ≡ now.answers → Happened did first after new Ended (length path)
  walking-ends first now after old new path w turn logged within same_seat same_hand same_state same_sent same_answers =
      let note : Note = ended path in
      let c = underway-ends meaning problem keying task first.seat now.seat w.notes w.frames old new path w.way turn in
      record {
        notes = w.notes;
        note = note;
        frames = c.frames;
        answers = w.answers;
        tasks = w.tasks;
        members = w.members;
        is_event = λ wanted. refl;
        unsent = sent-quiet w.notes (note ∷ []) refl;
        way = subst (λ s. IsUnderWay meaning problem keying task first.seat s (w.notes ++ note ∷ []) c.frames (levels (meaning.remaining problem) new) []) (sym same_seat) c.is;
        has_policy = w.gone_on.policy;
        state_is = w.gone_on.state_is ∙ sym same_state;
        dealt = dealt-end t w.notes (levels (meaning.remaining problem) old) (levels (meaning.remaining problem) new) path turn w.gone_on.dealt;
        log_is = logged ∙ ap (λ log. log_after log (note ∷ [])) w.log_is ∙ sym (log_after-append first.log (taken task ∷ w.notes) (note ∷ []));
        within = within;
        in_sequence = λ alone. sequence-end t (gap_in keying) w.notes (levels (meaning.remaining problem) old) (levels (meaning.remaining problem) new) path (w.in_sequence alone) turn;
        are_visited = visited-quiet t w.notes (note ∷ []) w.members refl w.are_visited;
        sum_is = ap (λ (h : Hand Sum). h.sum) same_hand ∙ w.sum_is;
        best_is = ap (λ (h : Hand Sum). incumbent_of h) same_hand ∙ w.best_is ∙ ap (best_after keying (incumbent_of first.hand)) (sym (visits-quiet w.notes (note ∷ []) refl));
        sent_are = subst (λ ts. SameBag ts (first.sent ++ w.tasks)) (sym same_sent) w.sent_are;
        tasks_are = w.tasks_are;
        sound = w.sound;
        answers_are = same_answers ∙ w.answers_are;
        calls_are = w.calls_are;
      }

  -- the calls along the entries, with those at one more event
  event-calls : {did : List OutletCall → Type 0} {event : Event} {depth : ℕ} {stack : List (LevelValue K)} → (first now : Scene N Sum Q) (h : Happened did first now stack event depth) (wanted : Bool) (group : List Note) (calls : List OutletCall) → calls_at policy now.state (input_of event depth wanted) (sent_paths (group_of group)) ≡ calls → outlet_calls policy (policy.start first.state) (h.notes ++ h.note ∷ group) (h.answers ++ wanted ∷ []) ≡ outlet_calls policy (policy.start first.state) h.notes h.answers ++ calls
  event-calls {did} {event} {depth} {stack} first now h wanted group calls are =
      outlet_calls-event policy (policy.start first.state) h.notes h.answers h.note wanted (input_of event depth wanted) group (h.is_event wanted) h.has_policy.one_each
      ∙ ap (λ q. outlet_calls policy (policy.start first.state) h.notes h.answers ++ calls_at policy q (input_of event depth wanted) (sent_paths (group_of group))) h.state_is
      ∙ ap (λ cs. outlet_calls policy (policy.start first.state) h.notes h.answers ++ cs) are

  -- the policy asked for nothing
  asked-on : {did goes : List OutletCall → Type 0} → (wanted : Bool) (event : Event) (depth : ℕ) (first now after : Scene N Sum Q) (stack : List (LevelValue K)) → Happened did first now stack event depth → ((xs : List OutletCall) → did xs → goes (xs ++ was_asked wanted ∷ [])) → policy.act now.state (input_of event depth wanted) ≡ on → after.state ≡ policy.after now.state (input_of event depth wanted) → after.seat ≡ now.seat → after.hand ≡ now.hand → after.log ≡ now.log → after.sent ≡ now.sent → after.answers ≡ option_map (λ given. given ++ wanted ∷ []) now.answers → Walking goes first after stack
  asked-on {did} {goes} wanted event depth first now after stack h follows act state same_seat same_hand same_log same_sent told =
      let notes = h.notes ++ h.note ∷ [] in
      let gone_on = goes_on-on t policy first.state h.notes h.answers h.note wanted (input_of event depth wanted) now.state (levels (meaning.remaining problem) stack) (h.is_event wanted) h.has_policy h.state_is act h.dealt in
      record {
        notes = notes;
        frames = h.frames;
        answers = h.answers ++ wanted ∷ [];
        tasks = h.tasks;
        members = h.members;
        way = subst (λ s. IsUnderWay meaning problem keying task first.seat s notes h.frames (levels (meaning.remaining problem) stack) []) (sym same_seat) h.way;
        begun = no-push h.notes h.note [];
        gone_on = subst (HasGoneOn t policy first.state notes (h.answers ++ wanted ∷ []) (levels (meaning.remaining problem) stack)) (sym state) gone_on;
        log_is = same_log ∙ h.log_is;
        within = subst (λ (log : LogView). IsWithin log.told) (sym same_log) h.within;
        in_sequence = h.in_sequence;
        are_visited = h.are_visited;
        sum_is = ap (λ (x : Hand Sum). x.sum) same_hand ∙ h.sum_is;
        best_is = ap (λ (x : Hand Sum). incumbent_of x) same_hand ∙ h.best_is;
        sent_are = subst (λ ts. SameBag ts (first.sent ++ h.tasks)) (sym same_sent) h.sent_are;
        tasks_are = subst (SameBag (paths_of h.tasks)) (sym h.unsent) h.tasks_are;
        sound = h.sound;
        answers_are = given-push first.answers now.answers after.answers h.answers wanted h.answers_are told;
        calls_are = subst goes (sym (event-calls first now h wanted [] (was_asked wanted ∷ []) (ap (λ a. was_asked wanted ∷ list_for a []) act))) (follows (outlet_calls policy (policy.start first.state) h.notes h.answers) h.calls_are);
      }

  -- a chunk was shared out
  module _ (made : List ℕ → Note) (what : What) (sends : Sends meaning problem keying task made what) where
    asked-shared : {did goes : List OutletCall → Type 0} → (wanted : Bool) (event : Event) (depth : ℕ) (chunk : Chunk) (first now after : Scene N Sum Q) (old new : List (LevelValue K)) (h : Happened did first now old event depth) (shares : List OutletCall → Type 0) (s : IsShared meaning problem chunk what shares old now.log now.sent new after.log after.sent) → ((paths : List (List ℕ)) → list_for (policy.act now.state (input_of event depth wanted)) paths ≡ was_given paths ∷ []) → ((xs : List OutletCall) (paths : List (List ℕ)) → did xs → shares (was_given paths ∷ []) → goes (xs ++ was_asked wanted ∷ was_given paths ∷ [])) → HasGoneOn t policy first.state (h.notes ++ h.note ∷ map made (paths_of s.tasks)) (h.answers ++ wanted ∷ []) (levels (meaning.remaining problem) new) after.state → (Alone first → ⊥) → after.seat ≡ now.seat → after.hand ≡ now.hand → after.answers ≡ option_map (λ given. given ++ wanted ∷ []) now.answers → Walking goes first after new
    asked-shared {did} {goes} wanted event depth chunk first now after old new h shares s asks follows gone_on not_alone same_seat same_hand told =
        let group = map made (paths_of s.tasks) in
        let joined : (h.notes ++ h.note ∷ []) ++ group ≡ h.notes ++ h.note ∷ group = append_assoc h.notes (h.note ∷ []) group in
        let notes = h.notes ++ h.note ∷ group in
        let off = underway-off meaning problem keying task first.seat now.seat (h.notes ++ h.note ∷ []) h.frames old new s.tasks h.way s.is_off in
        let sent = underway-sends_some meaning problem keying task made what sends first.seat now.seat (h.notes ++ h.note ∷ []) (levels (meaning.remaining problem) new) (paths_of s.tasks) [] off.hosts (off.frames, subst (λ ps. IsUnderWay meaning problem keying task first.seat now.seat (h.notes ++ h.note ∷ []) off.frames (levels (meaning.remaining problem) new) ps) (sym (append-nil (paths_of s.tasks))) off.way) in
        let quiet = made-visits meaning problem keying task made what sends (paths_of s.tasks) in
        let sent_are = made-sent_paths meaning problem keying task made what sends (paths_of s.tasks) in
        record {
          notes = notes;
          frames = sent.0;
          answers = h.answers ++ wanted ∷ [];
          tasks = h.tasks ++ s.tasks;
          members = h.members;
          way = subst (λ seat. IsUnderWay meaning problem keying task first.seat seat notes sent.0 (levels (meaning.remaining problem) new) []) (sym same_seat) (subst (λ ns. IsUnderWay meaning problem keying task first.seat now.seat ns sent.0 (levels (meaning.remaining problem) new) []) joined sent.1);
          begun = no-push h.notes h.note group;
          gone_on = gone_on;
          log_is = s.log_is
              ∙ sends.notes_are now.log (paths_of s.tasks)
              ∙ ap (λ log. log_after log group) h.log_is
              ∙ sym (log_after-append first.log (taken task ∷ (h.notes ++ h.note ∷ [])) group)
              ∙ ap (λ ns. log_after first.log (taken task ∷ ns)) joined;
          within = s.within h.within;
          in_sequence = λ alone. absurd (not_alone alone);
          are_visited = subst (λ ns. AreVisited t ns h.members) joined (visited-quiet t (h.notes ++ h.note ∷ []) group h.members quiet h.are_visited);
          sum_is = ap (λ (x : Hand Sum). x.sum) same_hand ∙ h.sum_is;
          best_is = ap (λ (x : Hand Sum). incumbent_of x) same_hand
              ∙ h.best_is
              ∙ ap (best_after keying (incumbent_of first.hand)) (sym (visits-quiet (h.notes ++ h.note ∷ []) group quiet) ∙ ap visits joined);
          sent_are = same-trans s.sent_are (same-trans (same-append h.sent_are (same-refl s.tasks)) (same-is (append_assoc first.sent h.tasks s.tasks)));
          tasks_are = same-trans (same-is (map-append (λ (task' : Task N). task'.path.numbers) h.tasks s.tasks))
              (same-trans (same-append h.tasks_are (same-is (sym sent_are)))
              (same-is (ap (λ ps. ps ++ sent_paths group) (sym h.unsent) ∙ sym (flat_map-append sent_in (h.notes ++ h.note ∷ []) group) ∙ ap sent_paths joined)));
          sound = AllByRecursion-append (λ (task' : Task N). IsTask meaning problem task'.path.numbers task'.node) h.tasks s.tasks h.sound s.is_off.tasks_are;
          answers_are = given-push first.answers now.answers after.answers h.answers wanted h.answers_are told;
          calls_are = subst goes (sym (event-calls first now h wanted group (was_asked wanted ∷ was_given (paths_of s.tasks) ∷ [])
              (ap (λ ps. was_asked wanted ∷ list_for (policy.act now.state (input_of event depth wanted)) ps) (ap sent_paths (sends.is_group (paths_of s.tasks)) ∙ sent_are) ∙ ap (λ cs. was_asked wanted ∷ cs) (asks (paths_of s.tasks)))))
              (follows (outlet_calls policy (policy.start first.state) h.notes h.answers) (paths_of s.tasks) h.calls_are s.given_is);
        }

  -- what the policy asked for was done
  pub event-asked : {did more goes : List OutletCall → Type 0} → (wanted : Bool) (event : Event) (depth : ℕ) (first now after : Scene N Sum Q) (old new : List (LevelValue K)) → Happened did first now old event depth → IsAsked meaning problem policy (input_of event depth wanted) more now.state old now.log now.sent after.state new after.log after.sent → ((xs ys : List OutletCall) → did xs → more ys → goes (xs ++ ys)) → after.seat ≡ now.seat → after.hand ≡ now.hand → after.answers ≡ option_map (λ given. given ++ wanted ∷ []) now.answers → Walking goes first after new
  event-asked {did} {more} {goes} wanted event depth first now after old new h a follows same_seat same_hand told = by a.act_done
    where
      by : ((policy.act now.state (input_of event depth wanted) ≡ on) × (new ≡ old) × (after.log ≡ now.log) × (after.sent ≡ now.sent) × more (was_asked wanted ∷ []))
          ⊎ (((chunk : Chunk) × (policy.act now.state (input_of event depth wanted) ≡ spawn (part_of_chunk chunk)) × IsShared meaning problem chunk Spawned (λ calls. more (was_asked wanted ∷ calls)) old now.log now.sent new after.log after.sent)
          ⊎ ((chunk : Chunk) × (policy.act now.state (input_of event depth wanted) ≡ hand (part_of_chunk chunk)) × IsShared meaning problem chunk Handed (λ calls. more (was_asked wanted ∷ calls)) old now.log now.sent new after.log after.sent))
          → Walking goes first after new
      by (inl n) = subst (Walking goes first after) (sym n.1) (asked-on wanted event depth first now after old h (λ xs d. follows xs (was_asked wanted ∷ []) d n.4) n.0 a.state_is same_seat same_hand n.2 n.3 told)
      by (inr (inl s)) =
          asked-shared spawned Spawned (spawned-sends meaning problem keying task) wanted event depth s.0 first now after old new h (λ calls. more (was_asked wanted ∷ calls)) s.2 (λ paths. ap (λ act. list_for act paths) s.1) (λ xs paths d m. follows xs (was_asked wanted ∷ was_given paths ∷ []) d m)
          (subst (HasGoneOn t policy first.state (h.notes ++ h.note ∷ map spawned (paths_of s.2.tasks)) (h.answers ++ wanted ∷ []) (levels (meaning.remaining problem) new)) (sym a.state_is)
          (goes_on-spawn t policy first.state s.0 h.notes h.answers h.note wanted (input_of event depth wanted) now.state (levels (meaning.remaining problem) old) (levels (meaning.remaining problem) new) [] s.2.tasks (h.is_event wanted) h.has_policy h.state_is s.1 h.dealt s.2.splits))
          (λ alone. not-spawn (part_of_chunk s.0) (sym (alone.never_asks now.state (input_of event depth wanted)) ∙ s.1))
          same_seat same_hand told
      by (inr (inr s)) =
          asked-shared handed Handed (handed-sends meaning problem keying task) wanted event depth s.0 first now after old new h (λ calls. more (was_asked wanted ∷ calls)) s.2 (λ paths. ap (λ act. list_for act paths) s.1) (λ xs paths d m. follows xs (was_asked wanted ∷ was_given paths ∷ []) d m)
          (subst (HasGoneOn t policy first.state (h.notes ++ h.note ∷ map handed (paths_of s.2.tasks)) (h.answers ++ wanted ∷ []) (levels (meaning.remaining problem) new)) (sym a.state_is)
          (goes_on-hand t policy first.state s.0 h.notes h.answers h.note wanted (input_of event depth wanted) now.state (levels (meaning.remaining problem) old) (levels (meaning.remaining problem) new) [] s.2.tasks (h.is_event wanted) h.has_policy h.state_is s.1 h.dealt s.2.splits))
          (λ alone. not-hand (part_of_chunk s.0) (sym (alone.never_asks now.state (input_of event depth wanted)) ∙ s.1))
          same_seat same_hand told
