-- Tasks that a walk splits off, and what the entries of a walk are: a whole segment in the end, and one that is broken off before.
use Rattle.std.proofs.Common.{◌≡◌, ◌≢◌, ℕ, suc, ◌≤◌, List, [], ◌∷◌, ◌++◌, ◌⊎◌, inl, inr, refl, ap, ap₂, sym, subst, ◌∙◌, arith, append_assoc, append-nil}
use mathlib.Core.List.{reverse}
use Rattle.std.specs.Prelude.{IsSome}
use Rattle.std.specs.List.{AllByRecursion, Contains, flat_map, sum_by}
use Rattle.std.proofs.lemmas.List.{reverse-append, map-append}
use Rattle.std.proofs.lemmas.List.Elements.{Contains-append_right}
use Rattle.std.proofs.lemmas.List.Sums.{sum_by-append}
use Rattle.yew_best.specs.Seats.{SeatView}
use Rattle.yew_laws.specs.declared.problem.Problem.{Ghosts}
use Rattle.yew_laws.specs.declared.problem.Task.{Task}
use Rattle.yew_laws.specs.Bag.{SameBag}
use Rattle.yew_laws.specs.SearchTree.{SearchTree, search_tree, at_path, below, below_node, numbered, IsTask}
use Rattle.yew_laws.specs.Tree.{Member, paths, IsRanked}
use Rattle.yew_laws.proofs.Bags.{same-map}
use Rattle.yew_laws.proofs.Members.{Contains-head}
use Rattle.yew_log.specs.Notes.{Note, taken}
use Rattle.yew_log.specs.HeldValues.{HeldRises, IsJudged}
use Rattle.yew_log.specs.Lawful.{IsWalk, IsBrokenWalk}
use Rattle.yew_log.specs.Groups.{HasGroups}
use Rattle.yew_log.specs.Segment.{segment, entries, Begins, IsBroken, covered_paths}
use Rattle.yew_log.proofs.Blocks.{IsBlock}
use Rattle.yew_log.proofs.Frames.{Frame, frames-open, open-block, broken-from_open, IsOpenBlock}
use Rattle.yew_log.proofs.Growth.{segment-from_block}
use Rattle.yew_stack.specs.Levels.{LevelValue, LevelView, levels}
use Rattle.yew_stack.specs.Splits.{paths_of, nodes_of, MovesLowest}
use Rattle.yew_stack.specs.ToCome.{to_come, levels_to_come, task_members, node_tree, AllOpen}
use Rattle.yew_walk.specs.declared.keying.Keying.{Keying}
use Rattle.yew_walk.specs.Keys.{kind_of, gap_in}
use Rattle.yew_walk.specs.UnderWay.{AreBelow, AreAligned, HasShape, IsOfLevel, IsUnderWay}
use Rattle.yew_walk.proofs.UnderWays.{found-there}

module _ {S N K : Type 0} (meaning : Ghosts S N K) (problem : S) (keying : Keying) (task : List ℕ) where
  abbrev t : SearchTree N
  t = search_tree meaning problem

  abbrev UnderWay : SeatView → SeatView → List Note → List Frame → List (LevelView N) → List (List ℕ) → Type 0
  UnderWay = IsUnderWay meaning problem keying task

  abbrev seen : List (LevelValue K) → List (LevelView N)
  seen stack = levels (meaning.remaining problem) stack

  abbrev tops : List (LevelValue K) → List (LevelView N)
  tops stack = reverse (seen stack)

  -- a level that has given more is still aligned
  below-more : (path : List ℕ) (fs : List Frame) (above : List (LevelView N)) (old new : LevelView N) (lower : List (LevelView N)) → new.parent ≡ old.parent → old.given ≤ new.given → AreBelow path fs (above ++ old ∷ lower) → AreBelow path fs (above ++ new ∷ lower)
  below-more path [] [] old new lower same more b = absurd b
  below-more path [] (l ∷ above) old new lower same more b = absurd b
  below-more path (f ∷ fs) [] old new lower same more b = (same ∙ b.0, ((b.1.0.0, (b.1.0.1.0, omega (arith, b.1.0.1.1, more))), b.1.1))
  below-more path (f ∷ fs) (l ∷ above) old new lower same more b = (b.0, (b.1.0, below-more f.path fs above old new lower same more b.1.1))

  aligned-more : (fs : List Frame) (above : List (LevelView N)) (old new : LevelView N) (lower : List (LevelView N)) → new.parent ≡ old.parent → old.given ≤ new.given → AreAligned fs (above ++ old ∷ lower) → AreAligned fs (above ++ new ∷ lower)
  aligned-more [] [] old new lower same more a = absurd a
  aligned-more [] (l ∷ above) old new lower same more a = absurd a
  aligned-more (f ∷ fs) [] old new lower same more a = (same ∙ a.0, (omega (arith, a.1.0, more), a.1.1))
  aligned-more (f ∷ fs) (l ∷ above) old new lower same more a = (a.0, (a.1.0, below-more f.path fs above old new lower same more a.1.1))

  reverse-around : (lower : List (LevelView N)) (level : LevelView N) (upper : List (LevelView N)) → reverse (lower ++ level ∷ upper) ≡ reverse upper ++ level ∷ reverse lower
  reverse-around lower level upper =
      ap reverse (sym (append_assoc lower (level ∷ []) upper))
      ∙ reverse-append (lower ++ level ∷ []) upper
      ∙ ap (λ ls. reverse upper ++ ls) (reverse-append lower (level ∷ []))

  -- the paths at and below tasks
  tasks-below : (tasks : List (Task N)) → AllByRecursion (λ task'. IsTask meaning problem task'.path.numbers task'.node) tasks → paths (flat_map (task_members meaning problem) tasks) ≡ flat_map (below t) (paths_of tasks)
  tasks-below [] all = refl
  tasks-below (first ∷ tasks) all =
      map-append (λ (m : Member N). m.path) (task_members meaning problem first) (flat_map (task_members meaning problem) tasks)
      ∙ ap₂ (λ (xs ys : List (List ℕ)). xs ++ ys) (sym (ap (below_node t first.path.numbers) all.0.found)) (tasks-below tasks all.1)

  tasks-there : (tasks : List (Task N)) → AllByRecursion (λ task'. IsTask meaning problem task'.path.numbers task'.node) tasks → AllByRecursion (λ path. IsSome (at_path t path)) (paths_of tasks)
  tasks-there [] all = tt
  tasks-there (first ∷ tasks) all = (found-there meaning problem keying task first.path.numbers first.node all.0, tasks-there tasks all.1)

  -- tasks that are split off stand between the levels and the entries
  pub underway-splits : (first now : SeatView) (notes : List Note) (frames : List Frame) (old new : List (LevelValue K)) (tasks : List (Task N)) → UnderWay first now notes frames (seen old) [] → AreAligned frames (tops new) → AllOpen meaning problem new → AllByRecursion (λ task'. IsTask meaning problem task'.path.numbers task'.node) tasks → SameBag (to_come meaning problem old) (to_come meaning problem new ++ flat_map (task_members meaning problem) tasks) → UnderWay first now notes frames (seen new) (paths_of tasks)
  underway-splits first now notes frames old new tasks u aligned levels_open are same = record {
    goes = u.goes;
    shape = u.shape;
    aligned = aligned;
    covered = record {
      weighs = λ w.
          let before = u.covered.weighs w in
          let c0 = sum_by-append w (covered_paths t notes) (paths (to_come meaning problem old) ++ []) in
          let c1 = sum_by-append w (paths (to_come meaning problem old)) [] in
          let moved = (same-map (λ (m : Member N). m.path) same).weighs w in
          let c2 = ap (sum_by w) (map-append (λ (m : Member N). m.path) (to_come meaning problem new) (flat_map (task_members meaning problem) tasks)) in
          let c3 = sum_by-append w (paths (to_come meaning problem new)) (paths (flat_map (task_members meaning problem) tasks)) in
          let c4 = ap (sum_by w) (tasks-below tasks are) in
          let d0 = sum_by-append w (covered_paths t notes) (paths (to_come meaning problem new) ++ flat_map (below t) (paths_of tasks)) in
          let d1 = sum_by-append w (paths (to_come meaning problem new)) (flat_map (below t) (paths_of tasks)) in
          omega (arith, before, c0, c1, moved, c2, c3, c4, d0, d1);
    };
    task_there = u.task_there;
    sent_there = u.sent_there;
    between_there = tasks-there tasks are;
    valued = u.valued;
    rises = u.rises;
    judged = u.judged;
    untaken = u.untaken;
    begins = u.begins;
    levels_open = levels_open;
  }

  -- the levels stay aligned by a split, and each task that it moves is a child of the node of a level
  numbered-of : (level : LevelView N) (ls : List (LevelView N)) → Contains ls level → (k : ℕ) (nodes : List N) → AllByRecursion (IsOfLevel ls) (numbered level.parent k nodes)
  numbered-of level ls stands k [] = tt
  numbered-of level ls stands k (n ∷ nodes) = (record { level = level; stands = stands; number = k; is = refl }, numbered-of level ls stands (suc k) nodes)

  pub split-aligned : (frames : List Frame) (old new : List (LevelValue K)) (before after : List (Task N)) → MovesLowest (levels (meaning.remaining problem) old) before after (levels (meaning.remaining problem) new) → AreAligned frames (tops old) → AreAligned frames (tops new)
  split-aligned frames old new before after m a =
      let old_tops = ap reverse m.old_is ∙ reverse-around m.lower m.level m.upper in
      let new_tops = ap reverse m.new_is ∙ reverse-around m.lower m.rest m.upper in
      subst (AreAligned frames) (sym new_tops)
      (aligned-more frames (reverse m.upper) m.level m.rest (reverse m.lower) m.moves.moves.parent_is (omega (arith, m.moves.moves.given_is)) (subst (AreAligned frames) old_tops a))

  pub split-hosts : (old new : List (LevelValue K)) (before after : List (Task N)) (m : MovesLowest (levels (meaning.remaining problem) old) before after (levels (meaning.remaining problem) new)) → AllByRecursion (IsOfLevel (tops new)) (paths_of m.moves.moved)
  split-hosts old new before after m =
      let new_tops = ap reverse m.new_is ∙ reverse-around m.lower m.rest m.upper in
      let stands : Contains (tops new) m.rest = subst (λ ls. Contains ls m.rest) (sym new_tops) (Contains-append_right (reverse m.upper) (m.rest ∷ reverse m.lower) m.rest (Contains-head m.rest (reverse m.lower))) in
      subst (AllByRecursion (IsOfLevel (tops new))) (sym m.moves.moves.paths_are)
      (subst (λ p. AllByRecursion (IsOfLevel (tops new)) (numbered p m.level.given (nodes_of m.moves.moved))) m.moves.moves.parent_is (numbered-of m.rest (tops new) stands m.level.given (nodes_of m.moves.moved)))

  -- what a walk's entries are as far as they go
  shape-open : (notes : List Note) (frames : List Frame) → HasShape task notes frames → IsOpenBlock task notes
  shape-open notes [] (inl none) = subst (IsOpenBlock task) (sym none) (record { events = tt; rises = tt; parents = tt; ends = tt; ends_once = λ path. omega arith })
  shape-open notes [] (inr block) = open-block task notes block
  shape-open notes (f ∷ fs) s = subst (IsOpenBlock task) (sym s.0) (frames-open task f fs s.1)

  pub underway-broken : IsRanked (meaning.sound problem) (meaning.children problem) (meaning.rank problem) → meaning.sound problem (meaning.root problem) → (first now : SeatView) (notes : List Note) (frames : List Frame) (ls : List (LevelView N)) (between : List (List ℕ)) → UnderWay first now notes frames ls between → IsBroken t (segment task notes)
  underway-broken ranked root first now notes frames ls between u =
      broken-from_open t ranked root task notes (shape-open notes frames u.shape) u.untaken u.begins
      (record { weighs = λ w. let c = u.covered.weighs w in let s = sum_by-append w (covered_paths t notes) (paths (levels_to_come (node_tree meaning problem) ls) ++ flat_map (below t) between) in omega (arith, c, s) })
      u.valued u.task_there u.sent_there

  one-segment : (notes : List Note) → taken task ∷ notes ≡ entries (segment task notes ∷ [])
  one-segment notes = sym (append-nil (taken task ∷ notes))

  pub underway-broken_walk : IsRanked (meaning.sound problem) (meaning.children problem) (meaning.rank problem) → meaning.sound problem (meaning.root problem) → (first now : SeatView) (notes : List Note) (frames : List Frame) (ls : List (LevelView N)) (between : List (List ℕ)) → UnderWay first now notes frames ls between → IsBrokenWalk t (gap_in keying) (kind_of keying) task (taken task ∷ notes)
  underway-broken_walk ranked root first now notes frames ls between u = record {
    keeps = record {
      segments = segment task notes ∷ [];
      cut_up = one-segment notes;
      each = (underway-broken ranked root first now notes frames ls between u, tt);
      only_last = ((λ e. refl), tt);
      held_rises = u.rises;
      due = u.judged;
    };
    of_task = inr (notes, refl);
  }

  -- and with no level left and nothing between, a whole segment
  pub underway-walk : (first now : SeatView) (notes : List Note) (frames : List Frame) (rule : List Note → Note → List Note → Type 0) → notes ≢ [] → UnderWay first now notes frames [] [] → HasGroups rule notes → IsWalk t (gap_in keying) (kind_of keying) rule task (taken task ∷ notes)
  underway-walk first now notes frames rule some u groups =
      let covered : SameBag (covered_paths t notes) (below t task) = record { weighs = λ w. ap (sum_by w) (sym (append-nil (covered_paths t notes))) ∙ u.covered.weighs w } in
      let whole = segment-from_block t task notes (block frames u.shape u.aligned) u.untaken (begun u.begins) covered u.valued in
      record {
        body = notes;
        one_segment = one-segment notes;
        keeps = record {
          each = (whole, tt);
          groups = (groups, tt);
          held_rises = subst HeldRises (one-segment notes) u.rises;
          due = subst (IsJudged t (gap_in keying) (kind_of keying)) (one-segment notes) u.judged;
        };
      }
    where
      block : (fs : List Frame) → HasShape task notes fs → AreAligned {N = N} fs [] → IsBlock task notes
      block [] (inl none) a = absurd (some none)
      block [] (inr b) a = b
      block (f ∷ fs) s a = absurd a

      begun : (notes ≡ []) ⊎ Begins task notes → Begins task notes
      begun (inl none) = absurd (some none)
      begun (inr b) = b
