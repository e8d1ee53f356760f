-- The log of each worker of an ordered search is lawful, and all logs are those of a whole search.
use Rattle.std.proofs.Common.{◌≡◌, ℕ, suc, ◌<◌, inl, Some, List, [], ◌∷◌, ◌++◌, map, length, refl, ap, sym, subst, ◌∙◌, append-nil, arith}
use Rattle.std.specs.Prelude.{IsTrue, slice_get}
use Rattle.std.specs.List.{AllByRecursion, Contains}
use Rattle.yew_best.specs.Seats.{SeatView}
use Rattle.yew_laws.specs.Order.{comes_before}
use Rattle.yew_laws.specs.SearchTree.{SearchTree}
use Rattle.yew_laws.specs.Tree.{IsRanked}
use Rattle.yew_laws.proofs.Members.{AllByRecursion-weaker}
use Rattle.yew_log.specs.Groups.{in_order, HasGroups, SkeletonGroup}
use Rattle.yew_log.specs.HeldValues.{ranked, HeldRises, IsJudged}
use Rattle.yew_log.specs.Items.{items_of, IsInItem}
use Rattle.yew_log.specs.Lawful.{LawfulLog, tasks_of}
use Rattle.yew_log.specs.Notes.{visits}
use Rattle.yew_log.specs.Segment.{Segment, entries, entries_in, Rise}
use Rattle.yew_log.proofs.Blocks.{Rise-append}
use Rattle.yew_log.proofs.SentKinds.{in_order-none}
use Rattle.yew_walk.specs.WorkerLogs.{KeyedSegment, segments_of, SeatGoesOn}
use Rattle.yew_walk.proofs.WorkerLogs.{walks-rise, walks-judged}
use Rattle.yew_ranked.specs.Frontier.{frontier_log, frontier_segment}
use Rattle.yew_ranked.specs.RankedSearch.{RankedJudgement, key_of_judgement, plain_judgement}
use Rattle.yew_ranked.specs.Stations.{AreRising, IsTaskWalk, AreTaskWalks}
use Rattle.yew_ranked.specs.Tasks.{Numbered, tasks_of_tree}
use Rattle.yew_ranked.proofs.ExactBehindFrontier.{behind-exact}
use Rattle.yew_ranked.proofs.FrontierItems.{frontier_log-items}
use Rattle.yew_ranked.proofs.FrontierLawful.{frontier-segment, frontier-groups, frontier-rises, frontier-maximum, frontier-judged}
use Rattle.yew_ranked.proofs.HeldBehindFrontier.{AreOffered, behind-rises, behind-judged}
use Rattle.yew_ranked.proofs.ItemPlaces.{in_items-rise}
use Rattle.yew_ranked.proofs.ItemWalks.{parts-all, parts-exact, keys-rise, in-item}
use Rattle.yew_ranked.proofs.TaskRanks.{task-item, task-depth, ranks-rise}
use Rattle.yew_ranked.proofs.WorkersLogs.{offered-all, task-parts, task-segments}

-- a path before paths that rise
rise-cons : (p : List ℕ) (ps : List (List ℕ)) → AllByRecursion (λ q. IsTrue (comes_before p q)) ps → Rise ps → Rise (p ∷ ps)
rise-cons p ps before rise = Rise-append (p ∷ []) ps (tt, tt) rise (AllByRecursion-weaker (λ q. IsTrue (comes_before p q)) (λ q. AllByRecursion (λ x. IsTrue (comes_before x q)) (p ∷ [])) (λ q b. (b, tt)) ps before)

module _ {N : Type 0} (t : SearchTree N) (levels : ℕ) where
  abbrev tasks : List Numbered
  tasks = tasks_of_tree t (suc levels)

  deep : (p : ℕ) (task : Numbered) (w : KeyedSegment) → slice_get tasks p ≡ Some task → IsTaskWalk t task w → length w.segment.task ≡ suc levels
  deep p task w there is = ap (λ (l : List ℕ). length l) is.task_is ∙ task-depth t (suc levels) p task there

  -- their groups, of which they have none
  parts-groups : (places : List ℕ) (walks : List KeyedSegment) → AreTaskWalks t tasks places walks → AllByRecursion (λ (s : Segment). HasGroups (SkeletonGroup t (in_order (suc levels))) s.body) (segments_of walks)
  parts-groups [] [] are = tt
  parts-groups [] (w ∷ ws) are = absurd are
  parts-groups (p ∷ ps) [] are = absurd are
  parts-groups (p ∷ ps) (w ∷ ws) are =
      let is = are.0.2 in let d = deep p are.0.0 w are.0.1 is in
      (in_order-none t (suc levels) w.segment (omega (arith, d)) is.is_segment is.groups, parts-groups ps ws are.1)

  -- a task lies in its item
  task-within : (p : ℕ) (task : Numbered) → slice_get tasks p ≡ Some task → IsInItem (items_of t (suc levels)) task.rank task.path
  task-within p task there = in-item (items_of t (suc levels)) task task.path (task-item t (suc levels) p task there) (record { rest = []; is = sym (append-nil task.path) })

  -- the tasks of walks rise
  tasks-before : (p : ℕ) (task : Numbered) → slice_get tasks p ≡ Some task → (places : List ℕ) (walks : List KeyedSegment) → AreTaskWalks t tasks places walks → AllByRecursion (λ q. p < q) places
      → AllByRecursion (λ path. IsTrue (comes_before task.path path)) (tasks_of (segments_of walks))
  tasks-before p task there [] [] are less = tt
  tasks-before p task there [] (w ∷ ws) are less = absurd are
  tasks-before p task there (q ∷ qs) [] are less = absurd are
  tasks-before p task there (q ∷ qs) (w ∷ ws) are less =
      let other = are.0.0 in
      let rank = ranks-rise t (suc levels) p q task other there are.0.1 less.0 in (
        subst (λ (path : List ℕ). IsTrue (comes_before task.path path)) (sym are.0.2.task_is)
            (in_items-rise t (suc levels) task.rank other.rank task.path other.path (task-within p task there) (task-within q other are.0.1) rank),
        tasks-before p task there qs ws are.1 less.1,
      )

  parts-rise : (places : List ℕ) (walks : List KeyedSegment) → AreTaskWalks t tasks places walks → AreRising places → Rise (tasks_of (segments_of walks))
  parts-rise [] [] are rising = tt
  parts-rise [] (w ∷ ws) are rising = absurd are
  parts-rise (p ∷ ps) [] are rising = absurd are
  parts-rise (p ∷ ps) (w ∷ ws) are rising =
      rise-cons w.segment.task (tasks_of (segments_of ws))
      (subst (λ (path : List ℕ). AllByRecursion (λ q. IsTrue (comes_before path q)) (tasks_of (segments_of ws))) (sym are.0.2.task_is) (tasks-before p are.0.0 are.0.1 ps ws are.1 rising.0))
      (parts-rise ps ws are.1 rising.1)

  -- the root's path comes before those of tasks
  root-before : (places : List ℕ) (walks : List KeyedSegment) → AreTaskWalks t tasks places walks → AllByRecursion (λ q. IsTrue (comes_before [] q)) (tasks_of (segments_of walks))
  root-before [] [] are = tt
  root-before [] (w ∷ ws) are = absurd are
  root-before (p ∷ ps) [] are = absurd are
  root-before (p ∷ ps) (w ∷ ws) are = (by w.segment.task (deep p are.0.0 w are.0.1 are.0.2), root-before ps ws are.1)
    where
      by : (path : List ℕ) → length path ≡ suc levels → IsTrue (comes_before [] path)
      by [] e = absurd (omega (arith, e))
      by (k ∷ path) e = refl

  module _ {sound : N → Type 0} (is_ranked : IsRanked sound t.children t.rank) (root : sound t.root) (workers : ℕ) where
    -- the log of a worker that has walked tasks alone
    pub others-lawful : (number : ℕ) (places : List ℕ) (walks : List KeyedSegment) (a b : SeatView) → AreTaskWalks t tasks places walks → AreRising places → SeatGoesOn t a walks b → (number ≡ 1 → ⊥) → (workers ≡ 1 → ⊥)
        → LawfulLog t 0 (in_order (suc levels)) workers number (entries (segments_of walks))
    others-lawful number places walks a b are rising goes other several =
        let parts = task-parts t tasks places walks are in
        let keys = keys-rise t (suc levels) places walks parts rising in
        record {
          segments = segments_of walks;
          cut_up = refl;
          each = task-segments t tasks places walks are;
          groups = record {
            own = segments_of walks;
            rest = [];
            own_first = sym (append-nil (segments_of walks));
            groups = parts-groups places walks are;
            rest_segments = tt;
            may_rest = inl refl;
            shape = (parts-rise places walks are rising, λ e. absurd (other e));
          };
          held_rises = walks-rise t walks a b goes keys (parts-all t tasks (λ (w : KeyedSegment). HeldRises (entries_in w.segment)) (λ p w part. part.rises) places walks parts);
          due = walks-judged t 0 ranked walks a b (parts-exact t tasks places walks parts) goes keys (parts-all t tasks (λ (w : KeyedSegment). IsJudged t 0 ranked (entries_in w.segment)) (λ p w part. part.judged) places walks parts);
          alone = λ e. absurd (several e);
        }

    -- the log of the first worker: the walk above the depth, and then tasks
    pub first-lawful : (earlier : List RankedJudgement) (places : List ℕ) (walks : List KeyedSegment) (a b : SeatView) → map plain_judgement earlier ≡ visits (frontier_log t levels)
        → AllByRecursion (λ (u : RankedJudgement). IsInItem (items_of t (suc levels)) u.item u.path) earlier → a.offered ≡ map key_of_judgement earlier
        → AreTaskWalks t tasks places walks → AreRising places → SeatGoesOn t a walks b → (workers ≡ 1 → a.share ≡ a.best.seats)
        → LawfulLog t 0 (in_order (suc levels)) workers 1 (frontier_log t levels ++ entries (segments_of walks))
    first-lawful earlier places walks a b earlier_are in_items offered_is are rising goes share =
        let parts = task-parts t tasks places walks are in
        let exact = frontier-maximum t is_ranked root levels in
        let offered : AreOffered a earlier =
        subst (λ (keys : List ℕ). AllByRecursion (λ (u : RankedJudgement). Contains keys (key_of_judgement u)) earlier) (sym offered_is) (offered-all earlier) in
        let front = frontier_log t levels in
        let segments = frontier_segment t levels ∷ segments_of walks in
        record {
          segments = segments;
          cut_up = refl;
          each = (frontier-segment t is_ranked root levels, task-segments t tasks places walks are);
          groups = record {
            own = segments;
            rest = [];
            own_first = sym (append-nil segments);
            groups = (frontier-groups t is_ranked root levels, parts-groups places walks are);
            rest_segments = tt;
            may_rest = inl refl;
            shape = (rise-cons [] (tasks_of (segments_of walks)) (root-before places walks are) (parts-rise places walks are rising), λ e. (refl, frontier_log-items t levels));
          };
          held_rises = behind-rises t front earlier earlier_are exact (suc levels) in_items is_ranked root places walks a b parts rising offered goes (frontier-rises t is_ranked root levels);
          due = behind-judged t front earlier earlier_are exact (suc levels) in_items is_ranked root places walks a b parts rising offered goes (frontier-judged t is_ranked root levels);
          alone = λ e. behind-exact t front earlier earlier_are exact tasks places walks a b parts (share e) offered_is goes;
        }
