-- The log of a worker of an ordered search whose walk was refused: what it has walked, and a part of one more walk, behind the walk above the depth of tasks or not.
use Rattle.std.proofs.Common.{◌≡◌, ℕ, suc, ◌-◌, ◌<◌, ◌≤◌, ◌⊎◌, inl, inr, Some, List, [], ◌∷◌, ◌++◌, map, length, refl, ap, sym, subst, ◌∙◌, append-nil, arith}
use Rattle.std.specs.Prelude.{IsSome, Contains, slice_get}
use Rattle.std.specs.List.{AllByRecursion, sum_by}
use Rattle.std.proofs.lemmas.List.{map-append}
use Rattle.std.proofs.lemmas.List.Concat.{flat_map-append}
use Rattle.std.proofs.lemmas.List.Sums.{sum_by-append, sum_by-cons}
use Rattle.yew_best.specs.Seats.{SeatView, has_read}
use Rattle.yew_laws.specs.SearchTree.{SearchTree, at_path}
use Rattle.yew_laws.specs.Tree.{IsRanked, IsBounded}
use Rattle.yew_laws.proofs.Bags.{same-refl, same-part, sum_by-map}
use Rattle.yew_laws.proofs.Members.{AllByRecursion-append, AllByRecursion-map, AllByRecursion-weaker, Contains-head, Contains-tail}
use Rattle.yew_log.specs.HeldValues.{ranked, HeldRises, HeldIsMaximum, IsJudged}
use Rattle.yew_log.specs.Items.{items_of, IsInItem}
use Rattle.yew_log.specs.Lawful.{IsBrokenLog, IsBrokenWalk}
use Rattle.yew_log.specs.Notes.{Note, taken, visited, cut, spawned, handed, ended, path_of, taken_in, sent_in, taken_paths, sent_paths, spawned_paths, visits}
use Rattle.yew_log.specs.Segment.{Segment, segment, entries, entries_in, IsSegment, IsBroken, AreOfTree, OneOfAKind}
use Rattle.yew_log.proofs.BrokenLogs.{broken_log-from_segments}
use Rattle.yew_walk.specs.declared.keying.Keying.{Keying}
use Rattle.yew_walk.specs.declared.keying.Keying.TheVariants.{Ranked}
use Rattle.yew_walk.specs.Keys.{key_of}
use Rattle.yew_walk.specs.Seats.{has_offered, SeatGoes}
use Rattle.yew_walk.specs.WorkerLogs.{KeyedSegment, segments_of, SeatGoesOn}
use Rattle.yew_walk.proofs.WorkerLogs.{walks-rise, walks-judged, goes_on-push}
use Rattle.yew_crew.proofs.OnceOnly.{Doing, IsDoing, all_sent, once-only}
use Rattle.yew_ranked.specs.Frontier.{frontier_log, frontier_segment}
use Rattle.yew_ranked.specs.RankedSearch.{RankedJudgement, key_of_judgement, plain_judgement}
use Rattle.yew_ranked.specs.Stations.{AreRising, IsTaskWalk, AreTaskWalks}
use Rattle.yew_ranked.specs.Tasks.{Numbered, tasks_of_tree}
use Rattle.yew_ranked.proofs.ExactBehindFrontier.{behind-exact}
use Rattle.yew_ranked.proofs.FrontierItems.{frontier_log-tasks}
use Rattle.yew_ranked.proofs.FrontierLawful.{frontier-segment, frontier-broken, frontier-sent, frontier-rises, frontier-maximum, frontier-judged}
use Rattle.yew_ranked.proofs.HeldBehindFrontier.{AreOffered, behind-rises, behind-judged}
use Rattle.yew_ranked.proofs.ItemWalks.{IsPartAt, ArePartsAt, parts-push, parts-all, parts-exact, parts-of_tasks, keys-rise}

-- a seat along the first of some entries
pub front-goes : {N : Type 0} (t : SearchTree N) (keying : Keying) (a c : SeatView) (xs ys : List Note) → SeatGoes t keying a (xs ++ ys) c → (b : SeatView) × SeatGoes t keying a xs b
front-goes t keying a c [] ys g = (a, refl)
front-goes t keying a c (visited p w h ∷ xs) ys g = let r = front-goes t keying (has_offered (has_read a g.0) (key_of keying w)) c xs ys g.2 in (r.0, (g.0, g.1, r.1))
front-goes t keying a c (cut p b h ∷ xs) ys g = let r = front-goes t keying (has_read a g.0) c xs ys g.2 in (r.0, (g.0, g.1, r.1))
front-goes t keying a c (taken p ∷ xs) ys g = front-goes t keying a c xs ys g
front-goes t keying a c (spawned p ∷ xs) ys g = front-goes t keying a c xs ys g
front-goes t keying a c (handed p ∷ xs) ys g = front-goes t keying a c xs ys g
front-goes t keying a c (ended p ∷ xs) ys g = front-goes t keying a c xs ys g

-- one more number that is above all
rising-push : (places : List ℕ) (place : ℕ) → AreRising places → AllByRecursion (λ p. p < place) places → AreRising (places ++ place ∷ [])
rising-push [] place rising above = (tt, tt)
rising-push (p ∷ ps) place rising above = (AllByRecursion-append (λ q. p < q) ps (place ∷ []) rising.0 (above.0, tt), rising-push ps place rising.1 above.1)

-- a seat that has offered the keys of these visits alone
pub offered-all : (us : List RankedJudgement) → AllByRecursion (λ (u : RankedJudgement). Contains (map key_of_judgement us) (key_of_judgement u)) us
offered-all [] = tt
offered-all (u ∷ us) = (
  Contains-head (key_of_judgement u) (map key_of_judgement us),
  AllByRecursion-weaker (λ (v : RankedJudgement). Contains (map key_of_judgement us) (key_of_judgement v)) (λ (v : RankedJudgement). Contains (map key_of_judgement (u ∷ us)) (key_of_judgement v))
      (λ v c. Contains-tail (key_of_judgement u) (map key_of_judgement us) (key_of_judgement v) c) us (offered-all us),
)

module _ {N : Type 0} (t : SearchTree N) where
  -- whole walks
  task-part : (tasks : List Numbered) (place : ℕ) (walk : KeyedSegment) → (task : Numbered) × (slice_get tasks place ≡ Some task) × IsTaskWalk t task walk → IsPartAt t tasks place walk
  task-part tasks place walk w = let is = w.2 in record {
    task = w.0;
    there = w.1;
    keys = is.keys;
    task_is = is.task_is;
    is_broken = is.is_broken;
    rises = is.rises;
    judged = is.judged;
  }

  pub task-parts : (tasks : List Numbered) (places : List ℕ) (walks : List KeyedSegment) → AreTaskWalks t tasks places walks → ArePartsAt t tasks places walks
  task-parts tasks [] [] are = tt
  task-parts tasks [] (w ∷ ws) are = absurd are
  task-parts tasks (p ∷ ps) [] are = absurd are
  task-parts tasks (p ∷ ps) (w ∷ ws) are = (task-part tasks p w are.0, task-parts tasks ps ws are.1)

  pub task-segments : (tasks : List Numbered) (places : List ℕ) (walks : List KeyedSegment) → AreTaskWalks t tasks places walks → AllByRecursion (IsSegment t) (segments_of walks)
  task-segments tasks [] [] are = tt
  task-segments tasks [] (w ∷ ws) are = absurd are
  task-segments tasks (p ∷ ps) [] are = absurd are
  task-segments tasks (p ∷ ps) (w ∷ ws) are = (let is = are.0.2 in is.is_segment, task-segments tasks ps ws are.1)

  -- What a worker has noted of its tasks: whole walks, and perhaps a part of one more
  pub record HasNoted (tasks : List Numbered) (a b : SeatView) (notes : List Note) : Type 0 where
    pub places : List ℕ
    pub walks : List KeyedSegment
    pub are_parts : ArePartsAt t tasks places walks
    pub rising : AreRising places
    pub goes : SeatGoesOn t a walks b
    pub notes_are : notes ≡ entries (segments_of walks)
    pub whole : List Segment
    pub last : List Segment
    pub split : segments_of walks ≡ whole ++ last
    pub are_segments : AllByRecursion (IsSegment t) whole
    pub one_last : length last ≤ 1

  -- the entries of one walk that may have been broken off
  pub noted-with : (tasks : List Numbered) (places : List ℕ) (walks : List KeyedSegment) (place : ℕ) (task : Numbered) (a mid b : SeatView) (notes : List Note)
      → AreTaskWalks t tasks places walks → AreRising places → SeatGoesOn t a walks mid → slice_get tasks place ≡ Some task → AllByRecursion (λ p. p < place) places
      → IsBrokenWalk t 0 ranked task.path notes → SeatGoes t (Ranked task.rank) mid notes b → HasNoted tasks a b (entries (segments_of walks) ++ notes)
  noted-with tasks places walks place task a mid b notes are rising goes there above broken last_goes = by broken.of_task
    where
      by : (broken.keeps.segments ≡ []) ⊎ ((body : List Note) × (broken.keeps.segments ≡ segment task.path body ∷ [])) → HasNoted tasks a b (entries (segments_of walks) ++ notes)
      by (inl none) =
          let nothing : notes ≡ [] = broken.keeps.cut_up ∙ ap entries none in
          let stays : b ≡ mid = subst (λ ns. SeatGoes t (Ranked task.rank) mid ns b) nothing last_goes in
          record {
            places = places;
            walks = walks;
            are_parts = task-parts tasks places walks are;
            rising = rising;
            goes = subst (SeatGoesOn t a walks) (sym stays) goes;
            notes_are = ap (λ ns. entries (segments_of walks) ++ ns) nothing ∙ append-nil (entries (segments_of walks));
            whole = segments_of walks;
            last = [];
            split = sym (append-nil (segments_of walks));
            are_segments = task-segments tasks places walks are;
            one_last = omega arith;
          }
      by (inr (body, one)) =
          let walk : KeyedSegment = record { keying = Ranked task.rank; segment = segment task.path body } in
          let notes_are : notes ≡ entries_in walk.segment = broken.keeps.cut_up ∙ (ap entries one ∙ append-nil (entries_in walk.segment)) in
          let part : IsPartAt t tasks place walk = record {
            task = task;
            there = there;
            keys = refl;
            task_is = refl;
            is_broken = (subst (AllByRecursion (IsBroken t)) one broken.keeps.each).0;
            rises = subst HeldRises notes_are broken.keeps.held_rises;
            judged = subst (IsJudged t 0 ranked) notes_are broken.keeps.due;
          } in
          let segments_are : segments_of (walks ++ walk ∷ []) ≡ segments_of walks ++ walk.segment ∷ [] = map-append (λ (w : KeyedSegment). w.segment) walks (walk ∷ []) in
          record {
            places = places ++ place ∷ [];
            walks = walks ++ walk ∷ [];
            are_parts = parts-push t tasks places walks place walk (task-parts tasks places walks are) part;
            rising = rising-push places place rising above;
            goes = goes_on-push t walks a mid b walk goes (subst (λ ns. SeatGoes t (Ranked task.rank) mid ns b) notes_are last_goes);
            notes_are = ap (λ ns. entries (segments_of walks) ++ ns) (notes_are ∙ sym (append-nil (entries_in walk.segment)))
                ∙ (sym (flat_map-append entries_in (segments_of walks) (walk.segment ∷ [])) ∙ ap entries (sym segments_are));
            whole = segments_of walks;
            last = walk.segment ∷ [];
            split = segments_are;
            are_segments = task-segments tasks places walks are;
            one_last = omega arith;
          }

  -- the entries of segments are of the tree
  of_tree : (segments : List Segment) → AllByRecursion (IsBroken t) segments → AreOfTree t (entries segments)
  of_tree [] each = tt
  of_tree (x ∷ xs) each = AllByRecursion-append (λ note. IsSome (at_path t (path_of note))) (entries_in x) (entries xs) each.0.in_tree (of_tree xs each.1)

  -- what was taken are the tasks of the segments
  taken-tasks : (h : List ℕ → ℕ) (walks : List KeyedSegment) → AllByRecursion (λ (w : KeyedSegment). IsBroken t w.segment) walks
      → sum_by h (taken_paths (entries (segments_of walks))) ≡ sum_by h (map (λ (w : KeyedSegment). w.segment.task) walks)
  taken-tasks h [] each = refl
  taken-tasks h (w ∷ ws) each =
      let rest = taken-tasks h ws each.1 in
      let parts = ap (sum_by h) (flat_map-append taken_in (entries_in w.segment) (entries (segments_of ws))) in
      let both = sum_by-append h (taken_paths (entries_in w.segment)) (taken_paths (entries (segments_of ws))) in
      let own = ap (λ (l : List (List ℕ)). sum_by h (w.segment.task ∷ l)) each.0.untaken in
      let one = sum_by-cons h w.segment.task [] in
      let more = sum_by-cons h w.segment.task (map (λ (v : KeyedSegment). v.segment.task) ws) in omega (arith, rest, parts, both, own, one, more)

  -- a log of a worker as an audit shows it, as far as it goes
  pub record IsWorkersLog (workers : ℕ) (notes : List Note) : Type 0 where
    pub keeps : IsBrokenLog t 0 ranked notes
    pub alone : workers ≡ 1 → HeldIsMaximum notes
    pub in_tree : AreOfTree t notes
    pub one_of_a_kind : OneOfAKind notes

  module _ {sound : N → Type 0} (is_ranked : IsRanked sound t.children t.rank) (bounded : IsBounded sound t.children t.worth t.bound) (root : sound t.root)
      (depth : ℕ) (above : 1 ≤ depth) where
    abbrev front : List Note
    front = frontier_log t (depth - 1)

    -- the tasks are what the walk above them has sent
    sent-tasks : (h : List ℕ → ℕ) → sum_by h (sent_paths front) ≡ sum_by (λ (task : Numbered). h task.path) (tasks_of_tree t depth)
    sent-tasks h =
        let next : suc (depth - 1) ≡ depth = omega (arith, above) in
        let are = subst (λ d. spawned_paths (frontier_segment t (depth - 1)).body ≡ map (λ (task : Numbered). task.path) (tasks_of_tree t d)) next (frontier_log-tasks t (depth - 1)) in
        let sent = ap (sum_by h) (frontier-sent t is_ranked root (depth - 1)) in
        let same = ap (sum_by h) are in
        let maps = sum_by-map h (λ (task : Numbered). task.path) (tasks_of_tree t depth) in omega (arith, sent, same, maps)

    front-taken : (h : List ℕ → ℕ) → sum_by h (taken_paths front) ≡ h []
    front-taken h =
        let own = ap (λ (l : List (List ℕ)). sum_by h ([] ∷ l)) (let s = frontier-segment t is_ranked root (depth - 1) in s.untaken) in
        let one = sum_by-cons h [] [] in omega (arith, own, one)

    -- what was taken is a part of the tasks
    taken-part : (a b : SeatView) (notes : List Note) (noted : HasNoted (tasks_of_tree t depth) a b notes) (h : List ℕ → ℕ) → sum_by h (taken_paths notes) ≤ sum_by h (sent_paths front)
    taken-part a b notes noted h =
        let are = parts-of_tasks t (tasks_of_tree t depth) h noted.places noted.walks noted.are_parts noted.rising in
        let each = parts-all t (tasks_of_tree t depth) (λ (w : KeyedSegment). IsBroken t w.segment) (λ p w part. part.is_broken) noted.places noted.walks noted.are_parts in
        let own = taken-tasks h noted.walks each in
        let same = ap (λ ns. sum_by h (taken_paths ns)) noted.notes_are in
        let sent = sent-tasks h in omega (arith, are, own, same, sent)

    brokens : (a b : SeatView) (notes : List Note) (noted : HasNoted (tasks_of_tree t depth) a b notes) → AllByRecursion (IsBroken t) (segments_of noted.walks)
    brokens a b notes noted =
        AllByRecursion-map (IsBroken t) (λ (w : KeyedSegment). w.segment) noted.walks
        (parts-all t (tasks_of_tree t depth) (λ (w : KeyedSegment). IsBroken t w.segment) (λ p w part. part.is_broken) noted.places noted.walks noted.are_parts)

    -- entries of segments, with the paths that they took and sent
    abbrev doing : List Note → Doing
    doing notes = record { notes = notes; took = taken_paths notes; sent = sent_paths notes }

    is-doing : (segments : List Segment) (notes : List Note) → notes ≡ entries segments → AllByRecursion (IsBroken t) segments → IsDoing t (doing notes)
    is-doing segments notes cut_up each = record {
      segments = segments;
      cut_up = cut_up;
      each = each;
      taken_are = same-part (same-refl (taken_paths notes));
      sent_are = same-part (same-refl (sent_paths notes));
    }

    front-segments : front ≡ entries (frontier_segment t (depth - 1) ∷ [])
    front-segments = sym (append-nil front)

    -- the log of a worker that has walked tasks alone
    pub others-log : (workers : ℕ) (a b : SeatView) (notes : List Note) → HasNoted (tasks_of_tree t depth) a b notes → 1 < workers → IsWorkersLog workers notes
    others-log workers a b notes noted several =
        let tasks = tasks_of_tree t depth in
        let each = brokens a b notes noted in
        let rises = walks-rise t noted.walks a b noted.goes (keys-rise t depth noted.places noted.walks noted.are_parts noted.rising)
        (parts-all t tasks (λ (w : KeyedSegment). HeldRises (entries_in w.segment)) (λ p w part. part.rises) noted.places noted.walks noted.are_parts) in
        let judged = walks-judged t 0 ranked noted.walks a b (parts-exact t tasks noted.places noted.walks noted.are_parts) noted.goes (keys-rise t depth noted.places noted.walks noted.are_parts noted.rising)
        (parts-all t tasks (λ (w : KeyedSegment). IsJudged t 0 ranked (entries_in w.segment)) (λ p w part. part.judged) noted.places noted.walks noted.are_parts) in
        let cut_up : notes ≡ entries (noted.whole ++ noted.last) = noted.notes_are ∙ ap entries noted.split in
        record {
          keeps = subst (IsBrokenLog t 0 ranked) (sym cut_up)
              (broken_log-from_segments t 0 ranked noted.whole noted.last noted.are_segments (subst (AllByRecursion (IsBroken t)) noted.split each) noted.one_last
              (subst (λ (s : List Segment). HeldRises (entries s)) noted.split rises) (subst (λ (s : List Segment). IsJudged t 0 ranked (entries s)) noted.split judged));
          alone = λ e. absurd (omega (arith, e, several));
          in_tree = subst (AreOfTree t) (sym noted.notes_are) (of_tree (segments_of noted.walks) each);
          one_of_a_kind =
              (once-only t is_ranked bounded root (doing front ∷ doing notes ∷ [])
              (is-doing (frontier_segment t (depth - 1) ∷ []) front front-segments (frontier-broken t is_ranked root (depth - 1), tt), (is-doing (segments_of noted.walks) notes noted.notes_are each, tt))
              record {
                weighs = λ h. (
                    let part = taken-part a b notes noted h in
                    let own = front-taken h in
                    let took = sum_by-append h (taken_paths front) (taken_paths notes ++ []) in
                    let took_last = sum_by-append h (taken_paths notes) [] in
                    let sent = sum_by-append h (sent_paths front) (sent_paths notes ++ []) in
                    let all = sum_by-cons h [] (all_sent (doing front ∷ doing notes ∷ [])) in omega (arith, part, own, took, took_last, sent, all));
              }).1.0;
        }

    -- The log of the first worker, behind the walk above the depth of tasks, whose visits its seat had offered
    pub first-log : (workers : ℕ) (earlier : List RankedJudgement) (a b : SeatView) (notes : List Note) → map plain_judgement earlier ≡ visits front
        → AllByRecursion (λ (u : RankedJudgement). IsInItem (items_of t depth) u.item u.path) earlier → a.offered ≡ map key_of_judgement earlier → (workers ≡ 1 → a.share ≡ a.best.seats)
        → HasNoted (tasks_of_tree t depth) a b notes → IsWorkersLog workers (front ++ notes)
    first-log workers earlier a b notes earlier_are in_items offered_is share noted =
        let levels = depth - 1 in
        let exact = frontier-maximum t is_ranked root levels in
        let offered : AreOffered a earlier =
        subst (λ (keys : List ℕ). AllByRecursion (λ (u : RankedJudgement). Contains keys (key_of_judgement u)) earlier) (sym offered_is) (offered-all earlier) in
        let each = brokens a b notes noted in
        let segments = frontier_segment t levels ∷ segments_of noted.walks in
        let all_broken : AllByRecursion (IsBroken t) segments = (frontier-broken t is_ranked root levels, each) in
        let cut_up : front ++ notes ≡ entries segments = ap (λ ns. front ++ ns) noted.notes_are in
        let split : segments ≡ (frontier_segment t levels ∷ noted.whole) ++ noted.last = ap (λ (s : List Segment). frontier_segment t levels ∷ s) noted.split in
        let rises = behind-rises t front earlier earlier_are exact depth in_items is_ranked root noted.places noted.walks a b noted.are_parts noted.rising offered noted.goes (frontier-rises t is_ranked root levels) in
        let judged = behind-judged t front earlier earlier_are exact depth in_items is_ranked root noted.places noted.walks a b noted.are_parts noted.rising offered noted.goes (frontier-judged t is_ranked root levels) in
        record {
          keeps = subst (IsBrokenLog t 0 ranked) (sym (cut_up ∙ ap entries split))
              (broken_log-from_segments t 0 ranked (frontier_segment t levels ∷ noted.whole) noted.last (frontier-segment t is_ranked root levels, noted.are_segments)
              (subst (AllByRecursion (IsBroken t)) split all_broken) noted.one_last
              (subst (λ (s : List Segment). HeldRises (entries s)) split rises) (subst (λ (s : List Segment). IsJudged t 0 ranked (entries s)) split judged));
          alone = λ e. subst HeldIsMaximum (sym cut_up) (behind-exact t front earlier earlier_are exact (tasks_of_tree t depth) noted.places noted.walks a b noted.are_parts (share e) offered_is noted.goes);
          in_tree = subst (AreOfTree t) (sym cut_up) (of_tree segments all_broken);
          one_of_a_kind =
              (once-only t is_ranked bounded root (doing (front ++ notes) ∷ []) (is-doing segments (front ++ notes) cut_up all_broken, tt)
              record {
                weighs = λ h. (
                    let part = taken-part a b notes noted h in
                    let own = front-taken h in
                    let took = sum_by-append h (taken_paths (front ++ notes)) [] in
                    let took_is = ap (sum_by h) (flat_map-append taken_in front notes) in
                    let took_both = sum_by-append h (taken_paths front) (taken_paths notes) in
                    let sent = sum_by-append h (sent_paths (front ++ notes)) [] in
                    let sent_is = ap (sum_by h) (flat_map-append sent_in front notes) in
                    let sent_both = sum_by-append h (sent_paths front) (sent_paths notes) in
                    let all = sum_by-cons h [] (all_sent (doing (front ++ notes) ∷ [])) in omega (arith, part, own, took, took_is, took_both, sent, sent_is, sent_both, all));
              }).0;
        }
