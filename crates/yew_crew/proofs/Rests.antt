-- What the caller walks of what all workers left: it works as a worker that shares nothing out.
use Rattle.std.proofs.Common.{◌≡◌, ℕ, ◌+◌, ◌≤◌, ◌∙◌, true, false, nat_lt, if◌then◌else◌, List, [], ◌∷◌, ◌++◌, Some, None, length, refl, sym, ap, subst, append-nil, arith, inl}
use Rattle.std.specs.Prelude.{IsSome}
use Rattle.std.specs.List.{AllByRecursion, sum_by}
use Rattle.std.proofs.lemmas.Bool.Decides.{nat_tests}
use Rattle.std.proofs.lemmas.List.Sums.{sum_by-append, sum_by-cons}
use Rattle.atomic_table.specs.Seated.{TableId}
use Rattle.yew_best.specs.Seats.{SeatView}
use Rattle.yew_laws.specs.Bag.{SameBag}
use Rattle.yew_laws.specs.Fold.{IsTally}
use Rattle.yew_laws.specs.SearchTree.{SearchTree, search_tree, at_path, IsTask}
use Rattle.yew_laws.specs.Tasks.{members_of, IsAmong}
use Rattle.yew_laws.specs.Tree.{IsRanked}
use Rattle.yew_laws.specs.declared.problem.Problem.{Ghosts}
use Rattle.yew_laws.specs.declared.problem.Task.{Task}
use Rattle.yew_laws.proofs.Bags.{same-refl, same-is, same-sym, same-trans}
use Rattle.yew_laws.proofs.Members.{AllByRecursion-weaker}
use Rattle.yew_laws.proofs.TaskMembers.{among-task}
use Rattle.yew_log.specs.Groups.{HasGroups, NoGroup, SkeletonGroup, by_depth, by_steal, one, is_visit_above, group_of}
use Rattle.yew_log.specs.HeldValues.{plain}
use Rattle.yew_log.specs.Lawful.{AreWalks, tasks_of}
use Rattle.yew_log.specs.Notes.{Note, taken, visited, cut, spawned, handed, ended, event_in, sent_paths, spawned_paths, handed_paths}
use Rattle.yew_log.specs.Policies.{plain_policy}
use Rattle.yew_log.specs.Segment.{Segment, segment, entries, IsSegment}
use Rattle.yew_log.proofs.Places.{AtEach-weaker}
use Rattle.yew_log.proofs.PolicyRows.{policy-groups}
use Rattle.yew_log.proofs.SentKinds.{handed-depth, spawned-steal}
use Rattle.yew_mail.specs.declared.view.Ask.TheVariants.{Nowhere}
use Rattle.yew_mail.specs.declared.view.OwnBox.TheVariants.{Unknown}
use Rattle.yew_stack.specs.Splits.{paths_of}
use Rattle.yew_walk.specs.declared.hand.Hand.{Hand}
use Rattle.yew_walk.specs.declared.keying.Keying.TheVariants.{Gap}
use Rattle.yew_walk.specs.LogViews.{LogView}
use Rattle.yew_walk.specs.Outlets.{OutletCall}
use Rattle.yew_walk.specs.Scenes.{IsWalked, scene}
use Rattle.yew_crew.specs.Groups.{IsBalanced}
use Rattle.yew_crew.specs.Resting.{IsRested}
use Rattle.yew_crew.specs.Stations.{searched}
use Rattle.yew_crew.specs.Working.{IsStep, IsWorking}
use Rattle.yew_crew.specs.declared.coord.Coord.TheVariants.{Depth}
use Rattle.yew_crew.specs.declared.station.Station.{Station}
use Rattle.yew_crew.proofs.Rows.{all_but_last}
use Rattle.yew_crew.proofs.WalkedParts.{ones, same-length, sent-dealt, walk-parts}
use Rattle.yew_crew.proofs.WholeSegments.{segment-broken}
use Rattle.yew_crew.proofs.WorkDone.{group-of, work-group, work-segments, work-group-is, work-segments-are}
use Rattle.yew_crew.proofs.WorkSteps.{work-more}
use Rattle.yew_crew.proofs.WorkTurns.{work-begins}

pub empty-list : {X : Type 0} (xs : List X) → length xs ≡ 0 → xs ≡ []
empty-list [] e = refl
empty-list (x ∷ xs) e = absurd (omega arith)

-- a bag of nothing
pub empty-bag : {X : Type 0} (xs : List X) → SameBag [] xs → xs ≡ []
empty-bag xs b = empty-list xs (sym (same-length b))

-- no visit lies above the depth of the root
none-above : (note : Note) (children : List Note) → [] ≡ (if is_visit_above 0 note then children else [])
none-above (visited path w h) children = let e : nat_lt (length path) 0 ≡ false = grind (arith, nat_tests) in ap (λ b. if b then children else []) (sym e)
none-above (taken path) children = refl
none-above (cut path b h) children = refl
none-above (spawned path) children = refl
none-above (handed path) children = refl
none-above (ended path) children = refl

module _ {N : Type 0} (t : SearchTree N) where
  pub depth-none : (body : List Note) → HasGroups (SkeletonGroup t (by_depth 0)) body → HasGroups NoGroup body
  depth-none body has =
      AtEach-weaker (λ before note after. AllByRecursion (λ p. SkeletonGroup t (by_depth 0) before note (group_of after)) (event_in note))
      (λ before note after. AllByRecursion (λ p. NoGroup before note (group_of after)) (event_in note)) body [] body refl
      (λ before note after e all. AllByRecursion-weaker (λ p. SkeletonGroup t (by_depth 0) before note (group_of after)) (λ p. NoGroup before note (group_of after)) (λ p g. g ∙ sym (none-above note _)) (event_in note) all) has

  -- nothing is sent
  unsent : (x : Segment) → IsSegment t x → HasGroups (SkeletonGroup t (by_depth 0)) x.body → HasGroups (SkeletonGroup t (by_steal one)) x.body → sent_paths x.body ≡ []
  unsent x is depth steal =
      let a = ap length (handed-depth t 0 x is depth) in let b = ap length (spawned-steal t one x is steal) in
      let c = sent-dealt (λ _. 1) x.body in let d = ones (sent_paths x.body) in let e = ones (spawned_paths x.body) in let f = ones (handed_paths x.body) in
      empty-list (sent_paths x.body) (omega arith)

-- the first worker's station, of which only what the caller works with is of use
abbrev pub resting : {N S R : Type 0} → TableId → SeatView → Hand S → R → List (Task N) → ℕ → Station N S R
resting table seat hand log took count = record {
  number = 1;
  best = seat;
  pool = record { pool = record { deques = [] }; number = 0; share = 1; members = None; put = []; took = took; found_empty = [] };
  mail = record { mail = record { table = table; workers = 1 }; share = 1; numbers = []; members = None; given = []; got = []; found = []; own = Unknown; ask = Nowhere };
  tasks = record { tasks = record { table = table; seats = 1 }; share = 1; made = 0; ended = count; knows = true; last = None; knew = false; stops = 0; saw = false };
  hand = hand;
  log = log;
}

module _ {P N K S R : Type 0} (meaning : Ghosts P N K) (problem : P) (join : S → S → S) (none : S) (of : N → ℕ → S) (seen : R → LogView) (gap : ℕ)
    {fits : S → Type 0} (tally : IsTally fits join none) (of_fits : (n : N) (depth : ℕ) → fits (of n depth)) (table : TableId) where
  -- what is left of the tasks is still to be walked
  pub rest-begins : (b : SeatView) (h : Hand S) (l : R) (left : List (Task N)) → fits h.sum → 65535 ≤ h.path.space
      → IsWorking (searched (search_tree meaning problem) join none of seen (Depth 0) gap) (paths_of left) (resting table b h l [] 0) (resting table b h l left 0)
  rest-begins b h l left f room =
      let w = work-begins (searched (search_tree meaning problem) join none of seen (Depth 0) gap) tally (resting table b h l [] 0) f room in
      record {
        segments = [];
        members = [];
        took = paths_of left;
        put = [];
        got = [];
        given = [];
        walks = tt;
        moved = record { took_is = same-refl (paths_of left); put_is = same-refl []; got_is = same-refl []; given_is = same-refl [] };
        taken_are = same-is (append-nil (paths_of left));
        spawned_are = same-refl [];
        handed_are = same-refl [];
        goes = refl;
        log_is = refl;
        are_visited = record { paths_are = refl; there = tt };
        sum_is = sym (tally.comm h.sum none f tally.none_fits ∙ tally.unit h.sum f);
        best_is = refl;
        made_is = omega arith;
        ended_is = omega arith;
        no_stop = refl;
        knows = λ k. k;
        same = record { number = refl; best = refl; best_share = refl; pool = refl; pass_number = refl; pass_share = refl; pass_members = refl; mail = refl; mail_share = refl; mail_numbers = refl; mail_members = refl; tasks = refl; tasks_share = refl };
        space = room;
        looks = tt;
      }

  -- one walk by the caller
  rest-step : (task : List ℕ) (made : List OutletCall → Type 0) (b0 b1 : SeatView) (h0 h1 : Hand S) (sent0 sent : List (Task N)) (l0 l1 : R) (took : List (Task N)) (k : ℕ)
      → IsRanked (meaning.sound problem) (meaning.children problem) (meaning.rank problem) → meaning.sound problem (meaning.root problem) → IsSome (at_path (search_tree meaning problem) task)
      → IsWalked meaning problem (Gap gap) join of plain_policy task none made (scene b0 h0 tt sent0 None (seen l0)) (scene b1 h1 tt sent None (seen l1))
      → b1.best ≡ b0.best → b1.share ≡ b0.share → 65535 ≤ h1.path.space
      → IsStep (searched (search_tree meaning problem) join none of seen (Depth 0) gap) task (resting table b0 h0 l0 took k) (resting table b1 h1 l1 took (k + 1))
  rest-step task made b0 b1 h0 h1 sent0 sent l0 l1 took k ranked root there walked seat_is share_is room =
      let t = search_tree meaning problem in
      let s = searched t join none of seen (Depth 0) gap in
      let w = walk-parts meaning problem s plain_policy task made (scene b0 h0 tt sent0 None (seen l0)) (scene b1 h1 tt sent None (seen l1)) walked in
      let depth : HasGroups (SkeletonGroup t (by_depth 0)) w.body = policy-groups t plain_policy tt w.answers (SkeletonGroup t (by_depth 0)) w.body w.policy_groups (λ before note x wanted more is. none-above note _) in
      let steal : HasGroups (SkeletonGroup t (by_steal one)) w.body = policy-groups t plain_policy tt w.answers (SkeletonGroup t (by_steal one)) w.body w.policy_groups (λ before note x wanted more is. inl refl) in
      let none_sent = unsent t (segment task w.body) w.is_segment depth steal in
      let bag : (h : List ℕ → ℕ) → sum_by h (sent_paths w.body) ≡ 0 = λ h. ap (sum_by h) none_sent in
      record {
        body = w.body;
        members = w.members;
        put = [];
        given = [];
        walk = record {
          is_segment = w.is_segment;
          is_broken = segment-broken t ranked root (segment task w.body) w.is_segment there (subst (AllByRecursion (λ p. IsSome (at_path t p))) (sym none_sent) tt);
          groups = depth;
          rises = w.rises;
          judged = w.judged;
        };
        moved = record { took_is = same-is (sym (append-nil (paths_of took))); put_is = same-refl []; got_is = same-refl []; given_is = same-refl [] };
        spawned_are = record { weighs = λ h. (let a = sent-dealt h w.body in let b = bag h in omega arith) };
        handed_are = record { weighs = λ h. (let a = sent-dealt h w.body in let b = bag h in omega arith) };
        goes = w.goes;
        log_is = w.log_is;
        are_visited = w.are_visited;
        sum_is = w.sum_is;
        best_is = w.best_is;
        made_is = omega arith;
        ended_is = refl;
        no_stop = refl;
        knows = λ h. h;
        same = record { number = refl; best = seat_is; best_share = share_is; pool = refl; pass_number = refl; pass_share = refl; pass_members = refl; mail = refl; mail_share = refl; mail_numbers = refl; mail_members = refl; tasks = refl; tasks_share = refl };
        space = room;
        looks = tt;
      }

  reordered : (rest rest' : List (List ℕ)) (first now : Station N S R) → SameBag rest rest' → IsWorking (searched (search_tree meaning problem) join none of seen (Depth 0) gap) rest first now
      → IsWorking (searched (search_tree meaning problem) join none of seen (Depth 0) gap) rest' first now
  reordered rest rest' first now same w = record {
    segments = w.segments;
    members = w.members;
    took = w.took;
    put = w.put;
    got = w.got;
    given = w.given;
    walks = w.walks;
    moved = w.moved;
    taken_are = record {
      weighs = λ h. (let a = w.taken_are.weighs h in let b = same.weighs h in let c = sum_by-append h (tasks_of w.segments) rest in let d = sum_by-append h (tasks_of w.segments) rest' in omega arith);
    };
    spawned_are = w.spawned_are;
    handed_are = w.handed_are;
    goes = w.goes;
    log_is = w.log_is;
    are_visited = w.are_visited;
    sum_is = w.sum_is;
    best_is = w.best_is;
    made_is = w.made_is;
    ended_is = w.ended_is;
    no_stop = w.no_stop;
    knows = w.knows;
    same = w.same;
    space = w.space;
    looks = w.looks;
  }

  -- the last of the tasks that are left was walked
  pub rest-more : (task : Task N) (left left' : List (Task N)) (made : List OutletCall → Type 0) (first : Station N S R) (b0 b1 : SeatView) (h0 h1 : Hand S) (sent0 sent : List (Task N)) (l0 l1 : R) (took : List (Task N)) (k : ℕ)
      → IsRanked (meaning.sound problem) (meaning.children problem) (meaning.rank problem) → meaning.sound problem (meaning.root problem) → at_path (search_tree meaning problem) task.path.numbers ≡ Some task.node
      → fits first.hand.sum → left ≡ left' ++ task ∷ []
      → IsWorking (searched (search_tree meaning problem) join none of seen (Depth 0) gap) (paths_of left) first (resting table b0 h0 l0 took k)
      → IsWalked meaning problem (Gap gap) join of plain_policy task.path.numbers none made (scene b0 h0 tt sent0 None (seen l0)) (scene b1 h1 tt sent None (seen l1))
      → b1.best ≡ b0.best → b1.share ≡ b0.share → 65535 ≤ h1.path.space
      → IsWorking (searched (search_tree meaning problem) join none of seen (Depth 0) gap) (paths_of left') first (resting table b1 h1 l1 took (k + 1))
  rest-more task left left' made first b0 b1 h0 h1 sent0 sent l0 l1 took k ranked root there f left_is w walked seat_is share_is room =
      let s = searched (search_tree meaning problem) join none of seen (Depth 0) gap in
      work-more s tally of_fits task.path.numbers (paths_of left') first (resting table b0 h0 l0 took k) (resting table b1 h1 l1 took (k + 1)) f
      (reordered (paths_of left) (task.path.numbers ∷ paths_of left') first (resting table b0 h0 l0 took k)
      (same-trans (same-is (ap paths_of left_is)) (last-first left')) w)
      (rest-step task.path.numbers made b0 b1 h0 h1 sent0 sent l0 l1 took k ranked root (subst IsSome (sym there) refl) walked seat_is share_is room)
    where
      last-first : (ts : List (Task N)) → SameBag (paths_of (ts ++ task ∷ [])) (task.path.numbers ∷ paths_of ts)
      last-first [] = same-refl (task.path.numbers ∷ [])
      last-first (u ∷ us) = record {
        weighs = λ h. (
            let a = (last-first us).weighs h in
            let b = sum_by-cons h u.path.numbers (paths_of (us ++ task ∷ [])) in let c = sum_by-cons h task.path.numbers (paths_of us) in
            let d = sum_by-cons h task.path.numbers (u.path.numbers ∷ paths_of us) in let e = sum_by-cons h u.path.numbers (paths_of us) in omega arith);
      }

  -- all was walked
  pub rest-ends : (left left' : List (Task N)) (b0 b1 : SeatView) (h0 h1 : Hand S) (l0 l1 : R) (took : List (Task N)) (k : ℕ) → left' ≡ [] → took ≡ left
      → IsWorking (searched (search_tree meaning problem) join none of seen (Depth 0) gap) (paths_of left') (resting table b0 h0 l0 [] 0) (resting table b1 h1 l1 took k)
      → IsRested (searched (search_tree meaning problem) join none of seen (Depth 0) gap) (paths_of left) b0 h0 l0 b1 h1 l1
  rest-ends left left' b0 b1 h0 h1 l0 l1 took k none_left took_is w' =
      let t = search_tree meaning problem in
      let s = searched t join none of seen (Depth 0) gap in
      let first = resting table b0 h0 l0 [] 0 in let now = resting table b1 h1 l1 took k in
      let w : IsWorking s [] first now = subst (λ ts. IsWorking s (paths_of ts) first now) none_left w' in
      let done = work-group t join none of seen (Depth 0) gap first now w in
      let segs = work-segments t join none of seen (Depth 0) gap first now w in
      let group_is = work-group-is t join none of seen (Depth 0) gap first now w in
      let put_none : w.put ≡ [] = empty-bag w.put w.moved.put_is in
      let given_none : w.given ≡ [] = empty-bag w.given w.moved.given_is in
      let notes = entries w.segments in
      record {
        group = group-of t join none of seen (Depth 0) gap first now w;
        segments = w.segments;
        balanced = subst (IsBalanced t gap join none of) group_is done.balanced;
        walks = subst (AreWalks t gap plain NoGroup) (work-segments-are t join none of seen (Depth 0) gap first now w)
            record { each = segs.walks.each; groups = AllByRecursion-weaker (λ (x : Segment). HasGroups (SkeletonGroup t (by_depth 0)) x.body) (λ (x : Segment). HasGroups NoGroup x.body) (λ x g. depth-none t x.body g) segs.segments segs.walks.groups; held_rises = segs.walks.held_rises; due = segs.walks.due };
        visits_are = refl;
        cuts_are = refl;
        tasks_are = same-sym (same-trans w.taken_are (same-is (append-nil (tasks_of w.segments))));
        took_is = same-sym (same-trans (same-is (ap paths_of (sym took_is))) w.moved.took_is);
        got_none = empty-bag w.got w.moved.got_is;
        sent_none = empty-list (sent_paths notes) (
            let a = sent-dealt (λ _. 1) notes in let b = w.spawned_are.weighs (λ _. 1) in let c = w.handed_are.weighs (λ _. 1) in
            let d = ap (sum_by (λ (_ : List ℕ). 1)) put_none in let e = ap (sum_by (λ (_ : List ℕ). 1)) given_none in let f = ones (sent_paths notes) in omega arith);
        put_none = put_none;
        given_none = given_none;
        goes = w.goes;
        reads = done.reads ∙ ap (λ (g : _). b0.read ++ g) (ap (λ g. g.read) group_is);
        offers = done.offers ∙ ap (λ (g : _). b0.offered ++ g) (ap (λ g. g.offered) group_is);
        log_is = w.log_is;
        best_is = w.best_is;
        sum_is = w.sum_is;
      }

  -- The caller at work upon these tasks: some are left to be walked
  pub record IsResting (b0 : SeatView) (h0 : Hand S) (l0 : R) (b : SeatView) (h : Hand S) (l : R) (all left : List (Task N)) : Type 0 where
    pub count : ℕ
    pub work : IsWorking (searched (search_tree meaning problem) join none of seen (Depth 0) gap) (paths_of left) (resting table b0 h0 l0 [] 0) (resting table b h l all count)
    pub best : b.best ≡ b0.best
    pub share : b.share ≡ b0.share
    pub space : 65535 ≤ h.path.space
    pub fits_first : fits h0.sum
    pub fits_sum : fits h.sum
    pub sound : AllByRecursion (IsAmong (members_of (search_tree meaning problem))) left

  pub resting-begins : (b : SeatView) (h : Hand S) (l : R) (left : List (Task N)) → fits h.sum → 65535 ≤ h.path.space → AllByRecursion (IsAmong (members_of (search_tree meaning problem))) left → IsResting b h l b h l left left
  resting-begins b h l left f room sound = record { count = 0; work = rest-begins b h l left f room; best = refl; share = refl; space = room; fits_first = f; fits_sum = f; sound = sound }

  -- the last of the tasks that are left is one of the problem
  pub resting-task : (b0 : SeatView) (h0 : Hand S) (l0 : R) (b : SeatView) (h : Hand S) (l : R) (all left left' : List (Task N)) (task : Task N)
      → IsRanked (meaning.sound problem) (meaning.children problem) (meaning.rank problem) → meaning.sound problem (meaning.root problem)
      → left ≡ left' ++ task ∷ [] → IsResting b0 h0 l0 b h l all left → IsTask meaning problem task.path.numbers task.node
  resting-task b0 h0 l0 b h l all left left' task ranked root is w =
      let each = all_but_last (IsAmong (members_of (search_tree meaning problem))) left' task (subst (AllByRecursion (IsAmong (members_of (search_tree meaning problem)))) is w.sound) in
      let found = among-task (search_tree meaning problem) ranked root task each.1 in record { is_sound = found.0; found = found.1 }

  pub resting-more : (b0 : SeatView) (h0 : Hand S) (l0 : R) (b : SeatView) (h : Hand S) (l : R) (b' : SeatView) (h' : Hand S) (l' : R) (all left left' : List (Task N)) (task : Task N) (made : List OutletCall → Type 0) (sent0 sent : List (Task N))
      → IsRanked (meaning.sound problem) (meaning.children problem) (meaning.rank problem) → meaning.sound problem (meaning.root problem)
      → left ≡ left' ++ task ∷ [] → IsResting b0 h0 l0 b h l all left
      → IsWalked meaning problem (Gap gap) join of plain_policy task.path.numbers none made (scene b h tt sent0 None (seen l)) (scene b' h' tt sent None (seen l'))
      → b'.best ≡ b.best → b'.share ≡ b.share → h'.path.space ≡ h.path.space → fits h'.sum → IsResting b0 h0 l0 b' h' l' all left'
  resting-more b0 h0 l0 b h l b' h' l' all left left' task made sent0 sent ranked root is w walked best share space f =
      let each = all_but_last (IsAmong (members_of (search_tree meaning problem))) left' task (subst (AllByRecursion (IsAmong (members_of (search_tree meaning problem)))) is w.sound) in
      let room = w.space in
      record {
        count = w.count + 1;
        work = rest-more task left left' made (resting table b0 h0 l0 [] 0) b b' h h' sent0 sent l l' all w.count ranked root (among-task (search_tree meaning problem) ranked root task each.1).1 w.fits_first is w.work walked best share (omega arith);
        best = best ∙ w.best;
        share = share ∙ w.share;
        space = omega arith;
        fits_first = w.fits_first;
        fits_sum = f;
        sound = each.0;
      }

  pub resting-ends : (b0 : SeatView) (h0 : Hand S) (l0 : R) (b : SeatView) (h : Hand S) (l : R) (all left : List (Task N)) → left ≡ [] → IsResting b0 h0 l0 b h l all left
      → IsRested (searched (search_tree meaning problem) join none of seen (Depth 0) gap) (paths_of all) b0 h0 l0 b h l
  resting-ends b0 h0 l0 b h l all left none_left w = rest-ends all left b0 b h0 h l0 l all w.count none_left refl w.work
