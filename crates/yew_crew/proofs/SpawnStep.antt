-- One walk of a worker that spawns its tasks into the pool.
use Rattle.std.proofs.Common.{◌≡◌, ℕ, ◌+◌, ◌∙◌, List, [], ◌∷◌, ◌++◌, length, refl, sym, ap, arith, Bool, Option}
use Rattle.std.specs.Prelude.{IsSome, ◌≤◌}
use Rattle.std.specs.List.{sum_by}
use Rattle.std.proofs.lemmas.List.{length-append, length-map}
use Rattle.yew_best.specs.Seats.{SeatView}
use Rattle.yew_laws.specs.declared.problem.Problem.{Ghosts}
use Rattle.yew_laws.specs.Tasks.{Members}
use Rattle.yew_laws.specs.declared.problem.Task.{Task}
use Rattle.yew_laws.specs.Bag.{SameBag}
use Rattle.yew_laws.specs.SearchTree.{SearchTree, search_tree, at_path}
use Rattle.yew_laws.specs.Tree.{IsRanked}
use Rattle.yew_log.proofs.SentKinds.{handed-depth, handed-budget}
use Rattle.yew_laws.proofs.Bags.{same-map, same-trans, same-append, same-refl, same-is}
use Rattle.yew_log.specs.Groups.{Part, HasGroups, SkeletonGroup}
use Rattle.yew_log.specs.Notes.{Note, spawned_paths, handed_paths, sent_paths}
use Rattle.yew_log.specs.Policies.{PolicyMeaning, HasPolicy}
use Rattle.yew_log.specs.Segment.{Segment, segment, IsSegment}
use Rattle.yew_mail.specs.Seats.{SeatView as MailSeatView}
use Rattle.yew_pool.specs.Passes.{PassView}
use Rattle.yew_stack.specs.Splits.{paths_of}
use Rattle.yew_walk.specs.declared.hand.Hand.{Hand}
use Rattle.yew_walk.specs.declared.keying.Keying.TheVariants.{Gap}
use Rattle.yew_walk.specs.LogViews.{LogView}
use Rattle.yew_walk.specs.Outlets.{OutletCall}
use Rattle.yew_walk.specs.Scenes.{IsWalked, scene}
use Rattle.yew_crew.specs.OpenSeats.{OpenSeatView}
use Rattle.yew_crew.specs.Outlets.{SpawningView, KeepsSpawning, IsLaterSpawning}
use Rattle.yew_crew.specs.Stations.{searched, skeleton_of, Spawns, IfSteal, station}
use Rattle.yew_crew.specs.Working.{IsStep}
use Rattle.yew_crew.specs.declared.coord.Coord.{Coord}
use Rattle.yew_crew.specs.declared.coord.Coord.TheVariants.{Depth, Budget, Steal}
use Rattle.yew_crew.proofs.WholeSegments.{segment-broken, sent-there}
use Rattle.yew_crew.proofs.WalkedParts.{walk-parts, sent-dealt, same-length}

quiet : (coord : Coord) → Spawns coord → (fact : Part → Type 0) → IfSteal coord fact
quiet (Depth d) spawns fact = tt
quiet (Budget b) spawns fact = tt
quiet (Steal chunk) spawns fact = absurd spawns

-- all that is sent is spawned
pub sends-spawned : {N : Type 0} (t : SearchTree N) (coord : Coord) → Spawns coord → (x : Segment) → IsSegment t x → HasGroups (SkeletonGroup t (skeleton_of coord)) x.body → sent_paths x.body ≡ spawned_paths x.body
sends-spawned t (Depth d) spawns x is has = handed-depth t d x is has
sends-spawned t (Budget b) spawns x is has = handed-budget t b x is has
sends-spawned t (Steal chunk) spawns x is has = absurd spawns

paths-append : {N : Type 0} (xs ys : List (Task N)) → paths_of (xs ++ ys) ≡ paths_of xs ++ paths_of ys
paths-append [] ys = refl
paths-append (x ∷ xs) ys = ap (λ l. x.path.numbers ∷ l) (paths-append xs ys)

-- more tasks, as paths
pub paths-grow : {N : Type 0} (before after tasks : List (Task N)) (ps : List (List ℕ)) → SameBag after (before ++ tasks) → SameBag (paths_of tasks) ps → SameBag (paths_of after) (paths_of before ++ ps)
paths-grow before after tasks ps a b = same-trans (same-map (λ task. task.path.numbers) a) (same-trans (same-is (paths-append before tasks)) (same-append (same-refl (paths_of before)) b))

module _ {P N K S R Q : Type 0} (meaning : Ghosts P N K) (problem : P) (join : S → S → S) (none : S) (of : N → ℕ → S) (seen : R → LogView) (coord : Coord) (gap : ℕ) (policy : PolicyMeaning Q) where
  -- the walk, the tasks that it sent to the pool, and the one that it ended
  pub spawn-step : (task : List ℕ) (made : List OutletCall → Type 0) (number : ℕ) (mail : MailSeatView (Task N) (Members N)) (b0 b1 : SeatView) (h0 h1 : Hand S) (q0 q1 : Q) (o0 mid o1 : SpawningView P N) (answers0 answers1 : Option (List Bool)) (l0 l1 : R)
      → IsRanked (meaning.sound problem) (meaning.children problem) (meaning.rank problem) → meaning.sound problem (meaning.root problem) → IsSome (at_path (search_tree meaning problem) task)
      → Spawns coord
      → ((answers : List Bool) (body : List Note) → HasPolicy (search_tree meaning problem) policy q0 answers body → HasGroups (SkeletonGroup (search_tree meaning problem) (skeleton_of coord)) body)
      → ((x : Segment) → IsSegment (search_tree meaning problem) x → HasGroups (SkeletonGroup (search_tree meaning problem) (skeleton_of coord)) x.body → sent_paths x.body ≡ spawned_paths x.body)
      → IsWalked meaning problem (Gap gap) join of policy task none made (scene b0 h0 q0 o0.pass.put answers0 (seen l0)) (scene b1 h1 q1 mid.pass.put answers1 (seen l1))
      → KeepsSpawning o0 mid → IsLaterSpawning o0 mid → o1 ≡ record mid { tasks = record mid.tasks { ended = mid.tasks.ended + 1 } }
      → b1.best ≡ b0.best → b1.share ≡ b0.share → 65535 ≤ h1.path.space
      → IsStep (searched (search_tree meaning problem) join none of seen coord gap) task (station number b0 o0.pass mail o0.tasks h0 l0) (station number b1 o1.pass mail o1.tasks h1 l1)
  spawn-step task made number mail b0 b1 h0 h1 q0 q1 o0 mid o1 answers0 answers1 l0 l1 ranked root there spawns groups sends walked kept later ended seat_is share_is room =
      let s = searched (search_tree meaning problem) join none of seen coord gap in
      let w = walk-parts meaning problem s policy task made (scene b0 h0 q0 o0.pass.put answers0 (seen l0)) (scene b1 h1 q1 mid.pass.put answers1 (seen l1)) walked in
      let has = groups w.answers w.body w.policy_groups in
      let all_spawned = sends (segment task w.body) w.is_segment has in
      let pass_is : o1.pass ≡ mid.pass = ap (λ (o : SpawningView P N). o.pass) ended in
      let tasks_is : o1.tasks ≡ record mid.tasks { ended = mid.tasks.ended + 1 } = ap (λ (o : SpawningView P N). o.tasks) ended in
      let pass_now : o1.pass ≡ record o0.pass { put = mid.pass.put } = pass_is ∙ kept.pass in
      let put_grew : SameBag (paths_of o1.pass.put) (paths_of o0.pass.put ++ spawned_paths w.body) =
      same-trans (same-is (ap (λ (p : PassView (Task N) (Members N)). paths_of p.put) pass_is)) (paths-grow o0.pass.put mid.pass.put w.tasks (spawned_paths w.body) w.sent_are (same-trans w.tasks_are (same-is all_spawned))) in
      let none_handed : SameBag [] (handed_paths w.body) = record { weighs = λ h. (let a = sent-dealt h w.body in let b = ap (λ l. sum_by h l) all_spawned in omega arith) } in
      let mid_same = kept.tasks.same in
      record {
        body = w.body;
        members = w.members;
        put = spawned_paths w.body;
        given = [];
        walk = record { is_segment = w.is_segment; is_broken = segment-broken (search_tree meaning problem) ranked root (segment task w.body) w.is_segment there (sent-there (search_tree meaning problem) ranked root meaning problem refl w.tasks (sent_paths w.body) w.sound w.tasks_are); groups = has; rises = w.rises; judged = w.judged };
        moved = record {
          took_is = same-is (ap (λ (p : PassView (Task N) (Members N)). paths_of p.took) pass_now ∙ sym (append-none (paths_of o0.pass.took)));
          put_is = put_grew;
          got_is = same-is (sym (append-none (paths_of mail.got)));
          given_is = same-is (sym (append-none (paths_of mail.given)));
        };
        spawned_are = same-refl (spawned_paths w.body);
        handed_are = none_handed;
        goes = w.goes;
        log_is = w.log_is;
        are_visited = w.are_visited;
        sum_is = w.sum_is;
        best_is = w.best_is;
        made_is = counts o1.tasks.made mid.tasks.made (length o0.pass.put) o0.tasks.made (length mid.pass.put) _ _ _ _ (ap (λ (t : OpenSeatView). t.made) tasks_is) later.made (same-length w.sent_are) (length-append o0.pass.put w.tasks) (same-length w.tasks_are) (length-map w.tasks (λ (x : Task N). x.path.numbers)) (ap length all_spawned);
        ended_is = ap (λ (t : OpenSeatView). t.ended) tasks_is ∙ ap (λ (t : OpenSeatView). t.ended + 1) mid_same;
        no_stop = ap (λ (t : OpenSeatView). t.stops) tasks_is ∙ ap (λ (t : OpenSeatView). t.stops) mid_same;
        knows = λ k. ap (λ (t : OpenSeatView). t.knows) tasks_is ∙ kept.tasks.knows k;
        same = record {
          number = refl;
          best = seat_is;
          best_share = share_is;
          pool = ap (λ (p : PassView (Task N) (Members N)). p.pool) pass_now;
          pass_number = ap (λ (p : PassView (Task N) (Members N)). p.number) pass_now;
          pass_share = ap (λ (p : PassView (Task N) (Members N)). p.share) pass_now;
          pass_members = ap (λ (p : PassView (Task N) (Members N)). p.members) pass_now;
          mail = refl;
          mail_share = refl;
          mail_numbers = refl;
          mail_members = refl;
          tasks = ap (λ (t : OpenSeatView). t.tasks) tasks_is ∙ ap (λ (t : OpenSeatView). t.tasks) mid_same;
          tasks_share = ap (λ (t : OpenSeatView). t.share) tasks_is ∙ ap (λ (t : OpenSeatView). t.share) mid_same;
        };
        space = room;
        looks = quiet coord spawns _;
      }
    where
      append-none : {X : Type 0} (xs : List X) → xs ++ [] ≡ xs
      append-none [] = refl
      append-none (x ∷ xs) = ap (λ l. x ∷ l) (append-none xs)

      counts : (a b c d e g i j k : ℕ) {f : ℕ} → a ≡ b → b + c ≡ d + e → e ≡ f → f ≡ c + g → j ≡ i → j ≡ g → i ≡ k → a ≡ d + (k + 0)
      counts a b c d e g i j k p q r t u v x = omega arith
