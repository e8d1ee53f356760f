-- One walk of a worker that hands its tasks to the workers that ask it.
use Rattle.std.proofs.Common.{◌≡◌, ℕ, ◌+◌, ◌∙◌, List, [], ◌∷◌, ◌++◌, length, map, refl, sym, ap, subst, arith, Bool, Some}
use Rattle.std.specs.Prelude.{IsSome, ◌≤◌, true, false}
use Rattle.std.specs.List.{sum_by, flat_map}
use Rattle.std.proofs.lemmas.List.{length-append, length-map}
use Rattle.std.proofs.lemmas.List.Concat.{flat_map-append}
use Rattle.yew_best.specs.Seats.{SeatView}
use Rattle.yew_laws.specs.declared.problem.Problem.{Ghosts}
use Rattle.yew_laws.specs.Tasks.{Members}
use Rattle.yew_laws.specs.declared.problem.Task.{Task}
use Rattle.yew_laws.specs.Bag.{SameBag}
use Rattle.yew_laws.specs.SearchTree.{search_tree, at_path}
use Rattle.yew_laws.specs.Tree.{IsRanked}
use Rattle.yew_log.proofs.SentKinds.{spawned-steal}
use Rattle.yew_log.proofs.PolicyRows.{hungry-groups}
use Rattle.yew_laws.proofs.Bags.{same-trans, same-refl, same-is}
use Rattle.yew_log.specs.Groups.{Part, HasGroups, SkeletonGroup, by_steal}
use Rattle.yew_log.specs.Notes.{Note, spawned_paths, handed_paths, sent_paths}
use Rattle.yew_log.specs.Policies.{HasPolicy, PolicyGroup, hungry_policy}
use Rattle.yew_log.specs.Segment.{segment}
use Rattle.yew_mail.specs.Seats.{SeatView as MailSeatView}
use Rattle.yew_mail.specs.Views.{first_of}
use Rattle.yew_mail.specs.declared.boxes.Seen.{Seen}
use Rattle.yew_mail.specs.declared.view.Found.{Found}
use Rattle.yew_pool.specs.Passes.{PassView}
use Rattle.yew_stack.specs.Splits.{paths_of}
use Rattle.yew_stack.specs.declared.stacks.Chunk.{Chunk}
use Rattle.yew_walk.specs.Dealt.{part_of_chunk}
use Rattle.yew_walk.specs.declared.hand.Hand.{Hand}
use Rattle.yew_walk.specs.declared.keying.Keying.TheVariants.{Gap}
use Rattle.yew_walk.specs.LogViews.{LogView}
use Rattle.yew_walk.specs.Outlets.{OutletCall}
use Rattle.yew_walk.specs.Scenes.{IsRefused, IsWalked, scene}
use Rattle.yew_walk.specs.declared.fault.SearchFault.{SearchFault}
use Rattle.yew_crew.specs.Looks.{is_asked, looked, AreLooksOf}
use Rattle.yew_crew.specs.OpenSeats.{OpenSeatView}
use Rattle.yew_crew.specs.Outlets.{HandingView, KeepsHanding, IsLaterHanding, answers_of, looks_at}
use Rattle.yew_crew.specs.Stations.{searched, station}
use Rattle.yew_crew.specs.Working.{IsStep, IsBrokenStep}
use Rattle.yew_crew.specs.declared.coord.Coord.TheVariants.{Steal}
use Rattle.yew_crew.proofs.SpawnStep.{paths-grow}
use Rattle.yew_crew.proofs.WholeSegments.{segment-broken, sent-there}
use Rattle.yew_crew.proofs.WalkedParts.{walk-parts, sent-dealt, same-length}

seen-there : (number : ℕ) (looks : List Seen) → flat_map (λ (e : Found). looked e.call e.seen) (looks_at number looks) ≡ looks
seen-there number [] = refl
seen-there number (x ∷ xs) = ap (λ l. x ∷ l) (seen-there number xs)

map-append : {X Y : Type 0} (f : X → Y) (xs ys : List X) → map f (xs ++ ys) ≡ map f xs ++ map f ys
map-append f [] ys = refl
map-append f (x ∷ xs) ys = ap (λ l. f x ∷ l) (map-append f xs ys)

-- the answers of more looks
pub answers-looks : (entries : List Found) (number : ℕ) (looks : List Seen) → answers_of (entries ++ looks_at number looks) ≡ answers_of entries ++ map is_asked looks
answers-looks entries number looks =
    let seen = λ (e : Found). looked e.call e.seen in
    ap (map is_asked) (flat_map-append seen entries (looks_at number looks) ∙ ap (λ l. flat_map seen entries ++ l) (seen-there number looks))
    ∙ map-append is_asked (flat_map seen entries) looks

same-end : {X : Type 0} (xs ys zs : List X) → xs ++ ys ≡ xs ++ zs → ys ≡ zs
same-end [] ys zs e = e
same-end (x ∷ xs) ys zs e = same-end xs ys zs (let f : xs ++ ys ≡ xs ++ zs = cc in f)

some-is : {X : Type 0} (x y : X) → Some x ≡ Some y → x ≡ y
some-is x y e = cc

append-none : {X : Type 0} (xs : List X) → xs ++ [] ≡ xs
append-none [] = refl
append-none (x ∷ xs) = ap (λ l. x ∷ l) (append-none xs)

module _ {P N K S R : Type 0} (meaning : Ghosts P N K) (problem : P) (join : S → S → S) (none : S) (of : N → ℕ → S) (seen : R → LogView) (chunk : Chunk) (gap : ℕ) where
  -- the looks of a walk, by its answers
  looks-of : (body : List Note) (answers : List Bool) (before after : HandingView P N) → HasPolicy (search_tree meaning problem) hungry_policy (part_of_chunk chunk) answers body → (later : IsLaterHanding before after)
      → Some (answers_of after.seat.found) ≡ Some (answers_of before.seat.found ++ answers) → AreLooksOf (search_tree meaning problem) (part_of_chunk chunk) body later.looks
  looks-of body answers before after has later are =
      let t = search_tree meaning problem in
      let number = first_of before.seat.numbers in
      let both : answers_of before.seat.found ++ answers ≡ answers_of before.seat.found ++ map is_asked later.looks =
      sym (some-is _ _ are) ∙ (ap answers_of later.found_are ∙ answers-looks before.seat.found number later.looks) in
      let is : answers ≡ map is_asked later.looks = same-end (answers_of before.seat.found) answers (map is_asked later.looks) both in
      record {
        one_each = sym (length-map later.looks is_asked) ∙ (sym (ap length is) ∙ has.one_each);
        groups = subst (λ l. HasGroups (PolicyGroup t hungry_policy (part_of_chunk chunk) l) body) is has.groups;
        never_shut_twice = (later.opened false (λ (e : false ≡ true). absurd cc)).0;
      }

  -- the walk, the tasks that it handed to others, and the one that it ended
  pub hand-step : (task : List ℕ) (made : List OutletCall → Type 0) (number : ℕ) (pass : PassView (Task N) (Members N)) (b0 b1 : SeatView) (h0 h1 : Hand S) (q0 q1 : Part) (o0 mid o1 : HandingView P N) (l0 l1 : R)
      → IsRanked (meaning.sound problem) (meaning.children problem) (meaning.rank problem) → meaning.sound problem (meaning.root problem) → IsSome (at_path (search_tree meaning problem) task)
      → q0 ≡ part_of_chunk chunk
      → IsWalked meaning problem (Gap gap) join of hungry_policy task none made
      (scene b0 h0 q0 o0.seat.given (Some (answers_of o0.seat.found)) (seen l0)) (scene b1 h1 q1 mid.seat.given (Some (answers_of mid.seat.found)) (seen l1))
      → KeepsHanding o0 mid → IsLaterHanding o0 mid → o1 ≡ record mid { tasks = record mid.tasks { ended = mid.tasks.ended + 1 } }
      → b1.best ≡ b0.best → b1.share ≡ b0.share → 65535 ≤ h1.path.space
      → IsStep (searched (search_tree meaning problem) join none of seen (Steal chunk) gap) task (station number b0 pass o0.seat o0.tasks h0 l0) (station number b1 pass o1.seat o1.tasks h1 l1)
  hand-step task made number pass b0 b1 h0 h1 q0 q1 o0 mid o1 l0 l1 ranked root there chunk_is walked kept later ended seat_is share_is room =
      let t = search_tree meaning problem in
      let s = searched t join none of seen (Steal chunk) gap in
      let w = walk-parts meaning problem s hungry_policy task made (scene b0 h0 q0 o0.seat.given (Some (answers_of o0.seat.found)) (seen l0)) (scene b1 h1 q1 mid.seat.given (Some (answers_of mid.seat.found)) (seen l1)) walked in
      let policy : HasPolicy t hungry_policy (part_of_chunk chunk) w.answers w.body = subst (λ q. HasPolicy t hungry_policy q w.answers w.body) chunk_is w.policy_groups in
      let has : HasGroups (SkeletonGroup t (by_steal (part_of_chunk chunk))) w.body = hungry-groups t w.answers w.body (part_of_chunk chunk) policy in
      let all_handed = spawned-steal t (part_of_chunk chunk) (segment task w.body) w.is_segment has in
      let seat_now : o1.seat ≡ mid.seat = ap (λ (o : HandingView P N). o.seat) ended in
      let tasks_is : o1.tasks ≡ record mid.tasks { ended = mid.tasks.ended + 1 } = ap (λ (o : HandingView P N). o.tasks) ended in
      let mail_now : o1.seat ≡ record o0.seat { given = mid.seat.given; found = mid.seat.found; own = mid.seat.own } = seat_now ∙ kept.seat in
      let given_grew : SameBag (paths_of o1.seat.given) (paths_of o0.seat.given ++ handed_paths w.body) =
      same-trans (same-is (ap (λ (m : MailSeatView (Task N) (Members N)). paths_of m.given) seat_now)) (paths-grow o0.seat.given mid.seat.given w.tasks (handed_paths w.body) w.sent_are (same-trans w.tasks_are (same-is all_handed))) in
      let none_spawned : SameBag [] (spawned_paths w.body) = record { weighs = λ h. (let a = sent-dealt h w.body in let b = ap (λ l. sum_by h l) all_handed in omega arith) } in
      let mid_same = kept.tasks.same in
      record {
        body = w.body;
        members = w.members;
        put = [];
        given = handed_paths w.body;
        walk = record { is_segment = w.is_segment; is_broken = segment-broken t ranked root (segment task w.body) w.is_segment there (sent-there t ranked root meaning problem refl w.tasks (sent_paths w.body) w.sound w.tasks_are); groups = has; rises = w.rises; judged = w.judged };
        moved = record {
          took_is = same-is (sym (append-none (paths_of pass.took)));
          put_is = same-is (sym (append-none (paths_of pass.put)));
          got_is = same-is (ap (λ (m : MailSeatView (Task N) (Members N)). paths_of m.got) mail_now ∙ sym (append-none (paths_of o0.seat.got)));
          given_is = given_grew;
        };
        spawned_are = none_spawned;
        handed_are = same-refl (handed_paths w.body);
        goes = w.goes;
        log_is = w.log_is;
        are_visited = w.are_visited;
        sum_is = w.sum_is;
        best_is = w.best_is;
        made_is = counts o1.tasks.made mid.tasks.made (length o0.seat.given) o0.tasks.made (length mid.seat.given) _ _ _ _ (ap (λ (t : OpenSeatView). t.made) tasks_is) later.made (same-length w.sent_are) (length-append o0.seat.given w.tasks) (same-length w.tasks_are) (length-map w.tasks (λ (x : Task N). x.path.numbers)) (ap length all_handed);
        ended_is = ap (λ (t : OpenSeatView). t.ended) tasks_is ∙ ap (λ (t : OpenSeatView). t.ended + 1) mid_same;
        no_stop = ap (λ (t : OpenSeatView). t.stops) tasks_is ∙ ap (λ (t : OpenSeatView). t.stops) mid_same;
        knows = λ k. ap (λ (t : OpenSeatView). t.knows) tasks_is ∙ kept.tasks.knows k;
        same = record {
          number = refl;
          best = seat_is;
          best_share = share_is;
          pool = refl;
          pass_number = refl;
          pass_share = refl;
          pass_members = refl;
          mail = ap (λ (m : MailSeatView (Task N) (Members N)). m.mail) mail_now;
          mail_share = ap (λ (m : MailSeatView (Task N) (Members N)). m.share) mail_now;
          mail_numbers = ap (λ (m : MailSeatView (Task N) (Members N)). m.numbers) mail_now;
          mail_members = ap (λ (m : MailSeatView (Task N) (Members N)). m.members) mail_now;
          tasks = ap (λ (t : OpenSeatView). t.tasks) tasks_is ∙ ap (λ (t : OpenSeatView). t.tasks) mid_same;
          tasks_share = ap (λ (t : OpenSeatView). t.share) tasks_is ∙ ap (λ (t : OpenSeatView). t.share) mid_same;
        };
        space = room;
        looks = (later.looks, ap (λ (m : MailSeatView (Task N) (Members N)). m.found) seat_now ∙ later.found_are, looks-of w.body w.answers o0 mid policy later w.answers_are);
      }
    where
      counts : (a b c d e g i j k : ℕ) {f : ℕ} → a ≡ b → b + c ≡ d + e → e ≡ f → f ≡ c + g → j ≡ i → j ≡ g → i ≡ k → a ≡ d + (0 + k)
      counts a b c d e g i j k p q r t u v x = omega arith

  -- a refused walk, and the tasks that it had handed to others
  pub hand-broken : (task : List ℕ) (fault : SearchFault) (number : ℕ) (pass : PassView (Task N) (Members N)) (b0 b1 : SeatView) (h0 h1 : Hand S) (q0 q1 : Part) (o0 o1 : HandingView P N) (l0 l1 : R)
      → IsRefused meaning problem (Gap gap) join of hungry_policy task
      (scene b0 h0 q0 o0.seat.given (Some (answers_of o0.seat.found)) (seen l0)) (scene b1 h1 q1 o1.seat.given (Some (answers_of o1.seat.found)) (seen l1)) fault
      → KeepsHanding o0 o1 → b1.best ≡ b0.best → b1.share ≡ b0.share
      → IsBrokenStep (searched (search_tree meaning problem) join none of seen (Steal chunk) gap) task fault (station number b0 pass o0.seat o0.tasks h0 l0) (station number b1 pass o1.seat o1.tasks h1 l1)
  hand-broken task fault number pass b0 b1 h0 h1 q0 q1 o0 o1 l0 l1 refused kept seat_is share_is = record {
    notes = refused.notes;
    ahead = refused.ahead;
    put = [];
    given = paths_of refused.tasks;
    moved = record {
      took_is = same-is (sym (append-none (paths_of pass.took)));
      put_is = same-is (sym (append-none (paths_of pass.put)));
      got_is = same-is (ap (λ (m : MailSeatView (Task N) (Members N)). paths_of m.got) kept.seat ∙ sym (append-none (paths_of o0.seat.got)));
      given_is = paths-grow o0.seat.given o1.seat.given refused.tasks (paths_of refused.tasks) refused.sent_are (same-refl (paths_of refused.tasks));
    };
    log_is = refused.log_is;
    keeps = refused.keeps;
    keeps_ahead = refused.keeps_ahead;
    part = refused.part;
    goes = refused.goes;
    sent_are = refused.noted;
    cause = refused.cause;
    no_stop = ap (λ (t : OpenSeatView). t.stops) kept.tasks.same;
    same = record {
      number = refl;
      best = seat_is;
      best_share = share_is;
      pool = refl;
      pass_number = refl;
      pass_share = refl;
      pass_members = refl;
      mail = ap (λ (m : MailSeatView (Task N) (Members N)). m.mail) kept.seat;
      mail_share = ap (λ (m : MailSeatView (Task N) (Members N)). m.share) kept.seat;
      mail_numbers = ap (λ (m : MailSeatView (Task N) (Members N)). m.numbers) kept.seat;
      mail_members = ap (λ (m : MailSeatView (Task N) (Members N)). m.members) kept.seat;
      tasks = ap (λ (t : OpenSeatView). t.tasks) kept.tasks.same;
      tasks_share = ap (λ (t : OpenSeatView). t.share) kept.tasks.same;
    };
  }
