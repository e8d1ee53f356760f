-- How a worker begins, takes tasks, and makes calls that change nothing of its work.
use Rattle.std.proofs.Common.{◌≡◌, ℕ, ◌∙◌, List, [], ◌∷◌, ◌++◌, refl, sym, ap, append-nil, arith}
use Rattle.std.specs.Prelude.{◌≤◌}
use Rattle.std.proofs.lemmas.List.Sums.{sum_by-append, sum_by-cons}
use Rattle.yew_laws.specs.Bag.{SameBag}
use Rattle.yew_laws.specs.Fold.{IsTally}
use Rattle.yew_laws.specs.Tasks.{Members}
use Rattle.yew_laws.specs.declared.problem.Task.{Task}
use Rattle.yew_laws.proofs.Bags.{same-refl, same-is, same-map, same-trans}
use Rattle.yew_log.specs.Lawful.{tasks_of}
use Rattle.yew_mail.specs.declared.view.Found.{Found}
use Rattle.yew_pool.specs.Passes.{PassView, HasTaken}
use Rattle.yew_stack.specs.Splits.{paths_of}
use Rattle.yew_crew.specs.Looks.{HasLooked}
use Rattle.yew_crew.specs.OpenSeats.{OpenSeatView}
use Rattle.yew_crew.specs.Stations.{Searched, IfSteal, IsSameStation}
use Rattle.yew_crew.specs.Working.{IsWorking}
use Rattle.yew_crew.specs.declared.coord.Coord.{Coord}
use Rattle.yew_crew.specs.declared.coord.Coord.TheVariants.{Depth, Budget, Steal}
use Rattle.yew_crew.specs.declared.station.Station.{Station}

pub stays : {X : Type 0} (xs : List X) → SameBag xs (xs ++ [])
stays xs = same-is (sym (append-nil xs))

module _ {N S R : Type 0} where
  pub same-itself : (a : Station N S R) → IsSameStation a a
  same-itself a = record {
    number = refl;
    best = refl;
    best_share = refl;
    pool = refl;
    pass_number = refl;
    pass_share = refl;
    pass_members = refl;
    mail = refl;
    mail_share = refl;
    mail_numbers = refl;
    mail_members = refl;
    tasks = refl;
    tasks_share = refl;
  }

  module _ (s : Searched S R N) where
    none-looked : (coord : Coord) (a : Station N S R) → IfSteal coord (λ part. (found : List Found) × (a.mail.found ≡ a.mail.found ++ found) × HasLooked s.tree part found [])
    none-looked (Depth d) a = tt
    none-looked (Budget b) a = tt
    none-looked (Steal chunk) a = ([], sym (append-nil a.mail.found), record { looks = []; each = tt; busy = refl; settled = refl })

    -- a worker that has done nothing yet
    pub work-begins : {fits : S → Type 0} → IsTally fits s.join s.none → (a : Station N S R) → fits a.hand.sum → 65535 ≤ a.hand.path.space → IsWorking s [] a a
    work-begins tally a f room = record {
      segments = [];
      members = [];
      took = [];
      put = [];
      got = [];
      given = [];
      walks = tt;
      moved = record { took_is = stays (paths_of a.pool.took); put_is = stays (paths_of a.pool.put); got_is = stays (paths_of a.mail.got); given_is = stays (paths_of a.mail.given) };
      taken_are = same-refl [];
      spawned_are = same-refl [];
      handed_are = same-refl [];
      goes = refl;
      log_is = refl;
      are_visited = record { paths_are = refl; there = tt };
      sum_is = sym (tally.comm a.hand.sum s.none f tally.none_fits ∙ tally.unit a.hand.sum f);
      best_is = refl;
      made_is = omega arith;
      ended_is = omega arith;
      no_stop = refl;
      knows = λ k. k;
      same = same-itself a;
      space = room;
      looks = none-looked s.coord a;
    }

    -- its pass took a task, which it has still to walk
    pub work-took : (rest : List (List ℕ)) (first before : Station N S R) (pass : PassView (Task N) (Members N)) (task : Task N) → IsWorking s rest first before → HasTaken before.pool task pass → IsWorking s (task.path.numbers ∷ rest) first (record before { pool = pass })
    work-took rest first before pass task w h =
        let is = h.same in
        record {
          segments = w.segments;
          members = w.members;
          took = task.path.numbers ∷ w.took;
          put = w.put;
          got = w.got;
          given = w.given;
          walks = w.walks;
          moved = record {
            took_is = record {
              weighs = λ x. (
                  let a = (same-map (λ (t : Task N). t.path.numbers) h.took).weighs x in
                  let b = w.moved.took_is.weighs x in
                  let c = sum_by-cons x task.path.numbers (paths_of before.pool.took) in
                  let d = sum_by-cons x task.path.numbers w.took in
                  let e = sum_by-append x (paths_of first.pool.took) w.took in
                  let g = sum_by-append x (paths_of first.pool.took) (task.path.numbers ∷ w.took) in omega arith);
            };
            put_is = same-trans (same-is (ap (λ (p : PassView (Task N) (Members N)). paths_of p.put) is)) w.moved.put_is;
            got_is = w.moved.got_is;
            given_is = w.moved.given_is;
          };
          taken_are = record {
            weighs = λ x. (
                let a = w.taken_are.weighs x in
                let b = sum_by-cons x task.path.numbers (w.took ++ w.got) in
                let c = sum_by-append x (tasks_of w.segments) rest in
                let d = sum_by-append x (tasks_of w.segments) (task.path.numbers ∷ rest) in
                let e = sum_by-cons x task.path.numbers rest in omega arith);
          };
          spawned_are = w.spawned_are;
          handed_are = w.handed_are;
          goes = w.goes;
          log_is = w.log_is;
          are_visited = w.are_visited;
          sum_is = w.sum_is;
          best_is = w.best_is;
          made_is = w.made_is;
          ended_is = w.ended_is;
          no_stop = w.no_stop;
          knows = w.knows;
          same = record {
            number = w.same.number;
            best = w.same.best;
            best_share = w.same.best_share;
            pool = ap (λ (p : PassView (Task N) (Members N)). p.pool) is ∙ w.same.pool;
            pass_number = ap (λ (p : PassView (Task N) (Members N)). p.number) is ∙ w.same.pass_number;
            pass_share = ap (λ (p : PassView (Task N) (Members N)). p.share) is ∙ w.same.pass_share;
            pass_members = ap (λ (p : PassView (Task N) (Members N)). p.members) is ∙ w.same.pass_members;
            mail = w.same.mail;
            mail_share = w.same.mail_share;
            mail_numbers = w.same.mail_numbers;
            mail_members = w.same.mail_members;
            tasks = w.same.tasks;
            tasks_share = w.same.tasks_share;
          };
          space = w.space;
          looks = w.looks;
        }

    -- its seat at the open tasks loaded a word, or its pass found deques empty
    pub work-quiet : (rest : List (List ℕ)) (first before : Station N S R) (tasks : OpenSeatView) (empty : List ℕ) → IsWorking s rest first before
        → tasks ≡ record before.tasks { last = tasks.last; knew = tasks.knew; saw = tasks.saw } → IsWorking s rest first (record before { pool = record before.pool { found_empty = empty }; tasks = tasks })
    work-quiet rest first before tasks empty w is = record {
      segments = w.segments;
      members = w.members;
      took = w.took;
      put = w.put;
      got = w.got;
      given = w.given;
      walks = w.walks;
      moved = record { took_is = w.moved.took_is; put_is = w.moved.put_is; got_is = w.moved.got_is; given_is = w.moved.given_is };
      taken_are = w.taken_are;
      spawned_are = w.spawned_are;
      handed_are = w.handed_are;
      goes = w.goes;
      log_is = w.log_is;
      are_visited = w.are_visited;
      sum_is = w.sum_is;
      best_is = w.best_is;
      made_is = ap (λ (t : OpenSeatView). t.made) is ∙ w.made_is;
      ended_is = ap (λ (t : OpenSeatView). t.ended) is ∙ w.ended_is;
      no_stop = ap (λ (t : OpenSeatView). t.stops) is ∙ w.no_stop;
      knows = λ k. ap (λ (t : OpenSeatView). t.knows) is ∙ w.knows k;
      same = record {
        number = w.same.number;
        best = w.same.best;
        best_share = w.same.best_share;
        pool = w.same.pool;
        pass_number = w.same.pass_number;
        pass_share = w.same.pass_share;
        pass_members = w.same.pass_members;
        mail = w.same.mail;
        mail_share = w.same.mail_share;
        mail_numbers = w.same.mail_numbers;
        mail_members = w.same.mail_members;
        tasks = ap (λ (t : OpenSeatView). t.tasks) is ∙ w.same.tasks;
        tasks_share = ap (λ (t : OpenSeatView). t.share) is ∙ w.same.tasks_share;
      };
      space = w.space;
      looks = w.looks;
    }
