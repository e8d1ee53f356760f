-- The walk of a task by the keys of its number: what it leaves of the worker's station.
use Rattle.std.proofs.Common.{◌≡◌, ℕ, ◌≤◌, ◌∙◌, List, [], ◌∷◌, ◌++◌, None, length, refl, sym, ap, subst, append-nil, inl}
use Rattle.std.specs.Prelude.{IsSome}
use Rattle.yew_best.specs.Seats.{SeatView}
use Rattle.yew_crew.proofs.WholeSegments.{segment-broken, sent-there}
use Rattle.yew_laws.specs.Bag.{SameBag}
use Rattle.yew_laws.specs.SearchTree.{search_tree, at_path}
use Rattle.yew_laws.specs.Tree.{IsRanked}
use Rattle.yew_laws.specs.declared.problem.Problem.{Ghosts}
use Rattle.yew_laws.specs.declared.problem.Task.{Task}
use Rattle.yew_log.specs.HeldValues.{ranked, HeldRises, IsJudged}
use Rattle.yew_log.specs.Lawful.{IsBrokenWalk}
use Rattle.yew_log.specs.Notes.{taken, visits, sent_paths, event_paths}
use Rattle.yew_log.specs.Policies.{plain_policy}
use Rattle.yew_log.specs.Segment.{segment}
use Rattle.yew_log.proofs.PolicyRows.{plain-groups}
use Rattle.yew_stack.specs.Splits.{paths_of}
use Rattle.yew_walk.specs.declared.fault.SearchFault.{SearchFault}
use Rattle.yew_walk.specs.declared.fault.SearchFault.TheVariants.{Memory}
use Rattle.yew_walk.specs.declared.hand.Hand.{Hand}
use Rattle.yew_walk.specs.declared.keying.Keying.TheVariants.{Ranked}
use Rattle.yew_walk.specs.Hands.{incumbent_of, best_after, AreVisited}
use Rattle.yew_walk.specs.LogViews.{LogView, log_after}
use Rattle.yew_walk.specs.Outlets.{OutletCall}
use Rattle.yew_walk.specs.Scenes.{scene, IsWalked, IsRefused}
use Rattle.yew_walk.specs.Seats.{SeatGoes}
use Rattle.yew_ranked.specs.Tasks.{Numbered}
use Rattle.yew_ranked.specs.Turns.{IsTaskStep, IsBrokenStep}
use Rattle.yew_ranked.specs.declared.station.RankedStation.{RankedStation}

module _ {P N K S R : Type 0} (meaning : Ghosts P N K) (problem : P) (join : S → S → S) (none : S) (of : N → ℕ → S) (seen : R → LogView) (task : Numbered)
    (before : RankedStation S R) (best : SeatView) (hand : Hand S) (log : R) (sent0 sent : List (Task N)) where
  -- a walk that came to its end is a step of the worker
  pub task-walked : (path : List ℕ) → path ≡ task.path → (made : List OutletCall → Type 0)
      → IsRanked (meaning.sound problem) (meaning.children problem) (meaning.rank problem) → meaning.sound problem (meaning.root problem)
      → IsSome (at_path (search_tree meaning problem) task.path)
      → IsWalked meaning problem (Ranked task.rank) join of plain_policy path none made (scene before.best before.hand tt sent0 None (seen before.log)) (scene best hand tt sent None (seen log))
      → best.best ≡ before.best.best → best.share ≡ before.best.share → 65535 ≤ hand.path.space
      → IsTaskStep (search_tree meaning problem) join none of seen task before (record before { best = best; hand = hand; log = log })
  task-walked path is made ranks root there walked seat_is share_is room =
      by (subst (λ p. IsWalked meaning problem (Ranked task.rank) join of plain_policy p none made (scene before.best before.hand tt sent0 None (seen before.log))
      (scene best hand tt sent None (seen log))) is walked)
    where
      by : IsWalked meaning problem (Ranked task.rank) join of plain_policy task.path none made (scene before.best before.hand tt sent0 None (seen before.log)) (scene best hand tt sent None (seen log))
          → IsTaskStep (search_tree meaning problem) join none of seen task before (record before { best = best; hand = hand; log = log })
      by w =
          let body = w.walk.body in
          let notes_are : w.notes ≡ taken task.path ∷ body = w.walk.one_segment ∙ append-nil (taken task.path ∷ body) in
          let visited = subst (λ notes. AreVisited (search_tree meaning problem) notes w.members) notes_are w.are_visited in
          let tasks_are = subst (λ notes. SameBag (paths_of w.tasks) (sent_paths notes)) notes_are w.tasks_are in
          let is_segment = w.walk.keeps.each.0 in
          record {
            body = body;
            members = w.members;
            is_walk = record {
              keys = refl;
              task_is = refl;
              is_segment = is_segment;
              is_broken = segment-broken (search_tree meaning problem) ranks root (segment task.path body) is_segment there
                  (sent-there (search_tree meaning problem) ranks root meaning problem refl w.tasks (sent_paths body) w.sound tasks_are);
              groups = plain-groups (search_tree meaning problem) w.answers body
                  (record { one_each = w.one_each ∙ ap (λ notes. length (event_paths notes)) notes_are; groups = w.walk.keeps.groups.0 });
              rises = subst HeldRises (append-nil (taken task.path ∷ body)) w.walk.keeps.held_rises;
              judged = subst (IsJudged (search_tree meaning problem) 0 ranked) (append-nil (taken task.path ∷ body)) w.walk.keeps.due;
            };
            goes = subst (λ notes. SeatGoes (search_tree meaning problem) (Ranked task.rank) before.best notes best) notes_are w.goes;
            log_is = w.log_is ∙ ap (log_after (seen before.log)) notes_are;
            are_visited = record { paths_are = visited.paths_are; there = visited.there };
            sum_is = w.sum_is;
            best_is = w.best_is ∙ ap (λ notes. best_after (Ranked task.rank) (incumbent_of before.hand) (visits notes)) notes_are;
            moved = record { is_after = refl; best = seat_is; best_share = share_is };
            space = room;
          }

  -- and one that was refused is a broken step
  pub task-refused : (path : List ℕ) → path ≡ task.path → (fault : SearchFault)
      → IsRefused meaning problem (Ranked task.rank) join of plain_policy path (scene before.best before.hand tt sent0 None (seen before.log)) (scene best hand tt sent None (seen log)) fault
      → best.best ≡ before.best.best → best.share ≡ before.best.share
      → IsBrokenStep (search_tree meaning problem) join none of seen task fault before (record before { best = best; hand = hand; log = log })
  task-refused path is fault refused seat_is share_is =
      let r = subst (λ p. IsRefused meaning problem (Ranked task.rank) join of plain_policy p (scene before.best before.hand tt sent0 None (seen before.log)) (scene best hand tt sent None (seen log)) fault) is refused in
      record {
        notes = r.notes;
        ahead = r.ahead;
        goes = r.goes;
        log_is = r.log_is;
        keeps = r.keeps;
        keeps_ahead = r.keeps_ahead;
        cause = r.cause;
        moved = record { is_after = refl; best = seat_is; best_share = share_is };
      }

  -- there was no memory to begin the walk
  pub task-unopened : IsBrokenStep (search_tree meaning problem) join none of seen task Memory before before
  task-unopened = record {
    notes = [];
    ahead = [];
    goes = refl;
    log_is = refl;
    keeps = none-noted;
    keeps_ahead = none-noted;
    cause = tt;
    moved = record { is_after = refl; best = refl; best_share = refl };
  }
    where
      none-noted : IsBrokenWalk (search_tree meaning problem) 0 ranked task.path []
      none-noted = record {
        keeps = record {
          segments = [];
          cut_up = refl;
          each = tt;
          only_last = tt;
          held_rises = tt;
          due = record { visits_due = tt; cuts_below = tt; cuts_permitted = tt };
        };
        of_task = inl refl;
      }
