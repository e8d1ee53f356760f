-- What one walk that came to its end gives a worker.
use Rattle.std.proofs.Common.{◌≡◌, ℕ, ◌+◌, ◌∙◌, List, [], ◌∷◌, ◌++◌, length, refl, sym, ap, subst, append-nil, arith, Bool}
use Rattle.std.specs.List.{AllByRecursion, sum_by}
use Rattle.std.specs.Option.{option_map}
use Rattle.std.proofs.lemmas.List.Sums.{sum_by-cons}
use Rattle.yew_laws.specs.declared.problem.Problem.{Ghosts}
use Rattle.yew_laws.specs.declared.problem.Task.{Task}
use Rattle.yew_laws.specs.Bag.{SameBag}
use Rattle.yew_laws.specs.Fold.{fold_of, of_member}
use Rattle.yew_laws.specs.SearchTree.{search_tree, IsTask}
use Rattle.yew_laws.specs.Tree.{Member}
use Rattle.yew_log.specs.HeldValues.{plain, HeldRises, IsJudged}
use Rattle.yew_log.specs.Notes.{Note, taken, visited, cut, spawned, handed, ended, visits, event_paths, sent_paths, spawned_paths, handed_paths}
use Rattle.yew_log.specs.Policies.{PolicyMeaning, HasPolicy}
use Rattle.yew_log.specs.Segment.{segment, IsSegment}
use Rattle.yew_stack.specs.Splits.{paths_of}
use Rattle.yew_walk.specs.declared.keying.Keying.TheVariants.{Plain, Gap}
use Rattle.yew_walk.specs.Hands.{incumbent_of, best_after, AreVisited}
use Rattle.yew_walk.specs.LogViews.{log_after}
use Rattle.yew_walk.specs.Outlets.{OutletCall}
use Rattle.yew_walk.specs.Scenes.{Scene, IsWalked}
use Rattle.yew_walk.specs.Seats.{SeatGoes}
use Rattle.yew_walk.proofs.BestVisits.{best_after-plain}
use Rattle.yew_crew.specs.Stations.{Searched}

pub ones : {X : Type 0} (xs : List X) → sum_by (λ _. 1) xs ≡ length xs
ones [] = refl
ones (x ∷ xs) = let s = sum_by-cons (λ _. 1) x xs in let r = ones xs in omega arith

pub same-length : {X : Type 0} {xs ys : List X} → SameBag xs ys → length xs ≡ length ys
same-length {X} {xs} {ys} b = sym (ones xs) ∙ (b.weighs (λ _. 1) ∙ ones ys)

-- what is sent is what is spawned and what is handed over
pub sent-dealt : (h : List ℕ → ℕ) (notes : List Note) → sum_by h (sent_paths notes) ≡ sum_by h (spawned_paths notes) + sum_by h (handed_paths notes)
sent-dealt h [] = refl
sent-dealt h (taken p ∷ ns) = sent-dealt h ns
sent-dealt h (visited p w k ∷ ns) = sent-dealt h ns
sent-dealt h (cut p b k ∷ ns) = sent-dealt h ns
sent-dealt h (ended p ∷ ns) = sent-dealt h ns
sent-dealt h (spawned p ∷ ns) = let r = sent-dealt h ns in let a = sum_by-cons h p (sent_paths ns) in let b = sum_by-cons h p (spawned_paths ns) in omega arith
sent-dealt h (handed p ∷ ns) = let r = sent-dealt h ns in let a = sum_by-cons h p (sent_paths ns) in let b = sum_by-cons h p (handed_paths ns) in omega arith

module _ {S N K Sum Q R : Type 0} (meaning : Ghosts S N K) (problem : S) (s : Searched Sum R N) (policy : PolicyMeaning Q) where
  -- what a walk gives, over the entries behind its Taken entry
  pub record WalkParts (task : List ℕ) (first now : Scene N Sum Q) : Type 0 where
    pub body : List Note
    pub members : List (Member N)
    pub tasks : List (Task N)
    pub answers : List Bool
    pub policy_groups : HasPolicy (search_tree meaning problem) policy first.state answers body
    pub is_segment : IsSegment (search_tree meaning problem) (segment task body)
    pub rises : HeldRises (taken task ∷ body)
    pub judged : IsJudged (search_tree meaning problem) s.gap plain (taken task ∷ body)
    pub goes : SeatGoes (search_tree meaning problem) (Gap s.gap) first.seat (taken task ∷ body) now.seat
    pub log_is : now.log ≡ log_after first.log (taken task ∷ body)
    pub are_visited : AreVisited (search_tree meaning problem) body members
    pub sum_is : now.hand.sum ≡ s.join first.hand.sum (fold_of s.join s.none (of_member s.of) members)
    pub best_is : incumbent_of now.hand ≡ best_after Plain (incumbent_of first.hand) (visits body)
    pub sent_are : SameBag now.sent (first.sent ++ tasks)
    pub tasks_are : SameBag (paths_of tasks) (sent_paths body)
    pub sound : AllByRecursion (λ task'. IsTask meaning problem task'.path.numbers task'.node) tasks
    pub answers_are : now.answers ≡ option_map (λ given. given ++ answers) first.answers

  pub walk-parts : (task : List ℕ) (made : List OutletCall → Type 0) (first now : Scene N Sum Q) → IsWalked meaning problem (Gap s.gap) s.join s.of policy task s.none made first now → WalkParts task first now
  walk-parts task made first now w =
      let t = search_tree meaning problem in
      let body = w.walk.body in
      let notes_are : w.notes ≡ taken task ∷ body = w.walk.one_segment ∙ append-nil (taken task ∷ body) in
      let seen = subst (λ notes. AreVisited t notes w.members) notes_are w.are_visited in
      record {
        body = body;
        members = w.members;
        tasks = w.tasks;
        answers = w.answers;
        policy_groups = record { one_each = w.one_each ∙ ap (λ notes. length (event_paths notes)) notes_are; groups = w.walk.keeps.groups.0 };
        is_segment = w.walk.keeps.each.0;
        rises = subst HeldRises (append-nil (taken task ∷ body)) w.walk.keeps.held_rises;
        judged = subst (IsJudged t s.gap plain) (append-nil (taken task ∷ body)) w.walk.keeps.due;
        goes = subst (λ notes. SeatGoes t (Gap s.gap) first.seat notes now.seat) notes_are w.goes;
        log_is = w.log_is ∙ ap (log_after first.log) notes_are;
        are_visited = record { paths_are = seen.paths_are; there = seen.there };
        sum_is = w.sum_is;
        best_is = w.best_is ∙ (best_after-plain (Gap s.gap) (incumbent_of first.hand) (visits w.notes) refl ∙ ap (λ notes. best_after Plain (incumbent_of first.hand) (visits notes)) notes_are);
        sent_are = w.sent_are;
        tasks_are = subst (λ notes. SameBag (paths_of w.tasks) (sent_paths notes)) notes_are w.tasks_are;
        sound = w.sound;
        answers_are = w.answers_are;
      }
