-- What the calls of a handing outlet leave.
use Rattle.std.proofs.Common.{◌≡◌, ℕ, ◌++◌, ◌∙◌, List, [], ◌∷◌, length, map, refl, sym, ap, subst, arith, Option, Some, inl, inr}
use Rattle.std.specs.Prelude.{◌⊎◌, true, false}
use Rattle.std.specs.List.{AllByRecursion, flat_map}
use Rattle.std.proofs.lemmas.List.Concat.{flat_map-append}
use Rattle.yew_laws.specs.Tasks.{Members, members_of, IsAmong}
use Rattle.yew_laws.specs.SearchTree.{search_tree, IsTask}
use Rattle.yew_laws.specs.Tree.{IsRanked}
use Rattle.yew_laws.specs.declared.problem.Problem.{Ghosts}
use Rattle.yew_laws.specs.declared.problem.Task.{Task}
use Rattle.yew_laws.proofs.Members.{AllByRecursion-weaker}
use Rattle.yew_laws.proofs.TaskMembers.{among-task, task-among}
use Rattle.yew_mail.specs.Seats.{SeatView}
use Rattle.yew_mail.specs.Tasks.{AreSoundFor}
use Rattle.yew_mail.specs.Views.{first_of, found}
use Rattle.yew_mail.specs.declared.boxes.Seen.{Seen}
use Rattle.yew_mail.specs.declared.boxes.Seen.TheVariants.{Shut, Ready, Asked, Given, Denied}
use Rattle.yew_mail.specs.declared.view.Call.TheVariants.{Look}
use Rattle.yew_mail.specs.declared.view.Found.{Found}
use Rattle.yew_mail.specs.declared.view.OwnBox.{OwnBox}
use Rattle.yew_mail.specs.declared.view.OwnBox.TheVariants.{Waiting}
use Rattle.yew_crew.specs.Looks.{is_asked, is_shut, looked}
use Rattle.yew_crew.specs.OpenSeats.{OpenSeatView}
use Rattle.yew_crew.specs.Outlets.{HandingView, KeepsHanding, IsLaterHanding, answers_of}

module _ {S N K : Type 0} (meaning : Ghosts S N K) (problem : S) (ranked : IsRanked (meaning.sound problem) (meaning.children problem) (meaning.rank problem))
    (root : meaning.sound problem (meaning.root problem)) (about : Option (Members N)) (told : about ≡ Some (members_of (search_tree meaning problem))) where
  -- the tasks of a problem are sound for a seat that knows the members of its tree
  pub tasks-sound_for : (tasks : List (Task N)) → AllByRecursion (λ (task : Task N). IsTask meaning problem task.path.numbers task.node) tasks → AreSoundFor IsAmong about tasks
  tasks-sound_for tasks all = λ members is.
      let same : members_of (search_tree meaning problem) ≡ members = cc in
      subst (λ ms. AllByRecursion (IsAmong ms) tasks) same
      (AllByRecursion-weaker _ _ (λ task t. task-among (search_tree meaning problem) ranked root task t.found) tasks all)

  -- and what is sound for it are tasks of the problem
  pub sound_for-tasks : (tasks : List (Task N)) → AreSoundFor IsAmong about tasks → AllByRecursion (λ (task : Task N). IsTask meaning problem task.path.numbers task.node) tasks
  sound_for-tasks tasks sound = AllByRecursion-weaker _ _
      (λ task among. let is = among-task (search_tree meaning problem) ranked root task among in record { is_sound = is.0; found = is.1 })
      tasks (sound (members_of (search_tree meaning problem)) told)

-- the answer of one more look
pub answers-look : (entries : List Found) (number : ℕ) (seen : Seen) → answers_of (entries ++ found Look number seen ∷ []) ≡ answers_of entries ++ is_asked seen ∷ []
answers-look [] number seen = refl
answers-look (x ∷ xs) number seen = answers-more (looked x.call x.seen)
  where
    front : (seens : List Seen) (rest more : List Seen) → map is_asked (seens ++ (rest ++ more)) ≡ map is_asked (seens ++ rest) ++ map is_asked more
    front [] [] more = refl
    front [] (r ∷ rs) more = ap (λ l. is_asked r ∷ l) (front [] rs more)
    front (s ∷ ss) rest more = ap (λ l. is_asked s ∷ l) (front ss rest more)

    answers-more : (seens : List Seen) → map is_asked (seens ++ flat_map (λ (e : Found). looked e.call e.seen) (xs ++ found Look number seen ∷ [])) ≡ map is_asked (seens ++ flat_map (λ (e : Found). looked e.call e.seen) xs) ++ is_asked seen ∷ []
    answers-more seens = ap (λ l. map is_asked (seens ++ l)) (flat_map-append (λ (e : Found). looked e.call e.seen) xs (found Look number seen ∷ []))
        ∙ front seens (flat_map (λ (e : Found). looked e.call e.seen) xs) (seen ∷ [])

module _ {P N : Type 0} (before after : HandingView P N) (s : SeatView (Task N) (Members N)) (t : OpenSeatView) (seat_was : before.seat ≡ s) (tasks_were : before.tasks ≡ t) where
  -- one look, after which the box is open where it was seen shut
  pub looked-later : (seen : Seen) (own : OwnBox) → after.tasks ≡ t → after.seat ≡ record s { found = s.found ++ found Look (first_of s.numbers) seen ∷ []; own = own }
      → (s.own ≡ Waiting → (seen ≡ Ready) ⊎ ((worker : ℕ) × (seen ≡ Asked worker))) → (is_shut seen ≡ true → own ≡ Waiting) → IsLaterHanding before after
  looked-later seen own tasks seat waits opens = record {
    made = (
        let a = ap (λ (o : OpenSeatView). o.made) (tasks ∙ sym tasks_were) in
        let b = ap (λ (m : SeatView (Task N) (Members N)). length m.given) seat in let c = ap (λ (m : SeatView (Task N) (Members N)). length m.given) seat_was in omega arith);
    numbers = ap (λ (m : SeatView (Task N) (Members N)). m.numbers) (seat) ∙ ap (λ (m : SeatView (Task N) (Members N)). m.numbers) (sym seat_was);
    looks = seen ∷ [];
    found_are = ap (λ (m : SeatView (Task N) (Members N)). m.found) seat ∙ ap (λ (m : SeatView (Task N) (Members N)). m.found ++ found Look (first_of m.numbers) seen ∷ []) (sym seat_was);
    opened = λ shut is. (
      ((λ e. not-seen (waits (ap (λ (m : SeatView (Task N) (Members N)). m.own) (sym seat_was) ∙ is e))), tt),
      λ e. ap (λ (m : SeatView (Task N) (Members N)). m.own) seat ∙ opens e,
    );
  }
    where
      not-seen : (seen ≡ Ready) ⊎ ((worker : ℕ) × (seen ≡ Asked worker)) → is_shut seen ≡ false
      not-seen (inl e) = ap is_shut e
      not-seen (inr e) = ap is_shut e.1

  -- what every call keeps
  pub handing-keeps : (given : List (Task N)) (entries : List Found) (own : OwnBox) → after.problem ≡ before.problem → after.seat ≡ record s { given = given; found = entries; own = own }
      → after.tasks ≡ record t { made = after.tasks.made; knows = after.tasks.knows } → (t.knows ≡ true → after.tasks.knows ≡ true) → KeepsHanding before after
  handing-keeps given entries own problem seat tasks knows = record {
    problem = problem;
    seat = seat ∙ (ap (λ (m : SeatView (Task N) (Members N)). record m { given = given; found = entries; own = own }) (sym seat_was)
        ∙ ap (λ (m : SeatView (Task N) (Members N)). record before.seat { given = m.given; found = m.found; own = m.own }) (sym seat));
    tasks = record {
      same = tasks ∙ ap (λ (o : OpenSeatView). record o { made = after.tasks.made; knows = after.tasks.knows }) (sym tasks_were);
      knows = λ k. knows (ap (λ (o : OpenSeatView). o.knows) (sym tasks_were) ∙ k);
    };
  }

-- a box that was not seen shut
pub not-shut : (seen : Seen) → (seen ≡ Shut → ⊥) → is_shut seen ≡ true → ⊥
not-shut Shut other e = other refl
not-shut Ready other e = cc
not-shut (Asked worker) other e = cc
not-shut (Given worker) other e = cc
not-shut (Denied worker) other e = cc

-- a box in which nobody was seen to ask
pub not-asked : (seen : Seen) → ((worker : ℕ) → seen ≡ Asked worker → ⊥) → is_asked seen ≡ false
not-asked Shut other = refl
not-asked Ready other = refl
not-asked (Asked worker) other = absurd (other worker refl)
not-asked (Given worker) other = refl
not-asked (Denied worker) other = refl
