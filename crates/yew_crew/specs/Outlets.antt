-- Where a worker's walks send their tasks: what contracts see of both outlets, and what their calls keep.
use Rattle.std.specs.Prelude.{◌≡◌, ℕ, ◌+◌, Bool, true, List, [], ◌∷◌, ◌++◌, map, length}
use Rattle.std.specs.List.{flat_map}
use Rattle.yew_laws.specs.Tasks.{Members}
use Rattle.yew_laws.specs.declared.problem.Task.{Task}
use Rattle.yew_mail.specs.Seats.{SeatView}
use Rattle.yew_mail.specs.Views.{first_of, found}
use Rattle.yew_mail.specs.declared.boxes.Seen.{Seen}
use Rattle.yew_mail.specs.declared.view.Call.TheVariants.{Look}
use Rattle.yew_mail.specs.declared.view.Found.{Found}
use Rattle.yew_mail.specs.declared.view.OwnBox.TheVariants.{Waiting}
use Rattle.yew_pool.specs.Passes.{PassView}
use Rattle.yew_crew.specs.Looks.{is_asked, is_shut, looked, NeverShutTwice}
use Rattle.yew_crew.specs.OpenSeats.{OpenSeatView}

-- a worker that spawns its tasks into the pool: the problem, its pass and its seat at the open tasks
pub record SpawningView (P N : Type 0) : Type 0 where
  pub problem : P
  pub pass : PassView (Task N) (Members N)
  pub tasks : OpenSeatView

-- a worker that hands its tasks to others: the problem, its mail seat and its seat at the open tasks
pub record HandingView (P N : Type 0) : Type 0 where
  pub problem : P
  pub seat : SeatView (Task N) (Members N)
  pub tasks : OpenSeatView

-- tasks were counted as made, so many as were sent, and nothing else of the seat changed
pub record HasMade (before after : OpenSeatView) : Type 0 where
  pub same : after ≡ record before { made = after.made; knows = after.knows }
  pub knows : before.knows ≡ true → after.knows ≡ true

-- the answers of all looks: true exactly where a worker asks
abbrev pub answers_of : List Found → List Bool
answers_of entries = map is_asked (flat_map (λ (entry : Found). looked entry.call entry.seen) entries)

-- the entries of looks at the own box, which saw this
abbrev pub looks_at : ℕ → List Seen → List Found
looks_at number seen = map (found Look number) seen

-- whether the last of these looks saw the box shut
abbrev pub ends_shut : Bool → List Seen → Bool
ends_shut shut [] = shut
ends_shut shut (seen ∷ more) = ends_shut (is_shut seen) more

module _ {P N : Type 0} where
  -- what every call of a spawning outlet keeps: tasks are put and counted as made, and nothing else
  pub record KeepsSpawning (before after : SpawningView P N) : Type 0 where
    pub problem : after.problem ≡ before.problem
    pub pass : after.pass ≡ record before.pass { put = after.pass.put }
    pub tasks : HasMade before.tasks after.tasks

  -- where no call was refused, as many tasks were counted as made as were put
  pub record IsLaterSpawning (before after : SpawningView P N) : Type 0 where
    pub made : after.tasks.made + length before.pass.put ≡ before.tasks.made + length after.pass.put

  -- what every call of a handing outlet keeps: the own box is looked at and answered, tasks are given and counted as made, and nothing else
  pub record KeepsHanding (before after : HandingView P N) : Type 0 where
    pub problem : after.problem ≡ before.problem
    pub seat : after.seat ≡ record before.seat { given = after.seat.given; found = after.seat.found; own = after.seat.own }
    pub tasks : HasMade before.tasks after.tasks

  -- where no call was refused, as many tasks were counted as made as were given, and the box was only looked at; of two looks in succession not both saw it shut, nor did the first where it was waiting
  pub record IsLaterHanding (before after : HandingView P N) : Type 0 where
    pub made : after.tasks.made + length before.seat.given ≡ before.tasks.made + length after.seat.given
    pub numbers : after.seat.numbers ≡ before.seat.numbers
    pub looks : List Seen
    pub found_are : after.seat.found ≡ before.seat.found ++ looks_at (first_of before.seat.numbers) looks
    pub opened : (shut : Bool) → (shut ≡ true → before.seat.own ≡ Waiting) → NeverShutTwice shut looks × (ends_shut shut looks ≡ true → after.seat.own ≡ Waiting)
