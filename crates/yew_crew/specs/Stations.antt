-- What a crew searches, which stations are ready for it, and what a worker leaves as it was.
use Rattle.std.specs.Prelude.{◌≡◌, ℕ, ◌≤◌, Some}
use Rattle.yew_laws.specs.SearchTree.{SearchTree}
use Rattle.yew_log.specs.Groups.{Part, Skeleton, by_depth, by_budget, by_steal}
use Rattle.yew_mail.specs.Views.{first_of}
use Rattle.yew_mail.specs.declared.view.Ask.TheVariants.{Nowhere}
use Rattle.yew_walk.specs.Dealt.{part_of_chunk}
use Rattle.yew_walk.specs.LogViews.{LogView}
use Rattle.yew_best.specs.Seats.{SeatView}
use Rattle.yew_laws.specs.Tasks.{Members}
use Rattle.yew_laws.specs.declared.problem.Task.{Task}
use Rattle.yew_mail.specs.Seats.{SeatView as MailSeatView}
use Rattle.yew_pool.specs.Passes.{PassView}
use Rattle.yew_walk.specs.declared.hand.Hand.{Hand}
use Rattle.yew_crew.specs.OpenSeats.{OpenSeatView}
use Rattle.yew_crew.specs.declared.coord.Coord.{Coord}
use Rattle.yew_crew.specs.declared.coord.Coord.TheVariants.{Depth, Budget, Steal}
use Rattle.yew_crew.specs.declared.station.Shared.{Shared}
use Rattle.yew_crew.specs.declared.station.Station.{Station}

-- What a crew searches, and how: the tree, the sums of its nodes, what is seen of a log, the coordination, and by how much a node that is cut off may better the held value
pub record Searched (S R N : Type 0) : Type 0 where
  pub tree : SearchTree N
  pub join : S → S → S
  pub none : S
  pub of : N → ℕ → S
  pub seen : R → LogView
  pub coord : Coord
  pub gap : ℕ

abbrev pub searched : {S R N : Type 0} → SearchTree N → (S → S → S) → S → (N → ℕ → S) → (R → LogView) → Coord → ℕ → Searched S R N
searched tree join none of seen coord gap = record { tree = tree; join = join; none = none; of = of; seen = seen; coord = coord; gap = gap }

-- by which table the groups of a log are judged
abbrev pub skeleton_of : Coord → Skeleton
skeleton_of (Depth depth) = by_depth depth
skeleton_of (Budget every) = by_budget every
skeleton_of (Steal chunk) = by_steal (part_of_chunk chunk)

-- the number of backtracks after which tasks are split off is at least 1
abbrev pub IsCoord : Coord → Type 0
IsCoord (Depth depth) = Unit {0}
IsCoord (Budget every) = 1 ≤ every
IsCoord (Steal chunk) = Unit {0}

-- tasks go to the pool
abbrev pub Spawns : Coord → Type 0
Spawns (Depth depth) = Unit {0}
Spawns (Budget every) = Unit {0}
Spawns (Steal chunk) = ⊥

-- a fact of the part that is handed over, where workers ask each other for tasks
abbrev pub IfSteal : Coord → (Part → Type 0) → Type 0
IfSteal (Depth depth) fact = Unit {0}
IfSteal (Budget every) fact = Unit {0}
IfSteal (Steal chunk) fact = fact (part_of_chunk chunk)

module _ {N S R : Type 0} where
  -- the station of these parts
  abbrev pub station : ℕ → SeatView → PassView (Task N) (Members N) → MailSeatView (Task N) (Members N) → OpenSeatView → Hand S → R → Station N S R
  station number best pool mail tasks hand log = record { number = number; best = best; pool = pool; mail = mail; tasks = tasks; hand = hand; log = log }

  -- A station is ready for a worker: its seats and its pass are of the shared objects and about the problem, its number is that of its mailbox, where it has no ask, the path of its hand has its space, and its sum fits
  pub record IsReady (fits : S → Type 0) (members : Members N) (shared : Shared N) (station : Station N S R) : Type 0 where
    pub of_best : station.best.best ≡ shared.best
    pub of_pool : station.pool.pool ≡ shared.pool
    pub of_mail : station.mail.mail ≡ shared.mail
    pub of_tasks : station.tasks.tasks ≡ shared.tasks
    pub pass_members : station.pool.members ≡ Some members
    pub mail_members : station.mail.members ≡ Some members
    pub mail_number : first_of station.mail.numbers ≡ station.number
    pub no_ask : station.mail.ask ≡ Nowhere
    pub space : 65535 ≤ station.hand.path.space
    pub fits_sum : fits station.hand.sum

  -- Whatever a worker did, its number, the objects of its seats and of its pass, their shares and their problem are those that they were
  pub record IsSameStation (before after : Station N S R) : Type 0 where
    pub number : after.number ≡ before.number
    pub best : after.best.best ≡ before.best.best
    pub best_share : after.best.share ≡ before.best.share
    pub pool : after.pool.pool ≡ before.pool.pool
    pub pass_number : after.pool.number ≡ before.pool.number
    pub pass_share : after.pool.share ≡ before.pool.share
    pub pass_members : after.pool.members ≡ before.pool.members
    pub mail : after.mail.mail ≡ before.mail.mail
    pub mail_share : after.mail.share ≡ before.mail.share
    pub mail_numbers : after.mail.numbers ≡ before.mail.numbers
    pub mail_members : after.mail.members ≡ before.mail.members
    pub tasks : after.tasks.tasks ≡ before.tasks.tasks
    pub tasks_share : after.tasks.share ≡ before.tasks.share
