-- How a crew ends: what its reports come to once the pool and the mailboxes are ended, and what the search has found.
use Rattle.std.specs.Prelude.{◌≡◌, ℕ, List, ◌∷◌, Option, None, map, option_and_then}
use Rattle.yew_laws.specs.Fold.{Fold}
use Rattle.yew_laws.specs.PathValue.{PathValue}
use Rattle.yew_laws.specs.SearchTree.{at_path}
use Rattle.yew_walk.specs.Answers.{IsNear}
use Rattle.yew_walk.specs.Hands.{incumbent_of, numbers_of}
use Rattle.yew_walk.specs.PlainSearch.{NeverCuts}
use Rattle.yew_walk.specs.declared.hand.Hand.{Hand}
use Rattle.yew_crew.specs.CrewSearch.{HasCrewLogs}
use Rattle.yew_crew.specs.Crews.{best_with, tasks_with, stations_of}
use Rattle.yew_crew.specs.Joining.{fault_in, passes_of, seats_of, hands_of, logs_of}
use Rattle.yew_crew.specs.OpenSeats.{IsExact}
use Rattle.yew_crew.specs.Resting.{IsAllLeft}
use Rattle.yew_crew.specs.Stations.{Searched, skeleton_of}
use Rattle.yew_crew.specs.declared.ending.Settled.{Settled}
use Rattle.yew_crew.specs.declared.station.Report.{Report}
use Rattle.yew_crew.specs.declared.station.Shared.{Shared}

module _ {N S R : Type 0} where
  -- These reports, of which there is at least one, came to this: the seat at the incumbent word is that of all, the count was loaded by the joined seat, and these tasks are all that was left
  pub record IsSettled (shared : Shared N) (reports : List (Report N S R)) (settled : Settled N S R) : Type 0 where
    pub first : Report N S R
    pub rest : List (Report N S R)
    pub stands : reports ≡ first ∷ rest
    pub word_is : settled.best ≡ shared.best
    pub seat_is : settled.seat ≡ best_with first.station.best (stations_of rest)
    pub hands : settled.hands.items ≡ hands_of (stations_of reports)
    pub logs : settled.logs.items ≡ logs_of (stations_of reports)
    pub fault : settled.fault ≡ fault_in None reports
    pub word : ℕ
    pub exact : IsExact (tasks_with first.station.tasks (stations_of rest)) word
    pub all_left : IsAllLeft (passes_of (stations_of reports)) (seats_of (stations_of reports)) settled.left.items

module _ {N S R : Type 0} (s : Searched S R N) where
  -- What all workers have found together: the gathered hand's path answers the search, up to the gap; the logs are those of the whole search; and where nothing is cut the sum is the fold of the tree
  pub record IsFound (workers : ℕ) (hand : Hand S) (logs : List R) : Type 0 where
    pub near : (path : Option PathValue) → numbers_of path ≡ (incumbent_of hand).path → IsNear s.tree s.gap (incumbent_of hand).worth path
    pub has_logs : (path : Option PathValue) → numbers_of path ≡ (incumbent_of hand).path
        → HasCrewLogs s.tree s.gap (skeleton_of s.coord) workers (map s.seen logs) (option_and_then (λ (p : PathValue). at_path s.tree p.numbers) path)
    pub sum_is : NeverCuts s.tree → hand.sum ≡ Fold s.tree s.join s.none s.of
