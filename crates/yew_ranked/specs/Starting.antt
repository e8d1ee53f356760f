-- How an ordered search begins: a station for each worker, with seats that are split off the first one's.
use Rattle.std.specs.Prelude.{◌≡◌, ℕ, suc, ◌+◌, ◌≤◌, List, [], ◌∷◌, length}
use Rattle.yew_walk.specs.LogViews.{LogView}
use Rattle.yew_ranked.specs.Whole.{IsFreshStation}
use Rattle.yew_ranked.specs.declared.station.RankedShared.{RankedShared}
use Rattle.yew_ranked.specs.declared.station.RankedStation.{RankedStation}

module _ {S R : Type 0} where
  -- the seats of the station are of the shared objects, with this share
  pub record IsSeated (shared : RankedShared) (share : ℕ) (station : RankedStation S R) : Type 0 where
    pub of_best : station.best.best ≡ shared.best
    pub best_share : station.best.share ≡ share
    pub of_claims : station.claims.claims ≡ shared.claims
    pub claims_share : station.claims.share ≡ share
    pub of_stop : station.stop.tasks ≡ shared.stop
    pub stop_share : station.stop.share ≡ share

  -- the station with these shares in place of its own
  abbrev pub with_shares : ℕ → RankedStation S R → RankedStation S R
  with_shares share station = record station {
    best = record station.best { share = share };
    claims = record station.claims { share = share };
    stop = record station.stop { share = share };
  }

module _ {S R : Type 0} (none : S) (seen : R → LogView) (shared : RankedShared) where
  -- the station of a worker that has done nothing yet, with seats of share 1
  pub record IsNewStation (number : ℕ) (station : RankedStation S R) : Type 0 where
    pub seated : IsSeated shared 1 station
    pub fresh : IsFreshStation none seen number station
    pub space : 65535 ≤ station.hand.path.space

  -- such stations, whose numbers rise from this one on
  abbrev pub AreNew : ℕ → List (RankedStation S R) → Type 0
  AreNew number [] = Unit {0}
  AreNew number (station ∷ stations) = IsNewStation number station × AreNew (suc number) stations

  -- The stations of the others are made one after another: the first one's seats have the shares that are left
  pub record IsSharing (workers : ℕ) (begun now : RankedStation S R) (others : List (RankedStation S R)) : Type 0 where
    pub share : ℕ
    pub now_is : now ≡ with_shares share begun
    pub left : share + length others ≡ workers
    pub others_are : AreNew 2 others

  -- the stations of so many workers, in order, with seats of share 1: that of the first worker, and those of the others, who have done nothing yet
  pub record AreStations (workers : ℕ) (begun : RankedStation S R) (stations : List (RankedStation S R)) : Type 0 where
    pub others : List (RankedStation S R)
    pub stands : stations ≡ with_shares 1 begun ∷ others
    pub count : suc (length others) ≡ workers
    pub others_are : AreNew 2 others
