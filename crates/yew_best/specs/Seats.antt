-- What contracts see of the incumbent word and of a seat.
use Rattle.std.specs.Prelude.{ℕ, ◌+◌, List, [], ◌∷◌, ◌++◌}
use base.Stored.{Coded, coded×, coded_ℕ, coded_list, coded_via}
use Rattle.atomic_table.specs.Seated.{TableId, table_id_coded}
use Rattle.yew_best.specs.declared.view.View.{View}
use Rattle.yew_best.specs.Views.{heard_after, heard_by_both}

-- Which word it is, and the number of seats that it was made for, which is the whole share
pub record BestId : Type 0 where
  pub table : TableId
  pub seats : ℕ

-- A seat: the word that it is of, its share, the values that it has read and offered, and those that it has heard, which
-- it read and had not offered before
pub record SeatView : Type 0 where
  pub best : BestId
  pub share : ℕ
  pub read : List ℕ
  pub offered : List ℕ
  pub heard : List ℕ

-- the seat of a table with a view
abbrev pub seat_view : TableId → View → SeatView
seat_view table v = record { best = record { table = table; seats = v.seats }; share = v.share; read = v.read; offered = v.offered; heard = v.heard }

-- the seat after it has read x, which it has heard where it had not offered it
abbrev pub has_read : SeatView → ℕ → SeatView
has_read seat x = record seat { read = seat.read ++ x ∷ []; heard = heard_after seat.offered seat.heard x }

-- the seat once it has taken in another: the shares are added and the lists are joined, but of what each has heard that
-- alone stays which the other had not offered
abbrev pub joined_seat : SeatView → SeatView → SeatView
joined_seat seat other = record seat {
  share = seat.share + other.share;
  read = seat.read ++ other.read;
  offered = seat.offered ++ other.offered;
  heard = heard_by_both seat.offered seat.heard other.offered other.heard;
}

-- two words are one where their parts are
abbrev pub best_id_coded : Coded BestId
best_id_coded = coded_via (coded× table_id_coded coded_ℕ) (λ (b : BestId). (b.table, b.seats)) (λ x y e i. record { table = (e i).0; seats = (e i).1 })

-- two seats are one where their parts are
abbrev pub seat_view_coded : Coded SeatView
seat_view_coded = coded_via (coded× best_id_coded (coded× coded_ℕ (coded× (coded_list coded_ℕ) (coded× (coded_list coded_ℕ) (coded_list coded_ℕ)))))
    (λ (s : SeatView). (s.best, (s.share, (s.read, (s.offered, s.heard))))) (λ x y e i. record { best = (e i).0; share = (e i).1.0; read = (e i).1.1.0; offered = (e i).1.1.1.0; heard = (e i).1.1.1.1 })
