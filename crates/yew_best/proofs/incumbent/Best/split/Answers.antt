use Rattle.yew_best.proofs.Seating.{splits}
use Rattle.yew_best.proofs.Ties.{same_table, has_first, share_is}
use Rattle.yew_best.proofs.incumbent.Best.split.Goals as goal

pub split_seat-other-requires : goal.split_seat-other-requires
split_seat-other-requires c = (same_table _ _ _ _ _ _ c.seat.view_is c.self.view_is c.requires.best, has_first _ c.self.invariant.0, splits _ _ _ (share_is _ _ _ c.seat.view_is c.requires.share))
