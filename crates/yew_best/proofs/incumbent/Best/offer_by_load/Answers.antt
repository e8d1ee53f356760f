use Rattle.yew_best.proofs.Stepping.{compares}
use Rattle.yew_best.proofs.Ties.{same_table, in_table, whole_cause}
use Rattle.yew_best.proofs.incumbent.Best.offer_by_load.Goals as goal

pub load-requires : goal.load-requires
load-requires g c = (same_table _ _ _ _ _ _ c.seat.view_is c.self.view_is c.requires.best, in_table _ c.self.invariant.0, compares _ _ _ _ _ c.seat.invariant.0)

pub returns-clause-whole : goal.returns-clause-whole
returns-clause-whole g c = whole_cause _ _ _ _ _ c.seat.view_is c.requires.best c.load.ensures.2.2
