use Rattle.yew_best.proofs.Stepping.{reads}
use Rattle.yew_best.proofs.Ties.{same_table, in_table, whole_cause}
use Rattle.yew_best.proofs.incumbent.Best.read.Goals as goal

pub load-requires : goal.load-requires
load-requires c = (same_table _ _ _ _ _ _ c.seat.view_is c.self.view_is c.requires, in_table _ c.self.invariant.0, reads _ _ _ _ c.seat.invariant.0)

pub returns-clause-whole : goal.returns-clause-whole
returns-clause-whole c = whole_cause _ _ _ _ _ c.seat.view_is c.requires c.load.ensures.2.1
