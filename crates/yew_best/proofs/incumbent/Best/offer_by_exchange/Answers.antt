use Rattle.yew_best.proofs.Stepping.{raises}
use Rattle.yew_best.proofs.Ties.{same_table, in_table, whole_cause}
use Rattle.yew_best.proofs.incumbent.Best.offer_by_exchange.Goals as goal

pub fetch_max-requires : goal.fetch_max-requires
fetch_max-requires c = (same_table _ _ _ _ _ _ c.seat.view_is c.self.view_is c.requires, in_table _ c.self.invariant.0, raises _ _ _ _ _ c.seat.invariant.0)

pub returns-clause-whole : goal.returns-clause-whole
returns-clause-whole c = whole_cause _ _ _ _ _ c.seat.view_is c.requires c.fetch_max.ensures.2.1
