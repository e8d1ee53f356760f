use Rattle.yew_ranked.proofs.ClaimSeating.{joins}
use Rattle.yew_ranked.proofs.ClaimTies.{same_table, has_first}
use Rattle.yew_ranked.proofs.claims.Claims.join.Goals as goal

pub join_seat-requires : goal.join_seat-requires
join_seat-requires c = (
  same_table _ _ _ _ _ _ c.seat.view_is c.self.view_is c.requires.claims,
  same_table _ _ _ _ _ _ c.other.view_is c.self.view_is c.requires.other,
  c.other.invariant.1,
  has_first _ c.self.invariant.0,
  joins _ _ _ _ _ c.seat.invariant.0,
)
