use Rattle.yew_ranked.proofs.ClaimSeating.{splits}
use Rattle.yew_ranked.proofs.ClaimTies.{same_table, has_first, share_is, claimed_none}
use Rattle.yew_ranked.proofs.claims.Claims.split.Goals as goal

pub split_seat-other-requires : goal.split_seat-other-requires
split_seat-other-requires c = (
  same_table _ _ _ _ _ _ c.seat.view_is c.self.view_is c.requires.claims,
  has_first _ c.self.invariant.0,
  splits _ _ _ (share_is _ _ _ c.seat.view_is c.requires.share) (claimed_none _ _ _ c.seat.view_is c.requires.none),
)
