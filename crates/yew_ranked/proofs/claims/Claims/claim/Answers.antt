use Rattle.yew_ranked.proofs.Claiming.{takes}
use Rattle.yew_ranked.proofs.ClaimTies.{same_table, in_table, share_one, claimed_few, whole_number}
use Rattle.yew_ranked.proofs.claims.Claims.claim.Goals as goal

pub fetch_add-requires : goal.fetch_add-requires
fetch_add-requires c = (
  same_table _ _ _ _ _ _ c.seat.view_is c.self.view_is c.requires.claims,
  in_table _ c.self.invariant.0,
  takes _ _ _ _ (share_one _ _ _ c.seat.view_is c.requires.one) (claimed_few _ _ _ c.seat.view_is c.requires.few),
)

pub returns-clause-whole : goal.returns-clause-whole
returns-clause-whole c = whole_number _ _ _ _ _ c.seat.view_is c.requires.claims c.requires.one c.fetch_add.ensures.2.1
