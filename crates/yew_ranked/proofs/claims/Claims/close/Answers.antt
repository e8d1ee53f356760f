use Rattle.yew_ranked.proofs.ClaimSeating.{closes}
use Rattle.yew_ranked.proofs.ClaimTies.{is_whole, closed_below}
use Rattle.yew_ranked.proofs.claims.Claims.close.Goals as goal

pub returns : goal.returns
returns c = closed_below _ _ _ _ c.seat.view_is (closes _ _ _ _ _ _ (is_whole _ _ _ _ _ _ c.seat.view_is c.self.view_is c.requires.whole) c.close_with-closed.ensures.values.2 c.word-counter.ensures)
