use Rattle.yew_best.proofs.Closing.{closes}
use Rattle.yew_best.proofs.Ties.{is_whole, closed_cause, closed_reads, closed_heard}
use Rattle.yew_best.proofs.incumbent.Best.close.Goals as goal

pub returns-clause-offered : goal.returns-clause-offered
returns-clause-offered c = closed_cause _ _ _ _ c.seat.view_is (closes _ _ _ _ _ _ (is_whole _ _ _ _ _ _ c.seat.view_is c.self.view_is c.requires.whole) c.close_with-closed.ensures.values.2 c.word-word.ensures)

pub returns-clause-reads_offered : goal.returns-clause-reads_offered
returns-clause-reads_offered c = closed_reads _ _ _ _ c.seat.view_is (closes _ _ _ _ _ _ (is_whole _ _ _ _ _ _ c.seat.view_is c.self.view_is c.requires.whole) c.close_with-closed.ensures.values.2 c.word-word.ensures)

pub returns-clause-heard : goal.returns-clause-heard
returns-clause-heard c = closed_heard _ _ _ _ c.seat.view_is (closes _ _ _ _ _ _ (is_whole _ _ _ _ _ _ c.seat.view_is c.self.view_is c.requires.whole) c.close_with-closed.ensures.values.2 c.word-word.ensures)
