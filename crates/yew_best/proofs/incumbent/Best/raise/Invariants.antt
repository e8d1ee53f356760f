use Rattle.yew_best.proofs.incumbent.Best.raise.Given as goal

abbrev pub ghosts-offer_by_load : goal.ghosts-offer_by_load
ghosts-offer_by_load a = record { key = a.key }
