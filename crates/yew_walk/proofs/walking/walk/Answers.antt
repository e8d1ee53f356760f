use Rattle.yew_walk.proofs.walking.walk.Goals as goal

pub returns-in-Plain-clause-walked : goal.returns-in-Plain-clause-walked
returns-in-Plain-clause-walked g c = rw c.in-Plain.is c.walk_by.ensures.walked

pub returns-in-Ranked-clause-walked : goal.returns-in-Ranked-clause-walked
returns-in-Ranked-clause-walked g c = rw c.in-Ranked.is c.walk_by-in-Ranked.ensures.walked

pub returns-in-Gap-clause-walked : goal.returns-in-Gap-clause-walked
returns-in-Gap-clause-walked g c = rw c.in-Gap.is c.walk_by-in-Gap.ensures.walked
