-- The first space of a path with two numbers stands behind the path.
use Rattle.yew_check.proofs.EntryTexts.{place-cut, place-has}
use Rattle.yew_check.proofs.entries.place_in.Goals as goal

pub returns-in_default : goal.returns-in_default
returns-in_default c = λ path first second w e. place-has c.args.values c.args.text.now path first second (cc) c.in_default.ensures e

pub returns-in_default-values_in : goal.returns-in_default-values_in
returns-in_default-values_in c = λ path first second w e.
    let at = place-cut c.args.values c.args.text.now c.in-Some-cut.path.now c.in-Some-cut.rest.now path first second (cc) c.in-Some-cut.ensures.0 c.in-Some-cut.ensures.1 w e in
    c.in_default-values_in.ensures first second at.first_within at.second_within at.values_are

pub returns-in-None-2 : goal.returns-in-None-2
returns-in-None-2 c = λ path first second w e.
    let at = place-cut c.args.values c.args.text.now c.in-Some-cut.path.now c.in-Some-cut.rest.now path first second (cc) c.in-Some-cut.ensures.0 c.in-Some-cut.ensures.1 w e in
    let none = rw c.in-None-2.is at c.in_ok-path-2.ensures in none path at.path_within at.path_is
