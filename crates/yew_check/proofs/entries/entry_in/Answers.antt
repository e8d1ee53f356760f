-- The first space of a line stands behind the word of its kind.
use Rattle.std.proofs.Common.{◌≡◌, sym, subst}
use Rattle.yew_check.specs.Entries.{IsPlaceWithin, place_text}
use Rattle.yew_check.proofs.EntryTexts.{parts-of, entry-cut, entry-lacks}
use Rattle.yew_check.proofs.entries.entry_in.Goals as goal

pub returns-in_default-what_in : goal.returns-in_default-what_in
returns-in_default-what_in c = λ note w e.
    let p = parts-of note w in
    let at = entry-cut c.args.text.now c.in-Some.word.now c.in-Some.rest.now note p c.in-Some.ensures.0 c.in-Some.ensures.1 e in
    c.in_default-what_in.ensures p.what at.0

pub returns-in-None : goal.returns-in-None
returns-in-None c =
    let none = rw c.in-None.is at c.in_ok-place.ensures in
    let values = c.has_values.ensures in
    entry-lacks c.args.text.now c.in-Some.word.now c.in-Some.rest.now c.in-Some-what_in.what c.in-Some.ensures.0 c.in-Some.ensures.1 c.in-Some-what_in.ensures
    (λ path first second w e. none path first second (subst (λ v. IsPlaceWithin v path first second) (sym values) w) (subst (λ v. c.in-Some.rest.now ≡ place_text v path first second) (sym values) e))
