-- What stands behind the first slash.
use Rattle.std.proofs.Common.{◌<◌, ◌∷◌, ℕ, length, sym, ap, ◌∙◌, arith}
use Rattle.std.proofs.lemmas.Bool.Decides.{nat_tests}
use Rattle.yew_check.proofs.PathTexts.{path-lacks, path-from_parts}
use Rattle.yew_check.proofs.entries.path_in.Goals as goal

pub returns-in-Some-2 : goal.returns-in-Some-2
returns-in-Some-2 c =
    let known = rw c.in-Some-2.is at c.in_ok-path.ensures in
    let whole = c.in-Some.ensures.cases.0 ∙ ap (λ (b : ℕ). b ∷ c.in-Some.steps.now) c.if-first-ne47.false in
    (whole ∙ path-from_parts c.in-Some.steps.now c.in-Some-2.path.numbers known.0, known.1)

pub returns-in-None : goal.returns-in-None
returns-in-None c = λ path within e.
    let none = rw c.in-None.is at c.in_ok-path.ensures in
    let some : 0 < length c.in-Some.steps.now = grind (arith, nat_tests) in
    let whole = c.in-Some.ensures.cases.0 ∙ ap (λ (b : ℕ). b ∷ c.in-Some.steps.now) c.if-first-ne47.false in
    path-lacks c.in-Some.steps.now some none path within (sym whole ∙ e)
