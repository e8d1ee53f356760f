use Rattle.std.proofs.Common.{◌≡◌, ◌+◌, ◌∷◌, ◌++◌, [], length, take, ap, ap₂, sym, ◌∙◌, arith, length-append}
use Rattle.std.proofs.lemmas.List.{take_all}
use Rattle.yew_stack.specs.Descents.{levels_along}
use Rattle.yew_stack.proofs.Along.{along-push, along-same, take-front}
use Rattle.yew_stack.proofs.descent.Descent.open.Goals as goal

pub returns-clause-ok : goal.returns-clause-ok
returns-clause-ok g c =
    let rungs = c.self.inside.rungs.items in
    let path = c.self.inside.path.numbers in
    let first = c.self.inside.first in
    let depth = first + length rungs in
    let whole : take depth path ≡ path = take_all depth path (omega (arith, c.self.invariant)) in
    let front : take depth (path ++ 0 ∷ []) ≡ take depth path = ap (λ p. take depth (p ++ 0 ∷ [])) (sym whole) ∙ take-front depth path (0 ∷ []) (omega (arith, c.self.invariant)) in
    ap₂ (λ p rs. levels_along p first rs) (c.push.ensures.numbers ∙ ap (λ p. p ++ 0 ∷ []) c.make_room.ensures.numbers) (c.push_reserved.ensures.items ∙ ap (λ rs. rs ++ record { given = 0; kids = c.args.kids } ∷ []) c.reserve.ensures.items)
    ∙ along-same (path ++ 0 ∷ []) path depth first (rungs ++ record { given = 0; kids = c.args.kids } ∷ []) front (omega (arith, length-append rungs (record { given = 0; kids = c.args.kids } ∷ [])))
    ∙ along-push path first rungs (record { given = 0; kids = c.args.kids })
    ∙ ap₂ (λ ls p. ls ++ record { parent = p; given = 0; kids = c.args.kids } ∷ []) (ap (λ v. v.levels) c.self.view_is) (whole ∙ ap (λ v. v.path) c.self.view_is)
