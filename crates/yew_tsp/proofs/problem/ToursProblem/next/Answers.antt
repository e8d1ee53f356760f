use Rattle.std.proofs.Common.{◌∙◌, ◌^◌, ◌<◌, ◌∷◌, map, ap, sym, subst, arith}
use Rattle.std.specs.Int.{trailing_zeros, w64}
use Rattle.std.specs.List.{AllByRecursion}
use Rattle.yew_tsp.specs.Bits.{bits_of}
use Rattle.yew_tsp.specs.Nodes.{cleared, extended, IsNode}
use Rattle.yew_tsp.proofs.Lowest.{bits_of-zero, bits_of-trailing}
use Rattle.yew_tsp.proofs.problem.ToursProblem.next.Goals as goal

pub returns-then-left-eq0-clause-ok : goal.returns-then-left-eq0-clause-ok
returns-then-left-eq0-clause-ok c =
    let kids = c.args.kids.now in
    let none = ap (λ word. map (extended c.args.self.now kids.parent) (bits_of word)) c.if-left-eq0.true ∙ ap (map (extended c.args.self.now kids.parent)) bits_of-zero in
    (none, none)

pub extend-child-requires-clause-child : goal.extend-child-requires-clause-child
extend-child-requires-clause-child c =
    let kids = c.args.kids.now in
    let fits : kids.left < 2 ^ 64 = omega arith in
    (subst (λ cities. AllByRecursion (IsNode c.args.self.now) (map (extended c.args.self.now kids.parent) cities)) (bits_of-trailing kids.left c.if-left-eq0.false fits) c.requires.kids).0

pub returns-clause-ok : goal.returns-clause-ok
returns-clause-ok c =
    let kids = c.args.kids.now in
    let fits : kids.left < 2 ^ 64 = omega arith in
    ap (map (extended c.args.self.now kids.parent)) (bits_of-trailing kids.left c.if-left-eq0.false fits)
    ∙ ap (λ n. n ∷ map (extended c.args.self.now kids.parent) (bits_of (cleared kids.left (trailing_zeros w64 kids.left)))) (sym c.extend-child.ensures)
