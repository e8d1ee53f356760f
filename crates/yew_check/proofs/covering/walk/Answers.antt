-- The first is the visit of the root, and the others go on from it.
use Rattle.std.proofs.Common.{◌&&◌, ap, sym, subst}
use Rattle.yew_laws.specs.SearchTree.{search_tree}
use Rattle.yew_check.specs.Covering.{coming, IsWhole, TellsValues}
use Rattle.yew_check.specs.Marks.{seen, all_seen, mark_paths, Rises}
use Rattle.yew_check.proofs.RootFirst.{cut-not_whole, deep-not_whole, root-whole, whole-rest, root-values}
use Rattle.yew_check.proofs.TreeRises.{tree-rises}
use Rattle.yew_check.proofs.covering.walk.Goals as goal

pub returns-then-not-first : goal.returns-then-not-first
returns-then-not-first g c = λ rises w.
    let t = search_tree g.P.Problem c.args.problem.now in
    let parts = ap all_seen c.in-Some.ensures.cases.0 in
    cut-not_whole t (seen c.in-Some.first.now) (all_seen c.in-Some.others.now) c.if-not-first.true (subst (λ ms. Rises (mark_paths ms)) parts rises) (subst (IsWhole t) parts w)

pub returns-then-not-is_root : goal.returns-then-not-is_root
returns-then-not-is_root g c = λ rises w.
    let t = search_tree g.P.Problem c.args.problem.now in
    let parts = ap all_seen c.in-Some.ensures.cases.0 in
    deep-not_whole t (seen c.in-Some.first.now) (all_seen c.in-Some.others.now) c.if-not-is_root.ensures (subst (λ ms. Rises (mark_paths ms)) parts rises) (subst (IsWhole t) parts w)

pub returns-in_default-2 : goal.returns-in_default-2
returns-in_default-2 g c = λ rises w.
    let meaning = g.P.Problem in
    let problem = c.args.problem.now in
    let t = search_tree meaning problem in
    let parts = ap all_seen c.in-Some.ensures.cases.0 in
    let to_cover = coming meaning problem c.open_root.new.descent.levels in
    let none = rw c.in_default-2.is at c.in_ok-rest.ensures in
    let up = subst Rises c.in_ok-fits.ensures.tree (tree-rises t (meaning.ranked problem) c.requires) in
    let others = subst (λ ms. Rises (mark_paths ms)) parts rises in
    none up.1 others.1 (whole-rest t (seen c.in-Some.first.now) (all_seen c.in-Some.others.now) to_cover c.if-not-first.false c.if-not-is_root.ensures c.in_ok-fits.ensures.tree (subst (IsWhole t) parts w))

pub returns : goal.returns
returns g c =
    let meaning = g.P.Problem in
    let problem = c.args.problem.now in
    let t = search_tree meaning problem in
    let parts = ap all_seen c.in-Some.ensures.cases.0 in
    let first = seen c.in-Some.first.now in
    let others = all_seen c.in-Some.others.now in
    let to_cover = coming meaning problem c.open_root.new.descent.levels in
    let known = rw c.in-Some-2.is at c.in_ok-rest.ensures in (
      subst (IsWhole t) (sym parts) (root-whole t first others to_cover c.if-not-first.false c.if-not-is_root.ensures c.in_ok-fits.ensures.tree known.0),
      subst (λ b. TellsValues t (all_seen c.args.marks.now) b) (sym c.both.ensures)
          (subst (λ ms. TellsValues t ms (c.in_ok-fits.fits && c.in-Some-2.rest)) (sym parts) (root-values t first others to_cover c.if-not-first.false c.if-not-is_root.ensures c.in_ok-fits.ensures.tree c.in_ok-fits.fits c.in-Some-2.rest c.in_ok-fits.ensures.worth known.1)),
    )
