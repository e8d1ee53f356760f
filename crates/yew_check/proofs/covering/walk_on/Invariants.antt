use Rattle.std.proofs.Common.{◌≡◌, ◌++◌, take}
use Rattle.std.specs.List.{flat_map}
use Rattle.yew_laws.specs.SearchTree.{search_tree}
use Rattle.yew_stack.specs.ToCome.{AllOpen}
use Rattle.yew_check.specs.Covering.{coming, AreThere, TellsValues}
use Rattle.yew_check.specs.Marks.{all_seen, covers}
use Rattle.yew_check.proofs.covering.walk_on.Given as goal

-- what the first visits and cuts stand for came first
abbrev pub invariant-loop-mark : goal.invariant-loop-mark
invariant-loop-mark g l =
    let t = search_tree g.P.Problem l.problem in
    let first = all_seen (take l.mark-index l.marks) in
    record {
      levels_open : AllOpen g.P.Problem l.problem l.descent.levels;
      came : coming g.P.Problem l.problem l.fn.descent.levels ≡ flat_map (covers t) first ++ coming g.P.Problem l.problem l.descent.levels;
      are_there : AreThere t first;
      values : TellsValues t first l.fits;
    }
