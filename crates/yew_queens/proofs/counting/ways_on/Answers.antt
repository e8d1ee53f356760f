use Rattle.std.proofs.Common.{◌≡◌, subst, ◌∙◌}
use Rattle.yew_kinds.specs.DepthCounts.{depth_fold, depth_counts}
use Rattle.yew_kinds.specs.declared.kind.Kind.TheVariants.{Count}
use Rattle.yew_walk.specs.Kinds.{IsAnswer}
use Rattle.yew_queens.specs.BoardTree.{board_tree}
use Rattle.yew_queens.proofs.Counted.{last-within, last-is}
use Rattle.yew_queens.proofs.counting.ways_on.Goals as goal

pub bounds-counts-size : goal.bounds-counts-size
bounds-counts-size g c =
    let t = board_tree g.K.Size.size in
    let sum_is : c.in-Count.sum ≡ depth_counts t c.args.size =
    subst (IsAnswer t (depth_fold t c.args.size) Count) c.in-Count.is c.in_ok-answer.ensures.answer ∙ c.fold_by_depth.ensures in
    rw c.counts.ensures (last-within g.K.Size.size c.args.size c.requires c.in-Count.sum sum_is)

pub returns : goal.returns
returns g c =
    let t = board_tree g.K.Size.size in
    let sum_is : c.in-Count.sum ≡ depth_counts t c.args.size =
    subst (IsAnswer t (depth_fold t c.args.size) Count) c.in-Count.is c.in_ok-answer.ensures.answer ∙ c.fold_by_depth.ensures in
    rw c.counts.ensures (last-is g.K.Size.size c.args.size c.requires c.in-Count.sum sum_is)
