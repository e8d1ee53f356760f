-- The walk goes on, misses a visit or cut, or ends.
use Rattle.std.proofs.Common.{◌≤◌, ◌+◌, take, length, subst, sym, arith}
use Rattle.yew_laws.specs.SearchTree.{search_tree}
use Rattle.yew_check.specs.Covering.{coming, TellsValues}
use Rattle.yew_check.specs.Marks.{seen, all_seen}
use Rattle.yew_check.proofs.Coverings.{came-more, there-more, values-more, stops-there, stands-at_end, values-at_end, more-at_end}
use Rattle.yew_check.proofs.covering.walk_on.Goals as goal

pub returns-in-None : goal.returns-in-None
returns-in-None g c =
    let meaning = g.P.Problem in
    let problem = c.args.problem.now in
    let misses = rw c.in-None.is at c.in_ok-fit.ensures in
    stops-there (search_tree meaning problem) seen c.args.marks.now (coming meaning problem c.args.descent.now.levels) c.loop-mark.mark-index (coming meaning problem c.loop-mark.descent.levels) c.loop-mark.invariant.came c.mark-item.result c.loop-mark-test.true c.mark-item.is (meaning.ranked problem) c.requires.root misses

pub loop-mark-preserved : goal.loop-mark-preserved
loop-mark-preserved g c =
    let meaning = g.P.Problem in
    let problem = c.args.problem.now in
    let t = search_tree meaning problem in
    let start = coming meaning problem c.args.descent.now.levels in
    let now = coming meaning problem c.loop-mark.descent.levels in
    let passes = rw c.in-Some.is at c.in_ok-fit.ensures in
    let i = c.loop-mark.mark-index in
    let xs = c.args.marks.now in
    let x = c.mark-item.result in
    let came = c.loop-mark.invariant.came in
    record {
      levels_open = passes.still_open;
      came = came-more t seen xs start i now came x c.loop-mark-test.true c.mark-item.is (coming meaning problem c.take_mark.new.descent.levels) passes.coming_is;
      are_there = there-more t seen xs start i now came x c.loop-mark-test.true c.mark-item.is c.loop-mark.invariant.are_there passes.in_tree;
      values = subst (λ b. TellsValues t (all_seen (take (i + 1) xs)) b) (sym c.both-fits.ensures) (values-more t seen xs start i now came x c.loop-mark-test.true c.mark-item.is c.loop-mark.fits c.in-Some.fit c.loop-mark.invariant.values passes.valued);
    }

pub returns-then-not-spent : goal.returns-then-not-spent
returns-then-not-spent g c = λ up rises.
    let meaning = g.P.Problem in
    let problem = c.args.problem.now in
    let done : length c.args.marks.now ≤ c.loop-mark.mark-index = omega arith in
    let more = rw c.if-not-spent.true at c.in_ok-spent.ensures in
    more-at_end (search_tree meaning problem) seen c.args.marks.now (coming meaning problem c.args.descent.now.levels) c.loop-mark.mark-index (coming meaning problem c.loop-mark.descent.levels) c.loop-mark.invariant.came done (meaning.ranked problem) c.requires.root more

pub returns : goal.returns
returns g c =
    let meaning = g.P.Problem in
    let problem = c.args.problem.now in
    let t = search_tree meaning problem in
    let start = coming meaning problem c.args.descent.now.levels in
    let now = coming meaning problem c.loop-mark.descent.levels in
    let i = c.loop-mark.mark-index in
    let xs = c.args.marks.now in
    let came = c.loop-mark.invariant.came in
    let done : length xs ≤ i = omega arith in
    let none = rw c.if-not-spent.false at c.in_ok-spent.ensures in
    (stands-at_end t seen xs start i now came done none c.loop-mark.invariant.are_there, values-at_end t seen xs start i now came done c.loop-mark.fits c.loop-mark.invariant.values)
