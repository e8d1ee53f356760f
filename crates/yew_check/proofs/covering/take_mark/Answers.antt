-- The next node to come is that of the visit or the cut, or another.
use Rattle.std.proofs.Common.{sym, ◌∙◌}
use Rattle.yew_check.proofs.Passing.{misses, passes-cut, passes-visit}
use Rattle.yew_check.proofs.covering.take_mark.Goals as goal

pub returns-then-not-is_path : goal.returns-then-not-is_path
returns-then-not-is_path g c =
    let meaning = g.P.Problem in
    let problem = c.args.problem.now in
    let found = rw c.in-Some.is at c.in_ok-node.ensures.found in
    misses meaning problem (meaning.ranked problem) c.args.descent.now.levels c.next_node.new.descent.levels c.next_node.new.descent.path c.in-Some.node found.0 found.1 c.args.mark.now.path.now.numbers
    (λ e. c.if-not-is_path.ensures (c.path.ensures ∙ e))

pub returns-then-not-mark : goal.returns-then-not-mark
returns-then-not-mark g c =
    let meaning = g.P.Problem in
    let problem = c.args.problem.now in
    let found = rw c.in-Some.is at c.in_ok-node.ensures.found in
    let m = c.args.mark.now in
    passes-cut meaning problem (meaning.ranked problem) c.args.descent.now.levels c.next_node.new.descent.levels c.next_node.new.descent.path c.in-Some.node found.0 found.1 m.is_visit m.path.now.numbers m.value m.held c.bound.result
    c.if-not-mark.true (sym c.path.ensures ∙ c.if-not-is_path.ensures) c.bound.ensures c.in_ok-node.ensures.still_open

pub returns : goal.returns
returns g c =
    let meaning = g.P.Problem in
    let problem = c.args.problem.now in
    let found = rw c.in-Some.is at c.in_ok-node.ensures.found in
    let m = c.args.mark.now in
    passes-visit meaning problem (meaning.ranked problem) c.args.descent.now.levels c.next_node.new.descent.levels c.next_node.new.descent.path c.in-Some.node found.0 found.1 m.is_visit m.path.now.numbers m.value m.held c.worth.result c.in_ok-kids.kids c.open-2.new.self.levels
    c.if-not-mark.false (sym c.path.ensures ∙ c.if-not-is_path.ensures) c.worth.ensures c.in_ok-node.ensures.still_open c.in_ok-kids.ensures c.in_ok-open.ensures.ok
