-- The top level gives its next node, or ends.
use Rattle.std.proofs.Common.{length, sym, ◌∙◌, arith}
use Rattle.yew_laws.specs.declared.problem.Task.{Task}
use Rattle.yew_stack.proofs.Coming.{gives-to_come, ends-to_come, ends-open, ends-turns_left}
use Rattle.yew_check.proofs.covering.next_node.Goals as goal

pub returns-in-Node-clause-found : goal.returns-in-Node-clause-found
returns-in-Node-clause-found g c =
    let meaning = g.P.Problem in
    let problem = c.args.problem.now in
    let turn = rw c.in-Node.is at c.in_ok-node.ensures.ok in
    let opened = rw c.in-Node.is at (c.in_ok-node.ensures.levels_open c.loop-node.invariant.levels_open) in
    let given : Task g.row.P-Node.Denot = record { path = record { numbers = c.next.new.self.path; space = length c.next.new.self.path }; node = c.in-Node.node } in
    (opened.1, sym c.loop-node.invariant.same ∙ gives-to_come meaning problem c.loop-node.descent.levels c.next.new.self.levels given turn)

pub loop-node-smaller : goal.loop-node-smaller
loop-node-smaller g c =
    let turn = rw c.in-Ended.is at c.in_ok-node.ensures.ok in
    let e = ends-turns_left g.P.Problem c.args.problem.now c.loop-node.descent.levels c.next.new.self.levels c.next.new.self.path turn in
    omega (arith, e)

pub loop-node-preserved : goal.loop-node-preserved
loop-node-preserved g c =
    let meaning = g.P.Problem in
    let problem = c.args.problem.now in
    let turn = rw c.in-Ended.is at c.in_ok-node.ensures.ok in
    record {
      levels_open = ends-open meaning problem c.loop-node.descent.levels c.next.new.self.levels c.next.new.self.path turn c.loop-node.invariant.levels_open;
      same = sym (ends-to_come meaning problem c.loop-node.descent.levels c.next.new.self.levels c.next.new.self.path turn) ∙ c.loop-node.invariant.same;
    }
