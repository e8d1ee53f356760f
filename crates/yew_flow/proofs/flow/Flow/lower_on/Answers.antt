use Rattle.std.proofs.Common.{◌∙◌, arith}
use Rattle.yew_flow.proofs.Bounds.{absent-within, end-is, rest-is, later-is, on-small}
use Rattle.yew_flow.proofs.flow.Flow.lower_on.Goals as goal

pub least_later-later-requires-clause-absent : goal.least_later-later-requires-clause-absent
least_later-later-requires-clause-absent c = absent-within c.args.self.now c.args.node.now c.requires.node

pub overflow_add-result : goal.overflow_add-result
overflow_add-result c =
    let end = end-is c.args.self.now c.args.node.now c.requires.node c.args.machine c.requires.machine.0 c.requires.machine.1 in
    let rest = rest-is c.args.self.now c.args.node.now c.requires.node c.args.machine c.requires.machine.0 c.requires.machine.1 in
    let small = on-small c.args.self.now c.args.node.now c.requires.node c.args.machine c.requires.machine.0 c.requires.machine.1 in
    omega (arith, end, rest, small)

pub overflow_add-result-2 : goal.overflow_add-result-2
overflow_add-result-2 c =
    let end = end-is c.args.self.now c.args.node.now c.requires.node c.args.machine c.requires.machine.0 c.requires.machine.1 in
    let rest = rest-is c.args.self.now c.args.node.now c.requires.node c.args.machine c.requires.machine.0 c.requires.machine.1 in
    let later = c.least_later-later.ensures ∙ later-is c.args.self.now c.args.node.now c.requires.node c.args.machine c.requires.machine.0 c.requires.machine.1 in
    let small = on-small c.args.self.now c.args.node.now c.requires.node c.args.machine c.requires.machine.0 c.requires.machine.1 in
    omega (arith, end, rest, later, small)

pub returns : goal.returns
returns c =
    let end = end-is c.args.self.now c.args.node.now c.requires.node c.args.machine c.requires.machine.0 c.requires.machine.1 in
    let rest = rest-is c.args.self.now c.args.node.now c.requires.node c.args.machine c.requires.machine.0 c.requires.machine.1 in
    let later = c.least_later-later.ensures ∙ later-is c.args.self.now c.args.node.now c.requires.node c.args.machine c.requires.machine.0 c.requires.machine.1 in
    omega (arith, end, rest, later)
