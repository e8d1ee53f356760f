use Rattle.std.proofs.Common.{◌∙◌, sym, arith}
use Rattle.yew_tsp.proofs.LastSteps.{before-within, last_step-is}
use Rattle.yew_tsp.proofs.tours.Tours.last_step.Goals as goal

pub weight-requires-clause-from : goal.weight-requires-clause-from
weight-requires-clause-from c = let some = c.if-steps-eq0.false in before-within c.args.self.now c.args.node.now c.requires (omega (arith, some))

pub returns : goal.returns
returns c =
    let some = c.if-steps-eq0.false in
    c.weight.ensures ∙ sym (last_step-is c.args.self.now c.args.node.now c.requires (omega (arith, some)))
