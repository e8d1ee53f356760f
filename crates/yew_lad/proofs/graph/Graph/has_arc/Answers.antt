use Rattle.std.proofs.Common.{◌∙◌, arith}
use Rattle.yew_lad.proofs.Arcs.{size_is, arc_is}
use Rattle.yew_lad.proofs.graph.Graph.has_arc.Goals as goal

pub has-requires-clause-row : goal.has-requires-clause-row
has-requires-clause-row c =
    let is = size_is c.self.inside.size c.self.inside.arcs c.args.self.now c.self.view_is in
    let rows = c.self.invariant.rows_are in
    let row = c.requires.u in
    omega arith

pub has-requires-clause-bit : goal.has-requires-clause-bit
has-requires-clause-bit c =
    let is = size_is c.self.inside.size c.self.inside.arcs c.args.self.now c.self.view_is in
    let width = c.self.invariant.width_is in
    let bit = c.requires.v in
    omega arith

pub returns : goal.returns
returns c =
    let is = size_is c.self.inside.size c.self.inside.arcs c.args.self.now c.self.view_is in
    let row = c.requires.u in
    let bit = c.requires.v in
    c.has.ensures ∙ arc_is c.self.inside.size c.self.inside.arcs c.args.self.now c.self.view_is c.args.u c.args.v (omega arith) (omega arith)
