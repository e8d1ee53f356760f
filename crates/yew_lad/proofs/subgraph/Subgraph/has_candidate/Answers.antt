use Rattle.std.proofs.Common.{sym, arith}
use Rattle.yew_lad.specs.Digraphs.{vertex_count}
use Rattle.yew_lad.specs.Nodes.{vertex_at, is_candidate}
use Rattle.yew_lad.proofs.NextLaws.{word-none, word-some, none-any}
use Rattle.yew_lad.proofs.subgraph.Subgraph.has_candidate.Goals as goal

pub candidates-requires-clause-number : goal.candidates-requires-clause-number
candidates-requires-clause-number c =
    let width = c.width-number-end.ensures in
    let l = c.loop-number-test.true in
    omega arith

pub returns-then-candidates-ne0 : goal.returns-then-candidates-ne0
returns-then-candidates-ne0 c =
    sym (word-some (vertex_count c.args.self.now.target) (is_candidate c.args.self.now c.args.node.now (vertex_at c.args.self.now c.args.place)) c.loop-number.number c.candidates.result c.candidates.ensures c.if-candidates-ne0.true c.candidates.type_inv)

pub returns : goal.returns
returns c =
    sym (none-any (is_candidate c.args.self.now c.args.node.now (vertex_at c.args.self.now c.args.place)) 0 (vertex_count c.args.self.now.target)
    (λ t a b.
    let width = c.width-number-end.ensures in
    let l = c.loop-number-test.false in
    c.loop-number.invariant t (omega arith) (omega arith)))

pub loop-number-preserved : goal.loop-number-preserved
loop-number-preserved c =
    word-none (vertex_count c.args.self.now.target) (is_candidate c.args.self.now c.args.node.now (vertex_at c.args.self.now c.args.place)) c.loop-number.number c.candidates.result c.candidates.ensures c.if-candidates-ne0.false c.loop-number.invariant
