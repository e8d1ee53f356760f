use Rattle.std.proofs.Common.{◌+◌, ◌*◌, ◌&&◌, nat_lt, subst, ◌∙◌}
use Rattle.yew_lad.specs.Bits.{AreBits}
use Rattle.yew_lad.specs.Digraphs.{vertex_count}
use Rattle.yew_lad.specs.Nodes.{vertex_at, is_candidate}
use Rattle.yew_lad.proofs.KidLaws.{candidates-skip, candidates-left}
use Rattle.yew_lad.proofs.WordLaws.{all_unused}
use Rattle.yew_lad.proofs.subgraph.Subgraph.next_word.Goals as goal

pub take_from-requires : goal.take_from-requires
take_from-requires c = all_unused

pub returns-then-bits-ne0-clause-candidates : goal.returns-then-bits-ne0-clause-candidates
returns-then-bits-ne0-clause-candidates c =
    c.loop-number.invariant
    ∙ candidates-left c.args.self.now c.args.node.now c.loop-number.number c.candidates-bits.result
    (subst (λ place. AreBits c.candidates-bits.result (λ k. nat_lt (64 * c.loop-number.number + k) (vertex_count c.args.self.now.target) && is_candidate c.args.self.now c.args.node.now (vertex_at c.args.self.now place) (64 * c.loop-number.number + k))) c.count.ensures.value c.candidates-bits.ensures)
    c.if-bits-ne0.true

pub loop-number-preserved : goal.loop-number-preserved
loop-number-preserved c =
    c.loop-number.invariant
    ∙ candidates-skip c.args.self.now c.args.node.now c.loop-number.number c.candidates-bits.result
    (subst (λ place. AreBits c.candidates-bits.result (λ k. nat_lt (64 * c.loop-number.number + k) (vertex_count c.args.self.now.target) && is_candidate c.args.self.now c.args.node.now (vertex_at c.args.self.now place) (64 * c.loop-number.number + k))) c.count.ensures.value c.candidates-bits.ensures)
    c.if-bits-ne0.false
