use Rattle.std.proofs.Common.{sym, ◌∙◌, inl, inr, arith}
use Rattle.std.proofs.lemmas.Bool.{cases_Bool}
use Rattle.yew_make.specs.Graphs.{kept, are_joined}
use Rattle.yew_make.proofs.Ranges.{found-kept, found-passed}
use Rattle.yew_make.proofs.graph.find_successors.Goals as goal

pub loop-v-preserved : goal.loop-v-preserved
loop-v-preserved c =
    let p = are_joined (kept c.args.pairs.now) c.args.size c.args.u in
    let count = c.loop-v.count in
    let few = c.loop-v.invariant.few in
    let room = c.requires.room in
    elim (cases_Bool c.are_joined.result) [
      | inl yes_is ↦
          rw yes_is (record {
            found = found-kept p c.loop-v.found count c.loop-v.v (sym c.are_joined.ensures ∙ yes_is) (omega (arith, few, room)) c.loop-v.invariant.found;
            few = omega (arith, few);
          })
      | inr no_is ↦
          rw no_is (record {
            found = found-passed p c.loop-v.found count c.loop-v.v (sym c.are_joined.ensures ∙ no_is) c.loop-v.invariant.found;
            few = omega (arith, few);
          })
    ]
