use Rattle.std.proofs.Common.{sym, ap, ◌∙◌}
use Rattle.std.proofs.lemmas.List.{append-nil}
use Rattle.yew_make.specs.Draws.{state_after}
use Rattle.yew_make.proofs.Generator.{state_after-none}
use Rattle.yew_make.proofs.Triangles.{pairs_before-none, triangle-more, triangle-state}
use Rattle.yew_make.proofs.tour.push_triangle.Goals as goal

pub loop-row-init : goal.loop-row-init
loop-row-init c = record {
  text = sym (append-nil c.args.out.now.items);
  state = sym (ap (state_after c.args.draws.now) (pairs_before-none c.args.size) ∙ state_after-none c.args.draws.now);
}

pub loop-row-preserved : goal.loop-row-preserved
loop-row-preserved c = record {
  text = triangle-more c.args.draws.now c.args.size c.loop-row.row c.loop-row.draws c.args.out.now.items c.loop-row.out.items c.push_weights.new.out.items c.loop-row.invariant.state c.loop-row.invariant.text c.in_ok-push_weights.ensures.text;
  state = triangle-state c.args.draws.now c.args.size c.loop-row.row c.loop-row.draws c.push_weights.new.draws c.loop-row.invariant.state c.in_ok-push_weights.ensures.next;
}
