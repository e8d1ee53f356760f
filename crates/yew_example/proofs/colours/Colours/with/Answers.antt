use Rattle.std.proofs.Common.{◌≡◌, ◌+◌, ◌∷◌, ◌++◌, [], length, max, set, take, ap, ◌∙◌, sym, add-one, arith}
use Rattle.std.proofs.Math.Seq.{take-suc-set}
use Rattle.std.proofs.lemmas.Grind.{common_steps}
use Rattle.yew_example.specs.Graphs.{colours_used}
use Rattle.yew_example.specs.NodeLaws.{colours_used-push}
use Rattle.yew_example.proofs.colours.Colours.with.Goals as goal

pub invariant_of-result : goal.invariant_of-result
invariant_of-result c =
    let s = c.self.inside in
    let size = ap length c.self.view_is in
    let longer : take (s.count + 1) (set s.colours s.count c.args.colour) ≡ take s.count s.colours ++ c.args.colour ∷ [] =
    ap (λ k. take k (set s.colours s.count c.args.colour)) (add-one s.count) ∙ take-suc-set s.colours s.count c.args.colour (grind (arith, common_steps)) in (
      grind (arith, common_steps),
      c.max.ensures ∙ ap (λ used. max used (c.args.colour + 1)) c.self.invariant.1 ∙ sym (colours_used-push (take s.count s.colours) c.args.colour) ∙ ap colours_used (sym longer),
    )
