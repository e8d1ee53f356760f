use Rattle.std.proofs.Common.{◌≡◌, ℕ, ◌+◌, ◌<◌, true, false, List, ◌∷◌, length, ap, ap₂, sym, subst, ◌∙◌}
use Rattle.yew_example.specs.declared.problem.ColouringKids.{ColouringKids}
use Rattle.yew_example.specs.Graphs.{is_proper}
use Rattle.yew_example.specs.Nodes.{with_colour, children_from}
use Rattle.yew_example.proofs.NextChildren.{children-first, children-skip}
use Rattle.yew_example.proofs.problem.ColouringProblem.next.Goals as goal

pub returns-then-is_proper-clause-ok : goal.returns-then-is_proper-clause-ok
returns-then-is_proper-clause-ok c =
    let graph = c.args.self.now.graph in
    let number = c.args.self.now.number in
    let parent = c.args.kids.now.parent in
    let colour = c.loop-colour.colour in
    let kept = c.loop-colour.invariant.kept in
    let room : length parent < graph.vertices = subst (λ (xs : List ℕ). length xs < graph.vertices) c.as_slice.ensures c.if-as_slice-self.true in
    let child = c.with-child.ensures ∙ ap (λ (k : ColouringKids). with_colour k.parent colour) kept in
    let proper : is_proper graph (with_colour parent colour) ≡ true = ap (is_proper graph) (sym (c.as_slice-in-loop-colour.ensures ∙ child)) ∙ sym c.if-is_proper.ensures in
    c.loop-colour.invariant.stands
    ∙ children-first graph number parent colour room c.loop-colour-test.true proper
    ∙ ap₂ (λ (first : List ℕ) (k : ColouringKids). first ∷ children_from graph number k.parent (colour + 1)) (sym child) (sym kept)

pub loop-colour-preserved : goal.loop-colour-preserved
loop-colour-preserved c =
    let graph = c.args.self.now.graph in
    let parent = c.args.kids.now.parent in
    let colour = c.loop-colour.colour in
    let kept = c.loop-colour.invariant.kept in
    let room : length parent < graph.vertices = subst (λ (xs : List ℕ). length xs < graph.vertices) c.as_slice.ensures c.if-as_slice-self.true in
    let child = c.with-child.ensures ∙ ap (λ (k : ColouringKids). with_colour k.parent colour) kept in
    let taken : is_proper graph (with_colour parent colour) ≡ false = ap (is_proper graph) (sym (c.as_slice-in-loop-colour.ensures ∙ child)) ∙ sym c.if-is_proper.ensures in
    record {
      kept = kept;
      stands = c.loop-colour.invariant.stands ∙ children-skip graph c.args.self.now.number parent colour room c.loop-colour-test.true taken;
    }
