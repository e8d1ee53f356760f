use Rattle.std.proofs.Common.{map, ap, sym, ◌∙◌, arith}
use Rattle.yew_lad.specs.Kids.{remaining_of, kids_of}
use Rattle.yew_lad.specs.Nodes.{with_image}
use Rattle.yew_lad.proofs.KidLaws.{children-next, children-whole}
use Rattle.yew_lad.proofs.problem.SubgraphProblem.open.Goals as goal
use Rattle.yew_lad.proofs.problem.SubgraphProblem.open.Goals.{then-count-places, else-count-places}

pub returns : goal.returns
returns c =
    let pair = c.args.self.now in
    let images = c.args.node in
    let count = c.count.ensures.value in
    let places = c.places.ensures.value in
    ap (remaining_of pair) c.new.ensures
    ∙ elim c.if-count-places.branch [
      | then-count-places w ↦
          let l = w.if-count-places.true in
          ap (λ word. remaining_of pair (kids_of images word)) w.word-is
          ∙ ap (map (with_image images)) (sym w.next_word-word.ensures.candidates)
          ∙ children-next pair images (omega arith)
      | else-count-places w ↦
          let l = w.if-count-places.false in
          ap (λ word. remaining_of pair (kids_of images word)) w.word-is
          ∙ children-whole pair images (omega arith)
    ]
