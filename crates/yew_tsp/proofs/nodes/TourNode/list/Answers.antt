use Rattle.std.proofs.Common.{◌≡◌, ◌<◌, ◌+◌, [], ◌∷◌, ◌++◌, length, take, get_or, ap, sym, ◌∙◌, arith}
use Rattle.std.proofs.lemmas.List.{length-set, take_more, take_more_set}
use Rattle.yew_tsp.proofs.nodes.TourNode.list.Goals as goal

pub loop-place-preserved : goal.loop-place-preserved
loop-place-preserved c =
    let node = c.args.self.now in
    let place = c.loop-place.place in
    let cities = c.loop-place.cities in
    let there : place < length cities = let long = c.loop-place.invariant.long in let fits = c.requires.steps in omega (arith, long, fits) in
    let also : place < length node.cities = let size = c.requires.size in let fits = c.requires.steps in omega (arith, size, fits) in
    record {
      long = length-set cities place (get_or node.cities place 0) ∙ c.loop-place.invariant.long;
      front =
          take_more_set cities place (get_or node.cities place 0) there
          ∙ ap (λ cs. cs ++ get_or node.cities place 0 ∷ []) c.loop-place.invariant.front
          ∙ sym (take_more node.cities place 0 also);
    }

pub returns : goal.returns
returns c =
    let node = c.args.self.now in
    let fits = c.requires.steps in
    let there : node.steps < length c.loop-place.cities = let long = c.loop-place.invariant.long in omega (arith, fits, long) in
    let all : c.loop-place.place ≡ node.steps = omega arith in
    take_more_set c.loop-place.cities node.steps node.last there
    ∙ ap (λ cs. cs ++ node.last ∷ []) (ap (λ k. take k c.loop-place.cities) (sym all) ∙ c.loop-place.invariant.front ∙ ap (λ k. take k node.cities) all)
