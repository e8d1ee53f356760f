-- Which lists have all cities.
use Rattle.std.proofs.Common.{◌≡◌, ◌≢◌, suc, ◌+◌, ◌^◌, ◌<◌, length, ap, sym, ◌∙◌, arith}
use Rattle.std.specs.Int.{trailing_zeros, w64}
use Rattle.yew_tsp.specs.declared.nodes.TourNode.{TourNode}
use Rattle.yew_tsp.specs.Bits.{bits_of}
use Rattle.yew_tsp.specs.Instance.{Instance}
use Rattle.yew_tsp.specs.Nodes.{unvisited_of, cleared, IsNode}
use Rattle.yew_tsp.proofs.Lowest.{bits_of-zero, bits_of-trailing}

module _ (instance : Instance) (node : TourNode) (sound : IsNode instance node) where
  pub none-left : node.unvisited ≡ 0 → node.steps + 1 ≡ instance.cities
  none-left e =
      let none = ap length (sym sound.unvisited_is ∙ ap bits_of e ∙ bits_of-zero) in
      let count = sound.count in
      omega (arith, none, count)

  pub some-left : node.unvisited ≢ 0 → node.unvisited < 2 ^ 64 → node.steps + 1 ≢ instance.cities
  some-left other fits all =
      let some : length (unvisited_of instance node) ≡ suc (length (bits_of (cleared node.unvisited (trailing_zeros w64 node.unvisited)))) =
      ap length (sym sound.unvisited_is ∙ bits_of-trailing node.unvisited other fits) in
      let count = sound.count in
      omega (arith, some, count, all)
