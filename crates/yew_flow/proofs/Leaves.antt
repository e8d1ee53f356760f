-- Which lists have all jobs.
use Rattle.std.proofs.Common.{◌≡◌, ◌≢◌, suc, ◌+◌, ◌^◌, ◌<◌, length, map, ap, sym, ◌∙◌, arith}
use Rattle.std.specs.Int.{trailing_zeros, w64}
use Rattle.yew_flow.specs.declared.nodes.FlowNode.{FlowNode}
use Rattle.yew_flow.specs.Instance.{Instance}
use Rattle.yew_flow.specs.Nodes.{absent_from, jobs_of, jobs_in, cleared, IsNode}
use Rattle.yew_flow.specs.BoundLaws.{jobs-count}
use Rattle.yew_flow.proofs.Lowest.{bits_of-zero, bits_of-trailing}

module _ (instance : Instance) (node : FlowNode) (sound : IsNode instance node) where
  pub none-left : node.absent ≡ 0 → length (jobs_of node) ≡ instance.jobs
  none-left e =
      let none = ap length (sym sound.absent_is ∙ ap jobs_in e ∙ ap (map (λ place. place + 1)) bits_of-zero) in
      let count = jobs-count instance node sound in
      omega (arith, none, count)

  pub some-left : node.absent ≢ 0 → node.absent < 2 ^ 64 → length (jobs_of node) ≢ instance.jobs
  some-left other fits all =
      let some : length (absent_from instance (jobs_of node)) ≡ suc (length (jobs_in (cleared node.absent (trailing_zeros w64 node.absent)))) =
      ap length (sym sound.absent_is ∙ ap (map (λ place. place + 1)) (bits_of-trailing node.absent other fits)) in
      let count = jobs-count instance node sound in
      omega (arith, some, count, all)
