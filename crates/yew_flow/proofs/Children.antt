-- What is known of a list, where the list with one more job is a node.
use Rattle.std.proofs.Common.{ℕ, zero, suc, ◌+◌, ◌^◌, ◌<◌, ◌≤◌, length, arith}
use Rattle.yew_flow.specs.declared.nodes.FlowNode.{FlowNode}
use Rattle.yew_flow.specs.BoundLaws.{completion-small}
use Rattle.yew_flow.specs.CompletionLaws.{row-at, row-front}
use Rattle.yew_flow.specs.Instance.{Instance}
use Rattle.yew_flow.specs.NodeLaws.{length-jobs}
use Rattle.yew_flow.specs.Nodes.{completed, jobs_of, done_on, ends_behind, appended, IsNode}

module _ (instance : Instance) (node : FlowNode) (job : ℕ) (sound : IsNode instance (appended instance node job)) where
  pub few-placed : node.placed + 1 ≤ 64
  few-placed = let count = sound.count in let few = sound.limits.few_jobs in omega (arith, count, few)

  -- each machine is free again soon enough
  pub done-small : (machine : ℕ) → machine ≤ instance.machines → done_on instance node.ends job machine < 2 ^ 32
  done-small zero l = omega arith
  done-small (suc j) l =
      let xs = jobs_of (appended instance node job) in
      let here = row-at instance (ends_behind instance node.ends job) (done_on instance node.ends job) j (row-front instance node.ends (done_on instance node.ends job)) (omega (arith, l)) in
      let there = row-at instance (ends_behind instance node.ends job) (completed instance xs) j sound.ends_are (omega (arith, l)) in
      let small = completion-small instance sound.limits xs (length xs) (suc j) in
      let long = length-jobs instance (appended instance node job) sound in
      let few = few-placed in
      let few_machines = sound.limits.few_machines in
      omega (arith, here, there, small, long, few, few_machines, l)
