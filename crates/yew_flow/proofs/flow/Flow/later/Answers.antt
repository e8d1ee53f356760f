use Rattle.std.proofs.Common.{◌∙◌, length, ap, arith}
use Rattle.yew_flow.specs.Instance.{Instance}
use Rattle.yew_flow.proofs.LaterTable.{length-later}
use Rattle.yew_flow.proofs.flow.Flow.later.Goals as goal

pub later_at_place-requires : goal.later_at_place-requires
later_at_place-requires c =
    let instance : Instance = record { jobs = c.self.inside.jobs; machines = c.self.inside.machines; times = c.self.inside.times.items } in
    let long = ap length c.as_slice.ensures.value ∙ ap length c.self.invariant.0 ∙ length-later instance in
    let machines = ap (λ (i : Instance). i.machines) c.self.view_is in
    (c.requires.machine.0, omega (arith, long, machines))
