use Rattle.std.proofs.Common.{◌∙◌, length, ap, arith}
use Rattle.yew_flow.specs.Instance.{Instance}
use Rattle.yew_flow.proofs.LaterTable.{length-later}
use Rattle.yew_flow.proofs.flow.Flow.new.Goals as goal

pub orders_of-requires-clause-machines : goal.orders_of-requires-clause-machines
orders_of-requires-clause-machines c =
    let instance : Instance = record { jobs = c.args.jobs; machines = c.args.machines; times = c.as_slice.result.now } in
    let long = ap length c.as_slice-2.ensures.value ∙ ap length c.in_ok-later.ensures ∙ length-later instance in
    omega (arith, long)
