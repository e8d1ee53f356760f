use Rattle.std.proofs.Common.{◌≡◌, ◌∙◌, ◌+◌, ◌-◌, ◌*◌, length, get_or, ap, arith}
use Rattle.std.proofs.lemmas.List.{get_or_read}
use Rattle.std.proofs.lemmas.Nat.{mul-add-lt}
use Rattle.yew_flow.specs.Instance.{Instance}
use Rattle.yew_flow.specs.Nodes.{later_table, places_by}
use Rattle.yew_flow.proofs.FirstLeast.{length-places, length-table}
use Rattle.yew_flow.proofs.RankedPlaces.{rows-at}
use Rattle.yew_flow.proofs.flow.Flow.ranked.Goals as goal

pub index-requires : goal.index-requires
index-requires c =
    let instance : Instance = record { jobs = c.self.inside.jobs; machines = c.self.inside.machines; times = c.self.inside.times.items } in
    let long = ap length c.self.invariant.1 ∙ length-table instance in
    let jobs = ap (λ (i : Instance). i.jobs) c.self.view_is in
    let machines = ap (λ (i : Instance). i.machines) c.self.view_is in
    let rank = c.requires.rank in
    let inside = mul-add-lt (c.args.machine - 1) c.self.inside.jobs c.args.rank c.self.inside.machines (omega (arith, machines)) (omega (arith, jobs, rank)) in
    omega (arith, long, inside)

pub returns : goal.returns
returns c =
    let n = c.self.inside.jobs in
    let m = c.self.inside.machines in
    let instance : Instance = record { jobs = n; machines = m; times = c.self.inside.times.items } in
    let jobs = ap (λ (i : Instance). i.jobs) c.self.view_is in
    let machines = ap (λ (i : Instance). i.machines) c.self.view_is in
    let rank = c.requires.rank in
    let long = ap length c.self.invariant.1 ∙ length-table instance in
    let inside = mul-add-lt (c.args.machine - 1) n c.args.rank m (omega (arith, machines)) (omega (arith, jobs, rank)) in
    let number : 1 + (c.args.machine - 1) ≡ c.args.machine = omega arith in
    get_or_read c.self.inside.order.items _ _ (omega (arith, long, inside)) c.index.ensures 0
    ∙ ap (λ os. get_or os ((c.args.machine - 1) * n + c.args.rank) 0) c.self.invariant.1
    ∙ rows-at (places_by (later_table instance) n) n (length-places (later_table instance) n) 1 m (c.args.machine - 1) c.args.rank (omega (arith, machines)) (omega (arith, jobs, rank))
    ∙ ap (λ k. get_or (places_by (later_table instance) n k) c.args.rank 0) number
    ∙ ap (λ (i : Instance). get_or (places_by (later_table i) i.jobs c.args.machine) c.args.rank 0) c.self.view_is
