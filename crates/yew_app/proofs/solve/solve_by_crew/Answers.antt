use Rattle.std.proofs.Common.{refl}
use denote.Param.Send.{sendable}
use Rattle.yew_knap.proofs.nodes.KnapNode.TheSendSync.{the_send as knap_node}
use Rattle.yew_knap.proofs.nodes.KnapKids.TheSendSync.{the_send as knap_kids}
use Rattle.yew_knap.proofs.knapsack.Knapsack.TheSendSync.{the_sync as knapsack}
use Rattle.yew_flow.proofs.flow.Flow.TheSendSync.{the_sync as flow}
use Rattle.yew_flow.proofs.nodes.FlowNode.TheSendSync.{the_send as flow_node}
use Rattle.yew_flow.proofs.nodes.FlowKids.TheSendSync.{the_send as flow_kids}
use Rattle.yew_lad.proofs.nodes.MapNode.TheSendSync.{the_send as map_node}
use Rattle.yew_lad.proofs.nodes.MapKids.TheSendSync.{the_send as map_kids}
use Rattle.yew_lad.proofs.subgraph.Subgraph.TheSendSync.{the_sync as subgraph}
use Rattle.yew_semi.proofs.semigroup.Semigroup.TheSendSync.{the_send as semigroup}
use Rattle.yew_semi.proofs.semigroup.Generators.TheSendSync.{the_send as generators}
use Rattle.yew_semi.proofs.semigroups.Semigroups.TheSendSync.{the_sync as semigroups}
use Rattle.yew_kinds.proofs.depths.Depths.TheSendSync.{the_send as depths}
use Rattle.yew_kinds.proofs.depths.ByDepth.TheSendSync.{the_sync as by_depth}
use Rattle.yew_kinds.proofs.tally.NoTally.TheSendSync.{the_sync as no_tally}
use Rattle.yew_app.proofs.solve.solve_by_crew.Goals as goal

pub solve_together-requires : goal.solve_together-requires
solve_together-requires g b c = (search (knap_node, sendable) depth 20, (search (knap_kids, sendable) depth 20, (search sendable depth 20, ((let shares = b.type_bounds.sync-G in search sendable depth 20), ((let shares = b.type_bounds.sync-H in search sendable depth 20), (search (knapsack, sendable) depth 20, (search (no_tally, sendable) depth 20, ((refl, tt), (b.plan_is_askable.ensures, b.knapsack_of-job.ensures.exact)))))))))

pub solve_together-requires-in-Subgraph : goal.solve_together-requires-in-Subgraph
solve_together-requires-in-Subgraph g b c = (search (map_node, sendable) depth 20, (search (map_kids, sendable) depth 20, (search sendable depth 20, ((let shares = b.type_bounds.sync-G in search sendable depth 20), ((let shares = b.type_bounds.sync-H in search sendable depth 20), (search (subgraph, sendable) depth 20, (search (no_tally, sendable) depth 20, ((refl, tt), (b.plan_is_askable.ensures, λ ordered. tt)))))))))

pub solve_together-requires-in-Semigroups : goal.solve_together-requires-in-Semigroups
solve_together-requires-in-Semigroups g b c = (search (semigroup, sendable) depth 20, (search (generators, sendable) depth 20, (search (depths, sendable) depth 20, ((let shares = b.type_bounds.sync-G in search sendable depth 20), ((let shares = b.type_bounds.sync-H in search sendable depth 20), (search (semigroups, sendable) depth 20, (search (by_depth, sendable) depth 20, ((refl, tt), (b.plan_is_askable.ensures, λ ordered. tt)))))))))

pub solve_together-requires-in-Flow : goal.solve_together-requires-in-Flow
solve_together-requires-in-Flow g b c = (search (flow_node, sendable) depth 20, (search (flow_kids, sendable) depth 20, (search sendable depth 20, ((let shares = b.type_bounds.sync-G in search sendable depth 20), ((let shares = b.type_bounds.sync-H in search sendable depth 20), (search (flow, sendable) depth 20, (search (no_tally, sendable) depth 20, ((refl, tt), (b.plan_is_askable.ensures, b.flow_of-job.ensures.exact)))))))))
