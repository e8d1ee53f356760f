use Rattle.std.proofs.Common.{refl}
use denote.Param.Send.{sendable}
use Rattle.yew_knap.proofs.nodes.KnapNode.TheSendSync.{the_send as knap_node}
use Rattle.yew_knap.proofs.nodes.KnapKids.TheSendSync.{the_send as knap_kids}
use Rattle.yew_knap.proofs.knapsack.Knapsack.TheSendSync.{the_sync as knapsack}
use Rattle.yew_flow.proofs.flow.Flow.TheSendSync.{the_sync as flow}
use Rattle.yew_flow.proofs.nodes.FlowNode.TheSendSync.{the_send as flow_node}
use Rattle.yew_flow.proofs.nodes.FlowKids.TheSendSync.{the_send as flow_kids}
use Rattle.yew_lad.proofs.nodes.MapKids.TheSendSync.{the_send as map_kids}
use Rattle.yew_lad.proofs.subgraph.Subgraph.TheSendSync.{the_sync as subgraph}
use Rattle.yew_app.proofs.solve.solve_plain.Goals as goal

pub solve_alone-requires : goal.solve_alone-requires
solve_alone-requires g b c = (search (knap_node, sendable) depth 20, (search (knap_kids, sendable) depth 20, (search sendable depth 20, (search (knapsack, sendable) depth 20, (search sendable depth 20, ((refl, tt), (b.plan_is_askable.ensures, b.requires.done)))))))

pub solve_alone-requires-in-Subgraph : goal.solve_alone-requires-in-Subgraph
solve_alone-requires-in-Subgraph g b c = (search sendable depth 20, (search (map_kids, sendable) depth 20, (search sendable depth 20, (search (subgraph, sendable) depth 20, (search sendable depth 20, ((refl, tt), (b.plan_is_askable.ensures, b.requires.done)))))))

pub solve_alone-requires-in-Flow : goal.solve_alone-requires-in-Flow
solve_alone-requires-in-Flow g b c = (search (flow_node, sendable) depth 20, (search (flow_kids, sendable) depth 20, (search sendable depth 20, (search (flow, sendable) depth 20, (search sendable depth 20, ((refl, tt), (b.plan_is_askable.ensures, b.requires.done)))))))
