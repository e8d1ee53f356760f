-- The words of the code for what a policy is told and what it asks for.
use Rattle.std.specs.Prelude.{ℕ, Bool}
use Rattle.yew_log.specs.Policies.{Event as PolicyEvent, visit, cut_off, end, Act as PolicyAct, on, spawn, hand, PolicyInput}
use Rattle.yew_walk.specs.Dealt.{part_of_chunk}
use Rattle.yew_walk.specs.declared.policy.Event.{Event}
use Rattle.yew_walk.specs.declared.policy.Event.TheVariants.{Visited, CutOff, Ended}
use Rattle.yew_walk.specs.declared.policy.Act.{Act}
use Rattle.yew_walk.specs.declared.policy.Act.TheVariants.{On, Spawn, Hand}

abbrev pub event_of : Event → PolicyEvent
event_of Visited = visit
event_of CutOff = cut_off
event_of Ended = end

abbrev pub act_of : Act → PolicyAct
act_of On = on
act_of (Spawn chunk) = spawn (part_of_chunk chunk)
act_of (Hand chunk) = hand (part_of_chunk chunk)

-- an event at a depth, and whether tasks were wanted
abbrev pub input_of : Event → ℕ → Bool → PolicyInput
input_of event depth wanted = record { event = event_of event; depth = depth; wanted = wanted }
