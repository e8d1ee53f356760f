use Rattle.std.proofs.Common.{◌∙◌, ap, map, List}
use Rattle.std.proofs.lemmas.List.{map-append}
use Rattle.crossbeam_deque.specs.Handles.{stealer_deque}
use Rattle.yew_pool.proofs.Starting.{opened_more_as}
use Rattle.yew_pool.proofs.making.make_deques.Goals as goal

pub loop-preserved : goal.loop-preserved
loop-preserved g c =
    opened_more_as _ _ _ _ _ c.loop.owns.items _
    (stealer_deque c.in_ok-stealer.field-0) c.in_ok-own.own c.loop.invariant c.in_ok-own.ensures.0 c.in_ok-stealer.ensures
    (ap (λ (l : List _). map stealer_deque l) c.in_ok-push.ensures.items ∙ map-append stealer_deque c.loop.stealers.items _) c.in_ok-push-2.ensures.items
