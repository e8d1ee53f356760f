use Rattle.std.proofs.Common.{rules, ap}
use Rattle.yew_crew.specs.OpenSeats.{OpenSeatView}
use Rattle.yew_crew.proofs.Joins.{removed-first}
use Rattle.yew_crew.proofs.Seatings.{seating-next}
use Rattle.yew_crew.proofs.starting.make_next.Goals as goal

pub returns-clause-seating : goal.returns-clause-seating
returns-clause-seating g c =
    let w = c.requires.seating in
    let passes_are = removed-first c.args.passes.now.items c.remove-pass.result c.remove-pass.new.self.items c.requires.some c.remove-pass.ensures.value c.remove-pass.ensures.items in
    seating-next _ _ _ _ c.args.best.now _ c.args.tasks.now _ c.remove-pass.result _ _ c.remove-seat.result _ _ c.in_ok-station.station _ _ _ _ (search rules)
    (ap (λ (t : OpenSeatView). t.made) c.split-own_tasks.ensures.new) passes_are
    (removed-first c.args.seats.now.items c.remove-seat.result c.remove-seat.new.self.items (search rules) c.remove-seat.ensures.value c.remove-seat.ensures.items)
    c.split-own_best.ensures.seat c.split-own_tasks.ensures.seat c.in_ok-station.ensures c.in_ok-push.ensures.items w
