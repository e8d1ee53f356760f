use Rattle.std.proofs.Common.{◌∙◌, ap}
use Rattle.yew_best.specs.Seats.{SeatView}
use Rattle.yew_crew.specs.OpenSeats.{OpenSeatView}
use Rattle.yew_crew.proofs.Joins.{removed-first, all_behind}
use Rattle.yew_ranked.specs.ClaimSeats.{ClaimSeatView}
use Rattle.yew_ranked.proofs.JoinedParts.{parts-joined}
use Rattle.yew_ranked.proofs.joining.join_reports.Goals as goal

pub take_apart-requires-clause-seated : goal.take_apart-requires-clause-seated
take_apart-requires-clause-seated g c =
    (all_behind _ _ _ _ (removed-first c.args.reports.items c.remove-first.result c.remove-first.new.self.items c.requires.some c.remove-first.ensures.value c.remove-first.ensures.items) c.requires.seated).1

pub returns-clause-parts : goal.returns-clause-parts
returns-clause-parts g c =
    parts-joined _ _ _ _ _ (removed-first c.args.reports.items c.remove-first.result c.remove-first.new.self.items c.requires.some c.remove-first.ensures.value c.remove-first.ensures.items)
    c.in_ok-parts.ensures c.in_ok-take_apart.ensures.ok

pub returns-clause-best : goal.returns-clause-best
returns-clause-best g c =
    c.in_ok-take_apart.ensures.same_best ∙ (ap (λ (seat : SeatView). seat.best) c.in_ok-parts.ensures.best
    ∙ (all_behind _ _ _ _ (removed-first c.args.reports.items c.remove-first.result c.remove-first.new.self.items c.requires.some c.remove-first.ensures.value c.remove-first.ensures.items) c.requires.seated).0.of_best)

pub returns-clause-claims : goal.returns-clause-claims
returns-clause-claims g c =
    c.in_ok-take_apart.ensures.same_claims ∙ (ap (λ (seat : ClaimSeatView). seat.claims) c.in_ok-parts.ensures.claims
    ∙ (all_behind _ _ _ _ (removed-first c.args.reports.items c.remove-first.result c.remove-first.new.self.items c.requires.some c.remove-first.ensures.value c.remove-first.ensures.items) c.requires.seated).0.of_claims)

pub returns-clause-stop : goal.returns-clause-stop
returns-clause-stop g c =
    c.in_ok-take_apart.ensures.same_stop ∙ (ap (λ (seat : OpenSeatView). seat.tasks) c.in_ok-parts.ensures.stop
    ∙ (all_behind _ _ _ _ (removed-first c.args.reports.items c.remove-first.result c.remove-first.new.self.items c.requires.some c.remove-first.ensures.value c.remove-first.ensures.items) c.requires.seated).0.of_stop)
