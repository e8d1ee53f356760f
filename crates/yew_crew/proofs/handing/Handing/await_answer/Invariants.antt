use Rattle.std.proofs.Common.{◌≡◌, []}
use Rattle.yew_mail.specs.declared.view.Ask.TheVariants.{In}
use Rattle.yew_crew.specs.Idling.{IsIdleStep}
use Rattle.yew_crew.proofs.handing.Handing.await_answer.Given as goal

abbrev pub invariant-loop : goal.invariant-loop
invariant-loop g l =
    (goal.iterator-loop g).can_next l.iterator' × (goal.iterator-loop g).is_finite l.iterator' × IsIdleStep [] l.initial.self l.self × (l.self.seat.ask ≡ In l.victim)
