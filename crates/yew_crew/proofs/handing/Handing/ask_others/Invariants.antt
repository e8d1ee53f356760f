use Rattle.std.proofs.Common.{◌≡◌, []}
use Rattle.yew_mail.specs.declared.view.Ask.TheVariants.{Nowhere}
use Rattle.yew_crew.specs.Idling.{IsIdleStep}
use Rattle.yew_crew.proofs.handing.Handing.ask_others.Given as goal

abbrev pub invariant-loop : goal.invariant-loop
invariant-loop g l = IsIdleStep [] l.initial.self l.self × (l.self.seat.ask ≡ Nowhere)
