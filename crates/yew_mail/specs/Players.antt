-- The workers of tests.
use Rattle.std.specs.Prelude.{◌≡◌, ℕ, ◌<◌, ◌≤◌, Option, None, Some}
use Rattle.yew_mail.specs.declared.view.Ask.{Ask}
use Rattle.yew_mail.specs.declared.view.Ask.TheVariants.{Nowhere, In}
use Rattle.yew_mail.specs.Seats.{MailId, SeatView}
use Rattle.yew_mail.specs.Views.{first_of}

-- the ask of a worker that asks this one
abbrev pub ask_of : Option ℕ → Ask
ask_of None = Nowhere
ask_of (Some victim) = In victim

-- the seat of the worker with this number, as `new` gave it, whatever it has done since, and whom it asks
pub record IsSeatOf {T Q : Type 0} (mail : MailId) (members : Q) (number : ℕ) (asks : Option ℕ) (seat : SeatView T Q) : Type 0 where
  pub same_mail : seat.mail ≡ mail
  pub share : seat.share ≡ 1
  pub made_for : seat.members ≡ Some members
  pub own : first_of seat.numbers ≡ number
  pub above : 0 < number
  pub within : number ≤ mail.workers
  pub asking : seat.ask ≡ ask_of asks
