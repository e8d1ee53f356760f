-- What a worker does at the mailboxes while it has nothing to walk.
use Rattle.std.specs.Prelude.{◌≡◌, ◌%◌, ◌^◌, true, false, List, [], ◌++◌, Some}
use Rattle.std.specs.List.{AllByRecursion}
use Rattle.yew_laws.specs.declared.problem.Task.{Task}
use Rattle.yew_mail.specs.declared.view.Ask.{Ask}
use Rattle.yew_mail.specs.declared.view.Ask.TheVariants.{Nowhere}
use Rattle.yew_mail.specs.declared.view.Found.{Found}
use Rattle.yew_crew.specs.Looks.{busy_looks, ends_closed}
use Rattle.yew_crew.specs.OpenSeats.{OpenSeatView}
use Rattle.yew_crew.specs.Outlets.{HandingView}
use Rattle.yew_crew.specs.declared.idling.Answer.{Answer}
use Rattle.yew_crew.specs.declared.idling.Answer.TheVariants.{Gift, Nothing, Over}
use Rattle.yew_crew.specs.declared.station.End.{End}
use Rattle.yew_crew.specs.declared.station.End.TheVariants.{Done, Stopped, Fault}

-- none of these entries is a look of a busy worker, and no asker whom they found is still to be looked for
pub record AreQuiet (entries : List Found) : Type 0 where
  pub none_busy : busy_looks false entries ≡ []
  pub settled : ends_closed false entries ≡ false

-- a seat at the open tasks loaded words, and nothing else changed
abbrev pub HasLoaded : OpenSeatView → OpenSeatView → Type 0
HasLoaded before after = after ≡ record before { last = after.last; knew = after.knew; saw = after.saw }

-- Why an idle worker has come to its end: it saw the stop word set, or its last load of the count gave 0, at which it knew of a made task if it knew of one before
abbrev pub IsOver : OpenSeatView → OpenSeatView → End → Type 0
IsOver before after Done = (after.last ≡ Some 0) × (before.knows ≡ true → after.knew ≡ true)
    × (before.share ≡ before.tasks.seats → after.made % 2 ^ 64 ≡ after.ended % 2 ^ 64)
IsOver before after Stopped = after.saw ≡ true
IsOver before after (Fault fault) = ⊥

module _ {P N : Type 0} where
  -- an idle worker was given these tasks, or none; its other calls change nothing of its work
  pub record IsIdleStep (tasks : List (Task N)) (before after : HandingView P N) : Type 0 where
    pub entries : List Found
    pub quiet : AreQuiet entries
    pub problem : after.problem ≡ before.problem
    pub seat : after.seat ≡ record before.seat { got = before.seat.got ++ tasks; found = before.seat.found ++ entries; own = after.seat.own; ask = after.seat.ask }
    pub loaded : HasLoaded before.tasks after.tasks

  -- a gift of tasks, each of which keeps this fact, with which the ask ended
  abbrev pub IsGift : (Task N → Type 0) → List (Task N) → HandingView P N → HandingView P N → Type 0
  IsGift sound tasks before after = IsIdleStep tasks before after × (after.seat.ask ≡ Nowhere) × AllByRecursion sound tasks

  -- What an idle worker has come to. Where it goes on, it has its ask there
  abbrev pub IsAnswer : (Task N → Type 0) → Ask → HandingView P N → HandingView P N → Answer N → Type 0
  IsAnswer sound ask before after (Gift tasks) = IsGift sound tasks.items before after
  IsAnswer sound ask before after Nothing = IsIdleStep [] before after × (after.seat.ask ≡ ask)
  IsAnswer sound ask before after (Over end) = IsIdleStep [] before after × IsOver before.tasks after.tasks end
