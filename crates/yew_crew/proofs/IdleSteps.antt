-- What the calls of an idle worker leave, one after another.
use Rattle.std.proofs.Common.{◌≡◌, ℕ, ◌++◌, ◌∙◌, List, [], ◌∷◌, refl, sym, ap, subst, append-nil, append_assoc, Bool}
use Rattle.std.specs.Prelude.{true, false, MatchBool}
use Rattle.std.specs.List.{AllByRecursion}
use Rattle.yew_laws.specs.Tasks.{Members}
use Rattle.yew_laws.specs.declared.problem.Task.{Task}
use Rattle.yew_mail.specs.Boxes.{is_ready}
use Rattle.yew_mail.specs.Fetching.{IfTasks, OnDenied, OnNotYet}
use Rattle.yew_mail.specs.Seats.{SeatView}
use Rattle.yew_mail.specs.Views.{first_of, found, ask_after_ask}
use Rattle.yew_mail.specs.declared.boxes.Seen.{Seen}
use Rattle.yew_mail.specs.declared.boxes.Seen.TheVariants.{Shut, Ready, Asked, Given, Denied}
use Rattle.yew_mail.specs.declared.mail.Fetched.{Fetched}
use Rattle.yew_mail.specs.declared.mail.Fetched.TheVariants as fetched
use Rattle.yew_mail.specs.declared.view.Ask.{Ask}
use Rattle.yew_mail.specs.declared.view.Ask.TheVariants.{Nowhere, In}
use Rattle.yew_mail.specs.declared.view.Call.TheVariants as call
use Rattle.yew_mail.specs.declared.view.Found.{Found}
use Rattle.yew_mail.specs.declared.view.OwnBox.{OwnBox}
use Rattle.yew_crew.specs.Idling.{AreQuiet, HasLoaded, IsIdleStep, IsOver, IsAnswer}
use Rattle.yew_crew.specs.Looks.{is_asked, busy_looks, ends_closed}
use Rattle.yew_crew.specs.OpenSeats.{OpenSeatView}
use Rattle.yew_crew.specs.Outlets.{HandingView}
use Rattle.yew_crew.specs.declared.idling.Answer.{Answer}
use Rattle.yew_crew.specs.declared.idling.Answer.TheVariants.{Gift, Nothing, Over}
use Rattle.yew_crew.specs.declared.station.End.{End}
use Rattle.yew_crew.specs.declared.station.End.TheVariants.{Done, Stopped, Fault}
use Rattle.yew_crew.proofs.LookSteps.{busy-append, ends-append}

pub quiet-none : AreQuiet []
quiet-none = record { none_busy = refl; settled = refl }

pub quiet-append : (xs ys : List Found) → AreQuiet xs → AreQuiet ys → AreQuiet (xs ++ ys)
quiet-append xs ys a b = record {
  none_busy = busy-append false xs ys ∙ (ap (λ l. l ++ busy_looks (ends_closed false xs) ys) a.none_busy ∙ (ap (λ e. busy_looks e ys) a.settled ∙ b.none_busy));
  settled = ends-append false xs ys ∙ (ap (λ e. ends_closed e ys) a.settled ∙ b.settled);
}

-- a close of the box that found no asker
pub quiet-close : (number : ℕ) (seen : Seen) → is_asked seen ≡ false → AreQuiet (found call.CloseBox number seen ∷ [])
quiet-close number seen none = record { none_busy = refl; settled = none }

-- a close that found an asker, and the look behind it
pub quiet-denied : (number : ℕ) (seen then : Seen) → is_asked seen ≡ true → AreQuiet (found call.CloseBox number seen ∷ found call.Look number then ∷ [])
quiet-denied number seen then asks = record { none_busy = ap (λ e. busy_looks e (found call.Look number then ∷ [])) asks; settled = refl }

pub quiet-ask : (victim : ℕ) (seen : Seen) → AreQuiet (found call.Ask victim seen ∷ [])
quiet-ask victim seen = record { none_busy = refl; settled = refl }

pub quiet-fetch : (victim : ℕ) (seen : Seen) → AreQuiet (found call.Fetch victim seen ∷ [])
quiet-fetch victim seen = record { none_busy = refl; settled = refl }

module _ {N : Type 0} where
  -- a look behind another call, of which nothing else of the seat is left
  pub looked-behind : (s a b : SeatView (Task N) (Members N)) (x : Found) (seen : Seen) (own then : OwnBox) → a ≡ record s { found = s.found ++ x ∷ []; own = own }
      → b ≡ record a { found = a.found ++ found call.Look (first_of a.numbers) seen ∷ []; own = then } → b ≡ record s { found = s.found ++ x ∷ found call.Look (first_of s.numbers) seen ∷ []; own = then }
  looked-behind s a b x seen own then p q =
      q ∙ (ap (λ (m : SeatView (Task N) (Members N)). record m { found = m.found ++ found call.Look (first_of m.numbers) seen ∷ []; own = then }) p
      ∙ ap (λ (l : List Found). record s { found = l; own = then }) (append_assoc s.found (x ∷ []) (found call.Look (first_of s.numbers) seen ∷ [])))

  -- and an answer behind that
  pub owned-then : (s b c : SeatView (Task N) (Members N)) (entries : List Found) (own then : OwnBox) → b ≡ record s { found = entries; own = own } → c ≡ record b { own = then } → c ≡ record s { found = entries; own = then }
  owned-then s b c entries own then p q = q ∙ ap (λ (m : SeatView (Task N) (Members N)). record m { own = then }) p

module _ {P N : Type 0} where
  pub idle-none : (a : HandingView P N) → IsIdleStep [] a a
  idle-none a = record {
    entries = [];
    quiet = quiet-none;
    problem = refl;
    seat = ap (λ (l : List (Task N)). record a.seat { got = l }) (sym (append-nil a.seat.got)) ∙ ap (λ (l : List Found). record a.seat { got = a.seat.got ++ []; found = l }) (sym (append-nil a.seat.found));
    loaded = refl;
  }

  pub idle-twice : (xs ys : List (Task N)) (a b c : HandingView P N) → IsIdleStep xs a b → IsIdleStep ys b c → IsIdleStep (xs ++ ys) a c
  idle-twice xs ys a b c p q = record {
    entries = p.entries ++ q.entries;
    quiet = quiet-append p.entries q.entries p.quiet q.quiet;
    problem = q.problem ∙ p.problem;
    seat = q.seat
        ∙ (ap (λ (m : SeatView (Task N) (Members N)). record m { got = m.got ++ ys; found = m.found ++ q.entries; own = c.seat.own; ask = c.seat.ask }) p.seat
        ∙ (ap (λ (l : List (Task N)). record a.seat { got = l; found = (a.seat.found ++ p.entries) ++ q.entries; own = c.seat.own; ask = c.seat.ask }) (append_assoc a.seat.got xs ys)
        ∙ ap (λ (l : List Found). record a.seat { got = a.seat.got ++ (xs ++ ys); found = l; own = c.seat.own; ask = c.seat.ask }) (append_assoc a.seat.found p.entries q.entries)));
    loaded = q.loaded ∙ ap (λ (o : OpenSeatView). record o { last = c.tasks.last; knew = c.tasks.knew; saw = c.tasks.saw }) p.loaded;
  }

  -- a call at the mailboxes
  pub idle-call : (before : HandingView P N) (p : P) (s now : SeatView (Task N) (Members N)) (t : OpenSeatView) (tasks : List (Task N)) (entries : List Found) (own : OwnBox) (ask : Ask)
      → record { problem = p; seat = s; tasks = t } ≡ before → AreQuiet entries
      → now ≡ record s { got = s.got ++ tasks; found = s.found ++ entries; own = own; ask = ask } → IsIdleStep tasks before record { problem = p; seat = now; tasks = t }
  idle-call before p s now t tasks entries own ask is quiet seat = subst (λ b. IsIdleStep tasks b record { problem = p; seat = now; tasks = t }) is record {
    entries = entries;
    quiet = quiet;
    problem = refl;
    seat = seat ∙ ap (λ (m : SeatView (Task N) (Members N)). record s { got = s.got ++ tasks; found = s.found ++ entries; own = m.own; ask = m.ask }) (sym seat);
    loaded = refl;
  }

  -- the same, which got nothing
  pub idle-found : (before : HandingView P N) (p : P) (s now : SeatView (Task N) (Members N)) (t : OpenSeatView) (entries : List Found) (own : OwnBox) (ask : Ask)
      → record { problem = p; seat = s; tasks = t } ≡ before → AreQuiet entries
      → now ≡ record s { found = s.found ++ entries; own = own; ask = ask } → IsIdleStep [] before record { problem = p; seat = now; tasks = t }
  idle-found before p s now t entries own ask is quiet seat =
      idle-call before p s now t [] entries own ask is quiet
      (seat ∙ ap (λ (l : List (Task N)). record s { got = l; found = s.found ++ entries; own = own; ask = ask }) (sym (append-nil s.got)))

  -- the same, which found nothing
  pub idle-own : (before : HandingView P N) (p : P) (s now : SeatView (Task N) (Members N)) (t : OpenSeatView) (own : OwnBox)
      → record { problem = p; seat = s; tasks = t } ≡ before → now ≡ record s { own = own } → IsIdleStep [] before record { problem = p; seat = now; tasks = t }
  idle-own before p s now t own is seat =
      idle-found before p s now t [] own s.ask is quiet-none (seat ∙ ap (λ (l : List Found). record s { found = l; own = own }) (sym (append-nil s.found)))

  -- words were loaded
  pub idle-loads : (before after : HandingView P N) (tasks : OpenSeatView) → after ≡ record before { tasks = tasks } → HasLoaded before.tasks tasks → IsIdleStep [] before after
  unfolding idle-none
  idle-loads before after tasks is loaded =
      let same = idle-none before in
      subst (λ o. IsIdleStep [] before o) (sym is) record {
        entries = [];
        quiet = quiet-none;
        problem = refl;
        seat = same.seat;
        loaded = loaded;
      }

  -- an end is one also from before
  pub over-before : (a b c : HandingView P N) (end : End) → IsIdleStep [] a b → IsOver b.tasks c.tasks end → IsOver a.tasks c.tasks end
  over-before a b c Done p over = (
    over.0,
    (λ k. over.1 (ap (λ (o : OpenSeatView). o.knows) p.loaded ∙ k)),
    λ e. over.2 (ap (λ (o : OpenSeatView). o.share) p.loaded ∙ (e ∙ ap (λ (o : OpenSeatView). o.tasks.seats) (sym p.loaded))),
  )
  over-before a b c Stopped p over = over
  over-before a b c (Fault fault) p over = over

  -- and an answer is one also from before
  pub answer-before : (sound : P → Task N → Type 0) (ask : Ask) (a b c : HandingView P N) (answer : Answer N) → IsIdleStep [] a b → IsAnswer (sound b.problem) ask b c answer → IsAnswer (sound a.problem) ask a c answer
  answer-before sound ask a b c (Gift tasks) p is = (idle-twice [] tasks.items a b c p is.0, is.1, subst (λ problem. AllByRecursion (sound problem) tasks.items) p.problem is.2)
  answer-before sound ask a b c Nothing p is = (idle-twice [] [] a b c p is.0, is.1)
  answer-before sound ask a b c (Over end) p is = (idle-twice [] [] a b c p is.0, over-before a b c end p is.1)

  -- an answer other than that there is nothing, wherever the ask was
  pub answer-other : (sound : Task N → Type 0) (ask then : Ask) (a b : HandingView P N) (answer : Answer N) → (answer ≡ Nothing → ⊥) → IsAnswer sound ask a b answer → IsAnswer sound then a b answer
  answer-other sound ask then a b (Gift tasks) other is = is
  answer-other sound ask then a b Nothing other is = absurd (other refl)
  answer-other sound ask then a b (Over end) other is = is

-- where a worker has its ask after it asked
pub ask-match : (result : Bool) (victim : ℕ) (seen : Seen) (ask : Ask) → result ≡ is_ready seen → ask ≡ ask_after_ask victim seen → MatchBool result (ask ≡ In victim) (ask ≡ Nowhere)
ask-match result victim Shut ask e is = subst (λ b. MatchBool b (ask ≡ In victim) (ask ≡ Nowhere)) (sym e) is
ask-match result victim Ready ask e is = subst (λ b. MatchBool b (ask ≡ In victim) (ask ≡ Nowhere)) (sym e) is
ask-match result victim (Asked worker) ask e is = subst (λ b. MatchBool b (ask ≡ In victim) (ask ≡ Nowhere)) (sym e) is
ask-match result victim (Given worker) ask e is = subst (λ b. MatchBool b (ask ≡ In victim) (ask ≡ Nowhere)) (sym e) is
ask-match result victim (Denied worker) ask e is = subst (λ b. MatchBool b (ask ≡ In victim) (ask ≡ Nowhere)) (sym e) is

module _ {N : Type 0} where
  pub if_tasks-map : {A B : List (Task N) → Type 0} (r : Fetched N) → ((tasks : List (Task N)) → A tasks → B tasks) → IfTasks r A → IfTasks r B
  if_tasks-map (fetched.Tasks tasks) f a = f tasks.items a
  if_tasks-map fetched.Denied f a = tt
  if_tasks-map fetched.NotYet f a = tt

  pub denied-map : {A B : Type 0} (r : Fetched N) → (A → B) → OnDenied r A → OnDenied r B
  denied-map (fetched.Tasks tasks) f a = tt
  denied-map fetched.Denied f a = f a
  denied-map fetched.NotYet f a = tt

  pub not_yet-map : {A B : Type 0} (r : Fetched N) → (A → B) → OnNotYet r A → OnNotYet r B
  not_yet-map (fetched.Tasks tasks) f a = tt
  not_yet-map fetched.Denied f a = tt
  not_yet-map fetched.NotYet f a = f a
