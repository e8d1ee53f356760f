use Rattle.std.proofs.Common.{◌≡◌, ◌+◌, ◌∙◌, ◌||◌, [], nat_lt, ap, arith}
use Rattle.yew_laws.specs.SearchTree.{search_tree}
use Rattle.yew_laws.specs.Tasks.{members_of}
use Rattle.yew_crew.specs.OpenSeats.{OpenSeatView}
use Rattle.yew_crew.specs.Starting.{new_put}
use Rattle.yew_crew.proofs.Seatings.{passes-from}
use Rattle.yew_crew.proofs.starting.make_shared.Goals as goal

pub returns-clause-beginning : goal.returns-clause-beginning
returns-clause-beginning g c =
    let members = members_of (search_tree g.P.Problem c.args.problem.now) in
    let pool = c.in_ok-pool.pool in
    let count = c.in_ok-pool.ensures.count in
    record {
      best_is = c.in_ok-best.ensures.seat;
      tasks_is = c.made.ensures ∙ ap (λ (t : OpenSeatView). record t { made = t.made + 1; knows = t.knows || nat_lt 0 1 }) c.in_ok-tasks.ensures.seat;
      passes_are = passes-from members pool 0 c.in_ok-pool.passes.items
          (λ i other h. c.in_ok-pool.ensures.passes i other (omega arith) ∙ ap (λ k. new_put members pool k []) (let e : i ≡ 0 + i = omega arith in e));
      count = count;
      seats_are = c.in_ok-mail.ensures.seats;
      best_seats = c.in_ok-best.ensures.best;
      deques = c.in_ok-pool.ensures.pool;
      mailboxes = c.in_ok-mail.ensures.mail;
      open_seats = c.in_ok-tasks.ensures.tasks;
    }
