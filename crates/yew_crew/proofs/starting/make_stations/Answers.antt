use Rattle.std.proofs.Common.{◌∙◌, suc, ap, arith, rules}
use Rattle.yew_laws.specs.SearchTree.{search_tree}
use Rattle.yew_laws.specs.Tasks.{members_of}
use Rattle.yew_walk.specs.LogViews.{LogView, log_view}
use Rattle.yew_crew.proofs.Joins.{removed-first}
use Rattle.yew_crew.proofs.Seatings.{opened, seats-length, first-begun}
use Rattle.yew_crew.proofs.starting.make_stations.Goals as goal

pub returns : goal.returns
returns g c =
    let members = members_of (search_tree g.P.Problem c.args.problem.now) in
    let none = g.T.Tally.none c.args.tally.now in
    let seen : g.row.R.Denot → LogView = λ log. log_view (g.R.Recorder.told log) (g.R.Recorder.totals log) (g.R.Recorder.number log) in
    let shared = c.args.shared.now in
    let b = c.requires.seats in
    let low = c.requires.workers.0 in
    let passes_count = b.count in
    let seats_count = seats-length _ c.args.seats.mail.items 1 c.args.workers b.seats_are in
    let passes_are = removed-first c.args.seats.passes.items c.remove-pass.result c.remove-pass.new.self.items (omega arith) c.remove-pass.ensures.value c.remove-pass.ensures.items in
    let mail_are = removed-first c.args.seats.mail.items c.remove-seat.result c.remove-seat.new.self.items (omega arith) c.remove-seat.ensures.value c.remove-seat.ensures.items in
    let o = opened members c.args.workers shared c.args.seats _ _ _ _ passes_are mail_are b in
    let root = c.in_ok-put_root.ensures in
    let others = c.in_ok-stations.ensures in
    record {
      root = root.0;
      of_root = root.1;
      first = c.in_ok-first.first;
      others = c.in_ok-stations.stations.items;
      stands = c.in_ok-insert.ensures.items;
      count = ap suc others.count ∙ o.count;
      first_is = first-begun members none seen shared _ _ root.0 c.in_ok-first.first c.in_ok-first.ensures (search rules) (search rules);
      others_are = others.stations;
      best_seats = b.best_seats;
      deques = b.deques;
      mailboxes = b.mailboxes;
      open_seats = b.open_seats;
    }
