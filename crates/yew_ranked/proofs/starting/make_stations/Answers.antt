use Rattle.std.proofs.Common.{rules, arith, refl, sym, ap, subst, ◌<◌, ◌≤◌, ◌+◌, ◌∷◌, [], List, suc, length}
use Rattle.std.proofs.lemmas.List.{length-append}
use Rattle.yew_walk.specs.LogViews.{LogView, log_view}
use Rattle.yew_ranked.specs.Starting.{IsSharing}
use Rattle.yew_ranked.specs.declared.station.RankedStation.{RankedStation}
use Rattle.yew_ranked.proofs.Sharing.{sharing-begins, sharing-next, sharing-ends, sharing-best, sharing-claims, sharing-stop, sharing-best_share, sharing-claims_share, sharing-stop_share, sharing-claimed}
use Rattle.yew_ranked.proofs.starting.make_stations.Goals as goal

pub loop-number-init : goal.loop-number-init
loop-number-init g c =
    let seen : g.row.R.Denot → LogView = λ log. log_view (g.R.Recorder.told log) (g.R.Recorder.totals log) (g.R.Recorder.number log) in
    let low = c.requires.workers.0 in
    let none = ap length c.new-stations.ensures.items in
    record {
      number_is = omega (arith, none);
      within = omega (arith, low);
      sharing = subst (λ (l : List (RankedStation g.row.T-Sum.Denot g.row.R.Denot)). IsSharing (g.T.Tally.none c.args.tally.now) seen c.args.shared.now c.args.workers c.args.first c.args.first l)
          (sym c.new-stations.ensures.items) (sharing-begins (g.T.Tally.none c.args.tally.now) seen c.args.shared.now c.args.workers c.args.first c.requires.seated);
    }

pub loop-number-preserved : goal.loop-number-preserved
loop-number-preserved g c =
    let seen : g.row.R.Denot → LogView = λ log. log_view (g.R.Recorder.told log) (g.R.Recorder.totals log) (g.R.Recorder.number log) in
    let i = c.loop-number.invariant.number_is in
    let others = c.loop-number.stations.items in
    let pushed = ap length c.in_ok-push.ensures.items in
    let longer = length-append others (c.in_ok-station.station ∷ []) in
    record {
      number_is = omega (arith, i, pushed, longer);
      within = search rules;
      sharing = subst (λ (l : List (RankedStation g.row.T-Sum.Denot g.row.R.Denot)). IsSharing (g.T.Tally.none c.args.tally.now) seen c.args.shared.now c.args.workers c.args.first c.split_off.new.first l)
          (sym c.in_ok-push.ensures.items)
          (sharing-next (g.T.Tally.none c.args.tally.now) seen c.args.shared.now c.args.workers c.args.first c.loop-number.first c.split_off.new.first others c.loop-number.number c.in_ok-station.station
          c.loop-number.invariant.sharing i (search rules) c.in_ok-station.ensures.first c.in_ok-station.ensures.new);
    }

pub split_off-requires-clause-best : goal.split_off-requires-clause-best
split_off-requires-clause-best g c κs within =
    let seen : g.row.R.Denot → LogView = λ log. log_view (g.R.Recorder.told log) (g.R.Recorder.totals log) (g.R.Recorder.number log) in
    sharing-best (g.T.Tally.none c.args.tally.now) seen c.args.shared.now c.args.workers c.args.first c.loop-number.first c.loop-number.stations.items c.loop-number.invariant.sharing c.requires.seated

pub split_off-requires-clause-best_share : goal.split_off-requires-clause-best_share
split_off-requires-clause-best_share g c κs within =
    let seen : g.row.R.Denot → LogView = λ log. log_view (g.R.Recorder.told log) (g.R.Recorder.totals log) (g.R.Recorder.number log) in
    let i = c.loop-number.invariant.number_is in
    sharing-best_share (g.T.Tally.none c.args.tally.now) seen c.args.shared.now c.args.workers c.args.first c.loop-number.first c.loop-number.stations.items c.loop-number.invariant.sharing c.requires.seated (search rules)

pub split_off-requires-clause-claims : goal.split_off-requires-clause-claims
split_off-requires-clause-claims g c κs within =
    let seen : g.row.R.Denot → LogView = λ log. log_view (g.R.Recorder.told log) (g.R.Recorder.totals log) (g.R.Recorder.number log) in
    sharing-claims (g.T.Tally.none c.args.tally.now) seen c.args.shared.now c.args.workers c.args.first c.loop-number.first c.loop-number.stations.items c.loop-number.invariant.sharing c.requires.seated

pub split_off-requires-clause-claims_share : goal.split_off-requires-clause-claims_share
split_off-requires-clause-claims_share g c κs within =
    let seen : g.row.R.Denot → LogView = λ log. log_view (g.R.Recorder.told log) (g.R.Recorder.totals log) (g.R.Recorder.number log) in
    let i = c.loop-number.invariant.number_is in
    sharing-claims_share (g.T.Tally.none c.args.tally.now) seen c.args.shared.now c.args.workers c.args.first c.loop-number.first c.loop-number.stations.items c.loop-number.invariant.sharing c.requires.seated (search rules)

pub split_off-requires-clause-none_claimed : goal.split_off-requires-clause-none_claimed
split_off-requires-clause-none_claimed g c κs within =
    let seen : g.row.R.Denot → LogView = λ log. log_view (g.R.Recorder.told log) (g.R.Recorder.totals log) (g.R.Recorder.number log) in
    sharing-claimed (g.T.Tally.none c.args.tally.now) seen c.args.shared.now c.args.workers c.args.first c.loop-number.first c.loop-number.stations.items c.loop-number.invariant.sharing c.requires.seated c.requires.none_claimed

pub split_off-requires-clause-stop : goal.split_off-requires-clause-stop
split_off-requires-clause-stop g c κs within =
    let seen : g.row.R.Denot → LogView = λ log. log_view (g.R.Recorder.told log) (g.R.Recorder.totals log) (g.R.Recorder.number log) in
    sharing-stop (g.T.Tally.none c.args.tally.now) seen c.args.shared.now c.args.workers c.args.first c.loop-number.first c.loop-number.stations.items c.loop-number.invariant.sharing c.requires.seated

pub split_off-requires-clause-stop_share : goal.split_off-requires-clause-stop_share
split_off-requires-clause-stop_share g c κs within =
    let seen : g.row.R.Denot → LogView = λ log. log_view (g.R.Recorder.told log) (g.R.Recorder.totals log) (g.R.Recorder.number log) in
    let i = c.loop-number.invariant.number_is in
    sharing-stop_share (g.T.Tally.none c.args.tally.now) seen c.args.shared.now c.args.workers c.args.first c.loop-number.first c.loop-number.stations.items c.loop-number.invariant.sharing c.requires.seated (search rules)
