use Rattle.std.proofs.Common.{subst}
use Rattle.std.specs.Prelude.{IfErr}
use Rattle.yew_kinds.specs.Kinds.{gap_of}
use Rattle.yew_app.specs.Meanings.{searched}
use Rattle.yew_app.specs.ShortestTours.{near_tree, tours_meaning}
use Rattle.yew_app.specs.Texts.{StopsSearch}
use Rattle.yew_app.proofs.tours_text.text_near_alone.Goals as goal

pub returns-clause-fault : goal.returns-clause-fault
returns-clause-fault g c =
    let job = c.args.job.now in
    let Fault : g.row.P.Denot → Type 0 =
    λ p.
    let m = tours_meaning job.name.now job.gap (near_tree g.P.ToursSearch.tree) in
    IfErr c.text_by_alone.result (StopsSearch (searched m (g.P.ToursSearch.instance p)) (gap_of m.kind) c.args.asked) in
    subst Fault c.new-near.ensures.inner c.text_by_alone.ensures.fault
