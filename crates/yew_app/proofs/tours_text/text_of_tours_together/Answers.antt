use Rattle.std.proofs.Common.{true, false, subst}
use Rattle.std.specs.Prelude.{IfErr}
use Rattle.yew_kinds.specs.Kinds.{gap_of}
use Rattle.yew_laws.specs.SearchTree.{SearchTree}
use Rattle.yew_tsp.specs.declared.nodes.TourNode.{TourNode}
use Rattle.yew_tsp.specs.Instance.{Instance}
use Rattle.yew_app.specs.Meanings.{searched}
use Rattle.yew_app.specs.ShortestTours.{tours_meaning, tree_asked}
use Rattle.yew_app.specs.Texts.{StopsSearch}
use Rattle.yew_app.proofs.ToursAsked.{tree_asked-at}
use Rattle.yew_app.proofs.tours_text.text_of_tours_together.Goals as goal

pub returns-in-true-true-clause-fault : goal.returns-in-true-true-clause-fault
returns-in-true-true-clause-fault g c =
    let job = c.args.job.now in
    let Fault : (Instance → SearchTree TourNode) → Instance → Type 0 =
    λ tree i.
    let m = tours_meaning job.name.now job.gap tree in
    IfErr c.text_near_together.result (StopsSearch (searched m i) (gap_of m.kind) c.args.asked) in
    let tree = tree_asked true true in
    let same = tree_asked-at job.near job.span true true c.in-true-true.is-0 c.in-true-true.is-1 in
    subst (λ (t : Instance → SearchTree TourNode). Fault t c.args.tours.now) same
    (subst (λ (i : Instance). Fault tree i) c.new.ensures.inner c.text_near_together.ensures.fault)

pub returns-in-true-false-clause-fault : goal.returns-in-true-false-clause-fault
returns-in-true-false-clause-fault g c =
    let job = c.args.job.now in
    let Fault : (Instance → SearchTree TourNode) → Instance → Type 0 =
    λ tree i.
    let m = tours_meaning job.name.now job.gap tree in
    IfErr c.text_near_together-in-true-false.result (StopsSearch (searched m i) (gap_of m.kind) c.args.asked) in
    let tree = tree_asked true false in
    let same = tree_asked-at job.near job.span true false c.in-true-false.is-0 c.in-true-false.is-1 in
    subst (λ (t : Instance → SearchTree TourNode). Fault t c.args.tours.now) same
    (c.text_near_together-in-true-false.ensures.fault)

pub returns-in-false-true-clause-fault : goal.returns-in-false-true-clause-fault
returns-in-false-true-clause-fault g c =
    let job = c.args.job.now in
    let Fault : (Instance → SearchTree TourNode) → Instance → Type 0 =
    λ tree i.
    let m = tours_meaning job.name.now job.gap tree in
    IfErr c.text_by_together.result (StopsSearch (searched m i) (gap_of m.kind) c.args.asked) in
    let tree = tree_asked false true in
    let same = tree_asked-at job.near job.span false true c.in-false-true.is-0 c.in-false-true.is-1 in
    subst (λ (t : Instance → SearchTree TourNode). Fault t c.args.tours.now) same
    (subst (λ (i : Instance). Fault tree i) c.new-in-false-true.ensures.inner c.text_by_together.ensures.fault)
