use Rattle.std.proofs.Common.{◌≡◌, ◌∷◌, [], sym, ◌∙◌, arith, add-one, slice_get, MatchOption}
use Rattle.std.proofs.lemmas.Result.{IfOk-weaker}
use Rattle.yew_laws.proofs.Steps.{slice_get_past_drop, drop_from_drop, first_left}
use Rattle.yew_laws.proofs.nodes.child_at.Goals as goal

pub returns-in-None : goal.returns-in-None
returns-in-None g c =
    let children = g.P.Problem.children c.args.problem.now c.args.node in
    let none = rw c.in-None.is at c.in_ok-next.ensures.ok in
    sym (slice_get_past_drop children c.loop-k._k c.args.number (sym c.loop-k.invariant ∙ none.0) (omega arith))

pub loop-k-preserved : goal.loop-k-preserved
loop-k-preserved g c =
    let children = g.P.Problem.children c.args.problem.now c.args.node in
    let some = rw c.in-Some.is at c.in_ok-next.ensures.ok in
    rw add-one (sym (drop_from_drop children c.loop-k._k _ _ (sym c.loop-k.invariant ∙ some)))

pub returns : goal.returns
returns g c =
    let children = g.P.Problem.children c.args.problem.now c.args.node in
    let remaining = g.P.Problem.remaining c.args.problem.now in
    let at_end : c.loop-k._k ≡ c.args.number = omega arith in
    IfOk-weaker c.next-2.result
    (λ found. MatchOption found ((remaining c.loop-k.kids ≡ []) × (remaining c.next-2.new.kids ≡ [])) (λ y. remaining c.loop-k.kids ≡ y ∷ remaining c.next-2.new.kids))
    (λ found. found ≡ slice_get children c.args.number)
    (λ found h. first_left children (remaining c.loop-k.kids) (remaining c.next-2.new.kids) c.loop-k._k c.args.number found c.loop-k.invariant at_end h)
    c.next-2.ensures.ok
