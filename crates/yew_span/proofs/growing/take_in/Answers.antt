use Rattle.std.proofs.Common.{◌≡◌, ◌<◌, length, take, get_or, ap, sym, subst, ◌∙◌, arith, ℕ, min}
use Rattle.std.proofs.lemmas.List.{length-take-le, get_or-take}
use Rattle.yew_span.specs.declared.growing.Outside.{Outside}
use Rattle.yew_span.specs.Outsides.{IsAllowed}
use Rattle.yew_span.proofs.Taking.{get-rest, all-at, moved-out, moved-on}
use Rattle.yew_span.proofs.growing.take_in.Goals as goal
use Rattle.yew_span.proofs.growing.take_in.Goals.{then-other-taken, else-other-taken}

nobody : Outside
nobody = record { city = 0; near = 0 }

pub weight-requires-clause-to : goal.weight-requires-clause-to
unfolding nobody
weight-requires-clause-to c =
    let old = c.args.others.now in
    let new = c.loop-place.others in
    let place = c.loop-place.place in
    let fits = c.requires.count in
    let long = c.loop-place.invariant.long in
    let there : place < length old = omega (arith, fits) in
    let cut = length-take-le c.args.count old fits in
    let same : get_or (take c.args.count old) place nobody ≡ get_or new place nobody =
    get_or-take c.args.count old place nobody c.loop-place-test.true ∙ sym (get-rest new old place nobody c.loop-place.invariant.rest (omega (arith, there, long)) there) in
    let allowed = subst (IsAllowed c.args.tours.now) same (all-at (IsAllowed c.args.tours.now) (take c.args.count old) place nobody c.requires.others (omega (arith, cut))) in
    (allowed.from, allowed.to)

pub loop-place-preserved : goal.loop-place-preserved
unfolding nobody
loop-place-preserved c =
    let instance = c.args.tours.now in
    let old = c.args.others.now in
    let new = c.loop-place.others in
    let place = c.loop-place.place in
    let kept = c.loop-place.kept in
    let fits = c.requires.count in
    let there : place < length old = omega (arith, fits) in
    elim c.if-other-taken.branch [
      | then-other-taken w ↦
          rw (w.others-is, w.kept-is)
          (moved-on instance c.args.taken old new kept place nobody c.loop-place.invariant there (record { city = (get_or new place nobody).city; near = w.min.result })
          (ap (λ (n : ℕ). made (get_or new place nobody).city n) (w.min.ensures ∙ ap (min (get_or new place nobody).near) w.weight.ensures)) w.if-other-taken.true)
      | else-other-taken w ↦
          rw (w.others-is, w.kept-is) (moved-out instance c.args.taken old new kept place nobody c.loop-place.invariant there w.if-other-taken.false)
    ]
  where
    made : ℕ → ℕ → Outside
    made a b = record { city = a; near = b }
