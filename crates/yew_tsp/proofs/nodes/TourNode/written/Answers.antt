use Rattle.std.proofs.Common.{◌≡◌, ap, subst, refl, arith}
use Rattle.yew_tsp.proofs.Written.{AreSet, set-last, set-same}
use Rattle.yew_tsp.proofs.nodes.TourNode.written.Goals as goal
use Rattle.yew_tsp.proofs.nodes.TourNode.written.Goals.{then-place-steps, else-place-steps, then-place-steps-2, else-place-steps-2}

pub loop-place-init : goal.loop-place-init
loop-place-init c = record { before = λ l. refl; behind = λ l. absurd (omega (arith, l)) }

pub loop-place-preserved : goal.loop-place-preserved
loop-place-preserved c =
    let node = c.args.self.now in
    let cities = c.loop-place.cities in
    let place = c.loop-place.place in
    let city = c.if-place-steps.city in
    elim c.if-place-steps.branch [
      | then-place-steps w ↦ set-last node place cities city c.loop-place.invariant w.if-place-steps.true w.city-is
      | else-place-steps w ↦ set-same node place cities city c.loop-place.invariant w.if-place-steps.false w.city-is
    ]

pub loop-place-2-init : goal.loop-place-2-init
loop-place-2-init c =
    let all = c.loop-place-test.false in
    let end = c.loop-place.auto.place-end in
    let place : c.loop-place.place ≡ 32 = omega (arith, all, end) in
    subst (λ k. AreSet c.args.self.now k c.loop-place.cities) place c.loop-place.invariant

pub loop-place-2-preserved : goal.loop-place-2-preserved
loop-place-2-preserved c =
    let node = c.args.self.now in
    let cities = c.loop-place-2.cities in
    let place = c.loop-place-2.place in
    let city = c.if-place-steps-2.city in
    elim c.if-place-steps-2.branch [
      | then-place-steps-2 w ↦ set-last node place cities city c.loop-place-2.invariant w.if-place-steps-2.true w.city-is
      | else-place-steps-2 w ↦ set-same node place cities city c.loop-place-2.invariant w.if-place-steps-2.false w.city-is
    ]

pub returns : goal.returns
returns c =
    let all = c.loop-place-2-test.false in
    let fits = c.requires in
    ap (λ cities. record c.args.self.now { cities = cities }) (c.loop-place-2.invariant.behind (omega (arith, all, fits)))
