use Rattle.std.proofs.Common.{◌+◌, ◌*◌, ◌<◌, ◌^◌, subst, arith}
use Rattle.yew_lad.specs.Bits.{AreBits, in_row}
use Rattle.yew_lad.proofs.PlaceLaws.{lowest_of, keeps-start, keeps-zero, keeps-end, keeps-step, lowest-small, lowest-in, after-less}
use Rattle.yew_lad.proofs.subgraph.keep_images.Goals as goal

pub loop-left-init : goal.loop-left-init
loop-left-init c = keeps-start c.args.table.now c.args.node.now c.args.number c.args.places c.args.word

pub returns-then-kept-eq0 : goal.returns-then-kept-eq0
returns-then-kept-eq0 c = keeps-zero c.args.table.now c.args.node.now c.args.number c.args.places c.args.word c.loop-left.left c.loop-left.kept c.loop-left.invariant c.if-kept-eq0.true

pub returns : goal.returns
returns c = keeps-end c.args.table.now c.args.node.now c.args.number c.args.places c.args.word c.loop-left.left c.loop-left.kept c.loop-left.invariant c.loop-left-test.false

pub loop-left-preserved : goal.loop-left-preserved
loop-left-preserved c =
    let left = c.loop-left.left in
    let fits : left < 2 ^ 64 = let f = c.loop-left.auto.left-fits in omega arith in
    keeps-step c.args.table.now c.args.node.now c.args.number c.args.places c.args.word left c.loop-left.kept c.loop-left.invariant c.loop-left-test.true fits c.word-kept.result
    (subst (λ image. AreBits c.word-kept.result (λ k. in_row c.args.table.now image (64 * c.args.number + k))) c.image.ensures c.word-kept.ensures)

pub loop-left-smaller : goal.loop-left-smaller
loop-left-smaller c =
    let left = c.loop-left.left in
    let fits : left < 2 ^ 64 = let f = c.loop-left.auto.left-fits in omega arith in
    after-less left c.loop-left-test.true fits

pub image-requires-clause-mapped : goal.image-requires-clause-mapped
image-requires-clause-mapped c =
    let left = c.loop-left.left in
    let fits : left < 2 ^ 64 = let f = c.loop-left.auto.left-fits in omega arith in
    c.requires.places.mapped (lowest_of left) (c.loop-left.invariant.part (lowest_of left) (lowest-in left c.loop-left-test.true fits))

pub image-requires-clause-place : goal.image-requires-clause-place
image-requires-clause-place c =
    let left = c.loop-left.left in
    let fits : left < 2 ^ 64 = let f = c.loop-left.auto.left-fits in omega arith in
    lowest-small left c.loop-left-test.true fits

pub word-kept-requires-clause-row : goal.word-kept-requires-clause-row
word-kept-requires-clause-row c =
    let left = c.loop-left.left in
    let fits : left < 2 ^ 64 = let f = c.loop-left.auto.left-fits in omega arith in
    let is = c.image.ensures in
    let row = c.requires.places.rows_are (lowest_of left) (c.loop-left.invariant.part (lowest_of left) (lowest-in left c.loop-left-test.true fits)) in
    omega (arith, is, row)
