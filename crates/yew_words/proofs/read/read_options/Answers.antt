-- The options, one a turn.
use Rattle.std.proofs.Common.{arith, sym}
use Rattle.yew_words.specs.Word.{texts}
use Rattle.yew_words.proofs.OptionsRead.{place_small, reading_step, reading_shrinks, no_words, reading_missing, reading_ends}
use Rattle.yew_words.proofs.read.read_options.Goals as goal

pub read_option-requires : goal.read_option-requires
read_option-requires c =
    let small = place_small c.args.head (texts c.args.files.now) (texts c.args.words.now) c.loop-word.settings c.loop-word.place
    (texts c.loop-word.rest.now) c.requires c.loop-word.invariant in
    omega (arith, small)

pub loop-word-smaller : goal.loop-word-smaller
loop-word-smaller c = reading_shrinks c.args.head (texts c.args.files.now)
    (texts c.args.words.now) c.loop-word.settings c.loop-word.place c.loop-word.rest.now c.in-Some.word.now c.in-Some.behind.now c.in_ok-name.left.now
    c.in_ok-name.name c.in_ok-name.value c.loop-word.invariant c.in-Some.ensures.cases.0 c.in_ok-name.ensures.option

pub overflow_cast-place-in-Some : goal.overflow_cast-place-in-Some
overflow_cast-place-in-Some c =
    let next = reading_step c.args.head (texts c.args.files.now)
    (texts c.args.words.now) c.loop-word.settings c.insert.new.self c.loop-word.place c.loop-word.rest.now c.in-Some.word.now c.in-Some.behind.now
    c.in_ok-name.left.now c.in_ok-name.name c.in_ok-name.value c.loop-word.invariant c.in-Some.ensures.cases.0 c.in_ok-name.ensures.option
    c.insert.ensures in
    let small = place_small c.args.head (texts c.args.files.now) (texts c.args.words.now) c.insert.new.self _ (texts c.in_ok-name.left.now) c.requires next in
    omega (arith, small)

pub overflow_add-place-in-Some : goal.overflow_add-place-in-Some
overflow_add-place-in-Some c =
    let next = reading_step c.args.head (texts c.args.files.now)
    (texts c.args.words.now) c.loop-word.settings c.insert.new.self c.loop-word.place c.loop-word.rest.now c.in-Some.word.now c.in-Some.behind.now
    c.in_ok-name.left.now c.in_ok-name.name c.in_ok-name.value c.loop-word.invariant c.in-Some.ensures.cases.0 c.in_ok-name.ensures.option
    c.insert.ensures in
    let small = place_small c.args.head (texts c.args.files.now) (texts c.args.words.now) c.insert.new.self _ (texts c.in_ok-name.left.now) c.requires next in
    omega (arith, small)

pub loop-word-preserved : goal.loop-word-preserved
loop-word-preserved c = reading_step c.args.head (texts c.args.files.now)
    (texts c.args.words.now) c.loop-word.settings c.insert.new.self c.loop-word.place c.loop-word.rest.now c.in-Some.word.now c.in-Some.behind.now
    c.in_ok-name.left.now c.in_ok-name.name c.in_ok-name.value c.loop-word.invariant c.in-Some.ensures.cases.0 c.in_ok-name.ensures.option c.insert.ensures

pub returns-then-not-has_required-clause-offence : goal.returns-then-not-has_required-clause-offence
returns-then-not-has_required-clause-offence c = reading_missing c.args.head (texts c.args.files.now)
    (texts c.args.words.now) c.loop-word.settings c.loop-word.place (texts c.loop-word.rest.now) c.requires c.loop-word.invariant
    (no_words c.loop-word.rest.now c.in_default.ensures.cases) (sym c.if-not-has_required.ensures)

pub returns-clause-settings : goal.returns-clause-settings
returns-clause-settings c = reading_ends c.args.head (texts c.args.files.now) (texts c.args.words.now) c.loop-word.settings c.loop-word.place
    (texts c.loop-word.rest.now) c.loop-word.invariant (no_words c.loop-word.rest.now c.in_default.ensures.cases) (sym c.if-not-has_required.ensures)
