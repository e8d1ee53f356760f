use Rattle.std.proofs.Common.{◌∙◌, Result, Err, ap, sym, subst}
use Rattle.yew_text.specs.declared.text.TextKind.TheVariants.{EndsEarly}
use Rattle.yew_text.specs.Numbers.{Fault}
use Rattle.yew_text.specs.Position.{words_left}
use Rattle.yew_text.specs.Words.{end_line}
use Rattle.yew_tsp.specs.Headers.{Header}
use Rattle.yew_text.specs.Reading.{text_field}
use Rattle.yew_tsp.specs.Reading.{JudgesLine, HeaderRead}
use Rattle.yew_tsp.proofs.HeaderSteps.{entry-read, section-read, line-refused, header_fault, header-ends, no-words}
use Rattle.yew_tsp.proofs.header.read_header.Goals as goal

pub loop-field-preserved : goal.loop-field-preserved
loop-field-preserved c =
    let so = c.loop-field.invariant.so_far in
    let field = text_field c.in-Some.field in
    let judged = subst (λ line. JudgesLine so.given field line c.judge.new.self) c.in-Ok-Entry.field-0-is (c.in-Ok-Entry.ensures so.given so.are) in
    record {
      so_far = entry-read c.args.cursor.now c.loop-field.cursor c.field.new.self c.loop-field.given so field c.in-Some.ensures.taken judged.0 c.judge.new.self judged.1;
      same = c.loop-field.invariant.same ∙ c.in-Some.ensures.same;
    }

pub returns-in-Ok-Section-clause-read : goal.returns-in-Ok-Section-clause-read
returns-in-Ok-Section-clause-read c =
    let so = c.loop-field.invariant.so_far in
    let field = text_field c.in-Some.field in
    let judged = subst (λ line. JudgesLine so.given field line c.judge.new.self) c.in-Ok-Section.field-0-is (c.in-Ok-Section.ensures so.given so.are) in
    subst (λ said. HeaderRead c.args.cursor.now said c.field.new.self) (sym c.in-Ok-Section.said-is)
    (section-read c.args.cursor.now c.loop-field.cursor c.field.new.self c.loop-field.given so field c.in-Some.ensures.taken judged.0 c.in-Ok-Section.said judged.1)

pub returns-in-Err-clause-read : goal.returns-in-Err-clause-read
returns-in-Err-clause-read c =
    let so = c.loop-field.invariant.so_far in
    line-refused c.args.cursor.now c.loop-field.cursor c.field.new.self c.loop-field.given so (text_field c.in-Some.field) c.in-Some.ensures.taken c.in-Err.kind (c.in-Err.ensures so.given so.are)

pub ends_early-requires : goal.ends_early-requires
ends_early-requires c =
    ap words_left c.in_default.ensures.taken.1 ∙ no-words c.args.cursor.now c.loop-field.cursor c.loop-field.given c.loop-field.invariant.so_far c.in_default.ensures.taken.0

pub returns-clause-read : goal.returns-clause-read
returns-clause-read c =
    header-ends c.args.cursor.now c.loop-field.cursor c.loop-field.given c.loop-field.invariant.so_far c.in_default.ensures.taken.0
    ∙ ap (λ bytes. header_fault EndsEarly (end_line bytes)) (c.loop-field.invariant.same ∙ c.field.ensures.same)
    ∙ ap refuse (sym c.ends_early.ensures.fault)
  where
    refuse : Fault → Result Header Fault
    refuse f = Err f
