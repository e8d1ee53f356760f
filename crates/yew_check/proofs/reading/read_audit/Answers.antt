-- The pieces of the text are its lines.
use Rattle.std.proofs.Common.{Result, Ok, Err, ap, ◌∙◌}
use Rattle.std.specs.Prelude.{IfOk, IfErr}
use Rattle.std.specs.List.{slice_split}
use Rattle.yew_text.specs.Words.{is_newline}
use Rattle.yew_check.specs.Audits.{IsAudit}
use Rattle.yew_check.specs.Files.{EndsReading}
use Rattle.yew_check.specs.Reading.{texts}
use Rattle.yew_check.proofs.OneReading.{audit-answer, offence-answer}
use Rattle.yew_check.proofs.reading.read_audit.Goals as goal

weaker : {T E : Type 0} (P Q : E → Type 0) (r : Result T E) → ((e : E) → P e → Q e) → IfErr r P → IfErr r Q
weaker P Q (Ok x) f h = h
weaker P Q (Err e) f h = f e h

ok-weaker : {T E : Type 0} (P Q : T → Type 0) (r : Result T E) → ((x : T) → P x → Q x) → IfOk r P → IfOk r Q
ok-weaker P Q (Ok x) f h = f x h
ok-weaker P Q (Err e) f h = h

pub returns-clause-audit : goal.returns-clause-audit
returns-clause-audit c =
    let same = ap texts c.deref.ensures.value ∙ c.in-Ok.ensures ∙ ap (slice_split is_newline) c.without_end.ensures in
    ok-weaker _ (λ file. IsAudit c.args.bytes.now file.head file.logs) c.read_lines.result (λ e h. h c.args.bytes.now same) c.read_lines.ensures.audit

pub returns-clause-end : goal.returns-clause-end
returns-clause-end c =
    let same = ap texts c.deref.ensures.value ∙ c.in-Ok.ensures ∙ ap (slice_split is_newline) c.without_end.ensures in
    weaker _ (EndsReading c.args.bytes.now) c.read_lines.result (λ e h. h c.args.bytes.now same c.line_of_end.ensures) c.read_lines.ensures.fault

pub returns-clause-each_audit : goal.returns-clause-each_audit
returns-clause-each_audit c = audit-answer c.args.bytes.now c.read_lines.result (returns-clause-audit c) (returns-clause-end c)

pub returns-clause-each_offence : goal.returns-clause-each_offence
returns-clause-each_offence c = offence-answer c.args.bytes.now c.read_lines.result (returns-clause-audit c) (returns-clause-end c)
