-- By how much stands in front.
use Rattle.std.proofs.Common.{◌+◌, ◌-◌, ◌<◌, ◌≤◌, length, take, drop, sym, subst, ap, arith}
use Rattle.std.proofs.lemmas.List.{length-drop}
use Rattle.yew_text.specs.Fields.{TextField}
use Rattle.yew_text.specs.Position.{position_in}
use Rattle.yew_text.specs.Reading.{FindsField}
use Rattle.yew_text.proofs.Finding.{tail_is, field_found, field_found_last}
use Rattle.yew_text.proofs.cursor.field_at.Goals as goal

pub returns-then-end-bytes : goal.returns-then-end-bytes
returns-then-end-bytes c =
    let bytes = c.args.bytes.now in
    let start = c.skip_white-start.result.0 in
    let n = c.skip_white-start.result.1 in
    let len = c.line_len-len.result in
    let some : start < length bytes = omega (arith, c.skip_white-start.ensures.reached.within) in
    let P : TextField → Type 0 = λ f. FindsField (position_in bytes c.args.place c.args.line) f (position_in bytes (start + len) n) in
    subst P (sym c.field_in-field.ensures) (field_found_last bytes c.args.place c.args.line start n c.skip_white-start.ensures some (take (length bytes - start) (drop start bytes)) (tail_is start bytes) len c.line_len-len.ensures.count c.if-end-bytes.true)

pub returns : goal.returns
returns c =
    let bytes = c.args.bytes.now in
    let start = c.skip_white-start.result.0 in
    let n = c.skip_white-start.result.1 in
    let len = c.line_len-len.result in
    let some : start < length bytes = omega (arith, c.skip_white-start.ensures.reached.within) in
    let rest = take (length bytes - start) (drop start bytes) in
    let short : len ≤ length bytes - start = omega (arith, c.line_len-len.ensures.within, ap length (tail_is start bytes), length-drop start bytes) in
    let more : start + len < length bytes = omega arith in
    let P : TextField → Type 0 = λ f. FindsField (position_in bytes c.args.place c.args.line) f (position_in bytes (start + len + 1) (n + 1)) in
    subst P (sym c.field_in-field.ensures) (field_found bytes c.args.place c.args.line start n c.skip_white-start.ensures some rest (tail_is start bytes) len c.line_len-len.ensures.count more)
