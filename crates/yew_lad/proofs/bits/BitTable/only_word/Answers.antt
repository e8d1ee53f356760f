use Rattle.std.proofs.Common.{◌≡◌, ◌+◌, ◌*◌, ◌<◌, get_or, ap, sym, ◌∙◌, arith}
use Rattle.yew_lad.specs.Bits.{BitTable, in_row}
use Rattle.yew_lad.proofs.BitLaws.{row_bits}
use Rattle.yew_lad.proofs.bits.BitTable.only_word.Goals as goal

pub returns : goal.returns
returns c = λ k small.
    let s = c.self.inside in
    let rows : s.rows ≡ c.args.self.now.rows = ap (λ (t : BitTable). t.rows) c.self.view_is in
    let width : s.width ≡ 1 = ap (λ (t : BitTable). t.width) c.self.view_is ∙ c.requires.width in
    let row : c.args.row < s.rows = let r = c.requires.row in omega arith in
    let one : c.args.row ≡ c.args.row * 1 + 0 = omega arith in
    let here : c.args.row ≡ c.args.row * s.width + 0 = one ∙ ap (λ w. c.args.row * w + 0) (sym width) in
    let place : 64 * 0 + k ≡ k = omega arith in
    row_bits s.rows s.width s.words.items c.args.row 0 c.index.result.now c.self.invariant.0 row (omega (arith, width)) (c.index.ensures ∙ ap (λ i. get_or s.words.items i c.index.result.now) here) k small
    ∙ ap (in_row (record { rows = s.rows; width = s.width; words = s.words.items }) c.args.row) place
    ∙ ap (λ t. in_row t c.args.row k) c.self.view_is
