use Rattle.std.proofs.Common.{◌≡◌, ◌+◌, ◌*◌, ◌<◌, ap, subst, arith}
use Rattle.yew_lad.specs.Bits.{BitTable, in_row, AreBits}
use Rattle.yew_lad.proofs.BitLaws.{row_bits}
use Rattle.yew_lad.proofs.bits.BitTable.word.Goals as goal

pub returns : goal.returns
returns c =
    let s = c.self.inside in
    let rows : s.rows ≡ c.args.self.now.rows = ap (λ (t : BitTable). t.rows) c.self.view_is in
    let width : s.width ≡ c.args.self.now.width = ap (λ (t : BitTable). t.width) c.self.view_is in
    let row : c.args.row < s.rows = let r = c.requires.row in omega arith in
    let number : c.args.number < s.width = let r = c.requires.number in omega arith in
    subst (λ t. AreBits c.index.result.now (λ k. in_row t c.args.row (64 * c.args.number + k))) c.self.view_is
    (row_bits s.rows s.width s.words.items c.args.row c.args.number c.index.result.now c.self.invariant.0 row number c.index.ensures)
