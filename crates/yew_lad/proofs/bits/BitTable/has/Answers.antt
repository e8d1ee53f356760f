use Rattle.std.proofs.Common.{◌≡◌, ◌<◌, ◌*◌, ap, ◌∙◌, arith}
use Rattle.yew_lad.specs.Bits.{BitTable, in_row}
use Rattle.yew_lad.proofs.BitLaws.{read_bit}
use Rattle.yew_lad.proofs.bits.BitTable.has.Goals as goal

pub returns : goal.returns
returns c =
    let s = c.self.inside in
    let rows : s.rows ≡ c.args.self.now.rows = ap (λ (t : BitTable). t.rows) c.self.view_is in
    let width : s.width ≡ c.args.self.now.width = ap (λ (t : BitTable). t.width) c.self.view_is in
    let row : c.args.row < s.rows = let r = c.requires.row in omega arith in
    let bit : c.args.bit < 64 * s.width = let r = c.requires.bit in omega arith in
    read_bit s.rows s.width s.words.items c.args.row c.args.bit c.index.result.now c.self.invariant.0 row bit c.index.ensures
    ∙ ap (λ t. in_row t c.args.row c.args.bit) c.self.view_is
