use Rattle.std.proofs.Common.{◌≡◌, ℕ, ◌+◌, ◌<◌, ◌*◌, ◌/◌, ◌%◌, ◌^◌, bit_or, set, ap, sym, subst, ◌∙◌, arith}
use Rattle.std.proofs.lemmas.List.{get_or_default}
use Rattle.yew_lad.specs.Bits.{BitTable, SetsBit}
use Rattle.yew_lad.proofs.BitLaws.{set_bit, table_of, word_within, place_within}
use Rattle.yew_lad.proofs.bits.BitTable.set.Goals as goal

pub returns : goal.returns
returns c =
    let s = c.self.inside in
    let u = c.args.row in
    let v = c.args.bit in
    let rows : s.rows ≡ c.args.self.now.rows = ap (λ (t : BitTable). t.rows) c.self.view_is in
    let width : s.width ≡ c.args.self.now.width = ap (λ (t : BitTable). t.width) c.self.view_is in
    let row : u < s.rows = let r = c.requires.row in omega arith in
    let bit : v < 64 * s.width = let r = c.requires.bit in omega arith in
    let at = u * s.width + v / 64 in
    let within = word_within s.rows s.width u (v / 64) row (place_within s.width v bit) in
    let size = c.self.invariant.0 in
    let read = c.index_mut.ensures.value ∙ get_or_default s.words.items at c.index_mut.result.now 0 (omega (arith, within, size)) in
    subst (λ t. SetsBit t u v (table_of s.rows s.width (set s.words.items at (bit_or c.index_mut.result.now (1 * 2 ^ (v % 64) % 2 ^ 64))))) c.self.view_is
    (subst (λ (x : ℕ). SetsBit (table_of s.rows s.width s.words.items) u v (table_of s.rows s.width (set s.words.items at (bit_or x (1 * 2 ^ (v % 64) % 2 ^ 64))))) (sym read)
    (set_bit s.rows s.width s.words.items u v size row bit))
