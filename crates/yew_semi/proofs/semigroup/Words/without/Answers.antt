use Rattle.std.proofs.Common.{◌+◌, ◌*◌, ◌%◌, ◌^◌, ◌<◌, bit_or, arith}
use Rattle.std.proofs.lemmas.Nat.{or_lt, pow_pos}
use Rattle.std.proofs.lemmas.Nat.Bits.{bit_at_set_same, bit_at_set_other}
use Rattle.std.proofs.Math.Nat.{mod-lt}
use Rattle.std.specs.Int.{w64}
use Rattle.yew_semi.specs.GapLaws.{minimal-from_test}
use Rattle.yew_semi.specs.Words.{bits_of}
use Rattle.yew_semi.proofs.Inherited.{least-kept, least-next, inherited-kept, inherited-next, small-without}
use Rattle.yew_semi.proofs.semigroup.Words.without.Goals as goal

pub overflow_shl-generator : goal.overflow_shl-generator
overflow_shl-generator c =
    let xs = bits_of c.args.self.gaps in
    let g = c.args.generator in
    let minimal = minimal-from_test xs g c.requires.generator.1 in
    let member = (small-without xs g (g + 1) c.requires.small minimal (least-next xs g minimal c.args.self.multiplicity c.requires.words.least c.if-generator-self.true)).member in
    omega arith

pub child-requires-clause-multiplicity : goal.child-requires-clause-multiplicity
child-requires-clause-multiplicity c =
    let xs = bits_of c.args.self.gaps in
    let g = c.args.generator in
    least-next xs g (minimal-from_test xs g c.requires.generator.1) c.args.self.multiplicity c.requires.words.least c.if-generator-self.true

pub child-requires-clause-inherited : goal.child-requires-clause-inherited
child-requires-clause-inherited c =
    let xs = bits_of c.args.self.gaps in
    let g = c.args.generator in
    let m = c.args.self.multiplicity in
    let greater = c.args.greater in
    let minimal = minimal-from_test xs g c.requires.generator.1 in
    let member = (small-without xs g (g + 1) c.requires.small minimal (least-next xs g minimal m c.requires.words.least c.if-generator-self.true)).member in
    let within : g < 64 = omega arith in
    inherited-next xs g m greater (bit_or greater (1 * 2 ^ g % 2 ^ 64)) minimal c.requires.words.least c.if-generator-self.true c.requires.greater
    (or_lt 64 greater (1 * 2 ^ g % 2 ^ 64) c.requires.greater.fits (mod-lt (1 * 2 ^ g) (pow_pos 64)))
    (bit_at_set_same w64 greater g within) (bit_at_set_other w64 greater g within)

pub child-requires-else-generator-self-clause-multiplicity : goal.child-requires-else-generator-self-clause-multiplicity
child-requires-else-generator-self-clause-multiplicity c =
    let xs = bits_of c.args.self.gaps in
    let g = c.args.generator in
    least-kept xs g (minimal-from_test xs g c.requires.generator.1) c.args.self.multiplicity c.requires.words.least c.if-generator-self.false

pub child-requires-else-generator-self-clause-inherited : goal.child-requires-else-generator-self-clause-inherited
child-requires-else-generator-self-clause-inherited c =
    let xs = bits_of c.args.self.gaps in
    let g = c.args.generator in
    inherited-kept xs g c.args.self.multiplicity c.args.greater (minimal-from_test xs g c.requires.generator.1) c.requires.words.least c.if-generator-self.false c.requires.greater
