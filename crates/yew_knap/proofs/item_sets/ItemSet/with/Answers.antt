use Rattle.std.proofs.Common.{◌≡◌, ◌/◌, ◌%◌, ◌^◌, ◌<◌, length, ap, arith}
use Rattle.yew_knap.specs.ItemSets.{with_item}
use Rattle.yew_knap.specs.ItemSetLaws.{shl_one}
use Rattle.yew_knap.proofs.ItemWords.{words-with}
use Rattle.yew_knap.proofs.item_sets.ItemSet.with.Goals as goal

pub returns : goal.returns
unfolding with_item
returns c =
    let bit = shl_one (c.args.item % 64) (omega arith) in
    let four : length c.args.self.now.words ≡ 4 = c.told-self in
    let within : c.args.item / 64 < 4 = omega (arith, c.requires) in
    rw (c.word_with.ensures, c.word_with-2.ensures, c.word_with-3.ensures, c.word_with-4.ensures, bit)
    (ap (λ ws. record { words = ws }) (words-with c.args.self.now.words (c.args.item / 64) (2 ^ (c.args.item % 64)) four within))
