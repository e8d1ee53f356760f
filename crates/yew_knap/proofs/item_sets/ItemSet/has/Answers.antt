use Rattle.std.proofs.Common.{◌/◌, ◌%◌, ◌==◌, ℕ, ap, slice_index_or}
use Rattle.std.proofs.lemmas.Nat.Bits.{shr_and_one}
use Rattle.yew_knap.specs.ItemSets.{has_item}
use Rattle.yew_knap.proofs.item_sets.ItemSet.has.Goals as goal

pub returns : goal.returns
unfolding has_item
returns c = ap (λ (n : ℕ). n == 1) (shr_and_one (slice_index_or c.args.self.now.words (c.args.item / 64) 0) (c.args.item % 64))
