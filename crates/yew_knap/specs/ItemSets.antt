-- Sets as bits: bit k % 64 of word k / 64 says whether the copy with the number k is in the set.
use Rattle.std.specs.Prelude.{ℕ, ◌/◌, ◌%◌, ◌^◌, Bool, [], ◌∷◌, ◌==◌, bit_or, slice_index, slice_set}
use Rattle.std.specs.Int.{bit_at}
use Rattle.yew_knap.specs.declared.item_sets.ItemSet.{ItemSet}

abbrev pub no_items : ItemSet
no_items = record { words = 0 ∷ 0 ∷ 0 ∷ 0 ∷ [] }

unfoldable pub has_item : ItemSet → ℕ → Bool
has_item items k = bit_at (slice_index items.words (k / 64)) (k % 64) == 1

unfoldable pub with_item : ItemSet → ℕ → ItemSet
with_item items k = record { words = slice_set items.words (k / 64) (bit_or (slice_index items.words (k / 64)) (2 ^ (k % 64))) }
