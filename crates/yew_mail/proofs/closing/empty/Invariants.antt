use Rattle.std.proofs.Common.{◌≡◌, ℕ, ◌<◌, false, get_or}
use Rattle.std.specs.Mem.Slots.{slots_items, slots_filled, slots_len}
use Rattle.std.specs.Mem.Slots.Ownership.{Filled}
use Rattle.yew_mail.specs.Closing.{IsEmptying}
use Rattle.yew_mail.proofs.closing.empty.Given as goal

abbrev pub invariant-loop-slot : goal.invariant-loop-slot
invariant-loop-slot g l = record {
  same_slots : slots_items l.closed.slots ≡ slots_items l.fn.closed.slots;
  same_count : slots_len l.closed.slots ≡ slots_len l.fn.closed.slots;
  full : Filled (slots_filled l.closed.slots) l.slot (slots_len l.closed.slots);
  taken : (k : ℕ) → k < l.slot → get_or (slots_filled l.closed.slots) k false ≡ false;
  so_far : IsEmptying (slots_items l.fn.closed.slots) l.fn.left.items l.slot l.lasts l.left.items;
}
