use Rattle.std.proofs.Common.{◌∙◌, ap, sym, subst}
use lib.ListN.{get_elem?}
use Rattle.std.specs.Mem.Slots.Ownership.{Filled}
use Rattle.yew_mail.proofs.Emptying.{empty_more, stay_full, all_taken}
use Rattle.yew_mail.proofs.closing.empty.Goals as goal

pub loop-slot-preserved : goal.loop-slot-preserved
loop-slot-preserved g c = record {
  same_slots = c.take.ensures.others.0 ∙ c.loop-slot.invariant.same_slots;
  same_count = c.take.ensures.others.2 ∙ c.loop-slot.invariant.same_count;
  full = subst (Filled _ _) (sym c.take.ensures.others.2) (stay_full _ _ _ _ c.take.ensures.others.1 c.loop-slot.invariant.full);
  taken = all_taken _ _ _ c.take.ensures.others.1 c.loop-slot.invariant.taken;
  so_far = empty_more _ _ _ _ _ c.take.result _ _ c.loop-slot.invariant.so_far
      (ap (λ slots. get_elem? slots c.loop-slot.slot) (sym c.loop-slot.invariant.same_slots) ∙ c.take.ensures.value)
      c.append-lasts.ensures.appended
      c.append-lasts.ensures.dropped;
}
