-- Where the walk above the depth is refused: an entry that has no room, and a part of the entries as a part of more.
use Rattle.std.proofs.Common.{◌≡◌, ℕ, ◌+◌, List, ◌∷◌, ◌++◌, length, ap, sym, subst, ◌∙◌, append_assoc, arith, length-append}
use Rattle.yew_log.specs.Items.{Item}
use Rattle.yew_log.specs.Notes.{Note, path_of}
use Rattle.yew_log.specs.Recording.{IsFull}
use Rattle.yew_walk.specs.LogViews.{LogView, log_after, RefusesNote}
use Rattle.yew_walk.specs.declared.fault.SearchFault.{SearchFault}
use Rattle.yew_walk.specs.declared.fault.SearchFault.TheVariants.{Memory, AuditFull, TooManyTasks}
use Rattle.yew_walk.proofs.Sending.{log_after-append}
use Rattle.yew_ranked.specs.FrontierStates.{StopsIn, noted_items}
use Rattle.yew_ranked.proofs.NotedItems.{noted_items-append}

-- an entry was refused after these
pub refused-stops : (whole notes rest : List Note) (next : Note) (items : ℕ) (first log now : LogView) (fault : SearchFault)
    → whole ≡ notes ++ next ∷ rest → log ≡ log_after first notes → now ≡ log → RefusesNote log (path_of next) fault → StopsIn whole items first now fault
refused-stops whole notes rest next items first log now Memory is log_is same r = tt
refused-stops whole notes rest next items first log now (AuditFull worker entries numbers) is log_is same r = record {
  notes = notes;
  next = next;
  rest = rest;
  stands = is;
  log_is = same ∙ log_is;
  full = subst (λ (l : LogView). IsFull l.told (path_of next) entries numbers) (sym same) r.1;
  worker_is = r.0 ∙ ap (λ (l : LogView). l.number) (sym same);
}
refused-stops whole notes rest next items first log now (TooManyTasks number) is log_is same r = absurd r

-- what stops in a part stops in the whole
pub part-stops : (whole before part after : List Note) (items here : ℕ) (first log now : LogView) (fault : SearchFault)
    → whole ≡ before ++ (part ++ after) → here ≡ items + length (noted_items before) → log ≡ log_after first before → StopsIn part here log now fault → StopsIn whole items first now fault
part-stops whole before part after items here first log now Memory is count log_is s = tt
part-stops whole before part after items here first log now (AuditFull worker entries numbers) is count log_is s = record {
  notes = before ++ s.notes;
  next = s.next;
  rest = s.rest ++ after;
  stands = is ∙ (ap (λ (ns : List Note). before ++ (ns ++ after)) s.stands ∙ (ap (λ (ns : List Note). before ++ ns) (append_assoc s.notes (s.next ∷ s.rest) after) ∙ sym (append_assoc before s.notes (s.next ∷ (s.rest ++ after)))));
  log_is = s.log_is ∙ (ap (λ (l : LogView). log_after l s.notes) log_is ∙ sym (log_after-append first before s.notes));
  full = s.full;
  worker_is = s.worker_is;
}
part-stops whole before part after items here first log now (TooManyTasks number) is count log_is s =
    let past = s.1 in
    let all = ap length (ap noted_items is ∙ (noted_items-append before (part ++ after) ∙ ap (λ (xs : List Item). noted_items before ++ xs) (noted_items-append part after))) in
    let first_part = length-append (noted_items before) (noted_items part ++ noted_items after) in
    let second_part = length-append (noted_items part) (noted_items after) in
    (s.0, omega (arith, past, count, all, first_part, second_part))
