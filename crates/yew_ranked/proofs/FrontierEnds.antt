-- The whole walk above the depth: how it begins, what it has done at its end, and why it was refused.
use Rattle.std.proofs.Common.{◌≡◌, ℕ, suc, ◌-◌, ◌/◌, ◌^◌, ◌≤◌, List, [], ◌∷◌, ◌++◌, map, length, Bool, false, Some, None, slice_get, if◌then◌else◌, refl, ap, sym, subst, ◌∙◌, inl, arith, append-nil}
use Rattle.std.specs.List.{AllByRecursion}
use Rattle.yew_best.specs.Seats.{SeatView}
use Rattle.yew_laws.specs.SearchTree.{SearchTree}
use Rattle.yew_laws.proofs.Members.{AllByRecursion-weaker}
use Rattle.yew_log.specs.Items.{Item, items_of, IsInItem}
use Rattle.yew_log.specs.Notes.{Note, taken}
use Rattle.yew_walk.specs.LogViews.{LogView, log_after, RefusesNote}
use Rattle.yew_walk.specs.declared.fault.SearchFault.{SearchFault}
use Rattle.yew_walk.specs.declared.fault.SearchFault.TheVariants.{Memory, AuditFull, TooManyTasks}
use Rattle.yew_ranked.specs.Frontier.{frontier_notes, frontier_log}
use Rattle.yew_ranked.specs.FrontierStates.{FrontierState, IsSoFar, IsPlaced, IsTaskThere, StopsIn, noted_items, visit_note, cut_note}
use Rattle.yew_ranked.specs.FrontierWalk.{IsFrontierWalked, IsFrontierFault}
use Rattle.yew_ranked.specs.RankedSearch.{RankedJudgement, key_of_judgement}
use Rattle.yew_ranked.specs.Tasks.{IsBetween, IsTaskOf, numbered_task, tasks_from}
use Rattle.yew_ranked.specs.declared.task.RankedTask.{RankedTask}
use Rattle.yew_ranked.proofs.FrontierOrder.{cut-between}
use Rattle.yew_ranked.proofs.FrontierStops.{refused-stops, part-stops}
use Rattle.yew_ranked.proofs.NotedItems.{noted_items-append, item-at, frontier_log-noted}

module _ {N S : Type 0} (t : SearchTree N) (join : S → S → S) (none : S) (of : N → ℕ → S) where
  -- the root is taken, and nothing else was done
  pub so_far-start : (begun : LogView) (now : FrontierState S) → now.log ≡ log_after begun (taken [] ∷ []) → now.seat.offered ≡ [] → now.hand.sum ≡ none → now.hand.holds ≡ false → now.next ≡ 0 → now.tasks ≡ []
      → IsSoFar t join none of begun (taken [] ∷ []) now
  so_far-start begun now log_is offered_is sum_is holds_is next_is tasks_are = record {
    visited = [];
    cut = [];
    members = [];
    visits_are = refl;
    cuts_are = refl;
    visits_placed = tt;
    cuts_placed = tt;
    in_order = tt;
    numbers_below = tt;
    permitted = tt;
    offered = tt;
    next_is = next_is;
    few = omega (arith, next_is);
    tasks_are = tasks_are;
    tasks_there = subst (AllByRecursion (IsTaskThere t)) (sym tasks_are) tt;
    log_is = log_is;
    offered_is = offered_is;
    are_visited = record { paths_are = refl; there = tt };
    sum_is = sum_is;
    answer_is = ap (λ (b : Bool). if b then record { worth = now.hand.key; path = Some now.hand.path.numbers } else record { worth = 0; path = None }) holds_is;
  }

-- the tasks of the code are those of the walk
pub tasks-there : {N : Type 0} (t : SearchTree N) (tasks : List RankedTask) → AllByRecursion (IsTaskThere t) (map numbered_task tasks) → AllByRecursion (IsTaskOf t) tasks
tasks-there t [] a = tt
tasks-there t (task ∷ tasks) a = (record { few = a.0.few; there = a.0.there }, tasks-there t tasks a.1)

module _ {N : Type 0} (t : SearchTree N) (depth : ℕ) (deep : 1 ≤ depth) where
  items-are : noted_items (frontier_log t (depth - 1)) ≡ items_of t depth
  items-are = frontier_log-noted t (depth - 1) ∙ ap (items_of t) (up depth deep)
    where
      up : (d : ℕ) → 1 ≤ d → suc (d - 1) ≡ d
      up d le = omega arith

  placed-item : (v : RankedJudgement) → IsPlaced (frontier_log t (depth - 1)) visit_note v → IsInItem (items_of t depth) v.item v.path
  placed-item v p =
      let item : Item = record { path = v.path; worth = v.value; is_task = false } in
      let items : items_of t depth ≡ noted_items p.before ++ item ∷ noted_items p.after = sym items-are ∙ (ap noted_items p.stands ∙ noted_items-append p.before (visit_note v ∷ p.after)) in
      record {
        item = item;
        found = subst (λ (is : List Item). slice_get is v.item ≡ Some item) (sym items) (subst (λ (k : ℕ). slice_get (noted_items p.before ++ item ∷ noted_items p.after) k ≡ Some item) (sym p.item_is) (item-at
            (noted_items p.before) item (noted_items p.after)));
        within = inl refl;
      }

  placed-between : (c : RankedJudgement) → IsPlaced (frontier_log t (depth - 1)) cut_note c → IsBetween (items_of t depth) c.item c.path
  placed-between c p =
      let items : items_of t depth ≡ noted_items p.before ++ noted_items p.after = sym items-are ∙ (ap noted_items p.stands ∙ noted_items-append p.before (cut_note c ∷ p.after)) in
      subst (λ (is : List Item). IsBetween is c.item c.path) (sym items)
      (subst (λ (k : ℕ). IsBetween (noted_items p.before ++ noted_items p.after) k c.path) (sym p.item_is) (cut-between t (depth - 1) p.before p.after c.path c.value (c.word / 2 ^ 20) p.stands))

  module _ {S : Type 0} (join : S → S → S) (none : S) (of : N → ℕ → S) where
    -- the walk came to its end
    pub so_far-walked : (begun : LogView) (first : SeatView) (now : FrontierState S) → IsSoFar t join none of begun (frontier_log t
        (depth - 1)) now → first.offered ≡ [] → now.seat.best ≡ first.best → now.seat.share ≡ first.share → 65535 ≤ now.hand.path.space
        → IsFrontierWalked t join none of depth first now.seat now.hand now.tasks
    so_far-walked begun first now w none_offered best_is share_is space =
        let few = w.few in
        let count = w.next_is ∙ ap length items-are in
        record {
          visited = w.visited;
          cut = w.cut;
          members = w.members;
          judgements = record {
            visits_are = w.visits_are;
            cuts_are = w.cuts_are;
            in_items = AllByRecursion-weaker (IsPlaced (frontier_log t (depth - 1)) visit_note) (λ (v : RankedJudgement). IsInItem (items_of t depth) v.item v.path) placed-item w.visited w.visits_placed;
            in_order = w.in_order;
            between = AllByRecursion-weaker (IsPlaced (frontier_log t (depth - 1)) cut_note) (λ (c : RankedJudgement). IsBetween (items_of t depth) c.item c.path) placed-between w.cut w.cuts_placed;
            permitted = w.permitted;
            offered = w.offered;
          };
          few = omega (arith, few, count);
          tasks_are = w.tasks_are ∙ ap (tasks_from 0) items-are;
          offered_is = w.offered_is ∙ ap (λ (xs : List ℕ). xs ++ map key_of_judgement w.visited) (sym none_offered);
          best_is = best_is;
          share_is = share_is;
          are_visited = w.are_visited;
          sum_is = w.sum_is;
          answer_is = w.answer_is;
          space = space;
        }

  -- what stops in the log of the walk is its fault
  stops-fault : (first now : LogView) (fault : SearchFault) → StopsIn (frontier_log t (depth - 1)) 0 first now fault → IsFrontierFault t depth first now fault
  stops-fault first now Memory s = tt
  stops-fault first now (AuditFull worker entries numbers) s = record { notes = s.notes; next = s.next; rest = s.rest; stands = s.stands; log_is = s.log_is; full = s.full; worker_is = s.worker_is }
  stops-fault first now (TooManyTasks number) s = let past = s.1 in let count = ap length items-are in (s.0, omega (arith, past, count))

  -- the root's entry was refused
  pub taken-fault : (path : List ℕ) (first now : LogView) (fault : SearchFault) → path ≡ [] → now ≡ first → RefusesNote first path fault → IsFrontierFault t depth first now fault
  taken-fault path first now fault is same r =
      stops-fault first now fault
      (refused-stops (frontier_log t (depth - 1)) [] (frontier_notes t (depth - 1) [] t.root 0) (taken []) 0 first first now fault refl refl same (subst (λ (p : List ℕ). RefusesNote first p fault) is r))

  -- a later entry was refused
  pub levels-fault : (first log now : LogView) (fault : SearchFault) → log ≡ log_after first (taken [] ∷ []) → StopsIn (frontier_notes t (depth - 1) [] t.root 0) 0 log now fault → IsFrontierFault t depth first now fault
  levels-fault first log now fault log_is s =
      stops-fault first now fault
      (part-stops (frontier_log t (depth - 1)) (taken [] ∷ []) (frontier_notes t (depth - 1) [] t.root 0) [] 0 0 first log now fault
      (ap (λ (ns : List Note). taken [] ∷ ns) (sym (append-nil (frontier_notes t (depth - 1) [] t.root 0)))) refl log_is s)
