-- The walk of a node and what lies below it above the depth: its visit, its children one after another, and its end.
use Rattle.std.proofs.Common.{◌≡◌, ℕ, zero, suc, ◌+◌, ◌<◌, ◌≤◌, List, [], ◌∷◌, ◌++◌, map, length, max, true, drop, take, Some, IsSome, refl, ap, ap₂, sym, subst, ◌∙◌, append_assoc, append-nil, arith, length-append}
use Rattle.std.specs.Prelude.{Result, Ok, Err, OnOk, OnErr, IfErr}
use Rattle.std.specs.List.{AllByRecursion}
use Rattle.std.proofs.Math.Seq.{take-append_seam}
use Rattle.std.proofs.lemmas.List.Concat.{flat_map-append}
use Rattle.std.proofs.lemmas.Option.{slice_get_within}
use Rattle.yew_best.specs.Seats.{SeatView}
use Rattle.yew_laws.specs.declared.problem.Problem.{Ghosts}
use Rattle.yew_laws.specs.SearchTree.{SearchTree, at_path, numbered, IsTask}
use Rattle.yew_laws.specs.Tree.{IsRanked}
use Rattle.yew_laws.proofs.Steps.{AllByRecursion-drop, slice_get_from_drop, drop_from_drop}
use Rattle.yew_laws.proofs.Trees.{node_at-child}
use Rattle.yew_log.specs.Notes.{Note, visited, spawned, ended, visits, visit_in}
use Rattle.yew_log.specs.SeqLog.{visited_worth}
use Rattle.yew_log.proofs.SeqLaws.{worth-append}
use Rattle.yew_walk.specs.LogViews.{LogView, log_after, RefusesNote}
use Rattle.yew_walk.specs.declared.fault.SearchFault.{SearchFault}
use Rattle.yew_walk.proofs.Sending.{log_after-append}
use Rattle.yew_ranked.specs.FrontierStates.{FrontierState, IsSoFar, IsAmongChildren, IsEntered, IsSpawned, IsAfterRoot, StopsIn, entered_notes, children_notes, noted_items}
use Rattle.yew_ranked.proofs.FrontierSteps.{IsOtherStep, so_far-other}
use Rattle.yew_ranked.proofs.FrontierStops.{refused-stops, part-stops}
use Rattle.yew_ranked.proofs.NotedItems.{noted_items-append, frontier_notes-children, children_notes-first}

module _ {N S : Type 0} (t : SearchTree N) (join : S → S → S) (none : S) (of : N → ℕ → S) where
  -- no child was dealt with yet
  pub among-start : (levels : ℕ) (path : List ℕ) (children : List N) (begun : LogView) (notes : List Note) (now : FrontierState S) → IsSoFar t join none of begun notes now
      → IsAmongChildren t join none of levels path children begun notes 0 children now
  among-start levels path children begun notes now w = record {
    done = [];
    so_far = subst (λ (ns : List Note). IsSoFar t join none of begun ns now) (sym (append-nil notes)) w;
    stands = ap (λ (ns : List Note). children_notes t levels path 0 children (visited_worth ns)) (sym (append-nil notes));
  }

  -- a child became a task
  pub among-spawned : (path : List ℕ) (children : List N) (begun : LogView) (notes : List Note) (number : ℕ) (child : N) (left : List N) (old now : FrontierState S)
      → IsAmongChildren t join none of zero path children begun notes number (child ∷ left) old → IsSpawned (path ++ number ∷ []) old.log old.next old.tasks now.log now.next now.tasks
      → now.seat ≡ old.seat → now.hand ≡ old.hand → at_path t (path ++ number ∷ []) ≡ Some child → IsAmongChildren t join none of zero path children begun notes (suc number) left now
  among-spawned path children begun notes number child left old now a s seat_is hand_is found =
      let note = spawned (path ++ number ∷ []) in
      let few = s.few in
      let next_is = s.next_is in
      let step : IsOtherStep t join none of note [] old now = record {
        no_visit = refl;
        cuts_are = refl;
        entries_are = tt;
        permitted = tt;
        offered = λ vs is below. tt;
        next_is = omega (arith, next_is);
        few = omega (arith, next_is, few);
        tasks_are = s.tasks_are;
        tasks_there = (record { there = subst IsSome (sym found) refl; few = few }, tt);
        log_is = s.log_is;
        offered_is = ap (λ (v : SeatView). v.offered) seat_is;
        hand_is = hand_is;
      } in
      record {
        done = a.done ++ note ∷ [];
        so_far = subst (λ (ns : List Note). IsSoFar t join none of begun ns now) (append_assoc notes a.done (note ∷ [])) (so_far-other t join none of begun (notes ++ a.done) old now note [] a.so_far step);
        stands = a.stands ∙ sym (append_assoc a.done (note ∷ []) (children_notes t zero path (suc number) left (visited_worth (notes ++ (a.done ++ note ∷ [])))));
      }

  -- a child and what lies below it were dealt with
  pub among-entered : (levels : ℕ) (path : List ℕ) (children : List N) (begun : LogView) (notes : List Note) (number : ℕ) (child : N) (left : List N) (old now : FrontierState S)
      → (a : IsAmongChildren t join none of (suc levels) path children begun notes number (child ∷ left) old)
      → IsSoFar t join none of begun ((notes ++ a.done) ++ entered_notes t levels (path ++ number ∷ []) child (visited_worth (notes ++ a.done))) now
      → IsAmongChildren t join none of (suc levels) path children begun notes (suc number) left now
  among-entered levels path children begun notes number child left old now a w =
      let held = visited_worth (notes ++ a.done) in
      let first = entered_notes t levels (path ++ number ∷ []) child held in
      let later = λ (h : ℕ). children_notes t (suc levels) path (suc number) left h in
      let more : max held (visited_worth first) ≡ visited_worth (notes ++ (a.done ++ first)) = sym (worth-append (notes ++ a.done) first) ∙ ap visited_worth (append_assoc notes a.done first) in
      record {
        done = a.done ++ first;
        so_far = subst (λ (ns : List Note). IsSoFar t join none of begun ns now) (append_assoc notes a.done first) w;
        stands = a.stands ∙ (ap (λ (ns : List Note). a.done ++ ns) (children_notes-first t levels path number child left held)
            ∙ (sym (append_assoc a.done first (later (max held (visited_worth first)))) ∙ ap (λ (h : ℕ). (a.done ++ first) ++ later h) more));
      }

  no-children : (levels : ℕ) (path : List ℕ) (number held : ℕ) → children_notes t levels path number [] held ≡ []
  no-children zero path number held = refl
  no-children (suc levels) path number held = refl

  -- the entries of a node, split where a part of its children was dealt with
  pub entered-split : (levels : ℕ) (path : List ℕ) (node : N) (begun : LogView) (notes : List Note) (mid now : FrontierState S) (number : ℕ) (left : List N)
      → (e : IsEntered t join none of begun notes path node true mid) → (a : IsAmongChildren t join none of levels path (t.children node) begun (notes ++ e.note ∷ []) number left now)
      → entered_notes t levels path node (visited_worth notes) ≡ (e.note ∷ a.done) ++ (children_notes t levels path number left (visited_worth ((notes ++ e.note ∷ []) ++ a.done)) ++ ended path ∷ [])
  entered-split levels path node begun notes mid now number left e a =
      let later = children_notes t levels path number left (visited_worth ((notes ++ e.note ∷ []) ++ a.done)) in
      let held : max (visited_worth notes) (t.worth node) ≡ visited_worth (notes ++ e.note ∷ []) = sym (worth-append notes (e.note ∷ []) ∙ ap (λ (n : Note). max (visited_worth notes) (visited_worth
      (n ∷ []))) e.note_is ∙ ap (max (visited_worth notes)) (only (t.worth node))) in
      e.entered levels
      ∙ (frontier_notes-children t levels path node (visited_worth notes)
      ∙ (ap₂ (λ (n : Note) (ns : List Note). n ∷ (ns ++ ended path ∷ [])) (sym e.note_is) (ap (children_notes t levels path 0 (t.children node)) held ∙ a.stands)
      ∙ ap (λ (ns : List Note). e.note ∷ ns) (append_assoc a.done later (ended path ∷ []))))
    where
      only : (w : ℕ) → max w 0 ≡ w
      only w = omega arith

  -- all children were dealt with, and the visit ended
  pub among-ends : (levels : ℕ) (path : List ℕ) (node : N) (begun : LogView) (notes : List Note) (mid old now : FrontierState S) (number : ℕ)
      → (e : IsEntered t join none of begun notes path node true mid) → IsAmongChildren t join none of levels path (t.children node) begun (notes ++ e.note ∷ []) number [] old
      → now.log ≡ log_after old.log (ended path ∷ []) → now.seat ≡ old.seat → now.hand ≡ old.hand → now.next ≡ old.next → now.tasks ≡ old.tasks
      → IsSoFar t join none of begun (notes ++ entered_notes t levels path node (visited_worth notes)) now
  among-ends levels path node begun notes mid old now number e a log_is seat_is hand_is next_is tasks_are =
      let few = a.so_far.few in
      let step : IsOtherStep t join none of (ended path) [] old now = record {
        no_visit = refl;
        cuts_are = refl;
        entries_are = tt;
        permitted = tt;
        offered = λ vs is below. tt;
        next_is = omega (arith, next_is);
        few = omega (arith, next_is, few);
        tasks_are = tasks_are ∙ sym (append-nil old.tasks);
        tasks_there = tt;
        log_is = log_is;
        offered_is = ap (λ (v : SeatView). v.offered) seat_is;
        hand_is = hand_is;
      } in
      let held = visited_worth ((notes ++ e.note ∷ []) ++ a.done) in
      let split = entered-split levels path node begun notes mid old number [] e a ∙ ap (λ (ns : List Note). (e.note ∷ a.done) ++ (ns ++ ended path ∷ [])) (no-children levels path number held) in
      let all : ((notes ++ e.note ∷ []) ++ a.done) ++ ended path ∷ [] ≡ notes ++ entered_notes t levels path node (visited_worth notes) =
      append_assoc (notes ++ e.note ∷ []) a.done (ended path ∷ []) ∙ (append_assoc notes (e.note ∷ []) (a.done ++ ended path ∷ []) ∙ ap (λ (ns : List Note). notes ++ ns) (sym split)) in
      subst (λ (ns : List Note). IsSoFar t join none of begun ns now) all (so_far-other t join none of begun ((notes ++ e.note ∷ []) ++ a.done) old now (ended path) [] a.so_far step)

  -- a refusal among the children is one of the node
  pub among-stops : (levels : ℕ) (path : List ℕ) (node : N) (begun : LogView) (notes : List Note) (old mid now : FrontierState S) (number : ℕ) (left : List N) (part after : List Note) (log : LogView) (fault : SearchFault)
      → IsSoFar t join none of begun notes old
      → (e : IsEntered t join none of begun notes path node true mid) → (a : IsAmongChildren t join none of levels path (t.children node) begun (notes ++ e.note ∷ []) number left now)
      → children_notes t levels path number left (visited_worth ((notes ++ e.note ∷ []) ++ a.done)) ++ ended path ∷ [] ≡ part ++ after
      → StopsIn part now.next now.log log fault → StopsIn (entered_notes t levels path node (visited_worth notes)) old.next old.log log fault
  among-stops levels path node begun notes old mid now number left part after log fault w e a is s =
      let before = e.note ∷ a.done in
      let all : (notes ++ e.note ∷ []) ++ a.done ≡ notes ++ before = append_assoc notes (e.note ∷ []) a.done in
      let count = a.so_far.next_is ∙ (ap (λ (ns : List Note). length (noted_items ns)) all ∙ (ap length (noted_items-append notes before) ∙ length-append (noted_items notes) (noted_items before))) in
      let first = w.next_is in
      part-stops (entered_notes t levels path node (visited_worth notes)) before part after old.next now.next old.log now.log log fault
      (entered-split levels path node begun notes mid now number left e a ∙ ap (λ (ns : List Note). before ++ ns) is)
      (count ∙ ap (λ (n : ℕ). n + length (noted_items before)) (sym first))
      (a.so_far.log_is ∙ (ap (log_after begun) all ∙ (log_after-append begun notes before ∙ ap (λ (l : LogView). log_after l before) (sym w.log_is)))) s

visits-some : (notes : List Note) (note : Note) (path : List ℕ) (worth held : ℕ) (more : List Note) → note ≡ visited path worth held → 0 < length (visits ((notes ++ note ∷ []) ++ more))
visits-some [] note path worth held more is = subst (λ (n : Note). 0 < length (visits (n ∷ more))) (sym is) (omega arith)
visits-some (n ∷ notes) note path worth held more is =
    let rest = visits-some notes note path worth held more is in
    let all = length-append (visit_in n) (visits ((notes ++ note ∷ []) ++ more)) in
    omega (arith, rest, all)

-- the node of this entry was visited
pub visited-some : (notes : List Note) (note : Note) (path : List ℕ) (worth held : ℕ) → note ≡ visited path worth held → 0 < length (visits (notes ++ note ∷ []))
visited-some notes note path worth held is = subst (λ (ns : List Note). 0 < length (visits ns)) (append-nil (notes ++ note ∷ [])) (visits-some notes note path worth held [] is)

visits-more : (notes more : List Note) → 0 < length (visits notes) → 0 < length (visits (notes ++ more))
visits-more notes more some =
    let all = ap length (flat_map-append visit_in notes more) ∙ length-append (visits notes) (visits more) in omega (arith, some, all)

child-after_root : (path : List ℕ) (k : ℕ) (notes : List Note) → 0 < length (visits notes) → IsAfterRoot (path ++ k ∷ []) notes
child-after_root [] k notes some = some
child-after_root (j ∷ path) k notes some = some

-- the next child of those that are left from a number on
pub record IsNextChild {N : Type 0} (children : List N) (number : ℕ) (child : N) (left : List N) : Type 0 where
  pub at : drop number children ≡ child ∷ left
  pub within : number + 1 ≤ length children
  pub later : left ≡ drop (number + 1) children

pub next-child : {N : Type 0} (children : List N) (number : ℕ) (child : N) (rest left : List N) → rest ≡ drop number children → rest ≡ child ∷ left → IsNextChild children number child left
next-child children number child rest left is first =
    let at = sym is ∙ first in
    let within = slice_get_within children number child (slice_get_from_drop children number child left at) in
    record {
      at = at;
      within = omega (arith, within);
      later = sym (drop_from_drop children number child left at) ∙ ap (λ (k : ℕ). drop k children) (one number);
    }
  where
    one : (k : ℕ) → suc k ≡ k + 1
    one k = omega arith

-- a child is a task of the problem, and so is each one that is left
pub child-task : {S N K : Type 0} (meaning : Ghosts S N K) (problem : S) → IsRanked (meaning.sound problem) (meaning.children problem) (meaning.rank problem) → (path : List ℕ) (node : N) (number : ℕ) (child : N) (left : List N)
    → IsTask meaning problem path node → drop number (meaning.children problem node) ≡ child ∷ left → IsTask meaning problem (path ++ number ∷ []) child
child-task meaning problem ranked path node number child left task at = record {
  is_sound = (subst (AllByRecursion (meaning.sound problem)) at (AllByRecursion-drop (meaning.sound problem) number (meaning.children problem node) (ranked.stays_sound node task.is_sound))).0;
  found = node_at-child (meaning.children problem) (meaning.root problem) node child path number task.found (slice_get_from_drop (meaning.children problem node) number child left at);
}

-- the path is cut back to that of the parent
pub path-back : (numbers path : List ℕ) (k depth : ℕ) → numbers ≡ path ++ k ∷ [] → depth ≡ length path → take depth numbers ≡ path
path-back numbers path k depth is at = ap₂ (λ (d : ℕ) (ps : List ℕ). take d ps) at is ∙ take-append_seam path (k ∷ [])

module _ {N S : Type 0} (t : SearchTree N) (join : S → S → S) (none : S) (of : N → ℕ → S) where
  pub goes-spawned : (levels : ℕ) (path child_path : List ℕ) (children : List N) (begun : LogView) (notes : List Note) (number after : ℕ) (child : N) (left rest : List N) (old now : FrontierState S)
      → levels ≡ 0 → child_path ≡ path ++ number ∷ [] → after ≡ suc number → rest ≡ child ∷ left
      → IsAmongChildren t join none of levels path children begun notes number rest old → IsSpawned child_path old.log old.next old.tasks now.log now.next now.tasks
      → now.seat ≡ old.seat → now.hand ≡ old.hand → at_path t (path ++ number ∷ []) ≡ Some child → IsAmongChildren t join none of levels path children begun notes after left now
  goes-spawned zero path child_path children begun notes number after child left rest old now none_left path_is after_is rest_is a s seat_is hand_is found =
      subst (λ (n : ℕ). IsAmongChildren t join none of zero path children begun notes n left now) (sym after_is)
      (among-spawned t join none of path children begun notes number child left old now (subst (λ (r : List N). IsAmongChildren t join none of zero path children begun notes number r old) rest_is a)
      (subst (λ (p : List ℕ). IsSpawned p old.log old.next old.tasks now.log now.next now.tasks) path_is s) seat_is hand_is found)
  goes-spawned (suc levels) path child_path children begun notes number after child left rest old now none_left path_is after_is rest_is a s seat_is hand_is found = absurd (omega arith)

  pub goes-entered : (levels lower : ℕ) (path child_path : List ℕ) (children : List N) (begun : LogView) (notes : List Note) (number after : ℕ) (child : N) (left rest : List N) (old now : FrontierState S)
      → levels ≡ suc lower → child_path ≡ path ++ number ∷ [] → after ≡ suc number → rest ≡ child ∷ left
      → IsAmongChildren t join none of levels path children begun notes number rest old → 0 < length (visits notes)
      → ((from : LogView) (ns : List Note) → IsSoFar t join none of from ns old → IsAfterRoot child_path ns → IsSoFar t join none of from (ns ++ entered_notes t lower child_path child (visited_worth ns)) now)
      → IsAmongChildren t join none of levels path children begun notes after left now
  goes-entered zero lower path child_path children begun notes number after child left rest old now levels_are path_is after_is rest_is a some f = absurd (omega arith)
  goes-entered (suc levels) lower path child_path children begun notes number after child left rest old now levels_are path_is after_is rest_is a some f =
      let here = subst (λ (r : List N). IsAmongChildren t join none of (suc levels) path children begun notes number r old) rest_is a in
      let same : lower ≡ levels = omega (arith, levels_are) in
      let ns = notes ++ here.done in
      let goes = f begun ns here.so_far (subst (λ (p : List ℕ). IsAfterRoot p ns) (sym path_is) (child-after_root path number ns (visits-more notes here.done some))) in
      subst (λ (n : ℕ). IsAmongChildren t join none of (suc levels) path children begun notes n left now) (sym after_is)
      (among-entered t join none of levels path children begun notes number child left old now here
      (subst (λ (p : List ℕ). IsSoFar t join none of begun (ns ++ entered_notes t levels p child (visited_worth ns)) now) path_is (subst (λ (l : ℕ). IsSoFar t join none of begun
      (ns ++ entered_notes t l child_path child (visited_worth ns)) now) same goes)))

  pub spawn-stops : (levels : ℕ) (path child_path : List ℕ) (node : N) (begun : LogView) (notes : List Note) (old mid now : FrontierState S) (number : ℕ) (child : N) (left rest : List N) (log : LogView) (fault : SearchFault)
      → levels ≡ 0 → child_path ≡ path ++ number ∷ [] → rest ≡ child ∷ left → IsSoFar t join none of begun notes old
      → (e : IsEntered t join none of begun notes path node true mid) → IsAmongChildren t join none of levels path (t.children node) begun (notes ++ e.note ∷ []) number rest now
      → StopsIn (spawned child_path ∷ []) now.next now.log log fault → StopsIn (entered_notes t levels path node (visited_worth notes)) old.next old.log log fault
  spawn-stops zero path child_path node begun notes old mid now number child left rest log fault none_left path_is rest_is w e a s =
      let here = subst (λ (r : List N). IsAmongChildren t join none of zero path (t.children node) begun (notes ++ e.note ∷ []) number r now) rest_is a in
      among-stops t join none of zero path node begun notes old mid now number (child ∷ left) (spawned (path ++ number ∷ []) ∷ []) (map spawned (numbered path (suc number) left) ++ ended path ∷ []) log fault w e here refl
      (subst (λ (p : List ℕ). StopsIn (spawned p ∷ []) now.next now.log log fault) path_is s)
  spawn-stops (suc levels) path child_path node begun notes old mid now number child left rest log fault none_left path_is rest_is w e a s = absurd (omega arith)

  pub enter-stops : (levels lower : ℕ) (path child_path : List ℕ) (node : N) (begun : LogView) (notes : List Note) (old mid now : FrontierState S) (number : ℕ) (child : N) (left rest : List N) (log : LogView) (fault : SearchFault)
      → levels ≡ suc lower → child_path ≡ path ++ number ∷ [] → rest ≡ child ∷ left → IsSoFar t join none of begun notes old
      → (e : IsEntered t join none of begun notes path node true mid) → IsAmongChildren t join none of levels path (t.children node) begun (notes ++ e.note ∷ []) number rest now
      → ((from : LogView) (ns : List Note) → IsSoFar t join none of from ns now → IsAfterRoot child_path ns → StopsIn (entered_notes t lower child_path child (visited_worth ns)) now.next now.log log fault)
      → StopsIn (entered_notes t levels path node (visited_worth notes)) old.next old.log log fault
  enter-stops zero lower path child_path node begun notes old mid now number child left rest log fault levels_are path_is rest_is w e a f = absurd (omega arith)
  enter-stops (suc levels) lower path child_path node begun notes old mid now number child left rest log fault levels_are path_is rest_is w e a f =
      let here = subst (λ (r : List N). IsAmongChildren t join none of (suc levels) path (t.children node) begun (notes ++ e.note ∷ []) number r now) rest_is a in
      let same : lower ≡ levels = omega (arith, levels_are) in
      let ns = (notes ++ e.note ∷ []) ++ here.done in
      let held = visited_worth ns in
      let first = entered_notes t levels (path ++ number ∷ []) child held in
      let later = children_notes t (suc levels) path (suc number) left (max held (visited_worth first)) in
      let stops = f begun ns here.so_far (subst (λ (p : List ℕ). IsAfterRoot p ns) (sym path_is) (child-after_root path number ns (visits-some notes e.note path (t.worth node) (visited_worth notes) here.done e.note_is))) in
      among-stops t join none of (suc levels) path node begun notes old mid now number (child ∷ left) first (later ++ ended path ∷ []) log fault w e here
      (ap (λ (xs : List Note). xs ++ ended path ∷ []) (children_notes-first t levels path number child left held) ∙ append_assoc first later (ended path ∷ []))
      (subst (λ (p : List ℕ). StopsIn (entered_notes t levels p child held) now.next now.log log fault) path_is (subst (λ (l : ℕ). StopsIn (entered_notes t l child_path child held) now.next now.log log fault) same stops))

  pub end-stops : (levels : ℕ) (path end_path : List ℕ) (node : N) (begun : LogView) (notes : List Note) (old mid now : FrontierState S) (number : ℕ) (rest : List N) (log : LogView) (fault : SearchFault)
      → end_path ≡ path → rest ≡ [] → IsSoFar t join none of begun notes old
      → (e : IsEntered t join none of begun notes path node true mid) → IsAmongChildren t join none of levels path (t.children node) begun (notes ++ e.note ∷ []) number rest now
      → log ≡ now.log → RefusesNote now.log end_path fault → StopsIn (entered_notes t levels path node (visited_worth notes)) old.next old.log log fault
  end-stops levels path end_path node begun notes old mid now number rest log fault path_is rest_is w e a log_is r =
      let here = subst (λ (r : List N). IsAmongChildren t join none of levels path (t.children node) begun (notes ++ e.note ∷ []) number r now) rest_is a in
      let held = visited_worth ((notes ++ e.note ∷ []) ++ here.done) in
      among-stops t join none of levels path node begun notes old mid now number [] (ended path ∷ []) [] log fault w e here
      (ap (λ (xs : List Note). xs ++ ended path ∷ []) (no-children t join none of levels path number held) ∙ sym (append-nil (ended path ∷ [])))
      (refused-stops (ended path ∷ []) [] [] (ended path) now.next now.log now.log log fault refl refl log_is (subst (λ (p : List ℕ). RefusesNote now.log p fault) path_is r))

  pub goes-ended : (levels : ℕ) (path end_path : List ℕ) (node : N) (begun : LogView) (notes : List Note) (mid old now : FrontierState S) (number : ℕ) (rest : List N)
      → end_path ≡ path → rest ≡ [] → (e : IsEntered t join none of begun notes path node true mid) → IsAmongChildren t join none of levels path (t.children node) begun (notes ++ e.note ∷ []) number rest old
      → now.log ≡ log_after old.log (ended end_path ∷ []) → now.seat ≡ old.seat → now.hand ≡ old.hand → now.next ≡ old.next → now.tasks ≡ old.tasks
      → IsSoFar t join none of begun (notes ++ entered_notes t levels path node (visited_worth notes)) now
  goes-ended levels path end_path node begun notes mid old now number rest path_is rest_is e a log_is seat_is hand_is next_is tasks_are =
      among-ends t join none of levels path node begun notes mid old now number e (subst (λ (r : List N). IsAmongChildren t join none of levels path (t.children node) begun (notes ++ e.note ∷ []) number r old) rest_is a)
      (log_is ∙ ap (λ (p : List ℕ). log_after old.log (ended p ∷ [])) path_is) seat_is hand_is next_is tasks_are

-- what an answer that is Ok says, from what it says of the call
pub on-ok : {T E P Q : Type 0} (r : Result T E) → (P → Q) → OnOk r P → OnOk r Q
on-ok (Ok x) f h = f h
on-ok (Err e) f h = tt

-- what an answer that is Err says, from what it says of the call
pub if-err : {T E P : Type 0} {Q R : E → Type 0} (r : Result T E) → ((e : E) → P → Q e → R e) → OnErr r P → IfErr r Q → IfErr r R
if-err (Ok x) f h k = tt
if-err (Err e) f h k = f e h k
