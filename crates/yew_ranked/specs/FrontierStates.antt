-- Where the walk above the depth of tasks stands after some of its entries, and where it was refused.
use Rattle.std.specs.Prelude.{◌≡◌, ℕ, Bool, zero, suc, ◌+◌, ◌/◌, ◌<◌, ◌≤◌, ◌^◌, ◌⊎◌, List, [], ◌∷◌, ◌++◌, None, IsSome, false, true, map, length, nat_le, if◌then◌else◌}
use Rattle.std.specs.List.{AllByRecursion, flat_map}
use Rattle.yew_best.specs.Seats.{SeatView}
use Rattle.yew_laws.specs.Fold.{fold_of, of_member}
use Rattle.yew_laws.specs.SearchTree.{SearchTree, at_path, numbered}
use Rattle.yew_laws.specs.Tree.{Member}
use Rattle.yew_log.specs.Items.{Item, in_turn}
use Rattle.yew_log.specs.Notes.{Note, visited, cut, spawned, visits, cuts, path_of}
use Rattle.yew_log.specs.Recording.{IsFull}
use Rattle.yew_log.specs.SeqLog.{visited_worth}
use Rattle.yew_walk.specs.Hands.{incumbent_of, AreVisited}
use Rattle.yew_walk.specs.LogViews.{LogView, log_after}
use Rattle.yew_walk.specs.Seats.{IsRead}
use Rattle.yew_walk.specs.declared.fault.SearchFault.{SearchFault}
use Rattle.yew_walk.specs.declared.fault.SearchFault.TheVariants.{Memory, AuditFull, TooManyTasks}
use Rattle.yew_walk.specs.declared.hand.Hand.{Hand}
use Rattle.yew_walk.specs.declared.verdict.Verdict.{Verdict}
use Rattle.yew_walk.specs.declared.verdict.Verdict.TheVariants.{Visit, Cut}
use Rattle.yew_ranked.specs.Frontier.{frontier_notes}
use Rattle.yew_ranked.specs.RankedSearch.{RankedJudgement, key_of_judgement, plain_judgement, ranked_answer, ItemsInOrder, IsOfferedBefore}
use Rattle.yew_ranked.specs.Tasks.{Numbered, tasks_from}

-- the item that an entry of the walk above the depth is, if it is one
abbrev pub noted_item : Note → List Item
noted_item (visited path worth held) = record { path = path; worth = worth; is_task = false } ∷ []
noted_item (spawned path) = record { path = path; worth = 0; is_task = true } ∷ []
noted_item _ = []

-- the items of entries, in order
abbrev pub noted_items : List Note → List Item
noted_items notes = flat_map noted_item notes

-- the entry of a visit
abbrev pub visit_note : RankedJudgement → Note
visit_note v = visited v.path v.value (v.word / 2 ^ 20)

-- the entry of a cut
abbrev pub cut_note : RankedJudgement → Note
cut_note c = cut c.path c.value (c.word / 2 ^ 20)

-- the judgement stands among the entries, behind as many items as its number says
pub record IsPlaced (notes : List Note) (note_of : RankedJudgement → Note) (j : RankedJudgement) : Type 0 where
  pub before : List Note
  pub after : List Note
  pub stands : notes ≡ before ++ note_of j ∷ after
  pub item_is : j.item ≡ length (noted_items before)

-- a visit stands before any node but the root
abbrev pub IsAfterRoot : List ℕ → List Note → Type 0
IsAfterRoot [] notes = Unit {0}
IsAfterRoot (k ∷ path) notes = 0 < length (visits notes)

-- where the walk stands: its seat, its hand, its log, the number of the next item, and the tasks so far
pub record FrontierState (S : Type 0) : Type 0 where
  pub seat : SeatView
  pub hand : Hand S
  pub log : LogView
  pub next : ℕ
  pub tasks : List Numbered

abbrev pub frontier_state : {S : Type 0} → SeatView → Hand S → LogView → ℕ → List Numbered → FrontierState S
frontier_state seat hand log next tasks = record { seat = seat; hand = hand; log = log; next = next; tasks = tasks }

-- the node of a task is there, and its number is below 2^20
pub record IsTaskThere {N : Type 0} (t : SearchTree N) (task : Numbered) : Type 0 where
  pub there : IsSome (at_path t task.path)
  pub few : task.rank < 2 ^ 20

module _ {N S : Type 0} (t : SearchTree N) (join : S → S → S) (none : S) (of : N → ℕ → S) where
  -- the walk has made these entries, from a log on: its visits, its cuts and its tasks are theirs, each with the number of its item
  pub record IsSoFar (begun : LogView) (notes : List Note) (now : FrontierState S) : Type 0 where
    pub visited : List RankedJudgement
    pub cut : List RankedJudgement
    pub members : List (Member N)
    pub visits_are : map plain_judgement visited ≡ visits notes
    pub cuts_are : map plain_judgement cut ≡ cuts notes
    pub visits_placed : AllByRecursion (IsPlaced notes visit_note) visited
    pub cuts_placed : AllByRecursion (IsPlaced notes cut_note) cut
    pub in_order : ItemsInOrder visited
    pub numbers_below : AllByRecursion (λ (v : RankedJudgement). v.item < now.next) visited
    pub permitted : AllByRecursion (λ (c : RankedJudgement). key_of_judgement c ≤ c.word) cut
    pub offered : AllByRecursion (λ (c : RankedJudgement). (c.word ≡ 0) ⊎ IsOfferedBefore visited c) cut
    pub next_is : now.next ≡ length (noted_items notes)
    pub few : now.next ≤ 2 ^ 20
    pub tasks_are : now.tasks ≡ tasks_from 0 (noted_items notes)
    pub tasks_there : AllByRecursion (IsTaskThere t) now.tasks
    pub log_is : now.log ≡ log_after begun notes
    pub offered_is : now.seat.offered ≡ map key_of_judgement visited
    pub are_visited : AreVisited t notes members
    pub sum_is : now.hand.sum ≡ fold_of join none (of_member of) members
    pub answer_is : incumbent_of now.hand ≡ ranked_answer (record { worth = 0; path = None }) visited

module _ {N : Type 0} (t : SearchTree N) where
  -- the entries of a node, where this worth was held before it: the root is visited, any other node is cut where its bound is at most that worth
  abbrev pub entered_notes : ℕ → List ℕ → N → ℕ → List Note
  entered_notes levels [] n held = frontier_notes t levels [] n held
  entered_notes levels (k ∷ path) n held = if nat_le (t.bound n) held then cut (k ∷ path) (t.bound n) held ∷ [] else frontier_notes t levels (k ∷ path) n held

  -- the entries of the children of a node, from one of this number on, with so many levels between the node and the tasks
  abbrev pub children_notes : ℕ → List ℕ → ℕ → List N → ℕ → List Note
  children_notes zero path k cs held = map spawned (numbered path k cs)
  children_notes (suc levels) path k cs held = in_turn visited_worth (λ p c h. if nat_le (t.bound c) h then cut p (t.bound c) h ∷ [] else frontier_notes t levels p c h) path k cs held

  module _ {S : Type 0} (join : S → S → S) (none : S) (of : N → ℕ → S) where
    -- a part of the children was dealt with
    pub record IsAmongChildren (levels : ℕ) (path : List ℕ) (children : List N) (begun : LogView) (notes : List Note) (number : ℕ) (left : List N) (now : FrontierState S) : Type 0 where
      pub done : List Note
      pub so_far : IsSoFar t join none of begun (notes ++ done) now
      pub stands : children_notes levels path 0 children (visited_worth notes) ≡ done ++ children_notes levels path number left (visited_worth (notes ++ done))

  -- why a node is neither visited nor cut: its item would have the number 2^20, and its bound is above the worth of the word
  pub record IsPastLast (next : ℕ) (node : N) (old : SeatView) : Type 0 where
    pub next_is : next ≡ 2 ^ 20
    pub word : ℕ
    pub is_read : IsRead old word
    pub above : word / 2 ^ 20 < t.bound node

  -- the fault that says so
  abbrev pub IsPastFault : ℕ → N → SeatView → SearchFault → Type 0
  IsPastFault next node old Memory = ⊥
  IsPastFault next node old (AuditFull worker entries numbers) = ⊥
  IsPastFault next node old (TooManyTasks number) = (number ≡ 2 ^ 20) × IsPastLast next node old

-- a visit is an item, so its number is below 2^20
abbrev pub IsNumbered : ℕ → Verdict → Type 0
IsNumbered next (Visit worth read) = next < 2 ^ 20
IsNumbered next (Cut bound read) = Unit {0}

-- the log had no room for one of these entries, and has those before it
pub record IsFullIn (whole : List Note) (first now : LogView) (worker entries numbers : ℕ) : Type 0 where
  pub notes : List Note
  pub next : Note
  pub rest : List Note
  pub stands : whole ≡ notes ++ next ∷ rest
  pub log_is : now ≡ log_after first notes
  pub full : IsFull now.told (path_of next) entries numbers
  pub worker_is : worker ≡ now.number

-- why the walk was refused while it made these entries, with so many items before them
abbrev pub StopsIn : List Note → ℕ → LogView → LogView → SearchFault → Type 0
StopsIn whole items first now Memory = Unit {0}
StopsIn whole items first now (AuditFull worker entries numbers) = IsFullIn whole first now worker entries numbers
StopsIn whole items first now (TooManyTasks number) = (number ≡ 2 ^ 20) × (2 ^ 20 < items + length (noted_items whole))

module _ {N S : Type 0} (t : SearchTree N) (join : S → S → S) (none : S) (of : N → ℕ → S) where
  -- a node was visited or cut: its entry is the next, and it is visited exactly where it is the root or its bound is above the worth that was held
  pub record IsEntered (begun : LogView) (notes : List Note) (path : List ℕ) (node : N) (is_visit : Bool) (now : FrontierState S) : Type 0 where
    pub note : Note
    pub so_far : IsSoFar t join none of begun (notes ++ note ∷ []) now
    pub note_is : note ≡ (if is_visit then visited path (t.worth node) (visited_worth notes) else cut path (t.bound node) (visited_worth notes))
    pub entered : (levels : ℕ) → entered_notes t levels path node (visited_worth notes) ≡ (if is_visit then frontier_notes t levels path node (visited_worth notes) else note ∷ [])

-- a child became a task: it is recorded, and it has the next number
pub record IsSpawned (path : List ℕ) (old_log : LogView) (old_next : ℕ) (old_tasks : List Numbered) (new_log : LogView) (new_next : ℕ) (new_tasks : List Numbered) : Type 0 where
  pub few : old_next < 2 ^ 20
  pub next_is : new_next ≡ suc old_next
  pub log_is : new_log ≡ log_after old_log (spawned path ∷ [])
  pub tasks_are : new_tasks ≡ old_tasks ++ record { path = path; rank = old_next } ∷ []
